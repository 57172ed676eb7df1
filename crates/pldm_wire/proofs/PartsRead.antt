-- A part of a record is read by place: first what stands before it, then its bytes, then what follows them.
use Rattle.std.proofs.Common.{◌≡◌, ℕ, ◌+◌, ◌≤◌, ◌==◌, nat_lt, true, false, List, length, slice_index, take, drop, Some, None, Ok, refl, ap, ◌∙◌, arith, get_or-drop}
use Rattle.std.proofs.lemmas.Bool.{le-ltb, le-leb, eq-eqb}
use Rattle.pldm_wire.specs.AnswerReading.{answer_in}
use Rattle.pldm_wire.specs.CommandTable.{get_pdr, fits_part}
use Rattle.pldm_wire.specs.Places.{u16_at, u32_at}
use Rattle.pldm_wire.specs.RecordParts.{part}
use Rattle.pldm_wire.specs.TransferFlags.{flag_of, is_end}
use Rattle.pldm_wire.specs.declared.limits.TheConstants.{MAX_PART_BYTES}
use Rattle.pldm_wire.specs.declared.answer.Answer.TheVariants.{GetPdr}
use Rattle.pldm_wire.specs.declared.transfer_flag.TransferFlag.{TransferFlag}

module _ (bytes : List ℕ) (flag : TransferFlag) (is_flag : flag_of (slice_index bytes 8) ≡ Some flag) (few : u16_at 9 bytes ≤ MAX_PART_BYTES) where
  fits : fits_part (u16_at 9 bytes) ≡ true
  fits = le-leb (u16_at 9 bytes) MAX_PART_BYTES few

  -- enough bytes up to a place
  up_to : (place : ℕ) → place ≤ length bytes → nat_lt (length bytes) place ≡ false
  up_to place enough = le-ltb (length bytes) place enough

  module _ (long : 11 + u16_at 9 bytes ≤ length bytes) where
    -- none follows, where it is not the last of several
    pub read_alone : is_end flag ≡ false → length bytes ≡ 11 + u16_at 9 bytes
        → answer_in get_pdr bytes ≡ Ok (GetPdr (u32_at 0 bytes) (u32_at 4 bytes) (part flag (take (u16_at 9 bytes) (drop 11 bytes)) None))
    read_alone last whole =
        let end : (length bytes == 11 + u16_at 9 bytes + 0) ≡ true = eq-eqb (length bytes) (11 + u16_at 9 bytes + 0) (omega (arith, whole)) in
        let same : nat_lt (length bytes) (11 + u16_at 9 bytes + 0) ≡ false = up_to (11 + u16_at 9 bytes + 0) (omega arith) in
        rw (up_to 4 (omega arith), up_to 8 (omega arith), up_to 9 (omega arith), up_to 11 (omega arith), is_flag, fits, up_to (11 + u16_at 9 bytes) long, last, same, end) refl

    -- after the last of several the checksum
    pub read_last : is_end flag ≡ true → length bytes ≡ 11 + u16_at 9 bytes + 1
        → answer_in get_pdr bytes ≡ Ok (GetPdr (u32_at 0 bytes) (u32_at 4 bytes) (part flag (take (u16_at 9 bytes) (drop 11 bytes)) (Some (slice_index (drop (u16_at 9 bytes) (drop 11 bytes)) 0))))
    read_last last whole =
        let end : (length bytes == 11 + u16_at 9 bytes + 1) ≡ true = eq-eqb (length bytes) (11 + u16_at 9 bytes + 1) whole in
        let same : nat_lt (length bytes) (11 + u16_at 9 bytes + 1) ≡ false = up_to (11 + u16_at 9 bytes + 1) (omega (arith, whole)) in
        let byte : slice_index (drop (u16_at 9 bytes) (drop 11 bytes)) 0 ≡ slice_index bytes (11 + u16_at 9 bytes) =
        get_or-drop (u16_at 9 bytes) (drop 11 bytes) 0 0 ∙ get_or-drop 11 bytes (u16_at 9 bytes + 0) 0 ∙ ap (λ (n : ℕ). slice_index bytes (11 + n)) (omega arith) in
        rw (up_to 4 (omega arith), up_to 8 (omega arith), up_to 9 (omega arith), up_to 11 (omega arith), is_flag, fits, up_to (11 + u16_at 9 bytes) long, last, same, end, byte) refl
