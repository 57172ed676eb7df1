-- The bytes that are written are the record's, and have room.
use Rattle.std.proofs.Common.{◌≡◌, ◌≤◌, List, length, leb, Option, Some, None, ap, sym, subst, ◌∙◌, refl, ℕ, arith}
use Rattle.std.proofs.lemmas.Bool.{cond-true, le-leb}
use Rattle.pldm_pdr.specs.Records.{PlatformRecord, bytes_of}
use Rattle.needleoat_forms.specs.Written.{HasFront, IsWritten}
use Rattle.needleoat_wire_c.specs.RecordForms.{bytes_in_room}
use Rattle.needleoat_wire_c.proofs.record_writing.put_record.Goals as goal

spelled : (room : ℕ) (pdr : PlatformRecord) (bytes : List ℕ) → bytes ≡ bytes_of pdr → length bytes ≤ room → bytes_in_room room (Some pdr) ≡ Some bytes
spelled room pdr bytes is short =
    let short : length (bytes_of pdr) ≤ room = subst (λ (xs : List ℕ). length xs ≤ room) is short in
    cond-true (leb (length (bytes_of pdr)) room) (Some (bytes_of pdr)) None (le-leb _ _ short) ∙ ap Some (sym is)

written : (pdr : Option (List ℕ)) (bytes : List ℕ) (count : ℕ) (old new : List ℕ) → pdr ≡ Some bytes → HasFront bytes count old new → IsWritten pdr count old new
written pdr bytes count old new is front =
    subst (λ (o : Option (List ℕ)). IsWritten o count old new) (sym is) front

pub returns : goal.returns
returns c =
    written _ c.write-bytes.result.items _ _ _
    (ap (bytes_in_room (length c.args.out.now)) c.in-Some.is ∙ spelled (length c.args.out.now) c.in-Some.pdr c.write-bytes.result.items c.write-bytes.ensures.spelled (omega (arith, c.len.ensures.value)))
    (c.len-3.ensures.value, rw (c.copy_from_slice.ensures.after ∙ c.deref.ensures.0, c.len-2.ensures.value) refl)
