-- The part, and what follows it, are those at their places.
use Rattle.std.proofs.Common.{◌≡◌, ◌+◌, ◌≤◌, length, sym, ap, ◌∙◌, arith, length-drop}
use Rattle.pldm_wire.specs.Places.{u16_at}
use Rattle.pldm_wire.specs.declared.limits.TheConstants.{MAX_PART_BYTES}
use Rattle.pldm_wire.proofs.PartsRead.{read_alone, read_last}
use Rattle.pldm_wire.proofs.repository.part_answer_in.Goals as goal
use Rattle.pldm_wire.proofs.repository.part_answer_in.Goals.{in-true-len1, in-false-empty}

count_is : (c : goal.After-of) → c.from-count.result ≡ u16_at 9 c.args.bytes.now
count_is c = c.from-count.ensures ∙ c.u16_in.ensures

left : (c : goal.After-of) → length c.split_at-2.result.1.now + u16_at 9 c.args.bytes.now + 11 ≡ length c.args.bytes.now
left c =
    omega (
      arith,
      count_is c,
      c.if-bytes-count.false,
      c.if-bytes-lt11.false,
      ap length c.split_at-2.ensures.back,
      ap length c.split_at.ensures.back,
      length-drop c.from-count.result c.split_at.result.1.now,
      length-drop 11 c.args.bytes.now,
    )

pub returns : goal.returns
returns c =
    let b = c.args.bytes.now in
    let flag = sym c.new.ensures ∙ c.in-Some.is in
    let few : u16_at 9 b ≤ MAX_PART_BYTES = omega (arith, count_is c, c.if-count-gt-MAX_PART_BYTES.false) in
    let long : 11 + u16_at 9 b ≤ length b = omega (arith, left c) in
    elim c.if-is_end.branch [
      | in-true-len1 w ↦
          rw (c.of.ensures, w.transfer_crc-is, c.u32_in.ensures, c.u32_in-2.ensures, c.split_at-2.ensures.front, c.split_at-2.ensures.back, c.split_at.ensures.back, count_is c)
          (sym (read_last b c.in-Some.flag flag few long (sym (w.in-true-len1.ensures)) (omega (arith, left c, w.in-true-len1.len_at_least, w.in-true-len1.len_below))))
      | in-false-empty w ↦
          rw (c.of.ensures, w.transfer_crc-is, c.u32_in.ensures, c.u32_in-2.ensures, c.split_at-2.ensures.front, c.split_at.ensures.back, count_is c)
          (sym (read_alone b c.in-Some.flag flag few long (sym (w.in-false-empty.ensures)) (omega (arith, left c, w.in-false-empty.len_below))))
    ]
