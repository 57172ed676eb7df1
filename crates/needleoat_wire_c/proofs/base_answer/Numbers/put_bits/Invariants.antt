-- The bytes so far.
use Rattle.std.proofs.Common.{◌≡◌, take}
use Rattle.needleoat_wire_c.specs.BaseAnswers.{first_bytes, has_number}
use Rattle.needleoat_wire_c.proofs.base_answer.Numbers.put_bits.Given as goal

abbrev pub invariant-loop-place : goal.invariant-loop-place
invariant-loop-place l = take l.place l.bits ≡ first_bytes (has_number l.self) l.place
