-- The digits of the bytes so far stand in front, and the rest is as it was.
use Rattle.std.proofs.Common.{◌≡◌, ◌*◌, take, drop}
use Rattle.hex.specs.Hex.{encode_lower}
use Rattle.mctpctl_texts.proofs.hex_digits.put_hex.Given as goal

abbrev pub invariant-loop-place : goal.invariant-loop-place
invariant-loop-place l = record {
  digits : take (2 * l.place) l.room ≡ encode_lower (take l.place l.bytes);
  rest : drop (2 * l.place) l.room ≡ drop (2 * l.place) l.initial.room;
}
