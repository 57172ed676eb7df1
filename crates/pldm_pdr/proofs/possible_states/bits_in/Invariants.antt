-- The bytes so far have the bits of their states.
use Rattle.std.proofs.Common.{◌≡◌}
use Rattle.arrayvec.specs.ArrayVec.{array_vec_len}
use Rattle.pldm_pdr.specs.StateSets.{bits_in}
use Rattle.pldm_pdr.proofs.possible_states.bits_in.Given as goal

abbrev pub invariant-loop-place : goal.invariant-loop-place
invariant-loop-place l = record {
  bits : l.bits.items ≡ bits_in l.states l.place;
  count : array_vec_len l.bits ≡ l.place;
}
