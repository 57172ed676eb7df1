-- The sets so far and those that are still read are all.
use Rattle.std.proofs.Common.{◌≡◌, ◌-◌}
use Rattle.arrayvec.specs.ArrayVec.{array_vec_len}
use Rattle.pldm_pdr.specs.StateSets.{sets_at}
use Rattle.pldm_pdr.proofs.SetsRead.{with_front}
use Rattle.pldm_pdr.proofs.state_sets.sets_in.Given as goal

abbrev pub invariant-loop : goal.invariant-loop
invariant-loop l = record {
  read : with_front l.sets.items (sets_at (l.count - l.counter) l.rest) ≡ sets_at l.count l.bytes;
  kept : array_vec_len l.sets ≡ l.counter;
}
