-- As many zeros were added as were counted.
use Rattle.std.proofs.Common.{◌≡◌, ◌+◌, ◌++◌, replicate}
use Rattle.arrayvec.specs.ArrayVec.{array_vec_len}
use Rattle.pldm_device.proofs.record_names.push_zeros.Given as goal

abbrev pub invariant-loop : goal.invariant-loop
invariant-loop l = record {
  all : l.out.items ≡ l.initial.out.items ++ replicate l.counter 0;
  len : array_vec_len l.out ≡ array_vec_len l.initial.out + l.counter;
}
