-- The characters so far and those of the rest are the text of all.
use Rattle.std.proofs.Common.{◌≡◌, ◌+◌, ◌*◌, ◌++◌, drop}
use Rattle.arrayvec.specs.ArrayVec.{array_vec_len}
use Rattle.pldm_pdr.specs.Names.{text_bytes}
use Rattle.pldm_device.proofs.record_names.push_name.Given as goal

abbrev pub invariant-loop-character : goal.invariant-loop-character
invariant-loop-character l = record {
  all : l.out.items ++ text_bytes (drop l.character-index l.name) ≡ l.initial.out.items ++ text_bytes l.name;
  len : array_vec_len l.out ≡ array_vec_len l.initial.out + 2 * l.character-index;
}
