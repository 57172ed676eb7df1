-- Where names end is where their spelling does.
use Rattle.pldm_pdr.specs.Names.{names_end, all_names_end}
use Rattle.pldm_pdr.proofs.NamesTaken.{names_ends, all_names_ends, spelled_so, taken_so}
use Rattle.pldm_pdr.proofs.laws.text_is_names.Goals as goal

pub returns : goal.returns
returns c = record {
  spelled = spelled_so names_end names_ends;
  taken = taken_so names_end names_ends;
  all_spelled = spelled_so all_names_end all_names_ends;
  all_taken = taken_so all_names_end all_names_ends;
}
