-- Where they end is found in the bytes that are left.
use Rattle.std.proofs.Common.{◌≡◌, ◌-◌}
use Rattle.pldm_pdr.specs.Names.{each_name_end}
use Rattle.pldm_pdr.proofs.name_text.each_name_end.Given as goal

abbrev pub invariant-loop : goal.invariant-loop
invariant-loop l = each_name_end (l.count - l.counter) l.rest ≡ each_name_end l.count l.bytes
