-- The handle is that among the records that are left.
use Rattle.std.proofs.Common.{◌≡◌, drop}
use Rattle.pldm_discovery.specs.Termini.{asked_handle}
use Rattle.pldm_discovery.proofs.terminus.asked_handle.Given as goal

abbrev pub invariant-loop-pdr : goal.invariant-loop-pdr
invariant-loop-pdr l = asked_handle l.own (drop l.pdr-index l.records) ≡ asked_handle l.own l.records
