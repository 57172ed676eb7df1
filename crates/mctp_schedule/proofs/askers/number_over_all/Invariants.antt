-- Those so far are numbers over all requests, the others still own ones.
use Rattle.std.proofs.Common.{◌≡◌, ◌++◌, drop, take}
use Rattle.mctp_schedule.specs.Entries.{numbered}
use Rattle.mctp_schedule.proofs.askers.number_over_all.Given as goal

abbrev pub invariant-loop-own : goal.invariant-loop-own
invariant-loop-own l = l.owns ≡ numbered l.numbers (take l.own-index l.initial.owns) ++ drop l.own-index l.initial.owns
