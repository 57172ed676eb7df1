-- What a run holds.
use Rattle.std.specs.Prelude.{ℕ, List, Option}
use Rattle.pldm_responder.specs.ResponderViews.{ResponderView}
use Rattle.mctp_schedule.specs.Askers.{Side}
use Rattle.mctp_schedule.specs.declared.arrivals.Arrivals.{Arrivals}
use Rattle.mctp_schedule.specs.declared.both_ends.Ends.{Ends}
use Rattle.mctp_schedule.specs.declared.journal.Journal.{Journal}

-- the keeping time and the window, the responder, the requesters in the places of their endpoint IDs, what is written
-- down of both ends, and of each source the instance IDs that arrived; a device's value is a P, its state an S
pub record HeldRun (P S : Type 0) : Type 0 where
  pub keep : ℕ
  pub window : ℕ
  pub responder : ResponderView P S
  pub places : List (Option Side)
  pub journal : Journal
  pub arrivals : Arrivals

-- what both ends of a run hold
abbrev pub held_by : {P S : Type 0} → Ends P S → HeldRun P S
held_by ends = record {
  keep = ends.keep;
  window = ends.window;
  responder = ends.responder;
  places = ends.places.items;
  journal = ends.journal;
  arrivals = ends.arrivals;
}
