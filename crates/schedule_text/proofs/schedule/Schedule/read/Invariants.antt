-- The lines so far are added, and the rest is to be read.
use Rattle.std.proofs.Common.{◌≡◌, ℕ, ◌≤◌, ◌+◌, List, ◌++◌, Ok, length}
use Rattle.line_words.specs.TextLines.{lines_of}
use Rattle.schedule_text.specs.Schedules.{none_spelled, schedule_of, spelled_from}
use Rattle.schedule_text.proofs.schedule.Schedule.read.Given as goal

abbrev pub invariant-loop-line : goal.invariant-loop-line
invariant-loop-line l = record {
  read : schedule_of l.text ≡ spelled_from l.number l.schedule (lines_of l.rest);
  size : l.number + length l.rest ≤ length l.text + 1;
  done : List (List ℕ);
  lines : lines_of l.text ≡ done ++ lines_of l.rest;
  good : spelled_from 1 none_spelled done ≡ Ok l.schedule;
  number : l.number ≡ length done + 1;
}

abbrev pub decreases-loop-line : goal.decreases-loop-line
decreases-loop-line l = length l.rest
