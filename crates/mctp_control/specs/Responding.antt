-- What a control responder answers to a request at a moment, and what it holds afterwards: a copy of an assignment that
-- it keeps gets the same answer, and changes nothing.
use Rattle.std.specs.Prelude.{ℕ, List, find, Option, None, Some, option_map}
use Rattle.mctp_control.specs.Assignments.{assignment, is_copy_of, kept_with}
use Rattle.mctp_control.specs.CommandReading.{command_of}
use Rattle.mctp_control.specs.Messages.{Request}
use Rattle.mctp_control.specs.Settings.{accepted_of_read, answer_of_read}
use Rattle.mctp_control.specs.declared.answer.Answer.{Answer}
use Rattle.mctp_control.specs.declared.answer.Answer.TheVariants.{EndpointIdSet}
use Rattle.mctp_control.specs.declared.answer.Assignment.TheVariants.{Accepted}
use Rattle.mctp_control.specs.declared.control_responder.ControlResponder.{ControlResponder}
use Rattle.mctp_control.specs.declared.kept_assignments.KeptAssignment.{KeptAssignment}

-- the assignment that a message which comes now from this source repeats, if it repeats one: the newest such one
abbrev pub copied : ControlResponder → ℕ → ℕ → List ℕ → Option KeptAssignment
copied e now source message = find (is_copy_of e.keep now source message) e.kept

-- what it answers to a request that repeats this assignment, or none
abbrev pub answer_by : ControlResponder → Option KeptAssignment → Request → Answer
answer_by e (Some kept) r = EndpointIdSet Accepted kept.eid
answer_by e None r = answer_of_read e (command_of r.command r.rest)

-- the assignment that it accepts with a request: none where that is a copy
abbrev pub assignment_by : ControlResponder → ℕ → ℕ → List ℕ → Option KeptAssignment → Request → Option KeptAssignment
assignment_by e now source message (Some kept) r = None
assignment_by e now source message None r =
    option_map (assignment source message now) (accepted_of_read e (command_of r.command r.rest))

-- once it has accepted an assignment, it has that endpoint ID, and keeps the assignment
abbrev pub left_with : ControlResponder → Option KeptAssignment → ControlResponder
left_with e None = e
left_with e (Some new) = record e { eid = Some new.eid; kept = kept_with new e.kept }
