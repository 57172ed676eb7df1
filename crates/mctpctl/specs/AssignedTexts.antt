-- What `assign` asks and prints.
use Rattle.std.specs.Prelude.{◌≡◌, ℕ, ◌/◌, ◌%◌, ◌==◌, ◌&&◌, nat_le, List, length, slice_index, Option, None, Some}
use Rattle.std.specs.Prelude.{if◌then◌else◌}
use Rattle.mctp_control.specs.Messages.{Response, response_of}
use Rattle.mctp_control.specs.declared.any_query.AnyQuery.{AnyQuery}
use Rattle.mctp_control.specs.declared.any_query.AnyQuery.TheVariants.{ToLink}
use Rattle.mctp_control.specs.declared.assigned.TheConstants.{SUCCESS}
use Rattle.mctp_control.specs.declared.command.Command.TheVariants.{SetEndpointId}
use Rattle.mctp_control.specs.declared.command.EidOperation.TheVariants.{Set}
use Rattle.pldm_line.specs.Asked.{Shown}
use Rattle.mctpctl.specs.WalkedTexts.{AsksAndPrints}
use Rattle.mctpctl.specs.declared.settings.Settings.{Settings}
use Rattle.mctpctl.specs.declared.statuses.TheConstants.{DONE, FAILED, REFUSED}

-- the device at the other end of the line is to take this endpoint ID, on tag 0, which no request has yet
abbrev pub assignment_of : Settings → ℕ → AnyQuery
assignment_of settings id =
    ToLink (record { own = settings.own; tag = 0; id = id; command = SetEndpointId Set settings.device })

-- the data: bits 5:4 of the first byte are 0, so the endpoint ID was accepted; the second byte is the one that it has
-- (DSP0236, "Set Endpoint ID")
abbrev pub status_by_response : ℕ → Option Response → ℕ
status_by_response eid None = REFUSED
status_by_response eid (Some r) =
    if (r.code == SUCCESS) && nat_le 2 (length r.rest) && (slice_index r.rest 0 / 16 % 4 == 0)
    && (slice_index r.rest 1 == eid) then DONE else REFUSED

-- the exit status of an answer, where one came
abbrev pub status_of_assignment : ℕ → Option (List ℕ) → ℕ
status_of_assignment eid (Some message) = status_by_response eid (response_of message)
status_of_assignment eid None = FAILED

-- it went out until it was answered or had its tries, and its own answer was printed
pub record Assigns (settings : Settings) (id status : ℕ) (s s1 : Shown) (out out1 : Option (List ℕ)) : Type 0 where
  pub answer : Option (List ℕ)
  pub asks : AsksAndPrints settings.timing (assignment_of settings id) answer s s1 out out1
  pub status_is : status ≡ status_of_assignment settings.device answer
