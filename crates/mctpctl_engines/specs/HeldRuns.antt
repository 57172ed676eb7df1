-- What a responder of the simulated device makes of the lines of a capture, over what it holds.
use Rattle.std.specs.Prelude.{List, ℕ, Bool, Result}
use Rattle.mctpctl_engines.specs.AnswerText.{step, simulated}
use Rattle.mctpctl_engines.specs.LineRuns.{Written, lines_written}
use Rattle.mctpctl_input.specs.declared.faults.LineKind.{LineKind}
use Rattle.simulated_device.specs.Devices.{Device}
use Rattle.pldm_device.specs.declared.description.Description.{Description}
use Rattle.pldm_responder.specs.ResponderStates.{ResponderState, held_at_first}
use Rattle.pldm_responder.specs.Steps.{received_outcome, received_held}

-- what one line gives
abbrev pub held_step : ResponderState Device → List ℕ → Result (List ℕ × ResponderState Device) LineKind
held_step = step (λ held. held.last) (received_outcome simulated) (received_held simulated)

-- what the lines give: before the first, the responder is new
abbrev pub held_run : Description → Bool → List (List ℕ) → Written
held_run description is_cut lines =
    lines_written held_step is_cut 1 (held_at_first description.eid description.busy description.window description.keep description.device)
    lines
