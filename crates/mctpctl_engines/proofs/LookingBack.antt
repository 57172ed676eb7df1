-- The run over what the responder holds writes the same as the run that looks back over all packets.
use Rattle.std.proofs.Common.{◌≡◌, ℕ, Bool, if◌then◌else◌, List, [], length, nat_lt, Option, None, Some, Result, Ok, Err, refl, ap}
use Rattle.line_words.specs.TextLines.{lines_of}
use Rattle.mctpctl_engines.specs.AnswerText.{described_run, divided_run, run_of, simulated, with_packet, called_step, called_run}
use Rattle.mctpctl_engines.specs.HeldRuns.{held_step, held_run}
use Rattle.mctpctl_engines.specs.LineRuns.{stops_at}
use Rattle.mctpctl_texts.specs.OutcomeTexts.{outcome_text}
use Rattle.mctpctl_input.specs.TextLines.{capture_lines, description_of}
use Rattle.mctpctl_input.specs.declared.faults.EngineFault.TheVariants.{TooLarge}
use Rattle.mctpctl_input.specs.declared.limits.TheConstants.{MAX_DESCRIPTION}
use Rattle.mctpctl_engines.proofs.RunsOverLines.{SameStep, same_run}
use Rattle.mctpctl_engines.proofs.SameCaptures.{same_capture_step}
use Rattle.pldm_device.specs.Descriptions.{stated}
use Rattle.simulated_device.specs.Devices.{Device}
use Rattle.pldm_device.specs.declared.description.Description.{Description}
use Rattle.pldm_device.specs.declared.description_fault.FileFault.{FileFault}
use Rattle.pldm_responder.specs.Calls.{Call, last_moment, outcome}
use Rattle.pldm_responder.specs.Laws.{IsLeftBy, NewLooksBack, ReceivedLooksBack}
use Rattle.pldm_responder.specs.ResponderStates.{ResponderState, held_at_first}
use Rattle.pldm_responder.specs.Steps.{received_outcome, received_held}

-- what is held is what the calls of the described device's responder leave
abbrev IsLeft : Description → ResponderState Device → List (Call Device) → Type 0
IsLeft d held calls = IsLeftBy simulated d.eid d.busy d.window d.keep d.device held calls

module _ (received : ReceivedLooksBack simulated) where
  same_step : (d : Description) (held : ResponderState Device) (calls : List (Call Device)) (line : List ℕ) → IsLeft d held calls → SameStep (IsLeft d) (held_step held line) (called_step d calls line)
  same_step d =
      same_capture_step (λ held. held.last) (λ held moment bytes. outcome_text (received_outcome simulated held moment bytes)) (received_held simulated)
      last_moment (λ calls moment bytes. outcome_text (outcome simulated d.eid d.busy d.window d.keep d.device calls moment bytes)) with_packet (IsLeft d) (record {
        last = λ held calls left. left.last;
        gives = λ held calls moment bytes left. ap outcome_text (received d.eid d.busy d.window d.keep d.device held calls moment bytes left).0;
        with = λ held calls moment bytes left. (received d.eid d.busy d.window d.keep d.device held calls moment bytes left).1;
      })

  module _ (new : NewLooksBack simulated) where
    same_lines : (d : Description) (is_cut : Bool) (lines : List (List ℕ)) → held_run d is_cut lines ≡ called_run d is_cut lines
    same_lines d is_cut lines =
        same_run held_step (called_step d) (IsLeft d) (same_step d) is_cut 1 (held_at_first d.eid d.busy d.window d.keep d.device) [] lines (new d.eid d.busy d.window d.keep d.device)

    same_described : (is_cut : Bool) (lines : List (List ℕ)) (said : Result Description FileFault) → described_run held_run is_cut lines said ≡ described_run called_run is_cut lines said
    same_described is_cut lines (Err fault) = refl
    same_described is_cut lines (Ok d) = same_lines d is_cut lines

    same_divided : (is_cut : Bool) (text : List ℕ) (lines : Option (List (List ℕ))) → divided_run held_run is_cut text lines ≡ divided_run called_run is_cut text lines
    same_divided is_cut text None = refl
    same_divided is_cut text (Some lines) =
        ap (λ run. if nat_lt MAX_DESCRIPTION (length (description_of (lines_of text))) then stops_at TooLarge else run) (same_described is_cut lines (stated (description_of (lines_of text))))

    -- the run over what is held is the run that looks back
    pub run_looks_back : (is_cut : Bool) (text : List ℕ) → run_of held_run is_cut text ≡ run_of called_run is_cut text
    run_looks_back is_cut text = same_divided is_cut text (capture_lines (lines_of text))
