-- What `mctpctl answer` writes of an input: a device description, the line that divides, and a capture.
use Rattle.std.specs.Prelude.{ℕ, nat_lt, Bool, if◌then◌else◌, List, [], ◌∷◌, length, take}
use Rattle.std.specs.Prelude.{Option, None, Some, Result, Ok, Err}
use Rattle.line_words.specs.TextLines.{lines_of}
use Rattle.mctpctl_engines.specs.CaptureRuns.{capture_step}
use Rattle.mctpctl_engines.specs.LineRuns.{Written, stops_at, lines_written}
use Rattle.mctpctl_texts.specs.OutcomeTexts.{outcome_text}
use Rattle.mctpctl_input.specs.TextLines.{capture_lines, description_of}
use Rattle.mctpctl_input.specs.declared.faults.EngineFault.TheVariants as faults
use Rattle.mctpctl_input.specs.declared.faults.LineKind.{LineKind}
use Rattle.mctpctl_input.specs.declared.limits.TheConstants.{MAX_INPUT, MAX_DESCRIPTION}
use Rattle.pldm_device.specs.Descriptions.{stated}
use Rattle.simulated_device.specs.DeviceAnswers.{answer, after}
use Rattle.simulated_device.specs.Devices.{Device}
use Rattle.simulated_device.specs.SensorAnswers.{sensed}
use Rattle.pldm_device.specs.declared.description.Description.{Description}
use Rattle.pldm_device.specs.declared.description_fault.FileFault.{FileFault}
use Rattle.pldm_responder.specs.Calls.{Call, Received, last_moment, outcome}
use Rattle.pldm_responder.specs.Performing.{Rules, rules_of}
use Rattle.pldm_responder.specs.declared.outcome.Outcome.{Outcome}

-- what one line gives: a packet gives the text of its outcome
abbrev pub step
    : {M : Type 0} → (M → ℕ) → (M → ℕ → List ℕ → Outcome) → (M → ℕ → List ℕ → M) → M → List ℕ
    → Result (List ℕ × M) LineKind
step last gives with = capture_step last (λ before moment bytes. outcome_text (gives before moment bytes)) with

-- `run` says what the lines of a capture give, where the described device answers them
module _ (run : Description → Bool → List (List ℕ) → Written) where
  abbrev pub described_run : Bool → List (List ℕ) → Result Description FileFault → Written
  described_run is_cut lines (Err fault) = stops_at (faults.Device fault)
  described_run is_cut lines (Ok description) = run description is_cut lines

  -- the run over the lines after the divider, if a line divides
  abbrev pub divided_run : Bool → List ℕ → Option (List (List ℕ)) → Written
  divided_run is_cut text None =
      stops_at (if nat_lt MAX_DESCRIPTION (length text) then faults.TooLarge else faults.NoDivider)
  divided_run is_cut text (Some lines) =
      if nat_lt MAX_DESCRIPTION (length (description_of (lines_of text)))
      then stops_at faults.TooLarge
      else described_run is_cut lines (stated (description_of (lines_of text)))

  -- the run over an input's bytes, of which there are more where it is cut
  abbrev pub run_of : Bool → List ℕ → Written
  run_of is_cut text = divided_run is_cut text (capture_lines (lines_of text))

-- the simulated device, as a responder's platform
abbrev pub simulated : Rules Device
simulated = rules_of answer after sensed

abbrev pub with_packet : {S : Type 0} → List (Call S) → ℕ → List ℕ → List (Call S)
with_packet calls moment bytes = Received moment bytes ∷ calls

-- what one line gives, by looking back over all packets that came
abbrev pub called_step : Description → List (Call Device) → List ℕ → Result (List ℕ × List (Call Device)) LineKind
called_step description =
    step last_moment
    (outcome simulated description.eid description.busy description.window description.keep description.device)
    with_packet

-- what the lines of a capture give: before the first, no packet has come
abbrev pub called_run : Description → Bool → List (List ℕ) → Written
called_run description is_cut lines = lines_written (called_step description) is_cut 1 [] lines

-- the run over all that a reader gives: the bytes past the limit are not looked at
abbrev pub answer_text : List ℕ → Written
answer_text all = run_of called_run (nat_lt MAX_INPUT (length all)) (take MAX_INPUT all)
