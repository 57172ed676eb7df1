-- What `mctpctl run` writes of an input: a device description, the line that divides, and a schedule.
use Rattle.std.specs.Prelude.{ℕ, nat_lt, Bool, if◌then◌else◌, List, length, take, Option, None, Some, Result, Ok, Err}
use Rattle.mctp_schedule.specs.Entries.{entries, requests_after}
use Rattle.mctp_schedule.specs.FirstArrivals.{order}
use Rattle.mctp_schedule.specs.RunFaults.{refusal}
use Rattle.mctp_schedule.specs.Runs.{final_state, final_world, newest_first, setting_of_run}
use Rattle.schedule_text.specs.Schedules.{Spelled, none_spelled, spelled_from}
use Rattle.mctp_schedule.specs.Worlds.{BothEnds, is_timely}
use Rattle.schedule_text.specs.declared.line_fault.LineFault.{LineFault}
use Rattle.schedule_text.specs.declared.line_fault.LineFaultKind.{LineFaultKind}
use Rattle.schedule_text.specs.declared.line_fault.LineFaultKind.TheVariants as refusals
use Rattle.mctp_schedule.specs.declared.run_fault.RunFault.{RunFault}
use Rattle.mctp_schedule.specs.declared.run_fault.RunFault.TheVariants as runs
use Rattle.mctpctl_engines.specs.AnswerText.{run_of, simulated}
use Rattle.mctpctl_engines.specs.LineRuns.{Written, stops_at}
use Rattle.mctpctl_input.specs.OutsideFaults.{no_memory}
use Rattle.mctpctl_texts.specs.ReportTexts.{device_text, report_text}
use Rattle.mctpctl_input.specs.declared.faults.EngineFault.{EngineFault}
use Rattle.mctpctl_input.specs.declared.faults.EngineFault.TheVariants as faults
use Rattle.mctpctl_input.specs.declared.faults.LineKind.TheVariants as kinds
use Rattle.mctpctl_input.specs.declared.limits.TheConstants.{MAX_INPUT}
use Rattle.simulated_device.specs.Devices.{Device}
use Rattle.pldm_device.specs.declared.description.Description.{Description}

-- a refused line of the schedule, reported with its number and kind
abbrev pub stop_of_kind : ℕ → LineFaultKind → EngineFault
stop_of_kind line refusals.Words = faults.Line line kinds.Words
stop_of_kind line refusals.Number = faults.Line line kinds.Number
stop_of_kind line refusals.BackInTime = faults.Line line kinds.BackInTime
stop_of_kind line refusals.NoSuchRequester = faults.Line line kinds.NoSuchRequester
stop_of_kind line refusals.SameRequester = faults.Line line kinds.SameRequester
stop_of_kind line (refusals.Memory refused) = no_memory

abbrev pub stop_of_line : LineFault → EngineFault
stop_of_line fault = stop_of_kind fault.line fault.kind

-- a requester whose timing is refused
abbrev pub stop_of_run : RunFault → EngineFault
stop_of_run (runs.Timing requester fault) = faults.Timing requester fault
stop_of_run (runs.Memory refused) = no_memory

-- what the schedule is about: the described device, in the state that is described
abbrev pub setting_of : Description → Spelled → BothEnds Device
setting_of description schedule =
    setting_of_run simulated description.device description.eid description.keep description.window schedule

-- the text of a run: what came of each step, and how the requests and the device stand at the end
abbrev pub text_of : Description → Spelled → List ℕ
text_of description schedule =
    let setting = setting_of description schedule in
    report_text schedule.steps (entries setting (newest_first schedule))
    (requests_after setting (final_world setting schedule))
    (order Device description.window description.keep (final_world setting schedule).log)
    (device_text (final_state setting schedule)) (is_timely setting (newest_first schedule))

-- a run is not begun where a requester is refused
abbrev pub unless_refused : Option RunFault → List ℕ → Written
unless_refused None text = record { text = text; fault = None }
unless_refused (Some fault) text = stops_at (stop_of_run fault)

-- the run over a schedule, or why it is refused
abbrev pub schedule_written : Description → Result Spelled LineFault → Written
schedule_written description (Err fault) = stops_at (stop_of_line fault)
schedule_written description (Ok schedule) =
    unless_refused (refusal description.eid description.keep schedule.requesters) (text_of description schedule)

-- what these lines spell; they are counted from 1
abbrev pub spelled_by : List (List ℕ) → Result Spelled LineFault
spelled_by lines = spelled_from 1 none_spelled lines

-- the run over the lines after the divider; no line is looked at where the input is cut off
abbrev pub scheduled_run : Description → Bool → List (List ℕ) → Written
scheduled_run description is_cut lines =
    if is_cut then stops_at faults.TooLarge else schedule_written description (spelled_by lines)

-- the run over all that a reader gives: the bytes past the limit are not looked at
abbrev pub run_text : List ℕ → Written
run_text all = run_of scheduled_run (nat_lt MAX_INPUT (length all)) (take MAX_INPUT all)
