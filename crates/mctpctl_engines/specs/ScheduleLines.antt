-- The lines of a schedule: they are read as they come, and nothing is written before the input has ended.
use Rattle.std.specs.Prelude.{◌≡◌, ◌≢◌, ◌⊎◌, ℕ, ◌+◌, nat_lt, Bool, true, false, if◌then◌else◌}
use Rattle.std.specs.Prelude.{List, [], ◌∷◌, length, ⊤, Option, None, Some, Result, Ok, Err, refl}
use Rattle.line_words.specs.TextLines.{lines_of}
use Rattle.mctpctl_engines.specs.AnswerText.{described_run, divided_run, run_of}
use Rattle.mctpctl_engines.specs.LinePieces.{LinesGive}
use Rattle.mctpctl_engines.specs.RunText.{schedule_written, scheduled_run, stop_of_line}
use Rattle.mctpctl_engines.specs.declared.finished_run.FinishedRun.{FinishedRun}
use Rattle.mctpctl_engines.specs.declared.schedule_lines.GoodLines.{GoodLines}
use Rattle.mctpctl_engines.specs.declared.schedule_lines.ScheduleLines.{ScheduleLines}
use Rattle.mctpctl_engines.specs.declared.schedule_lines.ScheduleLines.TheVariants.{Good, Refused, Ended}
use Rattle.mctpctl_engines.specs.LineRuns.{Written, ends, stops_at}
use Rattle.mctpctl_input.specs.OutsideFaults.{no_memory}
use Rattle.mctpctl_input.specs.TextLines.{capture_lines, description_of}
use Rattle.mctpctl_input.specs.declared.faults.EngineFault.{EngineFault}
use Rattle.mctpctl_input.specs.declared.faults.EngineFault.TheVariants as faults
use Rattle.mctpctl_input.specs.declared.limits.TheConstants.{MAX_DESCRIPTION}
use Rattle.mctpctl_texts.specs.ReportTexts.{device_text, report_text}
use Rattle.pldm_device.specs.Descriptions.{stated}
use Rattle.pldm_device.specs.declared.description.Description.{Description}
use Rattle.pldm_device.specs.declared.description_fault.FileFault.{FileFault}
use Rattle.schedule_text.specs.Schedules.{Spelled, spelled_from}
use Rattle.schedule_text.specs.declared.line_fault.LineFault.{LineFault}

-- the run over a schedule, unless the input is cut off
abbrev pub unless_cut : Bool → Written → Written
unless_cut is_cut written = if is_cut then stops_at faults.TooLarge else written

-- what is written of the lines to come, the first of them line n, after lines that spell this
abbrev pub spelled_write : Description → ℕ → Spelled → LinesGive
spelled_write description n spelled = λ is_cut lines.
    unless_cut is_cut (schedule_written description (spelled_from n spelled lines))

-- the same after these lines
abbrev pub good_lines_write : GoodLines → LinesGive
good_lines_write lines = spelled_write lines.description (lines.ended + 1) lines.schedule

-- where a line was refused
abbrev pub refused_line_writes : LineFault → LinesGive
refused_line_writes fault = λ is_cut lines. unless_cut is_cut (stops_at (stop_of_line fault))

abbrev pub schedule_writes : ScheduleLines → LinesGive
schedule_writes (Good lines) = good_lines_write lines
schedule_writes (Refused fault) = refused_line_writes fault
schedule_writes Ended = λ is_cut lines. unless_cut is_cut ends

-- how many lines have ended, of those that are read
abbrev pub lines_ended : ScheduleLines → ℕ
lines_ended (Good lines) = lines.ended
lines_ended (Refused fault) = 0
lines_ended Ended = 0

-- a line of a schedule may have any length
abbrev pub may_keep_any : ScheduleLines → ℕ → Type 0
may_keep_any lines size = ⊤

-- the text of a run that has no fault, or its fault, before which there is no text
abbrev pub ReportsText : {T : Type 0} → (T → List ℕ) → Written → Result T EngineFault → Type 0
ReportsText bytes written (Ok text) = (written.fault ≡ None) × (written.text ≡ bytes text)
ReportsText bytes written (Err fault) = (fault ≡ no_memory) ⊎ ((fault ≢ no_memory) × (written ≡ stops_at fault))

-- the text of a schedule and what came of it
abbrev pub text_of_finished : FinishedRun → List ℕ
text_of_finished finished =
    report_text finished.schedule.steps finished.report.entries finished.report.requests.items finished.report.order.items
    (device_text finished.report.device) finished.report.timely

-- a line with no bytes adds nothing to a schedule
pub blank_schedule : (description : Description) (is_cut : Bool)
    → scheduled_run description is_cut [] ≡ scheduled_run description is_cut ([] ∷ [])
blank_schedule description true = refl
blank_schedule description false = refl

-- a run whose input is cut off writes nothing

pub cut_schedule : (taken : ScheduleLines) (line : List ℕ) → (schedule_writes taken true (line ∷ [])).text ≡ []
cut_schedule (Good lines) line = refl
cut_schedule (Refused fault) line = refl
cut_schedule Ended line = refl

device_writes_nothing : (lines : List (List ℕ)) (said : Result Description FileFault) (long : Bool)
    → (if long then stops_at faults.TooLarge else described_run scheduled_run true lines said).text ≡ []
device_writes_nothing lines said true = refl
device_writes_nothing lines (Ok description) false = refl
device_writes_nothing lines (Err fault) false = refl

pub cut_writes_nothing : (text : List ℕ) → (run_of scheduled_run true text).text ≡ []
cut_writes_nothing text = by_lines (capture_lines (lines_of text)) where
  by_lines : (found : Option (List (List ℕ))) → (divided_run scheduled_run true text found).text ≡ []
  by_lines None = refl
  by_lines (Some lines) =
      device_writes_nothing lines (stated (description_of (lines_of text)))
      (nat_lt MAX_DESCRIPTION (length (description_of (lines_of text))))
