-- The lines of a schedule as they come, and the run over it once the input has ended.
use Rattle.std.proofs.Common.{◌≡◌, ◌≢◌, ◌⊎◌, inl, inr, ℕ, ◌+◌, ◌++◌, true, List, [], ◌∷◌, Option, Some, None, Result, Ok, Err, OnOk, IfErr, sym, ap, subst, ◌∙◌, append-nil}
use Rattle.std.specs.Io.KnownBytes.{Appends, Keeps}
use Rattle.mctp_packet.specs.Memories.{out_of_memory}
use Rattle.mctpctl_engines.specs.AnswerText.{run_of}
use Rattle.mctpctl_engines.specs.LinePieces.{LineGoesOn, LinesGive, TakesLine}
use Rattle.mctpctl_engines.specs.RunText.{scheduled_run, schedule_written, stop_of_line}
use Rattle.mctpctl_engines.specs.ScheduleLines.{cut_writes_nothing, refused_line_writes, spelled_write, unless_cut}
use Rattle.mctpctl_engines.specs.LineRuns.{stops_at}
use Rattle.mctpctl_engines.specs.Pieces.{WroteOfFront, WroteOfRead}
use Rattle.pldm_device.specs.declared.description.Description.{Description}
use Rattle.schedule_text.specs.Schedules.{ReportsKind, Spelled, after_line, spelled_from, spelled_then}
use Rattle.schedule_text.specs.declared.line_fault.LineFault.{LineFault}
use Rattle.schedule_text.specs.declared.line_fault.LineFaultKind.TheVariants.{Memory}

pub line_is_good : (device : Description) (n : ℕ) (spelled new : Spelled) (line : List ℕ) → after_line spelled line ≡ Ok new
    → LineGoesOn (spelled_write device n spelled) line [] (spelled_write device (n + 1) new)
line_is_good device n spelled new line good =
    λ is_cut next more. ap (λ r. unless_cut is_cut (schedule_written device (spelled_then n r (λ s. spelled_from (n + 1) s (next ∷ more))))) good

pub line_is_refused : (device : Description) (n : ℕ) (spelled : Spelled) (line : List ℕ) (fault : LineFault) → fault.line ≡ n → ReportsKind (after_line spelled line) fault.kind
    → (fault.kind ≡ Memory out_of_memory) ⊎ LineGoesOn (spelled_write device n spelled) line [] (refused_line_writes fault)
line_is_refused device n spelled line fault number (inl memory) = inl memory
line_is_refused device n spelled line fault number (inr refused) =
    inr (
    λ is_cut next more. ap (λ r. unless_cut is_cut (schedule_written device (spelled_then n r (λ s. spelled_from (n + 1) s (next ∷ more))))) refused
    ∙ ap (λ (l : ℕ). unless_cut is_cut (stops_at (stop_of_line (record { line = l; kind = fault.kind })))) (sym number)
    )

-- a line that is added, or refused
pub line_added : (device : Description) (n : ℕ) (spelled new : Spelled) (line : List ℕ) (result : Result Unit LineFault) → OnOk result (after_line spelled line ≡ Ok new)
    → OnOk result (LineGoesOn (spelled_write device n spelled) line [] (spelled_write device (n + 1) new))
line_added device n spelled new line (Ok unit) good = line_is_good device n spelled new line good
line_added device n spelled new line (Err fault) good = tt

pub line_not_added : (device : Description) (n : ℕ) (spelled : Spelled) (line : List ℕ) (result : Result Unit LineFault)
    → IfErr result (λ fault. (fault.line ≡ n) × ReportsKind (after_line spelled line) fault.kind)
    → IfErr result (λ fault. (fault.kind ≡ Memory out_of_memory) ⊎ LineGoesOn (spelled_write device n spelled) line [] (refused_line_writes fault))
line_not_added device n spelled line (Ok unit) bad = tt
line_not_added device n spelled line (Err fault) (number, bad) = line_is_refused device n spelled line fault number bad

-- a line that is refused adds nothing to what is written
pub line_refused : (whole f : LinesGive) (line out : List ℕ) (fault : LineFault) → whole ≡ f → fault.kind ≢ Memory out_of_memory
    → (fault.kind ≡ Memory out_of_memory) ⊎ LineGoesOn f line [] (refused_line_writes fault) → TakesLine whole line (refused_line_writes fault) out out (Ok tt)
line_refused whole f line out fault same apart (inl memory) = absurd (apart memory)
line_refused whole f line out fault same apart (inr goes) =
    subst (λ w. TakesLine w line (refused_line_writes fault) out out (Ok tt)) (sym same) ([], sym (append-nil out), goes)

appends_nothing : (old new : Option (List ℕ)) (text : List ℕ) → text ≡ [] → Appends old new text → Keeps old new
appends_nothing None new text none appended = tt
appends_nothing (Some before) None text none appended = absurd appended
appends_nothing (Some before) (Some after) text none appended = appended ∙ ap (λ t. before ++ t) none ∙ append-nil before

-- before the end of the input nothing is written
pub nothing_at_read : (all left old new : Option (List ℕ)) → WroteOfRead (run_of scheduled_run) all left old new → Keeps old new
nothing_at_read all left old new (taken, consumed, written) =
    appends_nothing old new (run_of scheduled_run true taken).text (cut_writes_nothing taken) written

pub nothing_at_memory : (all old new : Option (List ℕ)) → WroteOfFront (run_of scheduled_run) all old new → Keeps old new
nothing_at_memory all old new (front, back, consumed, written) =
    appends_nothing old new (run_of scheduled_run true front).text (cut_writes_nothing front) written
