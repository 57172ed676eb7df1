-- What came of the step stands behind what was gathered.
use Rattle.std.proofs.Common.{◌≡◌, ◌++◌, ◌∷◌, [], refl, rules}
use Rattle.mctp_schedule.specs.EntryColumns.{borrowed_entry}
use Rattle.mctpctl_texts.specs.EntryTexts.{entry_text}
use Rattle.mctpctl_texts.proofs.GatheredParts.{grown_to}
use Rattle.mctpctl_texts.proofs.entry_text.gather_entry.Goals as goal
use Rattle.mctpctl_texts.proofs.entry_text.gather_entry.Goals.{in-Nothing, in-Opened, in-NotOpened, in-Due+else-not-is_empty+else-not-is_empty-2, in-Delivered, in-Received, in-Sensed, in-Restarted}

pub returns : goal.returns
returns g c =
    let in_all : c.match-entry.page ≡ c.args.page.now ++ (entry_text (borrowed_entry c.args.entry) ++ 10 ∷ []) =
    elim c.match-entry.branch [
      | in-Nothing w ↦ search rules
      | in-Opened w ↦ search rules
      | in-NotOpened w ↦ search rules
      | in-Due+else-not-is_empty+else-not-is_empty-2 w ↦ search rules
      | in-Delivered w ↦ search rules
      | in-Received w ↦ search rules
      | in-Sensed w ↦ search rules
      | in-Restarted w ↦ search rules
    ] in
    record { text = grown_to _ _ _ _ in_all; ok = refl; err = tt }
