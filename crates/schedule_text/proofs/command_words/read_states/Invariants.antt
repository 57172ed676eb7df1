-- The fields so far are those of the words so far.
use Rattle.std.proofs.Common.{◌≡◌, length, drop}
use Rattle.schedule_text.specs.CommandWords.{states_in}
use Rattle.schedule_text.proofs.StateWords.{onto}
use Rattle.schedule_text.proofs.command_words.read_states.Given as goal

abbrev pub invariant-loop-word : goal.invariant-loop-word
invariant-loop-word l =
    (states_in l.words ≡ onto l.fields.items (states_in (drop l.word-index l.words))) × (length l.fields.items ≡ l.word-index)
