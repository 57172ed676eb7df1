-- The words that spell each line of a schedule, a row each.
use Rattle.std.specs.Prelude.{◌≡◌, ℕ, ◌≤◌, codes, List, [], ◌∷◌, Some}
use Rattle.line_words.specs.Numbers.{decimal_of, value_of}
use Rattle.mctp_packet.specs.declared.TheConstants.{MIN_EID, MAX_EID, MAX_MOMENT}
use Rattle.schedule_text.specs.CommandSpelling.{Word, SpellsNumber, SpellsByte, SpellsId, SpellsCommand}
use Rattle.schedule_text.specs.declared.word.TheConstants.{MAX_TIMEOUT}
use Rattle.schedule_text.specs.SaidLines.{Line}
use Rattle.schedule_text.specs.SaidLines as lines
use Rattle.schedule_text.specs.declared.step.Action.{Action}
use Rattle.schedule_text.specs.declared.step.Action.TheVariants.{Open, Tick, Request, Reply, Sense, Restart, Busy}

-- the word is this endpoint ID
abbrev pub SpellsEid : ℕ → Word → Type 0
SpellsEid eid word = SpellsNumber MAX_EID eid word × (MIN_EID ≤ eid)

-- a number of at most 16 digits
abbrev pub SpellsAny : ℕ → Word → Type 0
SpellsAny number word = decimal_of word ≡ Some number

-- the words spell the action
abbrev pub SpellsAction : Action → List Word → Type 0
SpellsAction (Open requester command) words =
    (eid : Word) × (rest : List Word) × (words ≡ codes "open" ∷ eid ∷ rest)
    × SpellsEid requester eid × SpellsCommand command rest
SpellsAction (Tick requester) words = (eid : Word) × (words ≡ codes "tick" ∷ eid ∷ []) × SpellsEid requester eid
SpellsAction (Request number) words = (k : Word) × (words ≡ codes "req" ∷ k ∷ []) × SpellsAny number k
SpellsAction (Reply packet number) words =
    (k : Word) × (j : Word) × (words ≡ codes "rep" ∷ k ∷ j ∷ []) × SpellsAny number k × SpellsByte packet j
SpellsAction (Sense sensor value) words =
    (id : Word) × (reading : Word) × (words ≡ codes "sense" ∷ id ∷ reading ∷ [])
    × SpellsId sensor id × (value_of reading ≡ Some value)
SpellsAction Restart words = words ≡ codes "restart" ∷ []
SpellsAction (Busy number) words = (k : Word) × (words ≡ codes "busy" ∷ k ∷ []) × SpellsAny number k

-- the words spell what the line says; no word says nothing
abbrev pub SpellsLine : Line → List Word → Type 0
SpellsLine lines.Nothing words = words ≡ []
SpellsLine (lines.Requester line) words =
    (eid : Word) × (limit : Word) × (count : Word)
    × (words ≡ codes "requester" ∷ eid ∷ codes "timeout" ∷ limit ∷ codes "tries" ∷ count ∷ [])
    × SpellsEid line.eid eid × SpellsNumber MAX_TIMEOUT line.timeout limit × SpellsByte line.tries count
SpellsLine (lines.Step step) words =
    (moment : Word) × (rest : List Word) × (words ≡ codes "at" ∷ moment ∷ rest)
    × SpellsNumber MAX_MOMENT step.moment moment × SpellsAction step.action rest
