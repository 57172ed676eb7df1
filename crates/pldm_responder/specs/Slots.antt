-- How a responder keeps its answers: for each source a row of them, the newest first.
use Rattle.std.specs.Prelude.{◌≡◌, ℕ, ◌<◌, ◌≤◌, List, [], length, take, Option, Some, None, IfSome, refl}
use Rattle.std.specs.Coded.{Coded, code_by, coded×, coded_ℕ, coded_list}
use Rattle.std.specs.List.{All}
use Rattle.mctp_packet.specs.Ids.{IsEid}
use Rattle.mctp_packet.specs.declared.TheConstants.{MAX_MESSAGE_BYTES}
use Rattle.mctp_assembly.specs.NumberLists.{NumberList, Rises, at}
use Rattle.pldm_wire.specs.Headers.{id_at}
use Rattle.pldm_wire.specs.Settings.{IsWindow}
use Rattle.pldm_wire.specs.declared.assigned.TheConstants.{INSTANCE_IDS}
use Rattle.pldm_responder.specs.ResponderStates.{Entry, id_in}
use Rattle.pldm_responder.specs.Recency.{IsApart, of_number, renewed, replaced}

-- the answers that are kept to one source: how many at most, and those that there are, the newest first
pub record Answers : Type 0 where
  pub window : ℕ
  pub kept : List Entry

-- how many answers each source has at most, for how many sources there is a place, and the answers to each source, by
-- its endpoint ID
pub record Rows : Type 0 where
  pub window : ℕ
  pub places : ℕ
  pub list : NumberList Answers

-- they are stored as their parts
abbrev pub coded_entry : Coded Entry
coded_entry =
    code_by (ℕ × (List ℕ × List ℕ))
    (coded× coded_ℕ (coded× (coded_list coded_ℕ) (coded_list coded_ℕ)))
    (λ e. (e.moment, (e.bytes, e.answer)))
    (λ c. record { moment = c.0; bytes = c.1.0; answer = c.1.1 })
    (λ _. refl)

abbrev pub coded_answers : Coded Answers
coded_answers =
    code_by (ℕ × List Entry) (coded× coded_ℕ (coded_list coded_entry)) (λ a. (a.window, a.kept))
    (λ c. record { window = c.0; kept = c.1 }) (λ _. refl)

abbrev pub coded_rows : Coded Rows
coded_rows =
    code_by (ℕ × (ℕ × NumberList Answers))
    (coded× coded_ℕ (coded× coded_ℕ (coded_list (coded× coded_ℕ coded_answers))))
    (λ r. (r.window, (r.places, r.list)))
    (λ c. record { window = c.0; places = c.1.0; list = c.1.1 }) (λ _. refl)

-- the row of a source, if it has one
abbrev pub row_of : Rows → ℕ → Option Answers
row_of rows source = at rows.list source

-- how many sources have a row
abbrev pub source_count : Rows → ℕ
source_count rows = length rows.list

abbrev pub answers_in : Option Answers → List Entry
answers_in None = []
answers_in (Some answers) = answers.kept

-- the answers that are kept to a source, the newest first
abbrev pub kept_in : Rows → ℕ → List Entry
kept_in rows source = answers_in (row_of rows source)

-- the answer that is kept for a source and an instance ID
abbrev pub entry_in : Rows → ℕ → ℕ → Option Entry
entry_in rows source id = of_number id_in id (kept_in rows source)

-- this answer is put in front of those to its source, in the place of the one of its instance ID; what the window has
-- no room for falls out
abbrev pub in_front : ℕ → Entry → List Entry → List Entry
in_front window entry kept = take window (renewed id_in entry kept)

-- it takes the place of the one of its instance ID, where one is kept
abbrev pub in_place : Entry → List Entry → List Entry
in_place entry kept = replaced id_in entry kept

-- a request and the answer to it, neither longer than a message may be
pub record AreMessages (request answer : List ℕ) : Type 0 where
  pub bytes : length request ≤ MAX_MESSAGE_BYTES
  pub few : length answer ≤ MAX_MESSAGE_BYTES

-- they may be kept for this instance ID
pub record MayBeKept (instance : ℕ) (request answer : List ℕ) : Type 0 where
  pub id : id_at request ≡ instance
  pub small : instance < INSTANCE_IDS
  pub messages : AreMessages request answer
  pub open messages use *

-- an answer for an instance ID
pub record IsKept (entry : Entry) : Type 0 where
  pub instance : id_in entry < INSTANCE_IDS
  pub few : length entry.answer ≤ MAX_MESSAGE_BYTES

-- answers to an endpoint, no two for one instance ID
pub record AreKeptTo (window source : ℕ) (answers : Answers) : Type 0 where
  pub endpoint : IsEid source
  pub windows : answers.window ≡ window
  pub few : length answers.kept ≤ window
  pub apart : IsApart id_in answers.kept
  pub each : All IsKept answers.kept

-- what stands past the end of a list
abbrev pub no_answers : Answers
no_answers = record { window = 0; kept = [] }

-- each row has the window
pub record AreKept (rows : Rows) : Type 0 where
  pub window : IsWindow rows.window
  pub rises : Rises no_answers rows.list
  pub each : (source : ℕ) → IfSome (row_of rows source) (AreKeptTo rows.window source)
