-- What contracts see of an answering end: what it holds, and the rows in which answers are kept.
use Rattle.std.specs.FinMap as map
use Rattle.std.specs.Prelude.{◌≡◌, ◌≢◌, ℕ, ◌+◌, ◌<◌, ◌≤◌, Bool, true, ◌||◌, ◌==◌, ◌⊎◌, List, [], length, Option, None, Some, is_some, IsSome, if◌then◌else◌, refl}
use Rattle.std.specs.List.{All}
use Rattle.std.specs.Coded.{Coded, code_by, coded×, coded_ℕ, coded_bool, coded_list}
use Rattle.mctp_packet.specs.Ids.{IsEid}
use Rattle.mctp_packet.specs.declared.TheConstants.{NULL_EID}
use Rattle.mctp_assembly.specs.Keys.{IsKey, key_cmp, coded_key}
use Rattle.mctp_assembly.specs.Opened.{Opened, coded_opened}
use Rattle.mctp_assembly.specs.declared.key.Key.{Key}
use Rattle.pldm_wire.specs.contracts.restart_policy.RestartPolicy as busy_type
use Rattle.pldm_wire.specs.declared.restart_policy.RestartPolicy.{RestartPolicy}
use Rattle.pldm_responder.specs.ResponderStates.{Entry, ResponderState}
use Rattle.pldm_responder.specs.Slots.{Rows, coded_rows, kept_in, row_of, source_count}
use Rattle.pldm_responder.specs.declared.bounds.Bounds.{Bounds}
use Rattle.pldm_responder.specs.declared.responder_settings.ResponderSettings.{ResponderSettings}

-- its endpoint ID, the null one where it has none yet, what it refuses in the busy time, its keeping time and bounds,
-- whether its oldest open message ends where one more would pass its bound, what is open on each key, the keys on which
-- messages began, the oldest first, the rows of kept answers, the moment from which it serves, and the last moment
pub record End : Type 0 where
  pub own : ℕ
  pub busy : RestartPolicy
  pub keep : ℕ
  pub bounds : Bounds
  pub ends_oldest : Bool
  pub open_messages : map.FinMap key_cmp Opened
  pub begun : List Key
  pub rows : Rows
  pub serves_from : ℕ
  pub last : ℕ

-- an endpoint ID as a number, the null one where there is none
abbrev pub eid_or_null : Option ℕ → ℕ
eid_or_null None = NULL_EID
eid_or_null (Some eid) = eid

-- it is one, or there is none
abbrev pub IsOwn : ℕ → Type 0
IsOwn own = (own ≡ NULL_EID) ⊎ IsEid own

-- they are stored as their parts
abbrev pub coded_bounds : Coded Bounds
coded_bounds =
    code_by (ℕ × ℕ) (coded× coded_ℕ coded_ℕ) (λ b. (b.sources, b.open_messages))
    (λ c. record { sources = c.0; open_messages = c.1 }) (λ _. refl)

abbrev pub coded_end : Coded End
coded_end =
    code_by
    (ℕ × (RestartPolicy × (ℕ × (Bounds × (Bool × (map.FinMap key_cmp Opened × (List Key × (Rows × (ℕ × ℕ)))))))))
    (coded× coded_ℕ (coded× busy_type.the_row.coded (coded× coded_ℕ (coded× coded_bounds (coded× coded_bool
    (coded× (map.code coded_key coded_opened) (coded× (coded_list coded_key) (coded× coded_rows
    (coded× coded_ℕ coded_ℕ)))))))))
    (λ e. (
      e.own,
      (
        e.busy,
        (
          e.keep,
          (
            e.bounds,
            (
              e.ends_oldest,
              (
                e.open_messages,
                (
                  e.begun,
                  (
                    e.rows,
                    (e.serves_from, e.last),
                  ),
                ),
              ),
            ),
          ),
        ),
      ),
    ))
    (λ c. record {
      own = c.0;
      busy = c.1.0;
      keep = c.1.1.0;
      bounds = c.1.1.1.0;
      ends_oldest = c.1.1.1.1.0;
      open_messages = c.1.1.1.1.1.0;
      begun = c.1.1.1.1.1.1.0;
      rows = c.1.1.1.1.1.1.1.0;
      serves_from = c.1.1.1.1.1.1.1.1.0;
      last = c.1.1.1.1.1.1.1.1.1;
    })
    (λ _. refl)

-- rows of no answers
abbrev pub no_rows : ℕ → Rows
no_rows window = record { window = window; places = 0; list = [] }

-- one to which nothing has come yet
abbrev pub end_at_first : ℕ → ResponderSettings → Bounds → Bool → End
end_at_first own keeping bounds ends_oldest = record {
  own = own;
  busy = keeping.busy;
  keep = keeping.keep;
  bounds = bounds;
  ends_oldest = ends_oldest;
  open_messages = map.empty;
  begun = [];
  rows = no_rows keeping.window;
  serves_from = 0;
  last = 0;
}

-- the same after a restart at a moment: what is open and what is kept is lost, and it is busy for the keeping time
abbrev pub end_restarted : End → ℕ → End
end_restarted end now = record end {
  open_messages = map.empty;
  begun = [];
  rows = no_rows end.rows.window;
  serves_from = now + end.keep;
  last = now;
}

-- what a responder holds over this end, whose platform has this state
abbrev pub held_over : {S : Type 0} → S → End → ResponderState S
held_over state end = record {
  own = end.own;
  busy = end.busy;
  window = end.rows.window;
  keep = end.keep;
  open_messages = end.open_messages;
  kept = kept_in end.rows;
  state = state;
  serves_from = end.serves_from;
  last = end.last;
}

-- the same without a platform
abbrev pub held_by : End → ResponderState (Unit {0})
held_by end = held_over tt end

-- the packets of a request from another endpoint
pub record IsAsked (own : ℕ) (key : Key) : Type 0 where
  pub ranges : IsKey key
  pub owner : key.owner ≡ true
  pub other : key.source ≢ own

-- what is open is of such packets
abbrev pub AreAsked : ℕ → map.FinMap key_cmp Opened → Type 0
AreAsked own open_messages = (key : Key) → map.contains_key open_messages key ≡ true → IsAsked own key

-- while it has no endpoint ID, nothing is open and nothing is kept
abbrev pub IsIdle : ℕ → map.FinMap key_cmp Opened → Rows → Type 0
IsIdle own open_messages rows = own ≡ NULL_EID → (map.len open_messages ≡ 0) × (source_count rows ≡ 0)

-- no answer to the endpoint itself is kept
abbrev pub KeepsForOthers : ℕ → Rows → Type 0
KeepsForOthers own rows = row_of rows own ≡ None

-- none that is kept is still to come
abbrev pub AreAnswered : Rows → Type 0
AreAnswered rows = (source : ℕ) → All (λ entry. 0 < length entry.answer) (kept_in rows source)

-- no bound is passed
abbrev pub IsWithin : Bounds → map.FinMap key_cmp Opened → Rows → Type 0
IsWithin bounds open_messages rows =
    (map.len open_messages ≤ bounds.open_messages) × (source_count rows ≤ bounds.sources)

-- ---- the sources that have a row
abbrev pub has_row : Rows → ℕ → Bool
has_row rows source = is_some (row_of rows source)

-- how many have one, once this source has
abbrev pub count_with : Rows → ℕ → ℕ
count_with rows source = if has_row rows source then source_count rows else source_count rows + 1

-- the same answers are kept, for the same sources
pub record AreSameRows (new old : Rows) : Type 0 where
  pub window : new.window ≡ old.window
  pub rows : (source : ℕ) → row_of new source ≡ row_of old source
  pub sources : source_count new ≡ source_count old

-- the same answers are kept, and this source has a row now
pub record GetsRow (source : ℕ) (new old : Rows) : Type 0 where
  pub window : new.window ≡ old.window
  pub kept : (other : ℕ) → kept_in new other ≡ kept_in old other
  pub rows : (other : ℕ) → has_row new other ≡ (has_row old other || source == other)
  pub sources : source_count new ≡ count_with old source

-- the answers that are kept to this source were changed so, and those to the others are as before
pub record ChangesAnswers (source : ℕ) (change : List Entry → List Entry) (new old : Rows) : Type 0 where
  pub kept : (other : ℕ) → kept_in new other
      ≡ (if source == other then change (kept_in old other) else kept_in old other)
  pub window : new.window ≡ old.window
  pub rows : (other : ℕ) → has_row new other ≡ has_row old other
  pub sources : source_count new ≡ source_count old

-- the same of an end, of which nothing else changed
pub record ChangesOnlyAnswers (source : ℕ) (change : List Entry → List Entry) (new old : End) : Type 0 where
  pub answers : ChangesAnswers source change new.rows old.rows
  pub open answers use *
  pub rest : new ≡ record old { rows = new.rows }

-- the source has a row at the end now, and nothing else of the end changed
pub record GetsRoom (source : ℕ) (new old : End) : Type 0 where
  pub gets : GetsRow source new.rows old.rows
  pub some : IsSome (row_of new.rows source)
  pub rest : new ≡ record old { rows = new.rows }

-- the same end, but for where its rows are stored
pub record IsSameEnd (new old : End) : Type 0 where
  pub same : record new { rows = old.rows } ≡ old
  pub rows : AreSameRows new.rows old.rows

-- bounds that are never passed: every endpoint other than the own, with every tag
abbrev pub unreached : Bounds
unreached = record { sources = 246; open_messages = 1968 }
