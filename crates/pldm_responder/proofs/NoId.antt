-- An end that has no endpoint ID: nothing is open and nothing is kept.
use Rattle.std.specs.FinMap as map
use Rattle.std.proofs.Common.{◌≡◌, ℕ, ◌+◌, ◌*◌, ◌≤◌, Bool, true, false, [], ◌∷◌, length, if◌then◌else◌, refl, arith, sym, ap, subst, ◌∙◌}
use Rattle.mctp_packet.specs.Ids.{IsEid}
use Rattle.mctp_packet.specs.declared.TheConstants.{NULL_EID}
use Rattle.mctp_assembly.specs.Keys.{key_cmp}
use Rattle.mctp_assembly.specs.Opened.{Opened}
use Rattle.mctp_assembly.specs.declared.key.Key.{Key}
use Rattle.mctp_assembly.specs.NumberLists.{NumberList, at}
use Rattle.pldm_responder.specs.Ends.{End, IsIdle, held_by}
use Rattle.pldm_responder.specs.ResponderStates.{IsHeld}
use Rattle.pldm_responder.specs.Slots.{Answers, Rows, answers_in, kept_in, source_count}
use Rattle.pldm_responder.specs.Steps.{restarted_held}
use Rattle.pldm_responder.proofs.OpenBounds.{len_without}

-- an endpoint ID is not the null one
pub not_null : (n : ℕ) → IsEid n → n ≡ NULL_EID → ⊥
not_null n eid none = omega (arith, eid.0, none)

pub idle_at_home : (own : ℕ) (open_messages : map.FinMap key_cmp Opened) (rows : Rows) → IsEid own → IsIdle own open_messages rows
idle_at_home own open_messages rows eid none = absurd (not_null own eid none)

-- nothing is open and nothing is kept
pub idle_of_none : (own : ℕ) (open_messages : map.FinMap key_cmp Opened) (rows : Rows) → open_messages ≡ map.empty → source_count rows ≡ 0 → IsIdle own open_messages rows
idle_of_none own open_messages rows empty none _ = (ap map.len empty ∙ map.len-empty key_cmp Opened, none)

pub idle_without : (own : ℕ) (open_messages : map.FinMap key_cmp Opened) (rows : Rows) (key : Key) → IsIdle own open_messages rows → IsIdle own (map.remove open_messages key) rows
idle_without own open_messages rows key idle none = (omega (arith, len_without open_messages key 0 (omega (arith, (idle none).0))), (idle none).1)

-- no more than this many are kept
pub none_kept : (count window sources most : ℕ) → count ≤ window * sources → sources ≡ 0 → count ≤ most
none_kept count window sources most few none = let at_none : count ≤ window * 0 = subst (λ n. count ≤ window * n) none few in omega (arith, at_none)

-- ---- an endpoint ID is assigned
none_at : (list : NumberList Answers) (source : ℕ) → length list ≡ 0 → answers_in (at list source) ≡ []
none_at [] source none = refl
none_at (x ∷ list) source none = absurd (omega (arith, none))

-- t where there was none before
pub assigned_by : (t : Bool) (old new : End) (moment eid : ℕ) → (t ≡ true → source_count old.rows ≡ 0)
    → new.own ≡ eid → new.busy ≡ old.busy → new.keep ≡ old.keep → new.rows ≡ record { window = old.rows.window; places = 0; list = [] } → new.open_messages ≡ map.empty
    → new.serves_from ≡ (if t then old.serves_from else moment + old.keep) → new.last ≡ moment
    → IsHeld (held_by new) (record (if t then held_by old else restarted_held (held_by old) moment) { own = eid; open_messages = map.empty; last = moment })
assigned_by true old new moment eid idle own busy keep rows closed serves last = record {
  own = own;
  busy = busy;
  window = ap (λ (r : Rows). r.window) rows;
  keep = keep;
  open_messages = closed;
  kept = λ source. ap (λ (r : Rows). kept_in r source) rows ∙ sym (none_at old.rows.list source (idle refl));
  state = refl;
  serves_from = serves;
  last = last;
}
assigned_by false old new moment eid idle own busy keep rows closed serves last = record {
  own = own;
  busy = busy;
  window = ap (λ (r : Rows). r.window) rows;
  keep = keep;
  open_messages = closed;
  kept = λ source. ap (λ (r : Rows). kept_in r source) rows;
  state = refl;
  serves_from = serves;
  last = last;
}
