-- Room for a message that begins: one that is open may end for it.
use Rattle.std.specs.FinMap as finite
use Rattle.std.proofs.Common.{◌≡◌, ◌≢◌, ◌+◌, ◌-◌, ◌<◌, ◌≤◌, ℕ, zero, suc, Bool, true, false, cond, not, ◌&&◌, ◌||◌, ◌==◌, List, [], ◌∷◌, Option, Some, None, is_some, if◌then◌else◌, refl, sym, ◌∙◌, ap, subst, arith, eqb-true}
use Rattle.std.specs.Prelude.{nat_le}
use Rattle.std.specs.Ordering.{eq_by_cmp}
use Rattle.std.proofs.lemmas.Bool.{leb-false, leb-true, le-leb}
use Rattle.mctp_packet.specs.Packets.{Packet}
use Rattle.mctp_assembly.specs.Keys.{IsKey, key_cmp, key_of}
use Rattle.mctp_assembly.specs.Opened.{Opened}
use Rattle.mctp_assembly.specs.Steps.{OpenMessages, after, carried_on}
use Rattle.mctp_assembly.specs.declared.key.Key.{Key}
use Rattle.mctp_assembly.proofs.KeyOrder.{keys_total}
use Rattle.pldm_responder.specs.Ends.{End, IsAsked, AreAsked}
use Rattle.pldm_responder.specs.OpenOrder.{HasAllOpen, IsOrdered, begins, first_open, is_full_for, is_shut_out_on, way_for, without}
use Rattle.pldm_responder.proofs.AskedKeys.{asked_with, asked_without}
use Rattle.pldm_responder.proofs.OpenedPackets.{opened_by}
use Rattle.pldm_responder.proofs.OpenOrders.{found, found_open}

pub is_of : (own : ℕ) (p : Packet) (key : Key) → IsKey key → key ≡ key_of p → p.route.owner ≡ true → p.route.source ≢ own → IsAsked own (key_of p)
is_of own p key range same owner other = record { ranges = subst IsKey same range; owner = owner; other = other }

asked_unless : (own : ℕ) (ended : Option Key) (held : OpenMessages) → AreAsked own held → AreAsked own (without ended held)
asked_unless own None held asked = asked
asked_unless own (Some key) held asked = asked_without own held key asked

-- there is room, or the one that ends is open
abbrev pub IsRoom : End → Key → Option Key → Type 0
IsRoom end key None = finite.contains_key end.open_messages key ≡ false → finite.len end.open_messages < end.bounds.open_messages
IsRoom end key (Some oldest) = finite.contains_key end.open_messages oldest ≡ true

still_open : (t : Bool) (o : Opened) (before : Option Opened) → is_some before ≡ true → is_some (cond t (Some o) before) ≡ true
still_open true o before h = refl
still_open false o before h = h

inserted_by : (t : Bool) (n bound : ℕ) → n ≤ bound → (t ≡ false → n < bound) → cond t n (n + 1) ≤ bound
inserted_by true n bound within room = within
inserted_by false n bound within room = omega (arith, room refl)

one_more : (t : Bool) (n bound : ℕ) → n ≤ bound → (cond t n (n + 1) - 1) ≤ bound
one_more true n bound within = omega (arith, within)
one_more false n bound within = omega (arith, within)

few_with : (end : End) (key : Key) (o : Opened) (ended : Option Key) → finite.len end.open_messages ≤ end.bounds.open_messages → IsRoom end key ended
    → finite.len (without ended (finite.insert end.open_messages key o)) ≤ end.bounds.open_messages
few_with end key o None within room =
    rw (finite.len-insert keys_total end.open_messages key o) (inserted_by (finite.contains_key end.open_messages key) (finite.len end.open_messages) end.bounds.open_messages within room)
few_with end key o (Some oldest) within room =
    rw (
      finite.len-remove keys_total (finite.insert end.open_messages key o) oldest,
      ap is_some (finite.get-insert keys_total end.open_messages key o oldest) ∙ still_open (eq_by_cmp key_cmp oldest key) o (finite.get end.open_messages oldest) room,
      finite.len-insert keys_total end.open_messages key o,
    )
    (one_more (finite.contains_key end.open_messages key) (finite.len end.open_messages) end.bounds.open_messages within)

abbrev IsOpenOn : OpenMessages → Option Key → Type 0
IsOpenOn held None = Unit {0}
IsOpenOn held (Some key) = finite.contains_key held key ≡ true

opens_by : (held : OpenMessages) (key : Key) (rest : Option Key) (t : Bool) → finite.contains_key held key ≡ t → IsOpenOn held rest → IsOpenOn held (cond t (Some key) rest)
opens_by held key rest true is later = is
opens_by held key rest false is later = later

opens : (held : OpenMessages) (begun : List Key) → IsOpenOn held (first_open held begun)
opens held [] = tt
opens held (key ∷ begun) = opens_by held key (first_open held begun) (finite.contains_key held key) refl (opens held begun)

few_by : (t : Bool) (bound n : ℕ) → t ≡ false → (not t && nat_le bound n) ≡ false → n < bound
few_by false bound n closed h = leb-false bound n h
few_by true bound n closed h = cc

full_by : (t : Bool) (bound n : ℕ) → (not t && nat_le bound n) ≡ true → (bound == 0) ≡ false → 0 < n
full_by false bound n h some = positive_by bound n (leb-true bound n h) some
  where
    positive_by : (bound n : ℕ) → bound ≤ n → (bound == 0) ≡ false → 0 < n
    positive_by zero n within some = cc
    positive_by (suc b) n within some = omega (arith, within)
full_by true bound n h some = cc

room_by : (end : End) (key : Key) (way ended : Option Key) (full ends : Bool) → is_full_for end key ≡ full → first_open end.open_messages end.begun ≡ way → IsOpenOn end.open_messages way
    → (ends ≡ true → HasAllOpen end.open_messages end.begun) → ended ≡ (if full && ends then way else None) → (full && (not ends || end.bounds.open_messages == 0)) ≡ false → IsRoom end key ended
room_by end key way ended false ends full looks is_open all is free =
    subst (IsRoom end key) (sym is) (λ closed. few_by (finite.contains_key end.open_messages key) end.bounds.open_messages (finite.len end.open_messages) closed full)
room_by end key None ended true true full looks is_open all is free =
    let some : 0 < finite.len end.open_messages = full_by (finite.contains_key end.open_messages key) end.bounds.open_messages (finite.len end.open_messages) full free in
    cc (sym (found end.open_messages end.begun some (all refl)) ∙ ap is_some looks)
room_by end key (Some oldest) ended true true full looks is_open all is free = subst (IsRoom end key) (sym is) is_open
room_by end key way ended true false full looks is_open all is free = cc

room_for : (end : End) (key : Key) (ended : Option Key) → ended ≡ way_for end key → is_shut_out_on end key ≡ false → IsOrdered end.ends_oldest end.open_messages end.begun → IsRoom end key ended
room_for end key ended is free ordered =
    room_by end key (first_open end.open_messages end.begun) ended (is_full_for end key) end.ends_oldest refl refl (opens end.open_messages end.begun) ordered is free

not_shut : (t : Bool) → (t ≡ true → ⊥) → t ≡ false
not_shut true h = absurd (h refl)
not_shut false h = refl

pub open_begun : (end old : End) (p : Packet) (key : Key) (ended : Option Key) (new : OpenMessages) → end ≡ old → AreAsked end.own end.open_messages → finite.len end.open_messages ≤ end.bounds.open_messages
    → IsKey key → key ≡ key_of p → p.route.owner ≡ true → p.route.source ≢ old.own → begins p ≡ true → IsOrdered end.ends_oldest end.open_messages end.begun
    → ended ≡ way_for old key → (is_shut_out_on old key ≡ true → ⊥) → new ≡ without ended (after end.open_messages p)
    → AreAsked end.own new × (finite.len new ≤ end.bounds.open_messages)
open_begun end old p key ended new view asked within range same owner other begin ordered way free left =
    let is = is_of end.own p key range same owner (λ source. other (source ∙ ap (λ (e : End). e.own) view)) in
    let room = room_for end key ended (way ∙ ap (λ e. way_for e key) (sym view)) (not_shut (is_shut_out_on end key) (λ shut. free (ap (λ e. is_shut_out_on e key) (sym view) ∙ shut))) ordered in
    let opened = ap (without ended) (opened_by end.open_messages p begin) in (
      rw (left ∙ opened) (asked_unless end.own ended _ (asked_with end.own end.open_messages (key_of p) (carried_on (finite.get end.open_messages (key_of p)) p) is asked)),
      rw (left ∙ opened) (few_with end (key_of p) (carried_on (finite.get end.open_messages (key_of p)) p) ended within (subst (λ k. IsRoom end k ended) same room)),
    )

-- ---- what is said of it
pub way_is_shut : (end : End) (key : Key) → is_full_for end key ≡ true → end.ends_oldest ≡ true → first_open end.open_messages end.begun ≡ None → IsOrdered end.ends_oldest end.open_messages end.begun
    → is_shut_out_on end key ≡ true
way_is_shut end key full ends none ordered =
    ap (λ t. t && (not end.ends_oldest || end.bounds.open_messages == 0)) full ∙ ap (λ t. not t || end.bounds.open_messages == 0) ends ∙ none_by (end.bounds.open_messages == 0) refl
  where
    none_by : (t : Bool) → (end.bounds.open_messages == 0) ≡ t → t ≡ true
    none_by true is = refl
    none_by false is =
        let some = full_by (finite.contains_key end.open_messages key) end.bounds.open_messages (finite.len end.open_messages) full is in
        cc (sym (found end.open_messages end.begun some (ordered ends)) ∙ ap is_some none)

pub way_is_free : (end : End) (key oldest : Key) → finite.len end.open_messages ≤ end.bounds.open_messages → end.ends_oldest ≡ true → first_open end.open_messages end.begun ≡ Some oldest → is_shut_out_on end key ≡ true → ⊥
way_is_free end key oldest within ends some shut =
    by_bound end.bounds.open_messages (omega (arith, within, found_open end.open_messages end.begun (ap is_some some)))
    (shut_by (is_full_for end key) (end.bounds.open_messages == 0) (ap (λ t. is_full_for end key && (not t || end.bounds.open_messages == 0)) (sym ends) ∙ shut))
  where
    shut_by : (full none : Bool) → (full && (false || none)) ≡ true → none ≡ true
    shut_by true none h = h
    shut_by false none h = cc

    by_bound : (n : ℕ) → 0 < n → (n == 0) ≡ true → ⊥
    by_bound n more h = omega (arith, more, eqb-true n 0 h)

-- the tests of the code
pub is_full_by : (told is : Bool) (count len bound : ℕ) → told ≡ is → told ≡ false → count ≡ len → bound ≤ count → (not is && nat_le bound len) ≡ true
is_full_by told true count len bound same closed counts full = cc (sym closed ∙ same)
is_full_by told false count len bound same closed counts full = le-leb bound len (subst (λ n. bound ≤ n) counts full)
