-- The order in which the open messages began has each of them, so the oldest is found.
use Rattle.std.specs.FinMap as finite
use Rattle.std.proofs.Common.{◌≡◌, ◌<◌, ℕ, Bool, true, false, cond, not, ◌&&◌, ◌||◌, ◌==◌, List, [], ◌∷◌, ◌++◌, length, map, Option, Some, None, is_some, if◌then◌else◌, refl, sym, ap, ◌∙◌, subst, arith, eqb-true}
use Rattle.std.specs.Prelude.{filter}
use Rattle.std.specs.List.{list_any}
use Rattle.std.specs.Cmp.{tied_itself}
use Rattle.std.specs.Ordering.{eq_by_cmp, is_eq}
use Rattle.std.specs.declared.cmp.Ordering.{Ordering}
use Rattle.std.specs.declared.cmp.Ordering.TheVariants.{Less, Equal, Greater}
use Rattle.mctp_packet.specs.Packets.{Packet}
use Rattle.mctp_assembly.specs.Keys.{key_cmp, key_of}
use Rattle.mctp_assembly.specs.Opened.{Opened}
use Rattle.mctp_assembly.specs.Steps.{OpenMessages, after, after_without_ending, answer, carried_on, stays_open, unless_whole}
use Rattle.mctp_assembly.specs.declared.fed.Fed.{Fed}
use Rattle.mctp_assembly.specs.declared.fed.Fed.TheVariants.{Whole, Partial, Dropped}
use Rattle.mctp_assembly.specs.declared.key.Key.{Key}
use Rattle.mctp_assembly.proofs.KeyOrder.{keys_exact, keys_total}
use Rattle.pldm_responder.specs.Ends.{AreAsked, IsAsked}
use Rattle.pldm_responder.specs.OpenOrder.{HasAllOpen, IsOrdered, begins, begun_with, first_open, is_apart, without}
use Rattle.pldm_responder.proofs.OpenedPackets.{opened_by, still_closed}

same_by : (r : Ordering) → is_eq r ≡ true → r ≡ Equal
same_by Less h = cc
same_by Equal h = refl
same_by Greater h = cc

one_key : (a b : Key) → eq_by_cmp key_cmp a b ≡ true → a ≡ b
one_key a b h = keys_exact a b (same_by (key_cmp a b) h)

itself : (a : Key) → eq_by_cmp key_cmp a a ≡ true
itself a = ap is_eq (tied_itself keys_total a)

-- ---- keys in lists
either : (a b : Bool) → (a ≡ true → ⊥) → (a || b) ≡ true → b ≡ true
either true b not_it h = absurd (not_it refl)
either false b not_it h = h

first_of : (a b : Bool) → a ≡ true → (a || b) ≡ true
first_of true b h = refl
first_of false b h = cc

later_of : (a b : Bool) → b ≡ true → (a || b) ≡ true
later_of true b h = refl
later_of false b h = h

front_by : (t any more : Bool) → (any ≡ true → more ≡ true) → (t || any) ≡ true → (t || more) ≡ true
front_by true any more later h = refl
front_by false any more later h = later h

in_front : (key : Key) (xs ys : List Key) → list_any (eq_by_cmp key_cmp key) xs ≡ true → list_any (eq_by_cmp key_cmp key) (xs ++ ys) ≡ true
in_front key [] ys h = cc
in_front key (x ∷ xs) ys h =
    front_by (eq_by_cmp key_cmp key x) (list_any (eq_by_cmp key_cmp key) xs) (list_any (eq_by_cmp key_cmp key) (xs ++ ys)) (in_front key xs ys) h

behind : (key : Key) (xs ys : List Key) → list_any (eq_by_cmp key_cmp key) ys ≡ true → list_any (eq_by_cmp key_cmp key) (xs ++ ys) ≡ true
behind key [] ys h = h
behind key (x ∷ xs) ys h = later_of (eq_by_cmp key_cmp key x) (list_any (eq_by_cmp key_cmp key) (xs ++ ys)) (behind key xs ys h)

kept_by : (key x : Key) (test : Key → Bool) (xs : List Key) (t kept : Bool) → eq_by_cmp key_cmp key x ≡ t → test x ≡ kept → test key ≡ true
    → (list_any (eq_by_cmp key_cmp key) xs ≡ true → list_any (eq_by_cmp key_cmp key) (filter test xs) ≡ true) → (t || list_any (eq_by_cmp key_cmp key) xs) ≡ true
    → list_any (eq_by_cmp key_cmp key) (if kept then x ∷ filter test xs else filter test xs) ≡ true
kept_by key x test xs true true is keeps passes later h = first_of (eq_by_cmp key_cmp key x) (list_any (eq_by_cmp key_cmp key) (filter test xs)) is
kept_by key x test xs true false is keeps passes later h = cc (sym passes ∙ ap test (one_key key x is) ∙ keeps)
kept_by key x test xs false true is keeps passes later h = later_of (eq_by_cmp key_cmp key x) (list_any (eq_by_cmp key_cmp key) (filter test xs)) (later h)
kept_by key x test xs false false is keeps passes later h = later h

stays_in : (key : Key) (test : Key → Bool) (xs : List Key) → test key ≡ true → list_any (eq_by_cmp key_cmp key) xs ≡ true → list_any (eq_by_cmp key_cmp key) (filter test xs) ≡ true
stays_in key test [] passes h = cc
stays_in key test (x ∷ xs) passes h =
    kept_by key x test xs (eq_by_cmp key_cmp key x) (test x) refl refl passes (stays_in key test xs passes) h

-- ---- a packet that begins no message, and a message that ends, open no key
gone : (t : Bool) (o : Option Opened) → is_some (cond t None o) ≡ true → is_some o ≡ true
gone true o h = cc
gone false o h = h

was_there : (held : OpenMessages) (k key : Key) → finite.contains_key (finite.remove held k) key ≡ true → finite.contains_key held key ≡ true
was_there held k key h =
    gone (eq_by_cmp key_cmp key k) (finite.get held key) (sym (ap is_some (finite.get-remove keys_total held k key)) ∙ h)

pub ordered_without : (ends : Bool) (held : OpenMessages) (begun : List Key) (k : Key) → IsOrdered ends held begun → IsOrdered ends (finite.remove held k) begun
ordered_without ends held begun k ordered on key h = ordered on key (was_there held k key h)

put_by : (held : OpenMessages) (k key : Key) (o : Opened) (t : Bool) → eq_by_cmp key_cmp key k ≡ t → finite.contains_key held k ≡ true → is_some (cond t (Some o) (finite.get held key)) ≡ true → finite.contains_key held key ≡ true
put_by held k key o true is was h = ap (finite.contains_key held) (one_key key k is) ∙ was
put_by held k key o false is was h = h

after_by : (fed : Fed) (held : OpenMessages) (k key : Key) (o : Opened) → (fed ≡ Partial → finite.contains_key held k ≡ true)
    → finite.contains_key (unless_whole fed held (cond (stays_open fed) (finite.insert held k o) (finite.remove held k))) key ≡ true → finite.contains_key held key ≡ true
after_by (Whole body) held k key o was h = h
after_by Partial held k key o was h =
    put_by held k key o (eq_by_cmp key_cmp key k) refl (was refl) (sym (ap is_some (finite.get-insert keys_total held k o key)) ∙ h)
after_by (Dropped reason) held k key o was h = was_there held k key h

pub ordered_going_on : (ends : Bool) (held : OpenMessages) (begun : List Key) (p : Packet) (new : OpenMessages) → IsOrdered ends held begun → begins p ≡ false → new ≡ after_without_ending held p → IsOrdered ends new begun
ordered_going_on ends held begun p new ordered goes_on left on key h =
    ordered on key
    (after_by (answer held p) held (key_of p) key (carried_on (finite.get held (key_of p)) p) (still_closed held p goes_on)
    (sym (ap (λ m. finite.contains_key m key) left) ∙ h))

-- ---- a packet that begins one
apart_by : (a b : Key) (s t : Bool) → (a.source == b.source) ≡ s → (a.tag == b.tag) ≡ t → a.owner ≡ true → b.owner ≡ true → eq_by_cmp key_cmp a b ≡ false → (not s || not t) ≡ true
apart_by a b false t source tag one two other = refl
apart_by a b true false source tag one two other = refl
apart_by a b true true source tag one two other =
    let sources = eqb-true a.source b.source source in
    let tags = eqb-true a.tag b.tag tag in
    let owners = one ∙ sym two in
    let same : a ≡ b = λ i. record { source = sources i; tag = tags i; owner = owners i } in
    cc (sym other ∙ ap (eq_by_cmp key_cmp a) (sym same) ∙ itself a)

were_there : (ended : Option Key) (held : OpenMessages) (key : Key) → finite.contains_key (without ended held) key ≡ true → finite.contains_key held key ≡ true
were_there None held key h = h
were_there (Some k) held key h = was_there held k key h

both : (a b : Bool) → a ≡ true → b ≡ true → (a && b) ≡ true
both true true h g = refl
both true false h g = cc
both false b h g = cc

begun_by : (own : ℕ) (held new : OpenMessages) (begun : List Key) (k key : Key) (o : Opened) (t : Bool) → eq_by_cmp key_cmp key k ≡ t → AreAsked own held → IsAsked own k → HasAllOpen held begun
    → is_some (cond t (Some o) (finite.get held key)) ≡ true → finite.contains_key new key ≡ true → list_any (eq_by_cmp key_cmp key) (begun_with new k begun) ≡ true
begun_by own held new begun k key o true is asked new_asked all was here =
    behind key (filter (λ other. is_apart other k && finite.contains_key new other) begun) (k ∷ [])
    (first_of (eq_by_cmp key_cmp key k) false is)
begun_by own held new begun k key o false is asked new_asked all was here =
    in_front key (filter (λ other. is_apart other k && finite.contains_key new other) begun) (k ∷ [])
    (stays_in key (λ other. is_apart other k && finite.contains_key new other) begun
    (both (is_apart key k) (finite.contains_key new key) (apart_by key k (key.source == k.source) (key.tag == k.tag) refl refl (asked key was).owner new_asked.owner is) here)
    (all key was))

pub ordered_begun : (own : ℕ) (ends : Bool) (held : OpenMessages) (begun : List Key) (p : Packet) (ended : Option Key) (new : OpenMessages) (order : List Key) → AreAsked own held → IsAsked own (key_of p)
    → IsOrdered ends held begun → begins p ≡ true → new ≡ without ended (after held p) → order ≡ (if ends then begun_with new (key_of p) begun else begun) → IsOrdered ends new order
ordered_begun own true held begun p ended new order asked is ordered begin left kept on key h =
    let opened = were_there ended (finite.insert held (key_of p) (carried_on (finite.get held (key_of p)) p)) key
    (sym (ap (λ m. finite.contains_key (without ended m) key) (opened_by held p begin)) ∙ sym (ap (λ m. finite.contains_key m key) left) ∙ h) in
    ap (list_any (eq_by_cmp key_cmp key)) kept
    ∙ begun_by own held new begun (key_of p) key (carried_on (finite.get held (key_of p)) p) (eq_by_cmp key_cmp key (key_of p)) refl asked is (ordered refl)
    (sym (ap is_some (finite.get-insert keys_total held (key_of p) (carried_on (finite.get held (key_of p)) p) key)) ∙ opened) h
ordered_begun own false held begun p ended new order asked is ordered begin left kept on key h = cc

pub none_ordered : (ends : Bool) (begun : List Key) → IsOrdered ends finite.empty begun
none_ordered ends begun on key h = cc (sym (ap is_some (finite.get-empty {X = Opened} key_cmp key)) ∙ h)

-- ---- the oldest is found where one is open, and none is where none is
abbrev keys_in : List (Key × Opened) → List Key
keys_in es = map (λ e. e.0) es

found_by : (held : OpenMessages) (key x : Key) (xs : List Key) (t is : Bool) → finite.contains_key held x ≡ t → eq_by_cmp key_cmp key x ≡ is → finite.contains_key held key ≡ true
    → (list_any (eq_by_cmp key_cmp key) xs ≡ true → is_some (first_open held xs) ≡ true) → (is || list_any (eq_by_cmp key_cmp key) xs) ≡ true
    → is_some (if t then Some x else first_open held xs) ≡ true
found_by held key x xs true is there same opens later h = refl
found_by held key x xs false true there same opens later h = cc (sym opens ∙ ap (finite.contains_key held) (one_key key x same) ∙ there)
found_by held key x xs false false there same opens later h = later h

found_in : (held : OpenMessages) (key : Key) (begun : List Key) → finite.contains_key held key ≡ true → list_any (eq_by_cmp key_cmp key) begun ≡ true → is_some (first_open held begun) ≡ true
found_in held key [] opens h = cc
found_in held key (x ∷ xs) opens h =
    found_by held key x xs (finite.contains_key held x) (eq_by_cmp key_cmp key x) refl refl opens (found_in held key xs opens) h

some_open : (held : OpenMessages) (es : List (Key × Opened)) → finite.entries held ≡ es → 0 < length es → (key : Key) × (finite.contains_key held key ≡ true)
some_open held [] are some = absurd (omega (arith, some))
some_open held (e ∷ es) are some = (
  e.0,
  finite.contains_key-keys held e.0 ∙ ap (λ xs. list_any (eq_by_cmp key_cmp e.0) (keys_in xs)) are
      ∙ first_of (eq_by_cmp key_cmp e.0 e.0) (list_any (eq_by_cmp key_cmp e.0) (keys_in es)) (itself e.0),
)

pub found : (held : OpenMessages) (begun : List Key) → 0 < finite.len held → HasAllOpen held begun → is_some (first_open held begun) ≡ true
found held begun some all =
    let one = some_open held (finite.entries held) refl (subst (λ n. 0 < n) (finite.len-entries held) some) in
    found_in held one.0 begun one.1 (all one.0 one.1)

some_by : (held : OpenMessages) (x : Key) (rest : Option Key) (t : Bool) → finite.contains_key held x ≡ t → (is_some rest ≡ true → (key : Key) × (finite.contains_key held key ≡ true))
    → is_some (if t then Some x else rest) ≡ true → (key : Key) × (finite.contains_key held key ≡ true)
some_by held x rest true is later h = (x, is)
some_by held x rest false is later h = later h

open_some : (held : OpenMessages) (begun : List Key) → is_some (first_open held begun) ≡ true → (key : Key) × (finite.contains_key held key ≡ true)
open_some held [] h = cc
open_some held (x ∷ xs) h = some_by held x (first_open held xs) (finite.contains_key held x) refl (open_some held xs) h

has_some : (held : OpenMessages) (es : List (Key × Opened)) (key : Key) → finite.entries held ≡ es → finite.contains_key held key ≡ true → 0 < length es
has_some held [] key are opens = cc (sym opens ∙ finite.contains_key-keys held key ∙ ap (λ xs. list_any (eq_by_cmp key_cmp key) (keys_in xs)) are)
has_some held (e ∷ es) key are opens = omega arith

pub found_open : (held : OpenMessages) (begun : List Key) → is_some (first_open held begun) ≡ true → 0 < finite.len held
found_open held begun h =
    let one = open_some held begun h in
    subst (λ n. 0 < n) (sym (finite.len-entries held)) (has_some held (finite.entries held) one.0 refl one.1)
