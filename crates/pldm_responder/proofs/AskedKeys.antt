-- What is open at a responder is of requests from other endpoints, after each packet too, so it is little.
use Rattle.std.specs.FinMap as finite
use Rattle.std.proofs.Common.{◌≡◌, ℕ, ◌+◌, ◌*◌, ◌<◌, ◌≤◌, Bool, true, false, cond, ◌&&◌, ◌||◌, ◌==◌, eqb, List, [], ◌∷◌, map, Option, Some, None, is_some, refl, sym, subst, ap, ◌∙◌, arith, eqb-true}
use Rattle.std.specs.Prelude.{T}
use Rattle.std.specs.List.{list_any, AllByRecursion, IsDistinct}
use Rattle.std.specs.FinMap.Entries.{below_all, is_sorted}
use Rattle.std.specs.Ordering.{eq_by_cmp, is_eq, is_lt}
use Rattle.std.specs.declared.cmp.Ordering.{Ordering}
use Rattle.std.specs.declared.cmp.Ordering.TheVariants.{Less, Equal, Greater}
use Rattle.std.specs.Cmp.{tied_itself}
use Rattle.std.proofs.lemmas.Bool.{ne_eqb}
use Rattle.std.proofs.lemmas.Map.Steps.{length-le_from_distinct_below}
use Rattle.std.proofs.lemmas.List.{length-map}
use Rattle.mctp_packet.specs.Ids.{IsEid}
use Rattle.mctp_packet.specs.Packets.{Packet}
use Rattle.mctp_packet.specs.declared.TheConstants.{TAGS}
use Rattle.mctp_assembly.specs.Keys.{key_cmp, key_of}
use Rattle.mctp_assembly.specs.Opened.{Opened}
use Rattle.mctp_assembly.specs.Steps.{OpenMessages, answer, after, stays_open, carried_on, unless_whole, after_without_ending}
use Rattle.mctp_assembly.specs.declared.fed.Fed.{Fed}
use Rattle.mctp_assembly.specs.declared.fed.Fed.TheVariants.{Whole, Partial, Dropped}
use Rattle.mctp_assembly.specs.declared.key.Key.{Key}
use Rattle.pldm_responder.specs.Ends.{IsAsked, AreAsked}
use Rattle.pldm_responder.specs.declared.answering_end.TheConstants.{MAX_PENDING}
use Rattle.pldm_responder.proofs.FewSources.{place, place_low, same_place}
use Rattle.mctp_assembly.proofs.KeyOrder.{keys_total, keys_exact}

-- ---- a change keeps them so
pub none_asked : (own : ℕ) → AreAsked own finite.empty
none_asked own key h = cc (sym (ap is_some (finite.get-empty {X = Opened} key_cmp key)) ∙ h)

without : (t : Bool) (o : Option Opened) → is_some (cond t None o) ≡ true → is_some o ≡ true
without true o h = cc
without false o h = h

pub asked_without : (own : ℕ) (held : OpenMessages) (k : Key) → AreAsked own held → AreAsked own (finite.remove held k)
asked_without own held k asked key h =
    asked key (without (eq_by_cmp key_cmp key k) (finite.get held key) (sym (ap is_some (finite.get-remove keys_total held k key)) ∙ h))

same_by : (r : Ordering) → is_eq r ≡ true → r ≡ Equal
same_by Less h = cc
same_by Equal h = refl
same_by Greater h = cc

with_by : (own : ℕ) (t : Bool) (k key : Key) (o : Opened) (before : Option Opened) → eq_by_cmp key_cmp key k ≡ t → IsAsked own k → (is_some before ≡ true → IsAsked own key) → is_some (cond t (Some o) before) ≡ true → IsAsked own key
with_by own true k key o before e new asked h =
    subst (IsAsked own) (sym (keys_exact key k (same_by (key_cmp key k) e))) new
with_by own false k key o before e new asked h = asked h

pub asked_with : (own : ℕ) (held : OpenMessages) (k : Key) (o : Opened) → IsAsked own k → AreAsked own held → AreAsked own (finite.insert held k o)
asked_with own held k o new asked key h =
    with_by own (eq_by_cmp key_cmp key k) k key o (finite.get held key) refl new (asked key) (sym (ap is_some (finite.get-insert keys_total held k o key)) ∙ h)

after_by : (own : ℕ) (t : Bool) (held : OpenMessages) (k : Key) (o : Opened) → IsAsked own k → AreAsked own held → AreAsked own (cond t (finite.insert held k o) (finite.remove held k))
after_by own true held k o new asked = asked_with own held k o new asked
after_by own false held k o new asked = asked_without own held k asked

unless_by : (own : ℕ) (fed : Fed) (old new : OpenMessages) → AreAsked own old → AreAsked own new → AreAsked own (unless_whole fed old new)
unless_by own (Whole body) old new before after = before
unless_by own Partial old new before after = after
unless_by own (Dropped reason) old new before after = after

pub asked_after_packet : (own : ℕ) (held : OpenMessages) (p : Packet) → IsAsked own (key_of p) → AreAsked own held → AreAsked own (after_without_ending held p)
asked_after_packet own held p new asked =
    unless_by own (answer held p) held (after held p) asked
    (after_by own (stays_open (answer held p)) held (key_of p) (carried_on (finite.get held (key_of p)) p) new asked)

-- ---- they are few
both : (a b : Bool) → T (a && b) → T a × T b
both true b h = (tt, h)
both false b h = absurd h

apart_by : (r : Ordering) → T (is_lt r) → r ≡ Equal → ⊥
apart_by Less h e = cc
apart_by Equal h e = absurd h
apart_by Greater h e = cc

abbrev number : ℕ → Key → ℕ
number own k = TAGS * place own k.source + k.tag

same_key : (own : ℕ) (j k : Key) → IsEid own → IsAsked own j → IsAsked own k → number own j ≡ number own k → j ≡ k
same_key own j k home one two h =
    let tag : j.tag ≡ k.tag = omega (arith, one.ranges, two.ranges) in
    let places : place own j.source ≡ place own k.source = omega (arith, one.ranges, two.ranges) in
    let source : j.source ≡ k.source = same_place own j.source k.source home one.ranges.0 one.other two.ranges.0 two.other places in
    let owner : j.owner ≡ k.owner = one.owner ∙ sym two.owner in
    λ i. record { source = source i; tag = tag i; owner = owner i }

asked_all : (own : ℕ) (ks : List Key) → ((key : Key) → list_any (eq_by_cmp key_cmp key) ks ≡ true → IsAsked own key) → AllByRecursion (IsAsked own) ks
asked_all own [] h = tt
asked_all own (k ∷ ks) h =
    let itself : eq_by_cmp key_cmp k k ≡ true = ap is_eq (tied_itself keys_total k) in
    (h k (ap (λ t. t || list_any (eq_by_cmp key_cmp k) ks) itself), asked_all own ks (λ key later. h key (either_true (eq_by_cmp key_cmp key k) (list_any (eq_by_cmp key_cmp key) ks) later)))
  where
    either_true : (a b : Bool) → b ≡ true → (a || b) ≡ true
    either_true true b e = refl
    either_true false b e = e

abbrev keys_in : List (Key × Opened) → List Key
keys_in es = map (λ e. e.0) es

numbers_apart : (own : ℕ) (k : Key) (es : List (Key × Opened)) → IsEid own → IsAsked own k → AllByRecursion (IsAsked own) (keys_in es) → T (below_all key_cmp k es) → AllByRecursion (λ n. eqb (number own k) n ≡ false) (map (number own) (keys_in es))
numbers_apart own k [] home is are h = tt
numbers_apart own k (e ∷ es) home is are h =
    let parts = both (is_lt (key_cmp k e.0)) (below_all key_cmp k es) h in
    (ne_eqb (number own k) (number own e.0) (λ same. apart_by (key_cmp k e.0) parts.0 (ap (key_cmp k) (sym (same_key own k e.0 home is are.0 same)) ∙ tied_itself keys_total k)), numbers_apart own k es home is are.1 parts.1)

distinct : (own : ℕ) (es : List (Key × Opened)) → IsEid own → AllByRecursion (IsAsked own) (keys_in es) → T (is_sorted key_cmp es) → IsDistinct eqb (map (number own) (keys_in es))
unfolding IsDistinct
distinct own [] home are h = tt
distinct own (e ∷ es) home are h =
    let parts = both (below_all key_cmp e.0 es) (is_sorted key_cmp es) h in
    (numbers_apart own e.0 es home are.0 are.1 parts.0, distinct own es home are.1 parts.1)

below_by : (t : Bool) (own q : ℕ) (k : Key) (ks : List Key) → (q == number own k) ≡ t → IsEid own → IsAsked own k → (list_any (eqb q) (map (number own) ks) ≡ true → q < MAX_PENDING) → (t || list_any (eqb q) (map (number own) ks)) ≡ true → q < MAX_PENDING
below_by true own q k ks h home is rest any =
    omega (arith, eqb-true q (number own k) h, place_low own k.source home is.ranges.0 is.other, is.ranges)
below_by false own q k ks h home is rest any = rest any

below : (own : ℕ) (ks : List Key) → IsEid own → AllByRecursion (IsAsked own) ks → (q : ℕ) → list_any (eqb q) (map (number own) ks) ≡ true → q < MAX_PENDING
below own [] home h q any = cc
below own (k ∷ ks) home h q any = below_by (q == number own k) own q k ks refl home h.0 (below own ks home h.1 q) any

pub few_pending : (own : ℕ) (held : OpenMessages) → IsEid own → AreAsked own held → finite.len held ≤ MAX_PENDING
few_pending own held home asked =
    let es = finite.entries held in
    let are = asked_all own (keys_in es) (λ key any. asked key (finite.contains_key-keys held key ∙ any)) in
    let few = length-le_from_distinct_below (map (number own) (keys_in es)) MAX_PENDING (distinct own es home are (finite.entries_sorted held)) (below own (keys_in es) home are) in
    rw (finite.len-entries held, ← length-map es (λ (e : Key × Opened). e.0), ← length-map (keys_in es) (number own)) few
