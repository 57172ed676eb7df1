-- What is pending stays with a known request, and what is kept has its answer or is pending.
use Rattle.std.specs.FinMap as map
use Rattle.std.proofs.Common.{◌≡◌, ℕ, ◌+◌, ◌-◌, ◌<◌, ◌≤◌, Bool, true, false, cond, ◌==◌, List, [], length, Option, Some, None, is_some, IfSome, IsSome, if◌then◌else◌, refl, sym, ap, ◌∙◌, subst, arith}
use Rattle.std.specs.Prelude.{slice_index_or, take}
use Rattle.std.specs.List.{All}
use Rattle.std.proofs.lemmas.List.Elements.{All-map}
use Rattle.std.proofs.lemmas.Bool.{and_parts, eq-eqb, eqb-false, eqb-true}
use Rattle.std.proofs.lemmas.Option.{IfSome_then}
use Rattle.std.specs.Cmp.{eq_by_cmp_equiv}
use Rattle.std.specs.Ordering.{eq_by_cmp, is_eq}
use Rattle.std.specs.declared.cmp.Ordering.{Ordering}
use Rattle.std.specs.declared.cmp.Ordering.TheVariants.{Less, Equal, Greater}
use Rattle.mctp_packet.specs.declared.TheConstants.{NULL_EID}
use Rattle.pldm_wire.specs.Headers.{id_at}
use Rattle.pldm_wire.specs.declared.pass_through.PassThrough.{PassThrough}
use Rattle.pldm_responder.specs.Arrivals.{Arrival, Drop, Part, Whole}
use Rattle.pldm_responder.specs.Ends.{End}
use Rattle.pldm_responder.specs.Events.{Message, is_of}
use Rattle.pldm_responder.specs.ResponderStates.{Entry, id_in}
use Rattle.pldm_responder.specs.OutsideAnswers.{message_in}
use Rattle.pldm_responder.specs.Recency.{renewed, replaced}
use Rattle.pldm_responder.specs.Slots.{entry_in, kept_in}
use Rattle.pldm_responder.proofs.KeptEntries.{all_renewed, found_holds}
use Rattle.pldm_endpoint.specs.declared.step.CommandHandle.{CommandHandle}
use Rattle.pldm_endpoint.specs.RequestKeys.{PendingCommands, pending_at, request_key, request_key_cmp, request_key_of, numbered}
use Rattle.pldm_endpoint.specs.TwoSteps.{ArePending, IsThereOrPending, IsWithDevice}
use Rattle.pldm_endpoint.specs.declared.pending_commands.PendingCommand.{PendingCommand}
use Rattle.pldm_endpoint.specs.declared.pending_commands.RequestKey.{RequestKey}
use Rattle.pldm_endpoint.proofs.KeyOrder.{request_keys_exact, request_keys_total}

-- ---- nothing is pending
pub none_pending : (handed : PassThrough) (end : End) (pending : PendingCommands) (count most : ℕ) → pending ≡ map.empty → ((source : ℕ) → kept_in end.rows source ≡ []) → ArePending end handed pending count most
none_pending handed end pending count most is none = record {
  each = λ key. subst (λ o. IfSome o (IsWithDevice handed count key)) (sym (ap (λ m. map.get m key) is ∙ map.get-empty request_key_cmp key)) tt;
  few = subst (λ n. n ≤ most) (sym (ap map.len is ∙ map.len-empty request_key_cmp PendingCommand)) (omega arith);
  kept = λ source. subst (All (IsThereOrPending pending source)) (sym (none source)) (λ k d below. absurd (omega (arith, below)));
}

-- where something is pending, there is an endpoint ID
pub pending_needs_eid : (own : ℕ) (pending : PendingCommands) (handle : CommandHandle) → (own ≡ NULL_EID → pending ≡ map.empty) → IsSome (pending_at pending handle) → own ≡ NULL_EID → ⊥
pending_needs_eid own pending handle none some is =
    none_there (pending_at pending handle) (ap (numbered handle.number) (ap (λ (p : PendingCommands). map.get p (request_key handle.source handle.id)) (none is) ∙ map.get-empty request_key_cmp (request_key handle.source handle.id))) some
  where
    none_there : (o : Option PendingCommand) → o ≡ None → IsSome o → ⊥
    none_there None e h = cc
    none_there (Some a) e h = cc

-- ---- keys that are alike are one
equal_by : (o : Ordering) → is_eq o ≡ true → o ≡ Equal
equal_by Less h = cc
equal_by Equal h = refl
equal_by Greater h = cc

pub one_key : (a b : RequestKey) → eq_by_cmp request_key_cmp a b ≡ true → a ≡ b
one_key a b h = request_keys_exact a b (equal_by (request_key_cmp a b) h)

pub same_key : (m : Message) (key : RequestKey) → is_of m key.source key.id ≡ true → request_key_of m ≡ key
same_key m key h =
    let both = and_parts (m.source == key.source) (id_at m.bytes == key.id) h in
    ap (λ s. request_key s (id_at m.bytes)) (eqb-true m.source key.source both.0)
    ∙ ap (λ i. request_key key.source i) (eqb-true (id_at m.bytes) key.id both.1)

pub whole_is : (a : Arrival) (m : Message) → message_in a ≡ Some m → a ≡ Whole m
whole_is (Drop reason) m h = cc
whole_is Part m h = cc
whole_is (Whole n) m h = cc

-- ---- the end changes
pub pending_over : (handed : PassThrough) (end new : End) (pending : PendingCommands) (count most : ℕ) → ((source : ℕ) → kept_in new.rows source ≡ kept_in end.rows source)
    → ArePending end handed pending count most → ArePending new handed pending count most
pending_over handed end new pending count most same are = record {
  each = are.each;
  few = are.few;
  kept = λ source. subst (All (IsThereOrPending pending source)) (sym (same source)) (are.kept source);
}

all_if : (P : Entry → Type 0) (t : Bool) (window : ℕ) (x : Entry) (kept new : List Entry) → new ≡ (if t then take window (renewed id_in x kept) else kept) → (t ≡ true → P x) → All P kept → All P new
all_if P true window x kept new is here all = subst (All P) (sym is) (all_renewed P window x kept (here refl) all)
all_if P false window x kept new is here all = subst (All P) (sym is) all

-- an answer is kept in front
pub pending_in_front : (handed : PassThrough) (end new : End) (pending : PendingCommands) (count most source window : ℕ) (entry : Entry) → 0 < length entry.answer
    → ((other : ℕ) → kept_in new.rows other ≡ (if source == other then take window (renewed id_in entry (kept_in end.rows other)) else kept_in end.rows other))
    → ArePending end handed pending count most → ArePending new handed pending count most
pending_in_front handed end new pending count most source window entry some kept are = record {
  each = are.each;
  few = are.few;
  kept = λ other. all_if (IsThereOrPending pending other) (source == other) window entry _ _ (kept other) (λ _ none. some) (are.kept other);
}

-- what is kept where nothing is pending is answered
pub free_is_answered : (handed : PassThrough) (end : End) (pending : PendingCommands) (count most source id : ℕ) → ArePending end handed pending count most → map.get pending (request_key source id) ≡ None
    → IfSome (entry_in end.rows source id) (λ e. 0 < length e.answer)
free_is_answered handed end pending count most source id are free =
    only (entry_in end.rows source id) (found_holds (IsThereOrPending pending source) id (kept_in end.rows source) (are.kept source))
  where
    only : (o : Option Entry) → IfSome o (λ e. IsThereOrPending pending source e × (id_in e ≡ id)) → IfSome o (λ e. 0 < length e.answer)
    only None h = tt
    only (Some e) h = h.0 (ap (λ n. map.get pending (request_key source n)) h.1 ∙ free)

-- ---- one more is pending, whose answer is to come
inserted_none : (pending : PendingCommands) (key other : RequestKey) (a : PendingCommand) → map.get (map.insert pending key a) other ≡ None → map.get pending other ≡ None
inserted_none pending key other a none = by_key (eq_by_cmp request_key_cmp other key) (sym (map.get-insert request_keys_total pending key a other) ∙ none)
  where
    by_key : (t : Bool) → cond t (Some a) (map.get pending other) ≡ None → map.get pending other ≡ None
    by_key true h = cc
    by_key false h = h

pub pending_with : (handed : PassThrough) (end new : End) (pending : PendingCommands) (count most window : ℕ) (key : RequestKey) (a : PendingCommand) (waiting : Entry) → IsWithDevice handed (count + 1) key a → id_in waiting ≡ key.id
    → map.get pending key ≡ None → map.len pending < most
    → ((other : ℕ) → kept_in new.rows other ≡ (if key.source == other then take window (renewed id_in waiting (kept_in end.rows other)) else kept_in end.rows other))
    → ArePending end handed pending count most → ArePending new handed (map.insert pending key a) (count + 1) most
pending_with handed end new pending count most window key a waiting here id free room kept are = record {
  each = λ other. subst (λ o. IfSome o (IsWithDevice handed (count + 1) other)) (sym (map.get-insert request_keys_total pending key a other)) (each_by other (eq_by_cmp request_key_cmp other key) refl);
  few = subst (λ n. n ≤ most) (sym (map.len-insert request_keys_total pending key a ∙ ap (λ o. cond (is_some o) (map.len pending) (map.len pending + 1)) free)) (omega (arith, room));
  kept = λ other.
      all_if (IsThereOrPending (map.insert pending key a) other) (key.source == other) window waiting _ _ (kept other)
      (λ is none. absurd (there other is none))
      (λ k d below none. are.kept other k d below (inserted_none pending key _ a none));
}
  where
    each_by : (other : RequestKey) (t : Bool) → eq_by_cmp request_key_cmp other key ≡ t → IfSome (cond t (Some a) (map.get pending other)) (IsWithDevice handed (count + 1) other)
    each_by other true is = subst (λ k. IsWithDevice handed (count + 1) k a) (sym (one_key other key is)) here
    each_by other false is = IfSome_then (map.get pending other) (are.each other) (λ b is. record {
      instance = is.instance;
      task = is.task;
      id = is.id;
      before = omega (arith, is.before);
    })

    there : (other : ℕ) → (key.source == other) ≡ true → map.get (map.insert pending key a) (request_key other (id_in waiting)) ≡ None → ⊥
    there other is none =
        let same : request_key other (id_in waiting) ≡ key = λ i. record { source = sym (eqb-true key.source other is) i; id = id i } in
        let found : map.get (map.insert pending key a) key ≡ Some a = map.get-insert request_keys_total pending key a key ∙ ap (λ t. cond t (Some a) (map.get pending key)) ((eq_by_cmp_equiv request_keys_total).refl key) in
        cc (sym found ∙ ap (map.get (map.insert pending key a)) (sym same) ∙ none)

-- ---- one is no longer pending, and its answer takes the place that it had
removed_none : (pending : PendingCommands) (key other : RequestKey) → (other ≡ key → ⊥) → map.get (map.remove pending key) other ≡ None → map.get pending other ≡ None
removed_none pending key other apart none = by_key (eq_by_cmp request_key_cmp other key) refl (sym (map.get-remove request_keys_total pending key other) ∙ none)
  where
    by_key : (t : Bool) → eq_by_cmp request_key_cmp other key ≡ t → cond t None (map.get pending other) ≡ None → map.get pending other ≡ None
    by_key true is h = absurd (apart (one_key other key is))
    by_key false is h = h

removed_by : (t : Bool) (n most : ℕ) → n ≤ most → cond t (n - 1) n ≤ most
removed_by true n most few = omega (arith, few)
removed_by false n most few = few

pub pending_without : (handed : PassThrough) (end new : End) (pending : PendingCommands) (count most : ℕ) (key : RequestKey) (entry : Entry) → id_in entry ≡ key.id → 0 < length entry.answer
    → ((other : ℕ) → kept_in new.rows other ≡ (if key.source == other then replaced id_in entry (kept_in end.rows other) else kept_in end.rows other))
    → ArePending end handed pending count most → ArePending new handed (map.remove pending key) count most
pending_without handed end new pending count most key entry id some kept are = record {
  each = λ other. subst (λ o. IfSome o (IsWithDevice handed count other)) (sym (map.get-remove request_keys_total pending key other)) (each_by other (eq_by_cmp request_key_cmp other key));
  few = rw (map.len-remove request_keys_total pending key) (removed_by (map.contains_key pending key) (map.len pending) most are.few);
  kept = λ other. subst (All (IsThereOrPending (map.remove pending key) other)) (sym (kept other)) (kept_by other (key.source == other) refl);
}
  where
    each_by : (other : RequestKey) (t : Bool) → IfSome (cond t None (map.get pending other)) (IsWithDevice handed count other)
    each_by other true = tt
    each_by other false = are.each other

    entry_by : (other : ℕ) (y : Entry) (t : Bool) → (id_in y == id_in entry) ≡ t → IsThereOrPending pending other y → IsThereOrPending (map.remove pending key) other (if t then entry else y)
    entry_by other y true is was = λ none. some
    entry_by other y false is was = λ none.
        was (removed_none pending key (request_key other (id_in y)) (λ same. absurd (eqb-false (id_in y) (id_in entry) is (ap (λ (k : RequestKey). k.id) same ∙ sym id))) none)

    kept_by : (other : ℕ) (t : Bool) → (key.source == other) ≡ t → All (IsThereOrPending (map.remove pending key) other) (if t then replaced id_in entry (kept_in end.rows other) else kept_in end.rows other)
    kept_by other true is =
        All-map (IsThereOrPending (map.remove pending key) other) (λ y. if id_in y == id_in entry then entry else y) (kept_in end.rows other)
        (λ k d below. entry_by other (slice_index_or (kept_in end.rows other) k d) (id_in (slice_index_or (kept_in end.rows other) k d) == id_in entry) refl (are.kept other k d below))
    kept_by other false is = λ k d below none.
        are.kept other k d below (removed_none pending key _ (λ same. absurd (eqb-false key.source other is (sym (ap (λ (x : RequestKey). x.source) same)))) none)

-- ---- what was put in is found under its handle
pub just_put : (pending : PendingCommands) (key : RequestKey) (a : PendingCommand) → numbered a.number (map.get (map.insert pending key a) key) ≡ Some a
just_put pending key a =
    ap (numbered a.number) (map.get-insert request_keys_total pending key a key ∙ ap (λ t. cond t (Some a) (map.get pending key)) ((eq_by_cmp_equiv request_keys_total).refl key))
    ∙ ap (λ t. if t then Some a else None) (eq-eqb a.number a.number refl)

pub numbered_is : (number : ℕ) (o : Option PendingCommand) (a : PendingCommand) → numbered number o ≡ Some a → (o ≡ Some a) × (a.number ≡ number)
numbered_is number None a h = cc
numbered_is number (Some b) a h = by_number (b.number == number) refl h
  where
    number_in : Option PendingCommand → ℕ
    number_in None = 0
    number_in (Some x) = x.number

    by_number : (t : Bool) → (b.number == number) ≡ t → (if t then Some b else None) ≡ Some a → (Some b ≡ Some a) × (a.number ≡ number)
    by_number true is h = (h, sym (ap number_in h) ∙ eqb-true b.number number is)
    by_number false is h = cc
