-- What holds of each answer that is kept: of the one that is found, and after each change.
use Rattle.std.proofs.Common.{◌≡◌, ◌≢◌, ℕ, suc, ◌+◌, ◌*◌, ◌<◌, ◌≤◌, Bool, true, false, not, ◌&&◌, ◌==◌, List, [], ◌∷◌, length, Option, Some, None, is_some, IfSome, if◌then◌else◌, refl, sym, ap, subst, ◌∙◌, arith, eqb-true}
use Rattle.std.specs.Prelude.{take}
use Rattle.std.specs.List.{All}
use Rattle.std.proofs.lemmas.List.Elements.{All-take, All-filter, All-cons}
use Rattle.mctp_packet.specs.Ids.{IsEid}
use Rattle.pldm_wire.specs.declared.assigned.TheConstants.{INSTANCE_IDS}
use Rattle.mctp_packet.specs.declared.TheConstants.{MAX_MESSAGE_BYTES}
use Rattle.pldm_responder.specs.Counts.{CountsKept}
use Rattle.pldm_responder.specs.Events.{Message}
use Rattle.pldm_responder.specs.ResponderStates.{Entry, ResponderState, id_in}
use Rattle.pldm_responder.specs.Looking.{IsReply, standing}
use Rattle.pldm_responder.specs.Recency.{of_number, renewed}
use Rattle.pldm_responder.specs.Slots.{Answers, AreKept, AreKeptTo, IsKept, Rows, answers_in, entry_in, row_of}
use Rattle.pldm_responder.specs.Steps.{entry_for, performs, refuses_now, repeats}
use Rattle.pldm_responder.specs.declared.answering_end.TheConstants.{MAX_KEPT}
use Rattle.pldm_responder.specs.declared.arriving.RequestClass.{RequestClass}
use Rattle.pldm_responder.specs.declared.arriving.RequestClass.TheVariants.{Busy, Copy, Fresh}
use Rattle.pldm_responder.proofs.CountedPairs.{few_pairs}
use Rattle.pldm_responder.proofs.FewSources.{place, place_low, same_place}

-- ---- each of a list
first_of : {X : Type 0} (P : X → Type 0) (x : X) (xs : List X) → All P (x ∷ xs) → P x
first_of P x xs all = all 0 x (omega arith)

rest_of : {X : Type 0} (P : X → Type 0) (x : X) (xs : List X) → All P (x ∷ xs) → All P xs
rest_of P x xs all = λ k d below. all (suc k) d (omega (arith, below))

-- what is found
pub found_holds : (P : Entry → Type 0) (id : ℕ) (xs : List Entry) → All P xs → IfSome (of_number id_in id xs) (λ e. P e × (id_in e ≡ id))
found_holds P id [] all = tt
found_holds P id (x ∷ xs) all = by_id (id_in x == id) refl (found_holds P id xs (rest_of P x xs all))
  where
    by_id : (t : Bool) → (id_in x == id) ≡ t → IfSome (of_number id_in id xs) (λ e. P e × (id_in e ≡ id)) → IfSome (if t then Some x else of_number id_in id xs) (λ e. P e × (id_in e ≡ id))
    by_id true is later = (first_of P x xs all, eqb-true (id_in x) id is)
    by_id false is later = later

-- one is put in front
pub all_renewed : (P : Entry → Type 0) (window : ℕ) (x : Entry) (xs : List Entry) → P x → All P xs → All P (take window (renewed id_in x xs))
all_renewed P window x xs here all = All-take P window _ (All-cons P x _ here (All-filter _ P xs all))

pub all_where : (P : Entry → Type 0) (t : Bool) (window : ℕ) (x : Entry) (kept before new : List Entry) → new ≡ (if t then take window (renewed id_in x before) else before) → before ≡ kept
    → P x → All P kept → All P new
all_where P true window x kept before new is same here all = subst (All P) (sym (is ∙ ap (λ xs. take window (renewed id_in x xs)) same)) (all_renewed P window x kept here all)
all_where P false window x kept before new is same here all = subst (All P) (sym (is ∙ same)) all

-- ---- the answer to a copy has bytes
copy_by : (t : Bool) (keep : ℕ) (m : Message) (o : Option Entry) (reply : List ℕ) → Copy ≡ (if t then Busy else (if repeats keep m o then Copy else Fresh)) → IfSome o (λ e. reply ≡ e.answer) → IfSome o (λ e. 0 < length e.answer) → 0 < length reply
copy_by true keep m o reply is same some = cc
copy_by false keep m None reply is same some = cc
copy_by false keep m (Some e) reply is same some = subst (λ bytes. 0 < length bytes) (sym same) some

pub reply_has_bytes : {S : Type 0} (held : ResponderState S) (m : Message) (reply : List ℕ) (is : RequestClass) → is ≡ standing held m → IsReply held m reply is → IfSome (entry_for held m) (λ e. 0 < length e.answer) → (is ≡ Fresh → ⊥) → 0 < length reply
reply_has_bytes held m reply Busy is made some done = made.1
reply_has_bytes held m reply Copy is made some done = copy_by (refuses_now held m) held.keep m (entry_for held m) reply is made some
reply_has_bytes held m reply Fresh is made some done = absurd (done refl)

-- ---- what is kept is for another endpoint, and small
pub all_answered : (P : Entry → Type 0) (id : ℕ) (xs : List Entry) → All P xs → IfSome (of_number id_in id xs) P
all_answered P id xs all = only (of_number id_in id xs) (found_holds P id xs all)
  where
    only : (o : Option Entry) → IfSome o (λ e. P e × (id_in e ≡ id)) → IfSome o P
    only None h = tt
    only (Some e) h = h.0

kept_by : (window source id : ℕ) (o : Option Answers) → IfSome o (AreKeptTo window source) → IfSome (of_number id_in id (answers_in o)) (λ e. IsKept e × (id_in e ≡ id))
kept_by window source id None are = tt
kept_by window source id (Some answers) are = found_holds IsKept id answers.kept are.each

pub is_small : (rows : Rows) → AreKept rows → (source id : ℕ) → IfSome (entry_in rows source id) (λ e. length e.answer ≤ MAX_MESSAGE_BYTES)
is_small rows are source id = only (entry_in rows source id) (kept_by rows.window source id (row_of rows source) (are.each source))
  where
    only : (o : Option Entry) → IfSome o (λ e. IsKept e × (id_in e ≡ id)) → IfSome o (λ e. length e.answer ≤ MAX_MESSAGE_BYTES)
    only None h = tt
    only (Some e) h = h.0.few

module _ (rows : Rows) (are : AreKept rows) where
  pair_by : (source id : ℕ) (o : Option Answers) → IfSome o (AreKeptTo rows.window source) → is_some (of_number id_in id (answers_in o)) ≡ true → IsEid source × (id < INSTANCE_IDS)
  pair_by source id None is some = cc
  pair_by source id (Some answers) is some = (is.endpoint, small (of_number id_in id answers.kept) (found_holds IsKept id answers.kept is.each) some)
    where
      small : (o : Option Entry) → IfSome o (λ e. IsKept e × (id_in e ≡ id)) → is_some o ≡ true → id < INSTANCE_IDS
      small None h some = cc
      small (Some e) h some = subst (λ n. n < INSTANCE_IDS) h.1 h.0.instance

  kept_pair : (source id : ℕ) → is_some (entry_in rows source id) ≡ true → IsEid source × (id < INSTANCE_IDS)
  kept_pair source id some = pair_by source id (row_of rows source) (are.each source) some

  module _ (own : ℕ) (home : IsEid own) (others : row_of rows own ≡ None) where
    other_source : (source id : ℕ) → is_some (entry_in rows source id) ≡ true → source ≢ own
    other_source source id some same = cc (sym some ∙ ap (λ s. is_some (entry_in rows s id)) same ∙ ap (λ o. is_some (of_number id_in id (answers_in o))) others)

    pub few_for_others : (count : ℕ) → CountsKept (entry_in rows) count → count ≤ MAX_KEPT
    few_for_others count counts =
        few_pairs (λ source id. is_some (entry_in rows source id)) (λ source id. INSTANCE_IDS * place own source + id) MAX_KEPT
        (λ source id some. omega (arith, kept_pair source id some, place_low own source home (kept_pair source id some).0 (other_source source id some)))
        (λ s i t j one other. λ same.
        let places : place own s ≡ place own t = omega (arith, kept_pair s i one, kept_pair t j other) in
        (same_place own s t home (kept_pair s i one).0 (other_source s i one) (kept_pair t j other).0 (other_source t j other) places, omega (arith, kept_pair s i one, kept_pair t j other)))
        count counts

-- ---- what stands to be performed
fresh_by : (t u : Bool) → (not t && not u) ≡ true → (if t then Busy else (if u then Copy else Fresh)) ≡ Fresh
fresh_by true u h = cc
fresh_by false true h = cc
fresh_by false false h = refl

performs_by : (t u : Bool) → Fresh ≡ (if t then Busy else (if u then Copy else Fresh)) → (not t && not u) ≡ true
performs_by true u h = cc
performs_by false true h = cc
performs_by false false h = refl

pub not_performed : {S : Type 0} (held : ResponderState S) (m : Message) (is : RequestClass) → is ≡ standing held m → (is ≡ Fresh → ⊥) → performs held m ≡ true → ⊥
not_performed held m is told done performed = done (told ∙ fresh_by (refuses_now held m) (repeats held.keep m (entry_for held m)) performed)

pub fresh_is_performed : {S : Type 0} (held : ResponderState S) (m : Message) (is : RequestClass) → is ≡ standing held m → is ≡ Fresh → performs held m ≡ true
fresh_is_performed held m is told fresh = performs_by (refuses_now held m) (repeats held.keep m (entry_for held m)) (sym fresh ∙ told)
