-- Where a request is refused, so is its packet, and all is as before.
use Rattle.std.specs.FinMap as map
use Rattle.std.proofs.Common.{◌≡◌, ℕ, Bool, true, false, List, [], ◌∷◌, ◌⊎◌, inl, inr, Some, Result, Ok, Err, IfErr, if◌then◌else◌, refl, sym, ap, ◌∙◌, subst}
use Rattle.pldm_wire.specs.HandingOn.{hands_on}
use Rattle.pldm_responder.specs.Arrivals.{Whole, request_packet}
use Rattle.pldm_responder.specs.Looking.{is_past_open, message_at}
use Rattle.pldm_responder.specs.Needs.{NeedsMemory}
use Rattle.pldm_responder.specs.OutsideAnswers.{message_in}
use Rattle.pldm_responder.specs.Performing.{Task, tasks_of}
use Rattle.pldm_responder.specs.Requested.{Requested}
use Rattle.pldm_responder.specs.Steps.{performs, received_arrival}
use Rattle.pldm_responder.proofs.RefusedMemory.{whole_needs}
use Rattle.pldm_endpoint.specs.Receiving.{IsCommanded, IsNotServed, IsRefused}
use Rattle.pldm_endpoint.specs.Refusing.{IsOfMemory, refused_by, refused_request, refused_while}
use Rattle.pldm_endpoint.specs.RequestKeys.{request_key_of}
use Rattle.pldm_endpoint.specs.TwoSteps.{EndpointView, arrival_tasks, held_in}
use Rattle.pldm_endpoint.specs.declared.step.ReceiveRefusal.{ReceiveRefusal}
use Rattle.pldm_endpoint.specs.declared.step.ReceiveRefusal.TheVariants.{OpenMessages}

-- what holds at an error gives what follows from it
pub if_error : {T E : Type 0} {F G : E → Type 0} (r : Result T E) → ((e : E) → F e → G e) → IfErr r F → IfErr r G
if_error (Ok x) gives h = tt
if_error (Err e) gives h = gives e h

module _ (old new : EndpointView) (moment : ℕ) (bytes : List ℕ) (r : Requested)
    (is : Whole (message_at moment r) ≡ received_arrival (held_in old) moment bytes) (closed : is_past_open old.end bytes ≡ false) where
  -- the packet is refused for the reason of its request
  same_reason : refused_while old (message_at moment r) (map.get old.pending (request_key_of (message_at moment r))) ≡ refused_by old moment bytes
  same_reason =
      ap (λ a. refused_request old (message_in a)) is
      ∙ sym (ap (λ t. if t then Some OpenMessages else refused_request old (message_in (received_arrival (held_in old) moment bytes))) closed)

  commanded : performs (held_in old) (message_at moment r) ≡ true → (task : Task) → tasks_of (hands_on old.handed_on) r.bytes ≡ task ∷ [] → arrival_tasks old.handed_on (held_in old) (received_arrival (held_in old) moment bytes) ≡ task ∷ []
  commanded fresh task asked =
      ap (arrival_tasks old.handed_on (held_in old)) (sym is) ∙ ap (λ t. if t then tasks_of (hands_on old.handed_on) r.bytes else []) fresh ∙ asked

  refused_here : (refusal : ReceiveRefusal) → IsNotServed old moment r new refusal → IsRefused old moment bytes new refusal
  refused_here refusal h = record {
    reason = by_reason h.reason;
    memory = λ of_memory.
        let m = h.memory of_memory in
        (sym same_reason ∙ m.0, by_room m.1 m.2);
    same = h.same;
  }
    where
      by_reason : IsOfMemory refusal ⊎ (refused_while old (message_at moment r) (map.get old.pending (request_key_of (message_at moment r))) ≡ Some refusal)
          → IsOfMemory refusal ⊎ (refused_by old moment bytes ≡ Some refusal)
      by_reason (inl of_memory) = inl of_memory
      by_reason (inr because) = inr (sym same_reason ∙ because)

      by_room : performs (held_in old) (message_at moment r) ≡ true → ((held_in old).kept r.source ≡ []) ⊎ ((task : Task) × (tasks_of (hands_on old.handed_on) r.bytes ≡ task ∷ [])) → NeedsMemory (held_in old) true moment bytes ⊎ IsCommanded old moment bytes
      by_room fresh (inl none) = inl (whole_needs (held_in old) true moment (request_packet old.end.own bytes) (message_at moment r) is fresh (λ steady. none))
      by_room fresh (inr asked) = inr (asked.0, commanded fresh asked.0 asked.1)

not_true : (t : Bool) → (t ≡ true → ⊥) → t ≡ false
not_true true h = absurd (h refl)
not_true false h = refl

pub refused_packet : (before old taken new : EndpointView) (moment : ℕ) (bytes : List ℕ) (r : Requested) (refusal : ReceiveRefusal) → before ≡ old → taken ≡ before
    → Whole (message_at moment r) ≡ received_arrival (held_in before) moment bytes → (is_past_open before.end bytes ≡ true → ⊥)
    → IsNotServed taken moment r new refusal → IsRefused old moment bytes new refusal
refused_packet before old taken new moment bytes r refusal view same is closed h =
    subst (λ e. IsRefused e moment bytes new refusal) view
    (refused_here before new moment bytes r is (not_true (is_past_open before.end bytes) closed) refusal (subst (λ e. IsNotServed e moment r new refusal) same h))
