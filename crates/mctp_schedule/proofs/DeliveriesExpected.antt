-- Each delivery over a timely log: what it finds, what it changes, and what it is given.
use Rattle.std.proofs.Common.{◌≡◌, ℕ, ◌+◌, ◌*◌, ◌<◌, ◌≤◌, ◌∷◌, Some, None, Option, Bool, true, false, refl, sym, ap, ◌∙◌, subst, ⊎_elim, arith}
use Rattle.std.specs.Prelude.{not, ◌&&◌, bytes_eq, is_some, nat_lt, if◌then◌else◌}
use Rattle.std.proofs.lemmas.Bool.{and_left, and_parts, not_from_true, ltb-true, cond-true, cond-false}
use Rattle.std.proofs.lemmas.Slice.Eq.{bytes_eq-Decides}
use Rattle.pldm_wire.specs.Headers.{id_at}
use Rattle.pldm_responder.specs.Arrivals.{packets_back}
use Rattle.pldm_responder.specs.Events.{Message, is_busy, is_copy}
use Rattle.pldm_responder.specs.Performing.{Rules, changes, performed}
use Rattle.pldm_responder.specs.declared.outcome.Outcome.{Outcome}
use Rattle.pldm_responder.specs.declared.outcome.Outcome.TheVariants.{Answered}
use Rattle.mctp_schedule.specs.Logs.{Asked, Delivered, asked_at, message_at, with_reached, reached, endpoint_of}
use Rattle.mctp_schedule.specs.FirstArrivals.{first, is_first}
use Rattle.mctp_schedule.specs.OncePerformed.{once, the_reply, delivery_expected}
use Rattle.mctp_schedule.proofs.SameOverAnyState.{same_busy, same_first, same_is_first, same_fresh, same_apart, same_in_time, same_origin}
use Rattle.mctp_schedule.proofs.FirstPerformed.{is_first_of, apart, opened_before, copies, holds, entry}
use Rattle.mctp_schedule.proofs.FreshOrder.{idle_device, order_is}
use Rattle.pldm_responder.specs.Calls.{answer_expected}
use Rattle.mctp_schedule.specs.DeviceHalf.{NoneOpenedSince, FreshInOrderOfFirsts, FreshWhereFirst, StateIsOnce, DeliveryIsExpected, NotPerformedAgain, GivenIsTheReply, TheReplyFits}
use Rattle.mctp_schedule.proofs.FittingReplies.{reply_fits}
use Rattle.mctp_schedule.proofs.LatestFreshMessages.{performed_stays}
use Rattle.mctp_schedule.proofs.OneReplyGiven.{given_is}
use Rattle.pldm_wire.specs.declared.restart_policy.RestartPolicy.TheVariants.{All}

pub none_opened_since : {S : Type 0} → NoneOpenedSince S
none_opened_since {S} window keep lifetime past moment k j r q timely e f ne s i =
    let before = opened_before past timely.order.1 j q f in
    let later = timely.order.0 in
    let soon = (timely.in_time.0 r e).soon in
    ⊎_elim
    (λ (y : r.opening + 2 * lifetime ≤ q.opening). absurd (omega arith))
    (λ (y : q.opening + 2 * lifetime ≤ r.opening). y)
    (apart S window keep lifetime past timely.apart k j r q e f ne s i)

pub fresh_in_order_of_firsts : {S : Type 0} → FreshInOrderOfFirsts S
fresh_in_order_of_firsts {S} window keep lifetime log timely = order_is S window keep lifetime timely.within log timely.order timely.apart timely.in_time

not_not : (b : Bool) → not (not b) ≡ b
not_not true = refl
not_not false = refl

-- a message that is not busy is a copy exactly where it is not fresh
copy_is : (busy copy fresh : Bool) → busy ≡ false → (not busy && not copy) ≡ fresh → copy ≡ not fresh
copy_is busy copy fresh idle e = sym (not_not copy) ∙ ap not (sym (ap (λ b. not b && not copy) idle) ∙ e)

pub fresh_where_first : {S : Type 0} → FreshWhereFirst S
fresh_where_first {S} window keep lifetime past moment k r timely e idle =
    let served = same_busy ℕ S keep past moment ∙ idle in
    let in_time = same_in_time S ℕ window keep lifetime (Delivered moment k ∷ past) timely.in_time in
    let apart_ = same_apart S ℕ window keep lifetime past timely.apart in
    let x = entry idle_device window keep lifetime timely.within 0 past moment k r timely.order apart_ in_time e served in
    let is = same_fresh S ℕ window keep past (message_at moment r) ∙ x.0 ∙ same_is_first ℕ S keep past moment k in (
      is,
      copy_is (is_busy keep (reached {S = S} past) moment) (is_copy All window keep (reached {S = S} past) (message_at moment r)) (is_first S keep past moment k) idle is,
      λ place came. (
          let c = copies idle_device window keep lifetime timely.within 0 past moment k r place (holds idle_device window keep lifetime timely.within 0 past timely.order.1 apart_ in_time.1) timely.order.0 (in_time.0 r e).soon ((in_time.0 r e).in_window (ap is_some (same_first ℕ S keep past k ∙ came))) e served (same_first ℕ S keep past k ∙ came) in
          let q = same_origin S ℕ window keep past (endpoint_of r.source) (id_at r.message) c.0 c.1 in
          let parts = and_parts (bytes_eq r.message c.0.message.bytes) (nat_lt moment (c.0.message.moment + keep)) c.2 in (
            q.0,
            q.1,
            ap (λ (m : Message). m.bytes) q.2 ∙ sym ((bytes_eq-Decides r.message c.0.message.bytes).0 parts.0),
            subst (λ (m : Message). moment < m.moment + keep) (sym q.2) (ltb-true moment (c.0.message.moment + keep) parts.1),
          )
          ),
    )

module _ {S : Type 0} (device : Rules S) where
  pub state_is_once : StateIsOnce device
  state_is_once window keep lifetime start log timely = (holds device window keep lifetime timely.within start log timely.order timely.apart timely.in_time).same

  pub given_is_the_reply : GivenIsTheReply device
  given_is_the_reply window keep lifetime start log k timely = given_is device window keep lifetime timely.within start log timely.order timely.apart timely.in_time k

  pub the_reply_fits : TheReplyFits device
  the_reply_fits window keep lifetime start log k place timely fit came = reply_fits device window keep lifetime timely.within start log timely.order timely.apart timely.in_time fit k place came

  pub not_performed_again : NotPerformedAgain device
  not_performed_again window keep lifetime start past moment k place timely came = go (asked_at past k) refl (is_busy keep (reached {S = S} past) moment) refl
    where
      go : (o : Option Asked) → asked_at past k ≡ o → (b : Bool) → is_busy keep (reached {S = S} past) moment ≡ b → performed device All window keep start (with_reached moment (asked_at past k) (reached {S = S} past)) ≡ performed device All window keep start (reached past)
      go None e b busy = ap (λ o. performed device All window keep start (with_reached moment o (reached {S = S} past))) e
      go (Some r) e true busy =
          ap (λ o. performed device All window keep start (with_reached moment o (reached {S = S} past))) e
          ∙ performed_stays device window keep start (reached {S = S} past) (message_at moment r) (and_left (not (is_busy keep (reached {S = S} past) moment)) (not (is_copy All window keep (reached {S = S} past) (message_at moment r))) (not_from_true _ busy))
      go (Some r) e false idle =
          let x = entry device window keep lifetime timely.within start past moment k r timely.order timely.apart timely.in_time e idle in
          let later : is_first S keep past moment k ≡ false = ap (λ o. is_first_of o (first S keep past k) (is_busy keep (reached {S = S} past) moment)) e ∙ ap (λ f. is_first_of (Some r) f (is_busy keep (reached {S = S} past) moment)) came in
          ap (λ o. performed device All window keep start (with_reached moment o (reached {S = S} past))) e
          ∙ performed_stays device window keep start (reached {S = S} past) (message_at moment r) (x.0 ∙ later)

  turned : (b : Bool) (x y : Outcome) → (if not b then x else y) ≡ (if b then y else x)
  turned true x y = refl
  turned false x y = refl

  pub delivery_is_expected : DeliveryIsExpected device
  delivery_is_expected own window keep lifetime start past moment k r timely e = go (is_busy keep (reached {S = S} past) moment) refl
    where
      go : (b : Bool) → is_busy keep (reached {S = S} past) moment ≡ b → answer_expected device own All window keep start (reached past) (message_at moment r) ≡ delivery_expected device keep start own past moment k r
      go true busy = cond-true (is_busy keep (reached {S = S} past) moment) _ _ busy ∙ sym (cond-true (is_busy keep (reached {S = S} past) moment) _ _ busy)
      go false idle =
          let x = entry device window keep lifetime timely.within start past moment k r timely.order timely.apart timely.in_time e idle in
          let copy = copy_is (is_busy keep (reached {S = S} past) moment) (is_copy All window keep (reached {S = S} past) (message_at moment r)) (is_first S keep past moment k) idle x.0 in
          let same = (holds device window keep lifetime timely.within start past timely.order.1 timely.apart timely.in_time.1).same in
          cond-false (is_busy keep (reached {S = S} past) moment) _ _ idle
          ∙ (λ s. if copy s then Answered false false (packets_back own (message_at moment r) (x.1 s)) else Answered true (changes device (same s) r.message) (packets_back own (message_at moment r) (x.1 s)))
          ∙ turned (is_first S keep past moment k) (Answered false false (packets_back own (message_at moment r) (the_reply device keep start (Delivered moment k ∷ past) k))) (Answered true (changes device (once device keep start past) r.message) (packets_back own (message_at moment r) (the_reply device keep start (Delivered moment k ∷ past) k)))
          ∙ sym (cond-false (is_busy keep (reached {S = S} past) moment) _ _ idle)
