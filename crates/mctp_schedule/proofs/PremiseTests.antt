-- Tests of the premises of the laws, so that a schedule that is written out meets them by computing.
use Rattle.std.proofs.Common.{◌≡◌, ◌≢◌, ℕ, ◌+◌, ◌*◌, ◌<◌, ◌≤◌, List, [], ◌∷◌, length, Option, Some, None, Ok, Err, Bool, true, false, refl, sym, ap, ◌∙◌, subst, ⊎_elim, arith, eq-eqb, eqb-true}
use Rattle.std.specs.Prelude.{Result, not, ◌&&◌, ◌||◌, ◌==◌, is_ok, nat_le, nat_lt}
use Rattle.std.specs.List.{AllByRecursion}
use Rattle.std.proofs.lemmas.Bool.{and_parts, and_from, leb-true, ltb-true, not-true}
use Rattle.mctp_packet.specs.Ids.{IsEid}
use Rattle.mctp_packet.specs.declared.TheConstants.{MAX_MESSAGE_BYTES, MAX_EID, MIN_EID}
use Rattle.mctp_packet.specs.declared.reason.Reason.{Reason}
use Rattle.pldm_wire.specs.Headers.{id_at}
use Rattle.pldm_wire.specs.Requests as requests
use Rattle.pldm_wire.specs.declared.restart_policy.RestartPolicy.TheVariants.{All}
use Rattle.pldm_responder.specs.Performing.{Rules, performed, reply}
use Rattle.pldm_responder.specs.Events.{is_fresh}
use Rattle.mctp_schedule.specs.Logs.{Asked, Happening, Opened, Delivered, Sensed, WentDown, Apart, ComesLate, InOrder, asked_at, count_of, last_of, message_at, moment_of, reached, endpoint_of, AreRested, ComesRested}
use Rattle.mctp_schedule.specs.Timely.{ComesInTime, InTime, IsTimelyLog, is_in_window}
use Rattle.mctp_schedule.specs.FirstArrivals.{has_arrived}
use Rattle.mctp_schedule.specs.OncePerformed.{AreRequests, FitsPackets, RepliesFit}
use Rattle.schedule_text.specs.Schedules.{AreDistinct, AreKnown, IsSchedule, NeverGoBack}
use Rattle.schedule_text.specs.Schedules.{is_known as is_known_text}
use Rattle.mctp_schedule.specs.Worlds.{NeverWentBack, time_now}
use Rattle.schedule_text.specs.declared.step.RequesterLine.{RequesterLine}
use Rattle.mctp_schedule.specs.Actions as actions
use Rattle.mctp_schedule.specs.Actions.{Action, AreOfKinds, IsOfKind, Step, is_known}
use Rattle.schedule_text.specs.declared.step.Step.{Step as TextStep}
use Rattle.mctp_schedule.proofs.ApartByTime.{apart_by_time}
use Rattle.mctp_schedule.proofs.FirstPerformed.{request_opened}

same : (P : Asked → Type 0) (q : Asked) → P q → (r : Asked) → Some q ≡ Some r → P r
same P q x r e = subst P (let y : q ≡ r = cc in y) x

then_so : (b c : Bool) → (not b || c) ≡ true → b ≡ true → c ≡ true
then_so true c e is = e
then_so false c e is = cc

-- ---- of steps
abbrev pub goes_on : List Step → Bool
goes_on [] = true
goes_on (step ∷ past) = nat_le (time_now past) step.moment && goes_on past

pub never_went_back : (steps : List Step) → goes_on steps ≡ true → NeverWentBack steps
never_went_back [] t = tt
never_went_back (step ∷ past) t =
    let parts = and_parts (nat_le (time_now past) step.moment) (goes_on past) t in
    (leb-true (time_now past) step.moment parts.0, never_went_back past parts.1)

abbrev pub all_known : List RequesterLine → List Step → Bool
all_known lines [] = true
all_known lines (step ∷ past) = is_known lines step.action && all_known lines past

pub each_is_known : (lines : List RequesterLine) (steps : List Step) → all_known lines steps ≡ true → AllByRecursion (λ (step : Step). is_known lines step.action ≡ true) steps
each_is_known lines [] t = tt
each_is_known lines (step ∷ past) t =
    let parts = and_parts (is_known lines step.action) (all_known lines past) t in
    (parts.0, each_is_known lines past parts.1)

-- each request that is opened is of a PLDM type that there is
abbrev pub is_of_kind : Action → Bool
is_of_kind (actions.Open e ask) = nat_lt ask.kind.pldm_type 64
is_of_kind _ = true

abbrev pub all_of_kinds : List Step → Bool
all_of_kinds [] = true
all_of_kinds (step ∷ past) = is_of_kind step.action && all_of_kinds past

of_kind : (action : Action) → is_of_kind action ≡ true → IsOfKind action
of_kind (actions.Open e ask) t = ltb-true ask.kind.pldm_type 64 t
of_kind (actions.Tick e) t = tt
of_kind (actions.Request k) t = tt
of_kind (actions.Reply j k) t = tt
of_kind (actions.Busy k) t = tt
of_kind (actions.Sense id value) t = tt
of_kind actions.Restart t = tt

pub are_of_kinds : (steps : List Step) → all_of_kinds steps ≡ true → AreOfKinds steps
are_of_kinds [] t = tt
are_of_kinds (step ∷ past) t =
    let parts = and_parts (is_of_kind step.action) (all_of_kinds past) t in
    (of_kind step.action parts.0, are_of_kinds past parts.1)

-- the same where the oldest step stands first, as in a schedule
abbrev pub goes_forward : ℕ → List TextStep → Bool
goes_forward moment [] = true
goes_forward moment (step ∷ steps) = nat_le moment step.moment && goes_forward step.moment steps

never_go_back : (moment : ℕ) (steps : List TextStep) → goes_forward moment steps ≡ true → NeverGoBack moment steps
never_go_back moment [] t = tt
never_go_back moment (step ∷ steps) t =
    let parts = and_parts (nat_le moment step.moment) (goes_forward step.moment steps) t in
    (leb-true moment step.moment parts.0, never_go_back step.moment steps parts.1)

abbrev pub all_known_text : List RequesterLine → List TextStep → Bool
all_known_text lines [] = true
all_known_text lines (step ∷ steps) = is_known_text lines step.action && all_known_text lines steps

are_known : (lines : List RequesterLine) (steps : List TextStep) → all_known_text lines steps ≡ true → AreKnown lines steps
are_known lines [] t = tt
are_known lines (step ∷ steps) t =
    let parts = and_parts (is_known_text lines step.action) (all_known_text lines steps) t in
    (parts.0, are_known lines steps parts.1)

pub is_schedule : (lines : List RequesterLine) (steps : List TextStep) → AreDistinct lines → goes_forward 0 steps ≡ true → all_known_text lines steps ≡ true → IsSchedule (record { requesters = lines; steps = steps })
is_schedule lines steps distinct forward known = record {
  in_order = never_go_back 0 steps forward;
  distinct = distinct;
  known = are_known lines steps known;
}

-- ---- of a log
abbrev pub in_order : List Happening → Bool
in_order [] = true
in_order (newest ∷ past) = nat_le (last_of past) (moment_of newest) && in_order past

is_in_order : (log : List Happening) → in_order log ≡ true → InOrder log
is_in_order [] t = tt
is_in_order (newest ∷ past) t =
    let parts = and_parts (nat_le (last_of past) (moment_of newest)) (in_order past) t in
    (leb-true (last_of past) (moment_of newest) parts.0, is_in_order past parts.1)

-- r and q do not share a source and an instance ID, or r comes late
abbrev late_after : ℕ → Asked → Asked → Bool
late_after keep r q =
    not (endpoint_of q.source == endpoint_of r.source && id_at q.message == id_at r.message) || nat_le (q.opening + 2 * keep) r.opening

abbrev late : ℕ → Asked → List Happening → Bool
late keep r [] = true
late keep r (Opened q ∷ past) = late_after keep r q && late keep r past
late keep r (Delivered _ _ ∷ past) = late keep r past
late keep r (Sensed _ _ _ ∷ past) = late keep r past
late keep r (WentDown _ ∷ past) = late keep r past

comes_late : (keep : ℕ) (r : Asked) (past : List Happening) → late keep r past ≡ true → ComesLate keep r past
comes_late keep r [] t k p e s i = absurd (cc)
comes_late keep r (Delivered _ _ ∷ past) t k p e s i = comes_late keep r past t k p e s i
comes_late keep r (Sensed _ _ _ ∷ past) t k p e s i = comes_late keep r past t k p e s i
comes_late keep r (WentDown _ ∷ past) t k p e s i = comes_late keep r past t k p e s i
comes_late keep r (Opened q ∷ past) t k p e s i =
    let parts = and_parts (late_after keep r q) (late keep r past) t in
    ⊎_elim
    (λ (x : (k ≡ count_of past) × (q ≡ p)). (
    let pair = and_from (endpoint_of q.source == endpoint_of r.source) (id_at q.message == id_at r.message) (eq-eqb (endpoint_of q.source) (endpoint_of r.source) (ap (λ (o : Asked). endpoint_of o.source) x.1 ∙ s)) (eq-eqb (id_at q.message) (id_at r.message) (ap (λ (o : Asked). id_at o.message) x.1 ∙ i)) in
    subst (λ (o : Asked). o.opening + 2 * keep ≤ r.opening) x.1 (leb-true (q.opening + 2 * keep) r.opening (then_so _ _ parts.0 pair))
    ))
    (λ (x : (k ≢ count_of past) × (asked_at past k ≡ Some p)). comes_late keep r past parts.1 k p x.1 s i)
    (request_opened q past k p e)

abbrev pub apart : ℕ → List Happening → Bool
apart keep [] = true
apart keep (Opened r ∷ past) = late keep r past && apart keep past
apart keep (Delivered _ _ ∷ past) = apart keep past
apart keep (Sensed _ _ _ ∷ past) = apart keep past
apart keep (WentDown _ ∷ past) = apart keep past

are_apart : (keep : ℕ) (log : List Happening) → apart keep log ≡ true → Apart keep log
are_apart keep [] t = tt
are_apart keep (Opened r ∷ past) t =
    let parts = and_parts (late keep r past) (apart keep past) t in
    (comes_late keep r past parts.0, are_apart keep past parts.1)
are_apart keep (Delivered _ _ ∷ past) t = are_apart keep past t
are_apart keep (Sensed _ _ _ ∷ past) t = are_apart keep past t
are_apart keep (WentDown _ ∷ past) t = are_apart keep past t

-- over a device with states S
module _ (S : Type 0) (window keep : ℕ) where
  abbrev comes_in_time : List Happening → ℕ → ℕ → Option Asked → Bool
  comes_in_time past moment k None = true
  comes_in_time past moment k (Some r) =
      nat_lt moment (r.opening + keep) && (not (has_arrived S keep past k) || is_in_window S window keep past r)

  abbrev pub in_time : List Happening → Bool
  in_time [] = true
  in_time (Opened _ ∷ past) = in_time past
  in_time (Sensed _ _ _ ∷ past) = in_time past
  in_time (WentDown _ ∷ past) = in_time past
  in_time (Delivered moment k ∷ past) = comes_in_time past moment k (asked_at past k) && in_time past

  came_in_time : (past : List Happening) (moment k : ℕ) (o : Option Asked) → comes_in_time past moment k o ≡ true → (r : Asked) → o ≡ Some r → ComesInTime S window keep keep past moment k r
  came_in_time past moment k None t r e = absurd (cc)
  came_in_time past moment k (Some q) t r e =
      let parts = and_parts (nat_lt moment (q.opening + keep)) (not (has_arrived S keep past k) || is_in_window S window keep past q) t in
      same (ComesInTime S window keep keep past moment k) q
      (record { soon = ltb-true moment (q.opening + keep) parts.0; in_window = then_so (has_arrived S keep past k) (is_in_window S window keep past q) parts.1 }) r e

  is_in_time : (log : List Happening) → in_time log ≡ true → InTime S window keep keep log
  is_in_time [] t = tt
  is_in_time (Opened _ ∷ past) t = is_in_time past t
  is_in_time (Sensed _ _ _ ∷ past) t = is_in_time past t
  is_in_time (WentDown _ ∷ past) t = is_in_time past t
  is_in_time (Delivered moment k ∷ past) t =
      let parts = and_parts (comes_in_time past moment k (asked_at past k)) (in_time past) t in
      (came_in_time past moment k (asked_at past k) parts.0, is_in_time past parts.1)

  pub timely_log : (log : List Happening) → in_order log ≡ true → apart keep log ≡ true → in_time log ≡ true → IsTimelyLog S window keep keep log
  timely_log log o a i = record {
    order = is_in_order log o;
    apart = apart_by_time S window keep log (are_apart keep log a);
    in_time = is_in_time log i;
    within = omega arith;
  }

-- ---- of the requests
read_as : (read : Result requests.Request Reason) → is_ok read ≡ true → (request : requests.Request) × (read ≡ Ok request)
read_as (Ok request) t = (request, refl)
read_as (Err reason) t = absurd (cc)

abbrev pub all_read : List Happening → Bool
all_read [] = true
all_read (Opened r ∷ past) = is_ok (requests.request_of r.message) && all_read past
all_read (Delivered _ _ ∷ past) = all_read past
all_read (Sensed _ _ _ ∷ past) = all_read past
all_read (WentDown _ ∷ past) = all_read past

pub are_requests : (log : List Happening) → all_read log ≡ true → AreRequests log
are_requests [] t = tt
are_requests (Opened r ∷ past) t =
    let parts = and_parts (is_ok (requests.request_of r.message)) (all_read past) t in
    (read_as (requests.request_of r.message) parts.0, are_requests past parts.1)
are_requests (Delivered _ _ ∷ past) t = are_requests past t
are_requests (Sensed _ _ _ ∷ past) t = are_requests past t
are_requests (WentDown _ ∷ past) t = are_requests past t

-- ---- of their sources
abbrev from_requester : ℕ → Asked → Bool
from_requester device r = nat_le MIN_EID (endpoint_of r.source) && nat_le (endpoint_of r.source) MAX_EID && not ((endpoint_of r.source) == device)

abbrev pub all_from_requesters : ℕ → List Happening → Bool
all_from_requesters device [] = true
all_from_requesters device (Opened r ∷ past) = from_requester device r && all_from_requesters device past
all_from_requesters device (Delivered _ _ ∷ past) = all_from_requesters device past
all_from_requesters device (Sensed _ _ _ ∷ past) = all_from_requesters device past
all_from_requesters device (WentDown _ ∷ past) = all_from_requesters device past

is_from_requester : (device : ℕ) (r : Asked) → from_requester device r ≡ true → IsEid (endpoint_of r.source) × ((endpoint_of r.source) ≢ device)
is_from_requester device r t =
    let parts = and_parts (nat_le MIN_EID (endpoint_of r.source) && nat_le (endpoint_of r.source) MAX_EID) (not ((endpoint_of r.source) == device)) t in
    let ends = and_parts (nat_le MIN_EID (endpoint_of r.source)) (nat_le (endpoint_of r.source) MAX_EID) parts.0 in
    ((leb-true MIN_EID (endpoint_of r.source) ends.0, leb-true (endpoint_of r.source) MAX_EID ends.1), λ same. absurd (let on = eq-eqb (endpoint_of r.source) device same in let off = not-true ((endpoint_of r.source) == device) parts.1 in let wrong : true ≡ false = sym on ∙ off in cc))

pub sources_of : (device : ℕ) (log : List Happening) → all_from_requesters device log ≡ true → (k : ℕ) (r : Asked) → asked_at log k ≡ Some r → IsEid (endpoint_of r.source) × ((endpoint_of r.source) ≢ device)
sources_of device [] t k r e = absurd (cc)
sources_of device (Delivered _ _ ∷ past) t k r e = sources_of device past t k r e
sources_of device (Sensed _ _ _ ∷ past) t k r e = sources_of device past t k r e
sources_of device (WentDown _ ∷ past) t k r e = sources_of device past t k r e
sources_of device (Opened q ∷ past) t k r e =
    let parts = and_parts (from_requester device q) (all_from_requesters device past) t in
    ⊎_elim
    (λ (x : (k ≡ count_of past) × (q ≡ r)). subst (λ (o : Asked). IsEid (endpoint_of o.source) × (endpoint_of o.source ≢ device)) x.1 (is_from_requester device q parts.0))
    (λ (x : (k ≢ count_of past) × (asked_at past k ≡ Some r)). sources_of device past parts.1 k r x.1)
    (request_opened q past k r e)

-- ---- of the replies
abbrev fits : List ℕ → Bool
fits bytes = nat_lt 0 (length bytes) && nat_le (length bytes) MAX_MESSAGE_BYTES

fits_packets : (bytes : List ℕ) → fits bytes ≡ true → FitsPackets bytes
fits_packets bytes t =
    let parts = and_parts (nat_lt 0 (length bytes)) (nat_le (length bytes) MAX_MESSAGE_BYTES) t in
    record { some = ltb-true 0 (length bytes) parts.0; few = leb-true (length bytes) MAX_MESSAGE_BYTES parts.1 }

module _ {S : Type 0} (device : Rules S) (window keep : ℕ) (start : S) where
  abbrev reply_fits : ℕ → List Happening → Option Asked → Bool
  reply_fits moment past None = true
  reply_fits moment past (Some r) =
      not (is_fresh All window keep (reached {S = S} past) (message_at moment r))
      || fits (reply device (performed device All window keep start (reached past)) r.message)

  abbrev pub all_fit : List Happening → Bool
  all_fit [] = true
  all_fit (Opened _ ∷ past) = all_fit past
  all_fit (Sensed _ _ _ ∷ past) = all_fit past
  all_fit (WentDown _ ∷ past) = all_fit past
  all_fit (Delivered moment k ∷ past) = reply_fits moment past (asked_at past k) && all_fit past

  one_fits : (moment : ℕ) (past : List Happening) (o : Option Asked) → reply_fits moment past o ≡ true → (r : Asked) → o ≡ Some r → is_fresh All window keep (reached {S = S} past) (message_at moment r) ≡ true → FitsPackets (reply device (performed device All window keep start (reached past)) r.message)
  one_fits moment past None t r e = absurd (cc)
  one_fits moment past (Some q) t r e =
      same (λ r. is_fresh All window keep (reached {S = S} past) (message_at moment r) ≡ true → FitsPackets (reply device (performed device All window keep start (reached past)) r.message))
      q (λ fresh. fits_packets (reply device (performed device All window keep start (reached past)) q.message) (then_so _ _ t fresh)) r e

  pub replies_fit : (log : List Happening) → all_fit log ≡ true → RepliesFit device window keep start log
  replies_fit [] t = tt
  replies_fit (Opened _ ∷ past) t = replies_fit past t
  replies_fit (Sensed _ _ _ ∷ past) t = replies_fit past t
  replies_fit (WentDown _ ∷ past) t = replies_fit past t
  replies_fit (Delivered moment k ∷ past) t =
      let parts = and_parts (reply_fits moment past (asked_at past k)) (all_fit past) t in
      (one_fits moment past (asked_at past k) parts.0, replies_fit past parts.1)

-- a requester that begins anew rests first
abbrev pub rests : ℕ → Asked → List Happening → Bool
rests keep r [] = true
rests keep r (Opened q ∷ past) =
    (not (endpoint_of q.source == endpoint_of r.source) || (q.source == r.source || (nat_lt q.source r.source && nat_le (q.opening + 2 * keep) r.opening)))
    && rests keep r past
rests keep r (_ ∷ past) = rests keep r past

abbrev pub all_rest : ℕ → List Happening → Bool
all_rest keep [] = true
all_rest keep (Opened r ∷ past) = rests keep r past && all_rest keep past
all_rest keep (_ ∷ past) = all_rest keep past

rests_by : (same own late : Bool) → (not same || (own || late)) ≡ true → same ≡ true → (own ≡ true → ⊥) → late ≡ true
rests_by true true late t s apart = absurd (apart refl)
rests_by true false true t s apart = refl
rests_by true false false t s apart = absurd (cc)
rests_by false own late t s apart = absurd (cc)

comes_rested : (keep : ℕ) (r : Asked) (past : List Happening) → rests keep r past ≡ true → ComesRested keep r past
comes_rested keep r [] t k q is s ne = absurd (cc)
comes_rested keep r (Opened p ∷ past) t k q is s ne =
    let parts = and_parts (not (endpoint_of p.source == endpoint_of r.source) || (p.source == r.source || (nat_lt p.source r.source && nat_le (p.opening + 2 * keep) r.opening))) (rests keep r past) t in
    ⊎_elim
    (λ (x : (k ≡ count_of past) × (p ≡ q)).
    let at : endpoint_of p.source ≡ endpoint_of r.source = ap (λ (o : Asked). endpoint_of o.source) x.1 ∙ s in
    let late = rests_by (endpoint_of p.source == endpoint_of r.source) (p.source == r.source) (nat_lt p.source r.source && nat_le (p.opening + 2 * keep) r.opening) parts.0 (eq-eqb (endpoint_of p.source) (endpoint_of r.source) at) (λ own. ne (ap (λ (o : Asked). o.source) (sym x.1) ∙ eqb-true p.source r.source own)) in
    let both = and_parts (nat_lt p.source r.source) (nat_le (p.opening + 2 * keep) r.opening) late in
    subst (λ (o : Asked). (o.source < r.source) × (o.opening + 2 * keep ≤ r.opening)) x.1 (ltb-true p.source r.source both.0, leb-true (p.opening + 2 * keep) r.opening both.1))
    (λ (x : (k ≢ count_of past) × (asked_at past k ≡ Some q)). comes_rested keep r past parts.1 k q x.1 s ne)
    (request_opened p past k q is)
comes_rested keep r (Delivered moment n ∷ past) t k q is s ne = comes_rested keep r past t k q is s ne
comes_rested keep r (Sensed moment id value ∷ past) t k q is s ne = comes_rested keep r past t k q is s ne
comes_rested keep r (WentDown moment ∷ past) t k q is s ne = comes_rested keep r past t k q is s ne

pub are_rested : (keep : ℕ) (log : List Happening) → all_rest keep log ≡ true → AreRested keep log
are_rested keep [] t = tt
are_rested keep (Opened r ∷ past) t =
    let parts = and_parts (rests keep r past) (all_rest keep past) t in
    (comes_rested keep r past parts.0, are_rested keep past parts.1)
are_rested keep (Delivered moment n ∷ past) t = are_rested keep past t
are_rested keep (Sensed moment id value ∷ past) t = are_rested keep past t
are_rested keep (WentDown moment ∷ past) t = are_rested keep past t
