-- The test of a timely schedule holds exactly where it is timely.
use Rattle.std.proofs.Common.{◌≡◌, ℕ, ◌+◌, ◌≤◌, List, [], ◌∷◌, Option, Some, None, Bool, true, false, refl, subst}
use Rattle.std.specs.Prelude.{◌||◌, not, is_some}
use Rattle.std.proofs.lemmas.Bool.{and_parts, and_from, ltb-true, lt-ltb, leb-true, le-leb}
use Rattle.mctp_packet.specs.declared.TheConstants.{TAGS}
use Rattle.mctp_schedule.specs.Laws.{TimelyIsTested}
use Rattle.mctp_schedule.specs.FirstArrivals.{has_arrived}
use Rattle.mctp_schedule.specs.Logs.{Asked, Happening, asked_at}
use Rattle.mctp_schedule.specs.Worlds.{BothEnds, TagIsOwn, World, busy_packet, requests_of, tag_is_own, IsTimely, IsTimelyAction, comes_in_time, is_timely, is_timely_action, reply_packet, world}
use Rattle.mctp_schedule.specs.Timely.{ComesInTime, is_in_window}
use Rattle.mctp_schedule.specs.Actions.{Action}
use Rattle.mctp_schedule.specs.Actions.{Open, Tick, Request, Reply, Sense, Restart, Busy}
use Rattle.mctp_schedule.specs.Actions.{Step}

same : (P : Asked → Type 0) (q : Asked) → P q → (r : Asked) → Some q ≡ Some r → P r
same P q x r e = subst P (let y : q ≡ r = cc in y) x

module _ {S : Type 0} (setting : BothEnds S) where
  within_holds : (came within : Bool) → (not came || within) ≡ true → came ≡ true → within ≡ true
  within_holds true within t c = t
  within_holds false within t c = absurd (cc)

  within_tested : (came within : Bool) → (came ≡ true → within ≡ true) → (not came || within) ≡ true
  within_tested true within h = h refl
  within_tested false within h = refl

  in_time_holds : (log : List Happening) (moment k : ℕ) (o : Option Asked) → comes_in_time setting log moment k o ≡ true → (r : Asked) → o ≡ Some r → ComesInTime S setting.window setting.keep setting.pace.lifetime log moment k r
  in_time_holds log moment k None t r e = absurd (cc)
  in_time_holds log moment k (Some q) t r e =
      let parts = and_parts _ _ t in
      same (ComesInTime S setting.window setting.keep setting.pace.lifetime log moment k) q
      (record {
        soon = ltb-true moment (q.opening + setting.pace.lifetime) parts.0;
        in_window = within_holds (has_arrived S setting.keep log k) (is_in_window S setting.window setting.keep log q) parts.1;
      }) r e

  in_time_tested : (log : List Happening) (moment k : ℕ) (o : Option Asked) → ((r : Asked) → o ≡ Some r → ComesInTime S setting.window setting.keep setting.pace.lifetime log moment k r) → comes_in_time setting log moment k o ≡ true
  in_time_tested log moment k None h = refl
  in_time_tested log moment k (Some q) h =
      and_from _ _ (lt-ltb moment (q.opening + setting.pace.lifetime) (h q refl).soon)
      (within_tested (has_arrived S setting.keep log k) (is_in_window S setting.window setting.keep log q) (h q refl).in_window)

  own_holds : (w : World) (o : Option Asked) → tag_is_own setting w o ≡ true → (r : Asked) → o ≡ Some r → (requests_of setting w r.source).count ≤ r.own + TAGS
  own_holds w None t r e = absurd (cc)
  own_holds w (Some q) t r e = same (λ r. (requests_of setting w r.source).count ≤ r.own + TAGS) q (leb-true (requests_of setting w q.source).count (q.own + TAGS) t) r e

  own_tested : (w : World) (o : Option Asked) → ((r : Asked) → o ≡ Some r → (requests_of setting w r.source).count ≤ r.own + TAGS) → tag_is_own setting w o ≡ true
  own_tested w None h = refl
  own_tested w (Some q) h = le-leb (requests_of setting w q.source).count (q.own + TAGS) (h q refl)

  packet_holds : (w : World) (k : ℕ) (o : Option (List ℕ)) → (not (is_some o) || tag_is_own setting w (asked_at w.log k)) ≡ true → (bytes : List ℕ) → o ≡ Some bytes → TagIsOwn setting w k
  packet_holds w k None t bytes e = absurd (cc)
  packet_holds w k (Some packet) t bytes e = own_holds w (asked_at w.log k) t

  packet_tested : (w : World) (k : ℕ) (o : Option (List ℕ)) → ((bytes : List ℕ) → o ≡ Some bytes → TagIsOwn setting w k) → (not (is_some o) || tag_is_own setting w (asked_at w.log k)) ≡ true
  packet_tested w k None h = refl
  packet_tested w k (Some packet) h = own_tested w (asked_at w.log k) (h packet refl)

  action_holds : (w : World) (moment : ℕ) (action : Action) → is_timely_action setting w moment action ≡ true → IsTimelyAction setting w moment action
  action_holds w moment (Request k) t = in_time_holds w.log moment k (asked_at w.log k) t
  action_holds w moment (Reply j k) t = packet_holds w k (reply_packet setting w k j) t
  action_holds w moment (Busy k) t = packet_holds w k (busy_packet setting w k) t
  action_holds w moment (Open e ask) t = tt
  action_holds w moment (Tick e) t = tt
  action_holds w moment (Sense id value) t = tt
  action_holds w moment Restart t = tt

  action_tested : (w : World) (moment : ℕ) (action : Action) → IsTimelyAction setting w moment action → is_timely_action setting w moment action ≡ true
  action_tested w moment (Request k) h = in_time_tested w.log moment k (asked_at w.log k) h
  action_tested w moment (Reply j k) h = packet_tested w k (reply_packet setting w k j) h
  action_tested w moment (Busy k) h = packet_tested w k (busy_packet setting w k) h
  action_tested w moment (Open e ask) h = refl
  action_tested w moment (Tick e) h = refl
  action_tested w moment (Sense id value) h = refl
  action_tested w moment Restart h = refl

  timely : (steps : List Step) → is_timely setting steps ≡ true → IsTimely setting steps
  timely [] t = tt
  timely (step ∷ past) t =
      let parts = and_parts (is_timely_action setting (world setting past) step.moment step.action) (is_timely setting past) t in
      (action_holds (world setting past) step.moment step.action parts.0, timely past parts.1)

  tested : (steps : List Step) → IsTimely setting steps → is_timely setting steps ≡ true
  tested [] h = refl
  tested (step ∷ past) h =
      and_from (is_timely_action setting (world setting past) step.moment step.action) (is_timely setting past) (action_tested (world setting past) step.moment step.action h.0) (tested past h.1)

  pub timely_is_tested : TimelyIsTested setting
  timely_is_tested steps = (timely steps, tested steps)
