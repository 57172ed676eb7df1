-- What each step has performed: a delivery that is fresh the command of its request, any other step none. Over a timely
-- log that is each request's command once, at its first arrival.
use Rattle.std.proofs.Common.{◌≡◌, ℕ, Bool, true, false, List, [], ◌∷◌, ◌++◌, Option, Some, None, refl, sym, ap, ◌∙◌, ◌≢◌, subst}
use Rattle.std.specs.Prelude.{not, ◌&&◌, if◌then◌else◌}
use Rattle.mctp_packet.specs.Ids.{IsEid}
use Rattle.pldm_wire.specs.declared.restart_policy.RestartPolicy.TheVariants.{All}
use Rattle.mctp_packet.specs.Laws.{SpelledIsReadFor, WrittenSpells}
use Rattle.mctp_assembly.specs.Steps as assembly
use Rattle.pldm_responder.specs.Arrivals.{Whole, arrival}
use Rattle.pldm_responder.specs.Events.{is_busy, is_copy, is_fresh}
use Rattle.pldm_responder.specs.ResponderStates.{ResponderState}
use Rattle.pldm_responder.specs.Performing.{commands_of}
use Rattle.pldm_responder.specs.ResponderViews.{held_of}
use Rattle.pldm_responder.specs.Steps.{arrival_commands, performs, received_arrival, received_commands}
use Rattle.mctp_schedule.specs.Askers.{packet_bytes}
use Rattle.mctp_schedule.specs.DeviceHalf.{FreshWhereFirst}
use Rattle.mctp_schedule.specs.FirstArrivals.{first, fresh_of}
use Rattle.mctp_schedule.specs.HeldRuns.{HeldRun}
use Rattle.mctp_schedule.specs.Logs.{Asked, Happening, Opened, Delivered, Sensed, WentDown, asked_at, message_at, reached, endpoint_of}
use Rattle.mctp_schedule.specs.Timely.{IsTimelyLog}
use Rattle.mctp_schedule.specs.PerformedCommands.{commands_at_delivery, commands_at_step, commands_if, commands_once, commands_performed}
use Rattle.mctp_schedule.specs.Running.{IsRunning, answer_action, device_calls}
use Rattle.mctp_schedule.specs.Worlds.{BothEnds, World, done, handed, world}
use Rattle.mctp_schedule.specs.Actions.{Action}
use Rattle.mctp_schedule.specs.Actions as actions
use Rattle.mctp_schedule.specs.Actions.{Step}
use Rattle.mctp_schedule.proofs.DeliveryChanges.{brings_message, held_whole}
use Rattle.mctp_schedule.proofs.AfterDelivery.{performs_is}
use Rattle.mctp_schedule.proofs.FirstPerformed.{is_first_of}
use Rattle.mctp_schedule.proofs.RestedRequesters.{first_there}

-- ---- a step adds its commands
opened_or_not : (S : Type 0) (window keep : ℕ) (accepted : Bool) (r : Asked) (log : List Happening)
    → commands_performed S window keep (if accepted then Opened r ∷ log else log) ≡ commands_performed S window keep log
opened_or_not S window keep true r log = refl
opened_or_not S window keep false r log = refl

handed_log : {S : Type 0} (setting : BothEnds S) (w : World) (moment e : ℕ) (packet : Option (List ℕ))
    → (handed setting w moment e packet).log ≡ w.log
handed_log setting w moment e None = refl
handed_log setting w moment e (Some bytes) = refl

module _ {S : Type 0} (setting : BothEnds S) where
  pub commands_added : (w : World) (moment : ℕ) (action : Action)
      → commands_performed S setting.window setting.keep (done setting w moment action).log
      ≡ commands_at_step S setting.window setting.keep w.log moment action ++ commands_performed S setting.window setting.keep w.log
  commands_added w moment (actions.Open e ask) = opened_or_not S setting.window setting.keep _ _ w.log
  commands_added w moment (actions.Tick e) = refl
  commands_added w moment (actions.Request k) = refl
  commands_added w moment (actions.Reply j k) = ap (commands_performed S setting.window setting.keep) (handed_log setting w moment _ _)
  commands_added w moment (actions.Sense id value) = refl
  commands_added w moment actions.Restart = refl
  commands_added w moment (actions.Busy k) = ap (commands_performed S setting.window setting.keep) (handed_log setting w moment _ _)

pub answers_perform_none : (S : Type 0) (window keep : ℕ) (log : List Happening) (moment k packet : ℕ) (busy : Bool)
    → commands_at_step S window keep log moment (answer_action busy k packet) ≡ []
answers_perform_none S window keep log moment k packet true = refl
answers_perform_none S window keep log moment k packet false = refl

-- ---- a delivery performs what is fresh
chosen : (b : Bool) (r : Asked) → (if b then commands_of r.message else []) ≡ commands_if b (Some r)
chosen true r = refl
chosen false r = refl

module _ {P S : Type 0} (setting : BothEnds S) (past : List Step) (run : HeldRun P S) (running : IsRunning setting past run) where
  abbrev log : List Happening
  log = (world setting past).log

  abbrev held : ResponderState S
  held = held_of run.responder

  module _ (moment n : ℕ) (r : Asked) (is : asked_at log n ≡ Some r) (bytes : List ℕ) (packet_is : bytes ≡ packet_bytes (endpoint_of r.source) setting.eid r.own r.message) (spells : WrittenSpells) (read_for : SpelledIsReadFor) where
    arrival_is : received_arrival held moment bytes ≡ Whole (message_at moment r)
    arrival_is =
        let opened = running.opened n r is in
        let side = running.sides r.source opened.source in
        let first = first_there r.source side.2.endpoint in
        ap (λ own. arrival (assembly.answer held.open_messages) own moment bytes) running.device.left.endpoint
        ∙ ap (arrival (assembly.answer held.open_messages) setting.eid moment) packet_is
        ∙ brings_message spells read_for (assembly.answer held.open_messages) setting.eid moment r opened.readable.0 running.device.endpoint (subst IsEid (sym first) side.2.endpoint) (subst (λ d. d ≢ setting.eid) (sym first) side.2.other) opened.some opened.few opened.readable.1 (held_whole held.open_messages setting.eid r)

    fresh_is : performs held (message_at moment r) ≡ is_fresh All setting.window setting.keep (reached {S = S} log) (message_at moment r)
    fresh_is =
        performs_is setting.device setting.eid setting.window setting.keep setting.start held (device_calls setting.eid log) running.device.left (message_at moment r)
        ∙ ap (λ es. is_fresh All setting.window setting.keep es (message_at moment r)) running.device.events

    pub delivery_performs : received_commands held moment bytes ≡ commands_at_delivery S setting.window setting.keep log moment n
    delivery_performs =
        ap (arrival_commands held) arrival_is
        ∙ ap (λ b. if b then commands_of r.message else []) fresh_is
        ∙ chosen (is_fresh All setting.window setting.keep (reached {S = S} log) (message_at moment r)) r
        ∙ sym (ap (λ o. commands_if (fresh_of setting.window setting.keep (reached {S = S} log) moment o) o) is)

-- ---- over a timely log what is fresh is a first arrival
module _ {S : Type 0} (laws : FreshWhereFirst S) (window keep lifetime : ℕ) where
  none_while_busy : (r : Asked) (place : Option (List Happening)) → is_first_of (Some r) place true ≡ false
  none_while_busy r None = refl
  none_while_busy r (Some place) = refl

  fresh_is_first : (past : List Happening) (moment k : ℕ) → IsTimelyLog S window keep lifetime (Delivered moment k ∷ past) → (o : Option Asked) → asked_at past k ≡ o
      → commands_if (fresh_of window keep (reached {S = S} past) moment o) o ≡ commands_if (is_first_of o (first S keep past k) (is_busy keep (reached {S = S} past) moment)) o
  fresh_is_first past moment k timely None is = refl
  fresh_is_first past moment k timely (Some r) is = ap (λ b. commands_if b (Some r)) (go (is_busy keep (reached {S = S} past) moment) refl)
    where
      go : (busy : Bool) → is_busy keep (reached {S = S} past) moment ≡ busy → is_fresh All window keep (reached {S = S} past) (message_at moment r) ≡ is_first_of (Some r) (first S keep past k) (is_busy keep (reached {S = S} past) moment)
      go true on =
          ap (λ b. not b && not (is_copy All window keep (reached {S = S} past) (message_at moment r))) on
          ∙ sym (none_while_busy r (first S keep past k))
          ∙ sym (ap (is_first_of (Some r) (first S keep past k)) on)
      go false off =
          (laws window keep lifetime past moment k r timely is off).0
          ∙ ap (λ o. is_first_of o (first S keep past k) (is_busy keep (reached {S = S} past) moment)) is

  pub performed_once_each : (log : List Happening) → IsTimelyLog S window keep lifetime log → commands_performed S window keep log ≡ commands_once S keep log
  performed_once_each [] t = refl
  performed_once_each (Opened r ∷ past) t =
      performed_once_each past (record { order = t.order.1; apart = t.apart.1; in_time = t.in_time; within = t.within })
  performed_once_each (Sensed moment id value ∷ past) t =
      performed_once_each past (record { order = t.order.1; apart = t.apart; in_time = t.in_time; within = t.within })
  performed_once_each (WentDown moment ∷ past) t =
      performed_once_each past (record { order = t.order.1; apart = t.apart; in_time = t.in_time; within = t.within })
  performed_once_each (Delivered moment k ∷ past) t =
      ap (λ cs. commands_at_delivery S window keep past moment k ++ cs)
      (performed_once_each past (record { order = t.order.1; apart = t.apart; in_time = t.in_time.1; within = t.within }))
      ∙ ap (λ cs. cs ++ commands_once S keep past) (fresh_is_first past moment k t (asked_at past k) refl)
