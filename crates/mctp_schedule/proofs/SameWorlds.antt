-- With a window of all instance IDs both ends do what they do with none.
use Rattle.std.proofs.Common.{◌≡◌, ℕ, ◌≤◌, List, [], ◌∷◌, Option, Some, None, refl, sym, ap, ◌∙◌, subst}
use Rattle.std.specs.Prelude.{◌&&◌, ◌==◌, if◌then◌else◌}
use Rattle.pldm_wire.specs.declared.assigned.TheConstants.{INSTANCE_IDS}
use Rattle.pldm_responder.specs.Performing.{Rules}
use Rattle.mctp_schedule.specs.FirstArrivals.{arrives_at}
use Rattle.mctp_schedule.specs.Logs.{Asked, Happening, Opened, Delivered, Sensed, WentDown, asked_at, message_at, reached}
use Rattle.mctp_schedule.specs.OncePerformed.{answered_to, given}
use Rattle.mctp_schedule.specs.Worlds.{BothEnds, World, handed, packet_of, source_of, IsTimely, IsTimelyAction, done, reply_packet, world}
use Rattle.mctp_schedule.specs.Actions.{Action}
use Rattle.mctp_schedule.specs.Actions as actions
use Rattle.mctp_schedule.specs.Actions.{Step}
use Rattle.mctp_schedule.specs.Laws.{AllIdsAreNoWindow}
use Rattle.mctp_schedule.proofs.AllIdsInTime.{always_in_window}
use Rattle.mctp_schedule.specs.EachId as each_id
use Rattle.pldm_responder.specs.Laws.{AllIdsPerformAlike}

module _ {S : Type 0} (device : Rules S) (alike : AllIdsPerformAlike device) (window keep : ℕ) (start : S) (wide : INSTANCE_IDS ≤ window) where
  same_answered_to : (moment : ℕ) (past : List Happening) (o : Option Asked) → answered_to device window keep start moment past o ≡ each_id.answered_to device keep start moment past o
  same_answered_to moment past None = refl
  same_answered_to moment past (Some r) = (alike window keep start (reached {S = S} past) wide).1 (message_at moment r)

  pub same_given : (log : List Happening) (k : ℕ) → given device window keep start log k ≡ each_id.given device keep start log k
  same_given [] k = refl
  same_given (Opened _ ∷ past) k = same_given past k
  same_given (Sensed _ _ _ ∷ past) k = same_given past k
  same_given (WentDown _ ∷ past) k = same_given past k
  same_given (Delivered moment j ∷ past) k =
      λ i. if j == k && arrives_at S keep past moment k
      then Some (same_answered_to moment past (asked_at past k) i)
      else same_given past k i

module _ {S : Type 0} (setting : BothEnds S) (alike : AllIdsPerformAlike setting.device) (wide : INSTANCE_IDS ≤ setting.window) where
  same_packet : (w : World) (k j : ℕ) → reply_packet setting w k j ≡ each_id.reply_packet setting w k j
  same_packet w k j = ap (λ m. packet_of setting (asked_at w.log k) m j) (same_given setting.device alike setting.window setting.keep setting.start wide w.log k)

  same_done : (w : World) (moment : ℕ) (action : Action) → done setting w moment action ≡ each_id.done setting w moment action
  same_done w moment (actions.Open e ask) = refl
  same_done w moment (actions.Tick e) = refl
  same_done w moment (actions.Request k) = refl
  same_done w moment (actions.Reply j k) = ap (handed setting w moment (source_of (asked_at w.log k))) (same_packet w k j)
  same_done w moment (actions.Sense id value) = refl
  same_done w moment actions.Restart = refl
  same_done w moment (actions.Busy k) = refl

  same_world : (steps : List Step) → world setting steps ≡ each_id.world setting steps
  same_world [] = refl
  same_world (step ∷ past) =
      ap (λ w. done setting w step.moment step.action) (same_world past)
      ∙ same_done (each_id.world setting past) step.moment step.action

  action_from : (w : World) (moment : ℕ) (action : Action) → each_id.IsTimelyAction setting w moment action → IsTimelyAction setting w moment action
  action_from w moment (actions.Request k) h = λ r e. record { soon = h r e; in_window = always_in_window S setting.keep setting.window wide w.log k r e }
  action_from w moment (actions.Reply j k) h = λ bytes e. h bytes (sym (same_packet w k j) ∙ e)
  action_from w moment (actions.Busy k) h = h
  action_from w moment (actions.Open e ask) h = tt
  action_from w moment (actions.Tick e) h = tt
  action_from w moment (actions.Sense id value) h = tt
  action_from w moment actions.Restart h = tt

  action_to : (w : World) (moment : ℕ) (action : Action) → IsTimelyAction setting w moment action → each_id.IsTimelyAction setting w moment action
  action_to w moment (actions.Request k) h = λ r e. (h r e).soon
  action_to w moment (actions.Reply j k) h = λ bytes e. h bytes (same_packet w k j ∙ e)
  action_to w moment (actions.Busy k) h = h
  action_to w moment (actions.Open e ask) h = tt
  action_to w moment (actions.Tick e) h = tt
  action_to w moment (actions.Sense id value) h = tt
  action_to w moment actions.Restart h = tt

  timely_from : (steps : List Step) → each_id.IsTimely setting steps → IsTimely setting steps
  timely_from [] t = tt
  timely_from (step ∷ past) t = (
    subst (λ w. IsTimelyAction setting w step.moment step.action) (sym (same_world past)) (action_from (each_id.world setting past) step.moment step.action t.0),
    timely_from past t.1,
  )

  timely_to : (steps : List Step) → IsTimely setting steps → each_id.IsTimely setting steps
  timely_to [] t = tt
  timely_to (step ∷ past) t = (
    subst (λ w. each_id.IsTimelyAction setting w step.moment step.action) (same_world past) (action_to (world setting past) step.moment step.action t.0),
    timely_to past t.1,
  )

pub all_ids_are_no_window : {S : Type 0} (setting : BothEnds S) → AllIdsPerformAlike setting.device → AllIdsAreNoWindow setting
all_ids_are_no_window setting alike steps wide =
    (same_world setting alike wide steps, (timely_to setting alike wide steps, timely_from setting alike wide steps))
