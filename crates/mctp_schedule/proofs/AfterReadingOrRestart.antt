-- A reading that is set, and a restart: they leave all requests as they were.
use Rattle.std.proofs.Common.{◌≡◌, ℕ, ◌≤◌, List, [], ◌∷◌, ◌++◌, refl, sym, ap, subst, ◌∙◌, arith}
use Rattle.std.specs.Prelude.{ℤ, length, slice_get}
use Rattle.pldm_wire.specs.declared.restart_policy.RestartPolicy.TheVariants.{All}
use Rattle.pldm_responder.specs.ResponderStates.{IsHeld}
use Rattle.pldm_responder.specs.Laws.{RestartedLooksBack, SameIsLeft, SensedLooksBack}
use Rattle.pldm_responder.specs.Events.{Set, Restarted}
use Rattle.pldm_responder.specs.ResponderViews.{ResponderView, held_of}
use Rattle.pldm_responder.specs.Steps.{restarted_held, sensed_held}
use Rattle.mctp_schedule.specs.Entries.{entry_of}
use Rattle.mctp_schedule.specs.HeldRuns.{HeldRun}
use Rattle.mctp_schedule.specs.Journals.{Carried}
use Rattle.mctp_schedule.specs.Requests.{Request}
use Rattle.mctp_schedule.specs.Running.{IsCarried, IsRunning, device_calls}
use Rattle.mctp_schedule.specs.Worlds.{BothEnds, World, time_now, world}
use Rattle.mctp_schedule.specs.declared.entry.Entry.{Entry}
use Rattle.mctp_schedule.specs.declared.journal.Journal.{Journal}
use Rattle.mctp_schedule.specs.Actions as actions
use Rattle.mctp_schedule.specs.Actions.{Step}
use Rattle.mctp_schedule.proofs.KeptByAStep.{still_carried, still_opened, still_side}

-- what is held when the responder and what is written down have changed
abbrev pub with_responder : {P S : Type 0} → HeldRun P S → ResponderView P S → Journal → HeldRun P S
with_responder run new journal = record {
  keep = run.keep;
  window = run.window;
  responder = new;
  places = run.places;
  journal = journal;
  arrivals = run.arrivals;
}

-- one more entry, and nothing else
pub record Enters (old new : Journal) (entry : Entry) : Type 0 where
  pub entries : new.entries ≡ old.entries ++ entry ∷ []
  pub requests : new.requests.items ≡ old.requests.items
  pub traffic : new.traffic.items ≡ old.traffic.items
  pub order : new.order.items ≡ old.order.items
  pub timely : new.timely ≡ old.timely

module _ {P S : Type 0} (setting : BothEnds S) (past : List Step) (run : HeldRun P S) (new : ResponderView P S) (journal : Journal) (running : IsRunning setting past run) (moment : ℕ) (later : time_now past ≤ moment) where
  abbrev w : World
  w = world setting past

  pub sensed_runs : (id : ℕ) (value : ℤ) → SensedLooksBack setting.device → SameIsLeft setting.device → IsHeld (held_of new) (sensed_held setting.device (held_of run.responder) id value)
      → Enters run.journal journal (entry_of setting w moment (actions.Sense id value)) → IsRunning setting (record { moment = moment; action = actions.Sense id value } ∷ past) (with_responder run new journal)
  sensed_runs id value looks same held enters =
      let v = world setting (record { moment = moment; action = actions.Sense id value } ∷ past) in
      record {
        times = running.times;
        pace = running.pace;
        window = running.window;
        device = record {
          endpoint = running.device.endpoint;
          left = same setting.eid All setting.window setting.keep setting.start (held_of new) (sensed_held setting.device (held_of run.responder) id value) (device_calls setting.eid v.log) held
              (looks setting.eid All setting.window setting.keep setting.start (held_of run.responder) (device_calls setting.eid w.log) id value running.device.left);
          events = ap (λ es. Set id value ∷ es) running.device.events;
          called = let x = held.last in let y = running.device.called in omega (arith, x, y, later);
        };
        sides = λ e has. let s = running.sides e has in (s.0, s.1, still_side setting w v (time_now past) moment e s.0 refl refl (λ k r is. is) later s.2);
        opened = λ k r is. still_opened setting w v k r (omega arith) (λ here. here) (running.opened k r is);
        requests = λ k. ap (λ rs. slice_get rs k) enters.requests ∙ running.requests k;
        counted = ap (λ (rs : List Request). length rs) enters.requests ∙ running.counted;
        traffic = λ k r is.
            let t = running.traffic k r is in
            (t.0, ap (λ ts. slice_get ts k) enters.traffic ∙ t.1, subst (λ es. IsCarried setting v es k r t.0) (sym enters.entries) (still_carried setting w v run.journal.entries (entry_of setting w moment (actions.Sense id value)) k r t.0 refl refl refl t.2));
        carried = ap (λ (ts : List Carried). length ts) enters.traffic ∙ running.carried;
        entries = enters.entries ∙ ap (λ es. es ++ entry_of setting w moment (actions.Sense id value) ∷ []) running.entries;
        order = enters.order ∙ running.order;
        arrived = running.arrived;
        timely = enters.timely ∙ running.timely;
        sent = running.sent;
        fit = running.fit;
      }

  pub restarted_runs : RestartedLooksBack setting.device → SameIsLeft setting.device → IsHeld (held_of new) (restarted_held (held_of run.responder) moment)
      → Enters run.journal journal (entry_of setting w moment actions.Restart) → IsRunning setting (record { moment = moment; action = actions.Restart } ∷ past) (with_responder run new journal)
  restarted_runs looks same held enters =
      let v = world setting (record { moment = moment; action = actions.Restart } ∷ past) in
      record {
        times = running.times;
        pace = running.pace;
        window = running.window;
        device = record {
          endpoint = running.device.endpoint;
          left = same setting.eid All setting.window setting.keep setting.start (held_of new) (restarted_held (held_of run.responder) moment) (device_calls setting.eid v.log) held
              (looks setting.eid All setting.window setting.keep setting.start (held_of run.responder) (device_calls setting.eid w.log) moment running.device.left);
          events = ap (λ es. Restarted moment ∷ es) running.device.events;
          called = let x = held.last in omega (arith, x);
        };
        sides = λ e has. let s = running.sides e has in (s.0, s.1, still_side setting w v (time_now past) moment e s.0 refl refl (λ k r is. is) later s.2);
        opened = λ k r is. still_opened setting w v k r (omega arith) (λ here. here) (running.opened k r is);
        requests = λ k. ap (λ rs. slice_get rs k) enters.requests ∙ running.requests k;
        counted = ap (λ (rs : List Request). length rs) enters.requests ∙ running.counted;
        traffic = λ k r is.
            let t = running.traffic k r is in
            (t.0, ap (λ ts. slice_get ts k) enters.traffic ∙ t.1, subst (λ es. IsCarried setting v es k r t.0) (sym enters.entries) (still_carried setting w v run.journal.entries (entry_of setting w moment actions.Restart) k r t.0 refl refl refl t.2));
        carried = ap (λ (ts : List Carried). length ts) enters.traffic ∙ running.carried;
        entries = enters.entries ∙ ap (λ es. es ++ entry_of setting w moment actions.Restart ∷ []) running.entries;
        order = enters.order ∙ running.order;
        arrived = running.arrived;
        timely = enters.timely ∙ running.timely;
        sent = running.sent;
        fit = running.fit;
      }
