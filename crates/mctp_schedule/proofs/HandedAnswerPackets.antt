-- The packet of an answer that a step hands over, as it is written down and as the world has it.
use Rattle.std.proofs.Common.{◌≡◌, ℕ, ◌≤◌, Bool, true, false, List, Option, Some, None, refl, sym, ap, ◌∙◌, arith}
use Rattle.std.specs.Prelude.{◌||◌, not, is_some, option_and_then, option_map, slice_get}
use Rattle.mctp_schedule.specs.Entries.{entry_of, got_entry}
use Rattle.mctp_schedule.specs.HandedPackets.{got_from}
use Rattle.mctp_schedule.specs.HeldRuns.{HeldRun}
use Rattle.mctp_schedule.specs.Journals.{packet_at}
use Rattle.mctp_schedule.specs.Logs.{Asked, asked_at, count_of}
use Rattle.mctp_schedule.specs.OncePerformed.{given, was_busy}
use Rattle.mctp_schedule.specs.Running.{IsRunning, answer_action, busy_packets}
use Rattle.mctp_schedule.specs.Worlds.{BothEnds, World, answer_packets, busy_from, busy_packet, done, handed, is_timely_action, packet_of, reply_packet, source_of, tag_is_own, world}
use Rattle.mctp_schedule.specs.Actions.{Step}
use Rattle.mctp_schedule.proofs.LoggedRequests.{none_above}
use Rattle.mctp_schedule.proofs.ListPlaces.{get_past}

module _ {S : Type 0} (setting : BothEnds S) (w : World) where
  -- the packet that the step delivers
  abbrev pub delivered : Bool → ℕ → ℕ → Option (List ℕ)
  delivered true k packet = busy_packet setting w k
  delivered false k packet = reply_packet setting w k packet

  pub done_is : (busy : Bool) (moment k packet : ℕ) → done setting w moment (answer_action busy k packet) ≡ handed setting w moment (source_of (asked_at w.log k)) (delivered busy k packet)
  done_is true moment k packet = refl
  done_is false moment k packet = refl

  pub entry_is : (busy : Bool) (moment k packet : ℕ) → entry_of setting w moment (answer_action busy k packet) ≡ got_entry (got_from setting w (source_of (asked_at w.log k)) (delivered busy k packet))
  entry_is true moment k packet = refl
  entry_is false moment k packet = refl

  pub timely_is : (busy : Bool) (moment k packet : ℕ) → is_timely_action setting w moment (answer_action busy k packet) ≡ (not (is_some (delivered busy k packet)) || tag_is_own setting w (asked_at w.log k))
  timely_is true moment k packet = refl
  timely_is false moment k packet = refl

  pub none_delivered : (busy : Bool) (k packet : ℕ) → asked_at w.log k ≡ None → delivered busy k packet ≡ None
  none_delivered true k packet none = ap (λ o. busy_from setting o (was_busy S setting.keep w.log k)) none
  none_delivered false k packet none = ap (λ o. packet_of setting o (given setting.device setting.window setting.keep setting.start w.log k) packet) none

-- as it is written down
reply_in : {S : Type 0} (setting : BothEnds S) (r : Asked) (message : Option (List ℕ)) (packet : ℕ) → option_and_then (λ packets. slice_get packets packet) (option_map (answer_packets setting.eid r) message) ≡ packet_of setting (Some r) message packet
reply_in setting r None packet = refl
reply_in setting r (Some message) packet = refl

busy_in : {S : Type 0} (setting : BothEnds S) (r : Asked) (busy : Bool) → option_and_then (λ packets. slice_get packets 0) (busy_packets setting.eid r busy) ≡ busy_from setting (Some r) busy
busy_in setting r true = refl
busy_in setting r false = refl

module _ {P S : Type 0} (setting : BothEnds S) (past : List Step) (run : HeldRun P S) (running : IsRunning setting past run) where
  pub written : (busy : Bool) (k packet : ℕ) → (busy ≡ true → packet ≡ 0) → packet_at run.journal.entries packet busy (slice_get run.journal.traffic.items k) ≡ delivered setting (world setting past) busy k packet
  written busy k packet first = go (asked_at (world setting past).log k) refl
    where
      log_count : asked_at (world setting past).log k ≡ None → count_of (world setting past).log ≤ k
      log_count none = none_above (world setting past).log k none

      some : (r : Asked) → asked_at (world setting past).log k ≡ Some r → (b : Bool) → (b ≡ true → packet ≡ 0) → packet_at run.journal.entries packet b (slice_get run.journal.traffic.items k) ≡ delivered setting (world setting past) b k packet
      some r is true zero =
          let t = running.traffic k r is in
          ap (packet_at run.journal.entries packet true) t.1
          ∙ ap (option_and_then (λ packets. slice_get packets packet)) t.2.busy
          ∙ ap (λ j. option_and_then (λ packets. slice_get packets j) (busy_packets setting.eid r (was_busy S setting.keep (world setting past).log k))) (zero refl)
          ∙ busy_in setting r (was_busy S setting.keep (world setting past).log k)
          ∙ ap (λ o. busy_from setting o (was_busy S setting.keep (world setting past).log k)) (sym is)
      some r is false zero =
          let t = running.traffic k r is in
          ap (packet_at run.journal.entries packet false) t.1
          ∙ ap (option_and_then (λ packets. slice_get packets packet)) t.2.reply
          ∙ reply_in setting r (given setting.device setting.window setting.keep setting.start (world setting past).log k) packet
          ∙ ap (λ o. packet_of setting o (given setting.device setting.window setting.keep setting.start (world setting past).log k) packet) (sym is)

      go : (o : Option Asked) → asked_at (world setting past).log k ≡ o → packet_at run.journal.entries packet busy (slice_get run.journal.traffic.items k) ≡ delivered setting (world setting past) busy k packet
      go None none =
          let above = log_count none in
          let count = running.carried in
          ap (packet_at run.journal.entries packet busy) (get_past run.journal.traffic.items k (omega (arith, above, count))) ∙ sym (none_delivered setting (world setting past) busy k packet none)
      go (Some r) is = some r is busy first

pub asked_of : {S : Type 0} (setting : BothEnds S) (w : World) (busy : Bool) (k packet : ℕ) (bytes : List ℕ) → delivered setting w busy k packet ≡ Some bytes → (q : Asked) × (asked_at w.log k ≡ Some q)
asked_of setting w busy k packet bytes brings = go (asked_at w.log k) refl
  where
    go : (o : Option Asked) → asked_at w.log k ≡ o → (q : Asked) × (asked_at w.log k ≡ Some q)
    go None none = let wrong : ◌≡◌ {A = Option (List ℕ)} None (Some bytes) = sym (none_delivered setting w busy k packet none) ∙ brings in absurd (cc)
    go (Some q) is = (q, is)

pub not_some : {X : Type 0} (o : Option X) → ((x : X) → o ≡ Some x → ⊥) → o ≡ None
not_some None h = refl
not_some (Some x) h = absurd (h x refl)
