-- What is held once a packet came.
use Rattle.std.proofs.Common.{◌≡◌, ℕ, List, ◌∷◌, sym, ap, ◌∙◌, subst, inr}
use Rattle.mctp_serial.specs.Readings.{Reading, events_in, step, then_event}
use Rattle.mctp_serial.specs.declared.reader.FrameEvent.{FrameEvent}
use Rattle.pldm_line.specs.Serving.{packets_in, packets_of}
use Rattle.pldm_line.specs.Turns.{HearsByte, WantsMemory, received}
use Rattle.pldm_requester.specs.Steps.{RequesterState, received_held}

pub heard_packet : (h : RequesterState) (r next : Reading) (moment byte : ℕ) (event : FrameEvent) (came bytes : List ℕ) (h1 : RequesterState)
    → step r byte ≡ record { event = event; next = next } → ((later : List FrameEvent) → packets_of (then_event event later) ≡ came ∷ packets_of later)
    → bytes ≡ came → h1 ≡ received_held h moment bytes → HearsByte h r moment byte h1 next
heard_packet h r next moment byte event came bytes h1 stepped is same held = record {
  held = λ more. ap (received h moment) (packets more) ∙ ap (λ k. received k moment (packets_in next more)) (sym now);
  wants = λ more w. subst (WantsMemory h moment) (sym (packets more)) (inr (subst (λ k. WantsMemory k moment (packets_in next more)) now w));
  reading = ap (λ s. s.next) stepped;
}
  where
    now : h1 ≡ received_held h moment came
    now = held ∙ ap (received_held h moment) same

    packets : (more : List ℕ) → packets_in r (byte ∷ more) ≡ came ∷ packets_in next more
    packets more = ap (λ s. packets_of (then_event s.event (events_in s.next more))) stepped ∙ is (events_in next more)
