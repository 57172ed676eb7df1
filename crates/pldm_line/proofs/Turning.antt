-- A turn that was taken.
use Rattle.std.proofs.Common.{◌≡◌, ℕ, zero, suc, ◌≤◌, ◌==◌, Bool, List, [], ◌∷◌, length, take, Result, Ok, Err, OnOk, refl, ap, subst, ◌∙◌, rules, arith}
use Rattle.std.specs.Io.KnownBytes.{Appends, Consumes}
use Rattle.std.proofs.lemmas.Bool.Decides.{nat_tests}
use Rattle.mctp_serial.specs.Readings.{after}
use Rattle.pldm_line.specs.Asked.{LacksMemory, Shown, TakesTurn}
use Rattle.pldm_line.specs.QueryTurns.{TakesTurnSeeing, WantedAnswer, all_seen}
use Rattle.pldm_line.specs.Turns.{WantsMemory, frames_of, is_none, quiet_after, received}
use Rattle.pldm_line.specs.declared.ask_fault.AskFault.{AskFault}
use Rattle.pldm_line.specs.Serving.{moment_after, packets_in}
use Rattle.pldm_requester.specs.Steps.{RequesterState, again_at, ticked_held}

pub none_taken : (n : ℕ) (xs : List ℕ) → n ≤ length xs → (n == 0) ≡ is_none (take n xs)
none_taken zero xs few = refl
none_taken (suc n) [] few = absurd (omega arith)
none_taken (suc n) (x ∷ xs) few = search (rules, nat_tests)

pub turn_taken : (s s1 : Shown) (bytes : List ℕ) (clock now : ℕ) (heard : RequesterState) (none : Bool) (w w1 : WantedAnswer)
    → now ≡ moment_after s.asking.held.last clock
    → heard ≡ received s.asking.held now (packets_in s.asking.reading bytes)
    → s1.asking.held ≡ ticked_held heard now
    → s1.asking.reading ≡ after s.asking.reading bytes
    → none ≡ is_none bytes → s1.asking.quiet ≡ quiet_after none s.asking.quiet now
    → Consumes s.left s1.left bytes → Consumes s.clock s1.clock (clock ∷ [])
    → Appends s.written s1.written (frames_of heard (again_at heard now))
    → w1 ≡ all_seen w (packets_in s.asking.reading bytes)
    → TakesTurnSeeing w w1 s s1
turn_taken s s1 bytes clock now heard none w w1 at hears ticks reads empty quiet left ticked wrote seen =
    let m = moment_after s.asking.held.last clock in
    let hear : ℕ → RequesterState = λ n. received s.asking.held n (packets_in s.asking.reading bytes) in
    let heard_at : heard ≡ hear m = hears ∙ ap hear at in
    let held : s1.asking.held ≡ ticked_held (hear m) m = ticks ∙ ap (λ n. ticked_held heard n) at ∙ ap (λ (h : RequesterState). ticked_held h m) heard_at in
    let silent : s1.asking.quiet ≡ quiet_after (is_none bytes) s.asking.quiet m =
    quiet ∙ ap (λ b. quiet_after b s.asking.quiet now) empty ∙ ap (λ n. quiet_after (is_none bytes) s.asking.quiet n) at in
    record {
      turn = record { bytes = bytes; clock = clock };
      turned = record {
        asking = λ i. record { held = held i; reading = reads i; quiet = silent i };
        read = left;
        ticked = ticked;
        wrote =
            subst (λ (h : RequesterState). Appends s.written s1.written (frames_of h (again_at h m))) heard_at
            (subst (λ n. Appends s.written s1.written (frames_of heard (again_at heard n))) at wrote);
      };
      seen = seen;
    }

pub turn_of : (w w1 : WantedAnswer) (s s1 : Shown) (r : Result (Unit {0}) AskFault) → OnOk r (TakesTurnSeeing w w1 s s1) → OnOk r (TakesTurn s s1)
turn_of w w1 s s1 (Ok done) h = record { turn = h.turn; turned = h.turned }
turn_of w w1 s s1 (Err fault) h = tt

-- a packet of the bytes that were read wanted memory
pub lacks_memory : (s s1 : Shown) (bytes : List ℕ) (clock now : ℕ) → now ≡ moment_after s.asking.held.last clock
    → Consumes s.left s1.left bytes → Consumes s.clock s1.clock (clock ∷ [])
    → WantsMemory s.asking.held now (packets_in s.asking.reading bytes) → LacksMemory s s1
lacks_memory s s1 bytes clock now at left ticked wants = record {
  turn = record { bytes = bytes; clock = clock };
  read = left;
  ticked = ticked;
  wants = subst (λ n. WantsMemory s.asking.held n (packets_in s.asking.reading bytes)) at wants;
}
