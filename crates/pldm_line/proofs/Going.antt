-- Turns that were taken, and one more.
use Rattle.std.proofs.Common.{◌≡◌, ℕ, ◌+◌, List, [], ◌∷◌, length, refl, sym, ap, subst, false, ◌∙◌, arith}
use Rattle.std.specs.Io.KnownBytes.{Appends, Keeps}
use Rattle.std.proofs.KnownBytes.{Appends-trans, Appends-nil, Consumes-trans, Consumes-nil}
use Rattle.pldm_line.specs.Asked.{FailsTurn, Goes, Listens, Shown, Stops, StopsFor, StopsListening, TakesTurn, Turned}
use Rattle.pldm_line.specs.Ends.{IsRefused}
use Rattle.pldm_line.specs.Turns.{Asking, Turn, after_turn, after_turns, all_sent, bytes_read, is_end, readings, sent_frames}
use Rattle.pldm_line.specs.declared.ask_fault.AskFault.{AskFault}
use Rattle.pldm_line.specs.declared.ask_fault.AskFault.TheVariants.{LineEnded, Read, Write, Clock, Memory, TooMany, Unread}
use Rattle.pldm_requester.specs.Steps.{accepts}

pub turned_more : (s : Shown) (turns : List Turn) (s1 : Shown) (turn : Turn) (s2 : Shown) → Turned s turns s1 → Turned s1 (turn ∷ []) s2 → Turned s (turn ∷ turns) s2
turned_more s turns s1 turn s2 f g = record {
  asking = g.asking ∙ ap (λ (a : Asking). after_turn a turn) f.asking;
  read = Consumes-trans s.left s1.left s2.left (bytes_read turns) turn.bytes f.read g.read;
  ticked = Consumes-trans s.clock s1.clock s2.clock (readings turns) (turn.clock ∷ []) f.ticked g.ticked;
  wrote =
      Appends-trans s.written s1.written s2.written (all_sent s.asking turns) (sent_frames (after_turns s.asking turns) turn) f.wrote
      (subst (λ (a : Asking). Appends s1.written s2.written (sent_frames a turn)) f.asking g.wrote);
}

abbrev pub goes_nowhere : (waits : Asking → Type 0) (s : Shown) → Goes waits s s
goes_nowhere waits s = record {
  turns = [];
  turned = record {
    asking = refl;
    read = Consumes-nil s.left;
    ticked = Consumes-nil s.clock;
    wrote = Appends-nil s.written;
  };
  before = tt;
}

abbrev pub goes_on : (waits : Asking → Type 0) (s s1 s2 : Shown) → Goes waits s s1 → waits s1.asking → TakesTurn s1 s2 → Goes waits s s2
goes_on waits s s1 s2 f now g = record {
  turns = g.turn ∷ f.turns;
  turned = turned_more s f.turns s1 g.turn s2 f.turned g.turned;
  before = (subst waits f.turned.asking now, f.before);
}

pub stops : (waits : Asking → Type 0) (fault : AskFault) (s last s1 : Shown) → (f : Goes waits s last) → Keeps last.written s1.written
    → StopsFor fault f.turns last s1 → Stops waits fault s s1
stops waits fault s last s1 goes kept reason = record { last = last; goes = goes; kept = kept; reason = reason }

-- a turn failed after these
pub failed_turn : (fault : AskFault) (turns : List Turn) (last s1 : Shown) → FailsTurn fault last s1 → StopsFor fault turns last s1
failed_turn LineEnded turns last s1 f = absurd f
failed_turn Read turns last s1 f = f
failed_turn Write turns last s1 f = f
failed_turn Clock turns last s1 f = f
failed_turn Memory turns last s1 f = f
failed_turn TooMany turns last s1 f = absurd f
failed_turn Unread turns last s1 f = f

-- one turn more is counted
pub one_more : (turn : Turn) (turns : List Turn) (count : ℕ) → length turns ≡ count → length (turn ∷ turns) ≡ count + 1
one_more turn turns count same = omega (arith, same)

-- no request might be opened, and all stayed as it was
abbrev pub refused : (s s1 s2 : Shown) → Goes IsRefused s s1 → is_end s1.asking.quiet ≡ false → accepts s1.asking.held s1.asking.held.last ≡ false
    → s2.asking ≡ s1.asking → s2.left ≡ s1.left → s2.clock ≡ s1.clock → s2.written ≡ s1.written
    → Goes IsRefused s s2 × IsRefused s2.asking
refused s s1 s2 goes going none asking left clock written =
    let same : s2 ≡ s1 = λ i. record { asking = asking i; left = left i; clock = clock i; written = written i } in (
      record {
        turns = goes.turns;
        turned = subst (λ (t : Shown). Turned s goes.turns t) (sym same) goes.turned;
        before = goes.before;
      },
      subst IsRefused (sym asking) (going, none),
    )

-- the same line, said in another way
pub begun_so : (span span1 : ℕ) (s s0 s1 : Shown) → span ≡ span1 → s.asking.held ≡ s0.asking.held → s.asking.reading ≡ s0.asking.reading
    → s.asking.quiet ≡ s0.asking.quiet → s.left ≡ s0.left → s.clock ≡ s0.clock → s.written ≡ s0.written
    → Listens span s s1 → Listens span1 s0 s1
begun_so span span1 s s0 s1 time held reading quiet left clock written listens =
    let same : s ≡ s0 =
    λ i. record {
      asking = record { held = held i; reading = reading i; quiet = quiet i };
      left = left i;
      clock = clock i;
      written = written i;
    } in
    subst (λ n. Listens n s0 s1) time (subst (λ (t : Shown). Listens span t s1) same listens)

pub stopped_so : (span : ℕ) (fault : AskFault) (s s0 s1 : Shown) → s.asking.held ≡ s0.asking.held → s.asking.reading ≡ s0.asking.reading
    → s.asking.quiet ≡ s0.asking.quiet → s.left ≡ s0.left → s.clock ≡ s0.clock → s.written ≡ s0.written
    → StopsListening span fault s s1 → StopsListening span fault s0 s1
stopped_so span fault s s0 s1 held reading quiet left clock written stops =
    let same : s ≡ s0 =
    λ i. record {
      asking = record { held = held i; reading = reading i; quiet = quiet i };
      left = left i;
      clock = clock i;
      written = written i;
    } in
    subst (λ (t : Shown). StopsListening span fault t s1) same stops
