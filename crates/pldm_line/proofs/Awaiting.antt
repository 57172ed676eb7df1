-- What packets of more bytes answer, and one turn more while an answer is awaited.
use Rattle.std.proofs.Common.{◌≡◌, ℕ, Bool, true, false, List, [], ◌∷◌, ◌++◌, Option, None, Some, is_none, refl, sym, ap, subst, ◌∙◌, append_assoc}
use Rattle.std.specs.Option.{option_or}
use Rattle.std.specs.Io.KnownBytes.{Appends, Consumes, Keeps}
use Rattle.std.proofs.KnownBytes.{Appends-trans, Consumes-trans, Consumes-nil}
use Rattle.mctp_control.specs.AnyQueries.{any_answer_in, any_packet}
use Rattle.mctp_control.specs.declared.any_query.AnyQuery.{AnyQuery}
use Rattle.mctp_serial.specs.Readings.{Reading, after, events_in, step, then_event}
use Rattle.mctp_serial.specs.declared.reader.FrameEvent.{FrameEvent}
use Rattle.mctp_serial.specs.declared.reader.FrameEvent.TheVariants.{Nothing, Packet, Dropped}
use Rattle.pldm_line.specs.Asked.{Shown, StopsFor}
use Rattle.pldm_line.specs.Queries.{AsksQuery, Awaits, StopsQuery, all_written, answer_after, first_answer, latest, query_frame, tries_after}
use Rattle.pldm_line.specs.QueryTries.{is_again, is_over, tried_again, tries_from}
use Rattle.pldm_line.specs.QueryTurns.{TakesQueryTurn, WantedAnswer, all_seen, wanted_of}
use Rattle.pldm_line.specs.Turns.{Asking, Turn, after_turn, after_turns, bytes_read, framed, is_end, readings, sent_frames}
use Rattle.pldm_line.specs.declared.ask_fault.AskFault.{AskFault}
use Rattle.pldm_line.specs.declared.tries.Tries.{Tries}
use Rattle.pldm_line.specs.Serving.{packets_in, packets_of}

-- the answer was awaited, by what is kept meanwhile: what was seen, and the tries
pub record AwaitsSo (q : AnyQuery) (again most : ℕ) (w : WantedAnswer) (tries : Tries) (s s1 : Shown) : Type 0 where
  pub awaits : Awaits q again most s s1
  pub seen : w ≡ wanted_of (Some q) (answer_after q s.asking awaits.turns)
  pub tried : tries ≡ tries_after q again most s.asking awaits.turns

after_append : (r : Reading) (bytes more : List ℕ) → after r (bytes ++ more) ≡ after (after r bytes) more
after_append r [] more = refl
after_append r (byte ∷ bytes) more = after_append (step r byte).next bytes more

packets_then : (event : FrameEvent) (later : List FrameEvent) → packets_of (then_event event later) ≡ packets_of (event ∷ []) ++ packets_of later
packets_then Nothing later = refl
packets_then (Packet packet) later = refl
packets_then (Dropped fault) later = refl

packets_append : (r : Reading) (bytes more : List ℕ) → packets_in r (bytes ++ more) ≡ packets_in r bytes ++ packets_in (after r bytes) more
packets_append r [] more = refl
packets_append r (byte ∷ bytes) more =
    let next : Reading = (step r byte).next in
    let event : FrameEvent = (step r byte).event in
    let first : List (List ℕ) = packets_of (event ∷ []) in
    let all : packets_of (then_event event (events_in next (bytes ++ more))) ≡ first ++ packets_in next (bytes ++ more) =
    packets_then event (events_in next (bytes ++ more)) in
    let here : packets_of (then_event event (events_in next bytes)) ≡ first ++ packets_in next bytes =
    packets_then event (events_in next bytes) in
    all
    ∙ ap (λ (l : List (List ℕ)). first ++ l) (packets_append next bytes more)
    ∙ sym (append_assoc first (packets_in next bytes) (packets_in (after next bytes) more))
    ∙ ap (λ (l : List (List ℕ)). l ++ packets_in (after next bytes) more) (sym here)

or_none : (answer : Option (List ℕ)) → option_or answer None ≡ answer
or_none None = refl
or_none (Some message) = refl

or_assoc : (a b c : Option (List ℕ)) → option_or (option_or a b) c ≡ option_or a (option_or b c)
or_assoc None b c = refl
or_assoc (Some message) b c = refl

first_append : (q : AnyQuery) (packets more : List (List ℕ)) → first_answer q (packets ++ more) ≡ option_or (first_answer q packets) (first_answer q more)
first_append q [] more = refl
first_append q (packet ∷ packets) more =
    ap (λ (o : Option (List ℕ)). option_or (any_answer_in q packet) o) (first_append q packets more)
    ∙ sym (or_assoc (any_answer_in q packet) (first_answer q packets) (first_answer q more))

seen_all : (q : AnyQuery) (answer : Option (List ℕ)) (packets : List (List ℕ)) → all_seen (wanted_of (Some q) answer) packets ≡ wanted_of (Some q) (option_or answer (first_answer q packets))
seen_all q answer [] = ap (λ (o : Option (List ℕ)). wanted_of (Some q) o) (sym (or_none answer))
seen_all q answer (packet ∷ packets) =
    seen_all q (option_or answer (any_answer_in q packet)) packets
    ∙ ap (λ (o : Option (List ℕ)). wanted_of (Some q) o) (or_assoc answer (any_answer_in q packet) (first_answer q packets))

reading_after : (a : Asking) (turns : List Turn) → (after_turns a turns).reading ≡ after a.reading (bytes_read turns)
reading_after a [] = refl
reading_after a (turn ∷ turns) =
    ap (λ (r : Reading). after r turn.bytes) (reading_after a turns) ∙ sym (after_append a.reading (bytes_read turns) turn.bytes)

answer_more : (q : AnyQuery) (a : Asking) (turn : Turn) (turns : List Turn) → answer_after q a (turn ∷ turns)
    ≡ option_or (answer_after q a turns) (first_answer q (packets_in (after_turns a turns).reading turn.bytes))
answer_more q a turn turns =
    ap (λ (l : List (List ℕ)). first_answer q l) (packets_append a.reading (bytes_read turns) turn.bytes)
    ∙ first_append q (packets_in a.reading (bytes_read turns)) (packets_in (after a.reading (bytes_read turns)) turn.bytes)
    ∙ ap (λ (r : Reading). option_or (answer_after q a turns) (first_answer q (packets_in r turn.bytes))) (sym (reading_after a turns))

pub seen_more : (q : AnyQuery) (a now : Asking) (w w1 : WantedAnswer) (turn : Turn) (turns : List Turn) → now ≡ after_turns a turns
    → w ≡ wanted_of (Some q) (answer_after q a turns) → w1 ≡ all_seen w (packets_in now.reading turn.bytes)
    → w1 ≡ wanted_of (Some q) (answer_after q a (turn ∷ turns))
seen_more q a now w w1 turn turns at before seen =
    seen
    ∙ ap (λ (w : WantedAnswer). all_seen w (packets_in now.reading turn.bytes)) before
    ∙ seen_all q (answer_after q a turns) (packets_in now.reading turn.bytes)
    ∙ ap (λ (now : Asking). wanted_of (Some q) (option_or (answer_after q a turns) (first_answer q (packets_in now.reading turn.bytes)))) at
    ∙ ap (λ (o : Option (List ℕ)). wanted_of (Some q) o) (sym (answer_more q a turn turns))

abbrev pub more : (q : AnyQuery) (again most : ℕ) (w w1 : WantedAnswer) (tries tries1 : Tries) (s s1 s2 : Shown) → AwaitsSo q again most w tries s s1
    → is_end s1.asking.quiet ≡ false → w.answer ≡ None → is_over tries s1.asking.held.last ≡ false
    → TakesQueryTurn q w w1 tries tries1 s1 s2 → AwaitsSo q again most w1 tries1 s s2
more q again most w w1 tries tries1 s s1 s2 f going none lasts g =
    let a : Asking = s.asking in
    let turns : List Turn = f.awaits.turns in
    let at : s1.asking ≡ after_turns a turns = f.awaits.asking in
    let then : s2.asking ≡ after_turns a (g.turn ∷ turns) = g.asking ∙ ap (λ (now : Asking). after_turn now g.turn) at in
    let seen : w1 ≡ wanted_of (Some q) (answer_after q a (g.turn ∷ turns)) = seen_more q a s1.asking w w1 g.turn turns at f.seen g.seen in
    let last : s2.asking.held.last ≡ latest a (g.turn ∷ turns) = ap (λ (now : Asking). now.held.last) then in
    let answer : w1.answer ≡ answer_after q a (g.turn ∷ turns) = ap (λ (w : WantedAnswer). w.answer) seen in
    let so_far : Tries = tries_after q again most a turns in
    record {
      awaits = record {
        turns = g.turn ∷ turns;
        asking = then;
        read = Consumes-trans s.left s1.left s2.left (bytes_read turns) g.turn.bytes f.awaits.read g.read;
        ticked = Consumes-trans s.clock s1.clock s2.clock (readings turns) (g.turn.clock ∷ []) f.awaits.ticked g.ticked;
        wrote =
            Appends-trans s.written s1.written s2.written (all_written q again most a turns)
            (sent_frames (after_turns a turns) g.turn ++ query_frame q (is_again so_far (latest a (g.turn ∷ turns)) (answer_after q a (g.turn ∷ turns))))
            f.awaits.wrote
            (subst (λ (o : Option (List ℕ)). Appends s1.written s2.written (sent_frames (after_turns a turns) g.turn ++ query_frame q (is_again so_far (latest a (g.turn ∷ turns)) o))) answer
            (subst (λ m. Appends s1.written s2.written (sent_frames (after_turns a turns) g.turn ++ query_frame q (is_again so_far m w1.answer))) last
            (subst (λ (t : Tries). Appends s1.written s2.written (sent_frames (after_turns a turns) g.turn ++ query_frame q (is_again t s2.asking.held.last w1.answer))) f.tried
            (subst (λ (now : Asking). Appends s1.written s2.written (sent_frames now g.turn ++ query_frame q (is_again tries s2.asking.held.last w1.answer))) at g.wrote))));
        before = (
          record {
            goes_on = subst (λ (now : Asking). is_end now.quiet ≡ false) at going;
            unanswered = sym (ap (λ (w : WantedAnswer). w.answer) f.seen) ∙ none;
            lasts =
                subst (λ (now : Asking). is_over so_far now.held.last ≡ false) at
                (subst (λ (t : Tries). is_over t s1.asking.held.last ≡ false) f.tried lasts);
          },
          f.awaits.before,
        );
      };
      seen = seen;
      tried =
          g.tried
          ∙ ap (λ (t : Tries). tried_again (is_again t s2.asking.held.last w1.answer) t s2.asking.held.last) f.tried
          ∙ ap (λ m. tried_again (is_again so_far m w1.answer) so_far m) last
          ∙ ap (λ (o : Option (List ℕ)). tried_again (is_again so_far (latest a (g.turn ∷ turns)) o) so_far (latest a (g.turn ∷ turns))) answer;
    }

-- the frame went out, and no turn was taken yet
abbrev pub begun : (q : AnyQuery) (again most : ℕ) (s s1 : Shown) → s1.asking ≡ s.asking → s1.left ≡ s.left → s1.clock ≡ s.clock
    → Appends s.written s1.written (framed (any_packet q))
    → AwaitsSo q again most (wanted_of (Some q) None) (tries_from again most s.asking.held.last) s s1
begun q again most s s1 asking left clock wrote = record {
  awaits = record {
    turns = [];
    asking = asking;
    read = subst (λ (o : Option (List ℕ)). Consumes s.left o []) (sym left) (Consumes-nil s.left);
    ticked = subst (λ (o : Option (List ℕ)). Consumes s.clock o []) (sym clock) (Consumes-nil s.clock);
    wrote = wrote;
    before = tt;
  };
  seen = refl;
  tried = refl;
}

-- it ended by the answer or by the tries
pub ended : (q : AnyQuery) (again most : ℕ) (w : WantedAnswer) (tries : Tries) (s s1 : Shown) (answer : Option (List ℕ)) → AwaitsSo q again most w tries s s1
    → answer ≡ w.answer → (w.answer ≡ None → is_over tries s1.asking.held.last ≡ true) → AsksQuery q again most answer s s1
ended q again most w tries s s1 answer f is over =
    let so_far : Tries = tries_after q again most s.asking f.awaits.turns in
    record {
      awaits = f.awaits;
      answered = sym (ap (λ (w : WantedAnswer). w.answer) f.seen) ∙ sym is;
      over =
          λ none. subst (λ (now : Asking). is_over so_far now.held.last ≡ true) f.awaits.asking
          (subst (λ (t : Tries). is_over t s1.asking.held.last ≡ true) f.tried (over (sym is ∙ none)));
    }

pub stops : (q : AnyQuery) (again most : ℕ) (w : WantedAnswer) (tries : Tries) (fault : AskFault) (s last s1 : Shown) → (f : AwaitsSo q again most w tries s last)
    → Keeps last.written s1.written → StopsFor fault f.awaits.turns last s1 → StopsQuery q again most fault s s1
stops q again most w tries fault s last s1 f kept reason = record { last = last; awaits = f.awaits; kept = kept; reason = reason }

-- whether there is an answer, as a test
pub none_open : {A : Type 0} (answer : Option (List ℕ)) (going : Bool) → going ≡ is_none answer → going ≡ false → answer ≡ None → A
none_open answer going is shut none =
    let same : false ≡ true = sym shut ∙ is ∙ ap (λ (o : Option (List ℕ)). is_none o) none in
    cc

pub open_none : (answer : Option (List ℕ)) → is_none answer ≡ true → answer ≡ None
open_none None h = refl
open_none (Some message) h = cc
