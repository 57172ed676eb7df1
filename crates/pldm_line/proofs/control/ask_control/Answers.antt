-- One turn further, while the answer is awaited.
use Rattle.std.proofs.Common.{◌≡◌, true, false, None, Some, is_none, refl, sym, ap, subst, ◌∙◌, rules, arith}
use Rattle.std.proofs.KnownBytes.{Keeps-refl}
use Rattle.pldm_line.proofs.Awaiting.{begun, ended, more, none_open, open_none, stops}
use Rattle.pldm_line.proofs.Going.{failed_turn, one_more}
use Rattle.pldm_line.specs.Asked.{shown}
use Rattle.pldm_line.specs.QueryTries.{is_over, tries_from}
use Rattle.pldm_line.specs.QueryTurns.{WantedAnswer, wanted_of}
use Rattle.pldm_line.proofs.Awaiting.{AwaitsSo}
use Rattle.pldm_line.specs.Turns.{is_end}
use Rattle.pldm_line.specs.declared.ask_fault.AskFault.TheVariants.{LineEnded, TooMany}
use Rattle.pldm_line.specs.declared.tries.Tries.{Tries}
use Rattle.pldm_requester.specs.Slots.{held_of}
use Rattle.pldm_line.proofs.control.ask_control.Goals.{then-not-is_open-via-then-not-is_open, then-not-is_open-via-else-not-is_open+then-is_over}
use Rattle.pldm_line.proofs.control.ask_control.Goals as goal

pub loop-init : goal.loop-init
loop-init g c =
    let s = shown g.C.Ticks.to_come g.R.Read.remaining g.W.Write.contents c.args.line.now c.args.reader.now c.args.writer.now in
    let s1 = shown g.C.Ticks.to_come g.R.Read.remaining g.W.Write.contents c.args.line.now c.args.reader.now c.send_query.new.writer in
    let first : c.new-tried.result ≡ tries_from c.args.again c.args.tries (held_of c.args.line.now.requester).last = c.new-tried.ensures ∙ ap (tries_from c.args.again c.args.tries) c.last_moment.ensures in
    record {
      so =
          subst (λ (w : WantedAnswer). AwaitsSo c.args.query.now c.args.again c.args.tries w c.new-tried.result s s1) (sym c.answer_to-wanted.ensures)
          (subst (λ (t : Tries). AwaitsSo c.args.query.now c.args.again c.args.tries (wanted_of (Some c.args.query.now) None) t s s1) (sym first)
          (begun c.args.query.now c.args.again c.args.tries s s1 refl refl refl c.in-Ok.ensures.bytes));
      count = refl;
      flushed = search rules;
      reads = search rules;
      writes = search rules;
    }

pub returns-then-not-is_open-clause-asked : goal.returns-then-not-is_open-clause-asked
returns-then-not-is_open-clause-asked g c =
    let s = shown g.C.Ticks.to_come g.R.Read.remaining g.W.Write.contents c.args.line.now c.args.reader.now c.args.writer.now in
    let s1 = shown g.C.Ticks.to_come g.R.Read.remaining g.W.Write.contents c.loop.line c.loop.reader c.loop.writer in
    ended c.args.query.now c.args.again c.args.tries c.loop.wanted c.loop.tried s s1 _ c.loop.invariant.so c.answer.ensures
    (elim c.then-not-is_open.branch [
      | then-not-is_open-via-then-not-is_open w ↦ λ none. none_open c.loop.wanted.answer c.is_open.result c.is_open.ensures (search rules) none
      | then-not-is_open-via-else-not-is_open+then-is_over w ↦ λ none. search rules
    ])

pub returns-then-is_end-clause-stopped : goal.returns-then-is_end-clause-stopped
returns-then-is_end-clause-stopped g c =
    let over : is_end c.loop.line.quiet ≡ true = search rules in
    λ other.
    stops c.args.query.now c.args.again c.args.tries c.loop.wanted c.loop.tried LineEnded
    (shown g.C.Ticks.to_come g.R.Read.remaining g.W.Write.contents c.args.line.now c.args.reader.now c.args.writer.now)
    (shown g.C.Ticks.to_come g.R.Read.remaining g.W.Write.contents c.loop.line c.loop.reader c.loop.writer)
    (shown g.C.Ticks.to_come g.R.Read.remaining g.W.Write.contents c.loop.line c.loop.reader c.loop.writer)
    c.loop.invariant.so (Keeps-refl (g.W.Write.contents c.loop.writer.inner)) over

pub returns-in-Err-take_query_turn-clause-stopped : goal.returns-in-Err-take_query_turn-clause-stopped
returns-in-Err-take_query_turn-clause-stopped g c =
    λ other.
    stops c.args.query.now c.args.again c.args.tries c.loop.wanted c.loop.tried c.in-Err-take_query_turn.fault
    (shown g.C.Ticks.to_come g.R.Read.remaining g.W.Write.contents c.args.line.now c.args.reader.now c.args.writer.now)
    (shown g.C.Ticks.to_come g.R.Read.remaining g.W.Write.contents c.loop.line c.loop.reader c.loop.writer)
    (shown g.C.Ticks.to_come g.R.Read.remaining g.W.Write.contents c.take_query_turn.new.line c.take_query_turn.new.reader c.take_query_turn.new.writer)
    c.loop.invariant.so (c.in-Err-take_query_turn.ensures.kept other) (failed_turn c.in-Err-take_query_turn.fault c.loop.invariant.so.awaits.turns (shown g.C.Ticks.to_come g.R.Read.remaining g.W.Write.contents c.loop.line c.loop.reader c.loop.writer) (shown g.C.Ticks.to_come g.R.Read.remaining g.W.Write.contents c.take_query_turn.new.line c.take_query_turn.new.reader c.take_query_turn.new.writer) c.in-Err-take_query_turn.ensures.reason)

pub loop-preserved : goal.loop-preserved
loop-preserved g c =
    let going : is_end c.loop.line.quiet ≡ false = search rules in
    let unanswered : is_none c.loop.wanted.answer ≡ true = search rules in
    let lasts : is_over c.loop.tried (held_of c.loop.line.requester).last ≡ false = search rules in
    record {
      so =
          more c.args.query.now c.args.again c.args.tries c.loop.wanted c.take_query_turn.new.wanted c.loop.tried c.take_query_turn.new.tries
          (shown g.C.Ticks.to_come g.R.Read.remaining g.W.Write.contents c.args.line.now c.args.reader.now c.args.writer.now)
          (shown g.C.Ticks.to_come g.R.Read.remaining g.W.Write.contents c.loop.line c.loop.reader c.loop.writer)
          (shown g.C.Ticks.to_come g.R.Read.remaining g.W.Write.contents c.take_query_turn.new.line c.take_query_turn.new.reader c.take_query_turn.new.writer)
          c.loop.invariant.so going (open_none c.loop.wanted.answer unanswered) lasts c.in-Ok-take_query_turn.ensures.turned;
      count = one_more c.in-Ok-take_query_turn.ensures.turned.turn c.loop.invariant.so.awaits.turns c.loop.counter c.loop.invariant.count;
      flushed = search rules;
      reads = search rules;
      writes = search rules;
    }

pub returns-clause-stopped : goal.returns-clause-stopped
returns-clause-stopped g c =
    λ other.
    stops c.args.query.now c.args.again c.args.tries c.loop.wanted c.loop.tried TooMany
    (shown g.C.Ticks.to_come g.R.Read.remaining g.W.Write.contents c.args.line.now c.args.reader.now c.args.writer.now)
    (shown g.C.Ticks.to_come g.R.Read.remaining g.W.Write.contents c.loop.line c.loop.reader c.loop.writer)
    (shown g.C.Ticks.to_come g.R.Read.remaining g.W.Write.contents c.loop.line c.loop.reader c.loop.writer)
    c.loop.invariant.so (Keeps-refl (g.W.Write.contents c.loop.writer.inner)) (omega arith)
