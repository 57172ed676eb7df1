-- A piece extends what was written, or ends the run as all of the input has it.
use Rattle.std.proofs.Common.{◌≡◌, ◌≤◌, ◌<◌, ◌+◌, ◌-◌, ◌++◌, ℕ, min, List, length, length-append, length-take, arith, rules, take, true, false}
use Rattle.std.proofs.KnownBytes.{Appends-trans, Consumes-trans}
use Rattle.mctpctl_input.specs.declared.limits.TheConstants.{MAX_INPUT}
use Rattle.mctpctl_engines.proofs.PieceRuns.{goes_after, piece_consumed, piece_all_consumed, known_end, known_past, known_finish, memory_within, memory_at_end, fault_within}
use Rattle.mctpctl_engines.proofs.piece_loop.run_pieces.Goals as goal

whole : (n count left : ℕ) → n ≡ min count left → count ≤ left → n ≡ count
whole n count left e within = omega (arith)

below : (n count left : ℕ) → n ≡ min count left → left < count → n < count
below n count left e past = omega (arith)

at_limit : (limit len n count left : ℕ) → n ≡ min count left → left < count → left + len ≡ limit → n + len ≡ limit
at_limit limit len n count left e past l = omega (arith)

added_size : (taken buffer : List ℕ) (n count : ℕ) → n ≡ count → count ≤ length buffer → length (taken ++ take n buffer) ≡ length taken + n
added_size taken buffer n count same within = omega (arith, length-append {A = ℕ}, length-take {A = ℕ})

new_limit : (limit left n count len new : ℕ) → new ≡ len + n → n ≡ count → count ≤ left → left + len ≡ limit → (left - n) + new ≡ limit
new_limit limit left n count len new size same within l = omega arith

new_count : (old new len piece all : ℕ) → old ≤ len → all ≡ len + piece → new ≤ old + piece → new ≤ all
new_count old new len piece all a b d = omega arith

pub returns-then-count-eq0 : goal.returns-then-count-eq0
returns-then-count-eq0 g c =
    let i = c.loop-count.invariant in
    let bytes = c.in-Ok.ensures.bytes in
    let all_read = known_end (g.R.Read.remaining c.args.reader.now.inner) (g.R.Read.remaining c.loop-count.reader.inner) (g.R.Read.remaining c.read.new.self.inner) MAX_INPUT i.taken c.read.new.buf c.in-Ok.count c.if-count-eq0.true i.consumed bytes.0 (bytes.1 c.if-count-eq0.true (omega (arith, i.room))) (omega (arith, i.limit)) in
    record {
      text = known_finish (g.T.Run.gives c.args.run.now) (g.T.Run.gives c.loop-count.run) MAX_INPUT (g.R.Read.remaining c.args.reader.now.inner) (g.W.Write.contents c.args.writer.now.inner) (g.W.Write.contents c.loop-count.writer.inner) (g.W.Write.contents c.finish.new.writer.inner) i.taken i.text false c.finish.result all_read i.goes i.written c.finish.ensures.meets;
      at_read = search rules;
      at_memory = λ memory. memory_at_end (g.T.Run.gives c.args.run.now) (g.T.Run.gives c.loop-count.run) false (g.R.Read.remaining c.args.reader.now.inner) (g.R.Read.remaining c.loop-count.reader.inner) (g.W.Write.contents c.args.writer.now.inner) (g.W.Write.contents c.loop-count.writer.inner) (g.W.Write.contents c.finish.new.writer.inner) i.taken i.text c.finish.result memory i.consumed i.written i.goes (g.met.T.Run.none_where_cut c.loop-count.run) c.finish.ensures.meets;
      ports = (search rules, search rules);
    }

pub returns-in-Err : goal.returns-in-Err
returns-in-Err g c =
    let i = c.loop-count.invariant in
    let n = c.min-taken.result in
    let read = piece_consumed (g.R.Read.remaining c.loop-count.reader.inner) (g.R.Read.remaining c.read.new.self.inner) c.read.new.buf c.in-Ok.count n c.in-Ok.ensures.bytes.0 (omega (arith, c.min-taken.ensures)) in
    record {
      text = fault_within (g.T.Run.gives c.args.run.now) (g.T.Run.gives c.loop-count.run) MAX_INPUT (g.R.Read.remaining c.args.reader.now.inner) (g.R.Read.remaining c.loop-count.reader.inner) _ (g.W.Write.contents c.args.writer.now.inner) (g.W.Write.contents c.loop-count.writer.inner) (g.W.Write.contents c.take_piece.new.writer.inner) i.taken (take n c.read.new.buf) i.text c.in-Err.fault i.consumed read (omega (arith, length-append {A = ℕ}, length-take {A = ℕ}, i.limit, c.min-taken.ensures)) i.written i.goes c.in-Err.ensures.meets;
      at_read = search rules;
      at_memory = λ memory. memory_within (g.T.Run.gives c.args.run.now) (g.T.Run.gives c.loop-count.run) (g.R.Read.remaining c.args.reader.now.inner) (g.R.Read.remaining c.loop-count.reader.inner) _ (g.W.Write.contents c.args.writer.now.inner) (g.W.Write.contents c.loop-count.writer.inner) (g.W.Write.contents c.take_piece.new.writer.inner) i.taken (take n c.read.new.buf) i.text c.in-Err.fault memory i.consumed read i.written i.goes c.in-Err.ensures.meets;
      ports = (search rules, search rules);
    }

pub returns-then-is_cut : goal.returns-then-is_cut
returns-then-is_cut g c =
    let i = c.loop-count.invariant in
    let n = c.min-taken.result in
    let meets = c.in-Ok-take_piece.ensures.meets in
    let all_read = known_past (g.R.Read.remaining c.args.reader.now.inner) (g.R.Read.remaining c.loop-count.reader.inner) (g.R.Read.remaining c.read.new.self.inner) MAX_INPUT i.taken c.read.new.buf c.in-Ok.count n i.consumed c.in-Ok.ensures.bytes.0 (at_limit MAX_INPUT (length i.taken) n c.in-Ok.count c.loop-count.left c.min-taken.ensures c.if-is_cut.true i.limit) (below n c.in-Ok.count c.loop-count.left c.min-taken.ensures c.if-is_cut.true) c.in-Ok.ensures.bound.0 in
    let read = piece_consumed (g.R.Read.remaining c.loop-count.reader.inner) (g.R.Read.remaining c.read.new.self.inner) c.read.new.buf c.in-Ok.count n c.in-Ok.ensures.bytes.0 (omega (arith, c.min-taken.ensures)) in
    record {
      text = known_finish (g.T.Run.gives c.args.run.now) (g.T.Run.gives c.take_piece.new.run) MAX_INPUT (g.R.Read.remaining c.args.reader.now.inner) (g.W.Write.contents c.args.writer.now.inner) (g.W.Write.contents c.take_piece.new.writer.inner) (g.W.Write.contents c.finish-then-is_cut.new.writer.inner) (i.taken ++ take n c.read.new.buf) (i.text ++ meets.0) true c.finish-then-is_cut.result all_read (goes_after (g.T.Run.gives c.args.run.now) (g.T.Run.gives c.loop-count.run) (g.T.Run.gives c.take_piece.new.run) i.taken (take n c.read.new.buf) i.text meets.0 i.goes meets.2) (Appends-trans _ (g.W.Write.contents c.loop-count.writer.inner) _ i.text meets.0 i.written meets.1) c.finish-then-is_cut.ensures.meets;
      at_read = search (rules, c.finish-then-is_cut.ensures.ports.0);
      at_memory = λ memory. memory_at_end (g.T.Run.gives c.args.run.now) (g.T.Run.gives c.take_piece.new.run) true (g.R.Read.remaining c.args.reader.now.inner) _ (g.W.Write.contents c.args.writer.now.inner) (g.W.Write.contents c.take_piece.new.writer.inner) (g.W.Write.contents c.finish-then-is_cut.new.writer.inner) (i.taken ++ take n c.read.new.buf) (i.text ++ meets.0) c.finish-then-is_cut.result memory (Consumes-trans _ (g.R.Read.remaining c.loop-count.reader.inner) _ i.taken (take n c.read.new.buf) i.consumed read) (Appends-trans _ (g.W.Write.contents c.loop-count.writer.inner) _ i.text meets.0 i.written meets.1) (goes_after (g.T.Run.gives c.args.run.now) (g.T.Run.gives c.loop-count.run) (g.T.Run.gives c.take_piece.new.run) i.taken (take n c.read.new.buf) i.text meets.0 i.goes meets.2) (g.met.T.Run.none_where_cut c.take_piece.new.run) c.finish-then-is_cut.ensures.meets;
      ports = (search rules, search rules);
    }

pub loop-count-preserved : goal.loop-count-preserved
loop-count-preserved g c =
    let i = c.loop-count.invariant in
    let n = c.min-taken.result in
    let meets = c.in-Ok-take_piece.ensures.meets in
    let same = whole n c.in-Ok.count c.loop-count.left c.min-taken.ensures c.if-is_cut.false in
    let size : length (i.taken ++ take n c.read.new.buf) ≡ length i.taken + n = added_size i.taken c.read.new.buf n c.in-Ok.count same c.in-Ok.ensures.bound.0 in
    record {
      taken = i.taken ++ take n c.read.new.buf;
      text = i.text ++ meets.0;
      consumed = Consumes-trans _ (g.R.Read.remaining c.loop-count.reader.inner) _ i.taken (take n c.read.new.buf) i.consumed (piece_all_consumed (g.R.Read.remaining c.loop-count.reader.inner) (g.R.Read.remaining c.read.new.self.inner) c.read.new.buf c.in-Ok.count n c.in-Ok.ensures.bytes.0 same);
      written = Appends-trans _ (g.W.Write.contents c.loop-count.writer.inner) _ i.text meets.0 i.written meets.1;
      goes = goes_after (g.T.Run.gives c.args.run.now) (g.T.Run.gives c.loop-count.run) (g.T.Run.gives c.take_piece.new.run) i.taken (take n c.read.new.buf) i.text meets.0 i.goes meets.2;
      limit = new_limit MAX_INPUT c.loop-count.left n c.in-Ok.count (length i.taken) _ size same c.if-is_cut.false i.limit;
      counted = new_count _ _ _ _ _ i.counted (length-append i.taken (take n c.read.new.buf)) c.take_piece.ensures.counted;
      reads = search rules;
      writes = search rules;
      empty = c.in-Ok-take_piece.ensures.empty;
      room = search rules;
    }
