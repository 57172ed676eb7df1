-- Each line that ends extends what the piece gave, or ends the run.
use Rattle.std.proofs.Common.{◌++◌, ◌∷◌, [], ◌∙◌, ap, sym, append_assoc, arith}
use Rattle.mctpctl_engines.specs.LinePieces.{run_gives}
use Rattle.mctpctl_engines.specs.Pieces.{Gives}
use Rattle.mctpctl_engines.proofs.LineGlue.{ends_after_split, feed_split}
use Rattle.mctpctl_engines.proofs.PieceRuns.{goes_after}
use Rattle.mctpctl_engines.proofs.line_run.LineRunRun.take.Goals as goal

pub returns-in-Err-clause-meets : goal.returns-in-Err-clause-meets
returns-in-Err-clause-meets g c =
    let i = c.loop-line.invariant in
    let f : Gives = run_gives g.T.LineTaker.writes c.args.self.now in
    let m : Gives = run_gives g.T.LineTaker.writes c.loop-line.self in
    let h : Gives = run_gives g.T.LineTaker.writes c.end_line.new.self in
    ends_after_split f m h i.taken (c.in-Some.line.now ++ 10 ∷ []) c.in-Some.after.now c.args.piece.now i.text c.args.out.now.items c.loop-line.out.items c.end_line.new.out.items c.in-Err.fault i.goes i.added (i.parts ∙ ap (λ l. i.taken ++ l) (c.in-Some.ensures.parts ∙ feed_split c.in-Some.line.now c.in-Some.after.now)) c.in-Err.ensures.meets

pub loop-line-preserved : goal.loop-line-preserved
loop-line-preserved g c =
    let i = c.loop-line.invariant in
    let meets = c.in-Ok.ensures.meets in
    let f : Gives = run_gives g.T.LineTaker.writes c.args.self.now in
    let m : Gives = run_gives g.T.LineTaker.writes c.loop-line.self in
    let h : Gives = run_gives g.T.LineTaker.writes c.end_line.new.self in
    record {
      taken = i.taken ++ (c.in-Some.line.now ++ 10 ∷ []);
      text = i.text ++ meets.0;
      parts = i.parts ∙ ap (λ l. i.taken ++ l) (c.in-Some.ensures.parts ∙ feed_split c.in-Some.line.now c.in-Some.after.now) ∙ sym (append_assoc i.taken (c.in-Some.line.now ++ 10 ∷ []) c.in-Some.after.now);
      added = meets.1 ∙ ap (λ l. l ++ meets.0) i.added ∙ append_assoc c.args.out.now.items i.text meets.0;
      goes = goes_after f m h i.taken (c.in-Some.line.now ++ 10 ∷ []) i.text meets.0 i.goes meets.2;
      counted = omega (arith, c.in-Some.ensures.len, i.counted, c.end_line.ensures.counted);
    }
