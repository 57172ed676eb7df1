-- The last line is what was kept.
use Rattle.std.proofs.Common.{◌≡◌, rules, subst, ◌∷◌, []}
use Rattle.mctpctl_engines.specs.Pieces.{FinishesTo}
use Rattle.mctpctl_engines.proofs.LineGlue.{last_line}
use Rattle.mctpctl_engines.proofs.line_run.LineRunRun.finish.Goals as goal

pub returns-clause-meets : goal.returns-clause-meets
returns-clause-meets g c =
    let f = g.T.LineTaker.writes c.args.self.now.taker in
    let kept : c.deref.result.now ≡ c.args.self.now.kept.items = search rules in
    last_line f c.args.is_cut c.args.self.now.kept.items (λ rest. FinishesTo rest (g.W.Write.contents c.args.writer.now.inner) (g.W.Write.contents c.finish.new.writer.inner) c.finish.result)
    (subst (λ l. FinishesTo (f c.args.is_cut (l ∷ [])) (g.W.Write.contents c.args.writer.now.inner) (g.W.Write.contents c.finish.new.writer.inner) c.finish.result) kept c.finish.ensures.meets)
