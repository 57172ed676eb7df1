-- The line that ends is what was kept, and this.
use Rattle.std.proofs.Common.{◌≡◌, ◌++◌, ◌∷◌, [], refl, rules}
use Rattle.mctpctl_engines.specs.LinePieces.{pieces_give}
use Rattle.mctpctl_input.specs.OutsideFaults.{no_memory}
use Rattle.mctpctl_engines.proofs.LineGlue.{line_takes, nothing_done}
use Rattle.mctpctl_engines.proofs.line_run.LineRun.end_kept_line.Goals as goal

pub returns-clause-meets : goal.returns-clause-meets
returns-clause-meets g c =
    let line : c.deref.result.now ≡ c.args.self.now.kept.items ++ c.args.line.now = search rules in
    line_takes (g.T.LineTaker.writes c.args.self.now.taker) (g.met.T.LineTaker.none_where_cut c.args.self.now.taker) (g.T.LineTaker.writes c.take_line-result.new.self) c.args.self.now.kept.items c.args.line.now c.deref.result.now c.clear.new.self.items c.args.out.now.items c.take_line-result.new.out.items c.take_line-result.result c.requires.feed line c.clear.ensures.items c.take_line-result.ensures.meets

pub returns-in-Err-clause-meets : goal.returns-in-Err-clause-meets
returns-in-Err-clause-meets g c =
    nothing_done (g.T.LineTaker.writes c.args.self.now.taker) (g.met.T.LineTaker.none_where_cut c.args.self.now.taker) c.args.self.now.kept.items (c.args.line.now ++ 10 ∷ []) c.args.out.now.items c.args.out.now.items (pieces_give (g.T.LineTaker.writes c.args.self.now.taker) []) no_memory refl refl
