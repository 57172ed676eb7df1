-- Where nothing was kept, the line that ends is this.
use Rattle.std.proofs.Common.{◌≡◌, ◌++◌, [], ap, sym, rules}
use Rattle.std.proofs.lemmas.List.{nil_from_length}
use Rattle.mctpctl_engines.proofs.LineGlue.{line_takes}
use Rattle.mctpctl_engines.proofs.line_run.LineRun.end_line.Goals as goal

pub returns-then-is_empty-clause-meets : goal.returns-then-is_empty-clause-meets
returns-then-is_empty-clause-meets g c =
    let none : c.args.self.now.kept.items ≡ [] = nil_from_length c.args.self.now.kept.items (search rules) in
    line_takes (g.T.LineTaker.writes c.args.self.now.taker) (g.met.T.LineTaker.none_where_cut c.args.self.now.taker) (g.T.LineTaker.writes c.take_line.new.self) c.args.self.now.kept.items c.args.line.now c.args.line.now c.args.self.now.kept.items c.args.out.now.items c.take_line.new.out.items c.take_line.result c.requires.feed (sym (ap (λ kept. kept ++ c.args.line.now) none)) none c.take_line.ensures.meets
