-- What is kept is the front of a line, which may be too long.
use Rattle.std.proofs.Common.{◌≡◌, ◌++◌, rules}
use Rattle.mctpctl_engines.proofs.LineGlue.{front_takes}
use Rattle.mctpctl_engines.proofs.line_run.LineRun.keep.Goals as goal

pub returns-clause-meets : goal.returns-clause-meets
returns-clause-meets g c =
    let kept : c.extend_from_slice.new.self.items ≡ c.args.self.now.kept.items ++ c.args.front.now = search rules in
    let reported : c.deref.result.now ≡ c.extend_from_slice.new.self.items = search rules in
    front_takes (g.T.LineTaker.writes c.args.self.now.taker) c.args.self.now.kept.items c.args.front.now c.extend_from_slice.new.self.items c.deref.result.now c.check_front.result c.requires.feed kept reported c.check_front.ensures.err
