-- Where there is no room for a piece, nothing was written.
use Rattle.std.proofs.Common.{rules}
use Rattle.mctpctl_engines.proofs.PieceRuns.{nothing_written}
use Rattle.mctpctl_engines.proofs.piece_loop.run_input.Goals as goal

pub returns-in_err-piece : goal.returns-in_err-piece
returns-in_err-piece g c = record {
  text = search rules;
  at_read = search rules;
  at_memory = λ _. nothing_written (g.T.Run.gives c.args.run.now) (g.R.Read.remaining c.args.reader.now.inner) (g.W.Write.contents c.args.writer.now.inner) (g.met.T.Run.none_where_cut c.args.run.now);
  ports = (search rules, search rules);
}
