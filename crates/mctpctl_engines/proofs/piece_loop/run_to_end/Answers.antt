-- The flush leaves what was written.
use Rattle.mctpctl_engines.proofs.RunsToEnd.{text_flushed, front_flushed}
use Rattle.mctpctl_engines.proofs.piece_loop.run_to_end.Goals as goal

pub returns-clause-text : goal.returns-clause-text
returns-clause-text g c = text_flushed (g.T.Run.gives c.args.run.now) _ _ _ _ _ c.run_input-result.ensures.text c.flush.ensures.bytes

pub returns-clause-at_memory : goal.returns-clause-at_memory
returns-clause-at_memory g c =
    λ memory. front_flushed (g.T.Run.gives c.args.run.now) _ _ _ _ (c.run_input-result.ensures.at_memory memory) c.flush.ensures.bytes
