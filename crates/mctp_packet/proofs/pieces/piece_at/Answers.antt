-- What is left of the message is its last piece where it is no longer than a unit.
use Rattle.std.proofs.Common.{sym, arith}
use Rattle.std.proofs.lemmas.List.{take_all}
use Rattle.mctp_packet.specs.declared.TheConstants.{BASELINE_UNIT}
use Rattle.mctp_packet.proofs.pieces.piece_at.Goals as goal

pub returns-then-rest-le-BASELINE_UNIT-clause-value : goal.returns-then-rest-le-BASELINE_UNIT-clause-value
returns-then-rest-le-BASELINE_UNIT-clause-value c =
    let whole = take_all BASELINE_UNIT c.split_at.result.1.now (omega arith) in
    rw (← c.split_at.ensures.back) (sym whole)
