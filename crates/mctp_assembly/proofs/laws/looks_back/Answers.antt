use Rattle.mctp_assembly.proofs.CallsLookBack.{feed_looks_back, forget_looks_back, new_looks_back, held_where_begun}
use Rattle.mctp_assembly.proofs.RowsAreOne.{one_row}
use Rattle.mctp_assembly.proofs.laws.looks_back.Goals as goal

pub returns : goal.returns
returns c = record {
  feed = feed_looks_back;
  forget = forget_looks_back;
  new = new_looks_back;
  held = held_where_begun;
  one = one_row;
}
