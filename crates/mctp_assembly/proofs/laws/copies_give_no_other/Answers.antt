use Rattle.mctp_assembly.proofs.CopiesJoin.{copies_give_no_other}
use Rattle.mctp_assembly.proofs.laws.copies_give_no_other.Goals as goal

pub returns : goal.returns
returns c = copies_give_no_other
