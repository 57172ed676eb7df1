-- What is read is the package that the file has, and whichever it has is read.
use Rattle.std.proofs.Common.{arith}
use Rattle.pldm_update.proofs.PackagesRead.{is_found, only}
use Rattle.pldm_update.proofs.package.Package.read.Goals as goal

pub returns-clause-found : goal.returns-clause-found
returns-clause-found c =
    is_found c.args.file.now c.package_in.result (λ i. omega (arith, c.type_inv.file i)) c.package_in.ensures

pub returns-clause-only : goal.returns-clause-only
returns-clause-only c = λ p is. rw c.package_in.ensures (only c.args.file.now p is)
