-- What is left is known.
use Rattle.pldm_requester.proofs.ResumedOpenings.{are_known}
use Rattle.pldm_requester.proofs.requester.Requester.openings.Goals as goal
use Rattle.std.proofs.Common.{rules}

pub returns-clause-known : goal.returns-clause-known
returns-clause-known c now later =
    are_known c.args.self.now (record { next = c.id_of.result; moments = c.moments_of.result }) now (search rules)
    (search rules) (search rules) (search rules) c.moments_of.ensures.ranges later
