-- What is described at the place is of what was found there.
use Rattle.std.proofs.Common.{rules}
use Rattle.mctpctl.proofs.DescribedRows.{heard_at}
use Rattle.pldm_discovery.specs.Walks.{reading_at}
use Rattle.mctpctl.proofs.walking.add_found.Goals as goal

pub returns : goal.returns
returns c =
    search (
      rules,
      heard_at c.args.walk.now c.args.place c.args.described.now c.index-described-place.result
          (reading_at c.args.walk.now c.args.place) c.requires.described c.requires.place c.index-described-place.is,
    )
