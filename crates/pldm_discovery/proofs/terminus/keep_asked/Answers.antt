-- What passes the test is kept.
use Rattle.std.proofs.Common.{◌≡◌, rules}
use Rattle.std.proofs.lemmas.Fn.{filter_same}
use Rattle.pldm_discovery.specs.Termini.{is_asked}
use Rattle.pldm_discovery.proofs.terminus.keep_asked.Goals as goal

pub returns : goal.returns
returns c = filter_same _ (is_asked c.args.handle) _ (λ x b q t. search rules) c.args.found.now.items c.retain.new.self.items c.retain.ensures.filtered
