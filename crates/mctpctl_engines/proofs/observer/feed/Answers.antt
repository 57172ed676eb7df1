-- A destination without an assembler has nothing open.
use Rattle.std.proofs.Common.{sym, ap, ◌∙◌}
use Rattle.mctp_assembly.specs.Steps.{after}
use Rattle.mctpctl_engines.proofs.ObservedEntries.{open_put}
use Rattle.mctpctl_engines.proofs.observer.feed.Goals as goal

pub returns-clause-open : goal.returns-clause-open
returns-clause-open c =
    open_put c.args.assemblers.now.entries c.get_mut.follows.lender-at-none.entries c.insert.new.self.entries c.args.packet.now c.route-destination.result.destination c.feed_into-2.new.self
    (ap (λ assemblers. assemblers.entries) c.get_mut.follows.holds-at-none) (ap (λ route. route.destination) c.route-destination.ensures) (sym c.in-None.ensures.value)
    (c.in_ok-given.ensures.ok ∙ ap (λ held. after held c.args.packet.now) c.new-assembler.ensures) c.in_ok-insert.ensures.updates.0
