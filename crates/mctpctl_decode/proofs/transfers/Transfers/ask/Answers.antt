-- An entry is written, or put in.
use Rattle.std.proofs.Common.{unwrap_or, ap, subst, refl, ◌∙◌}
use Rattle.std.specs.Prelude.{IsSome}
use Rattle.mctpctl_decode.specs.Transfers.{asked_for, none_transferred}
use Rattle.mctpctl_decode.proofs.HeldPairs.{held_put}
use Rattle.mctpctl_decode.proofs.transfers.Transfers.ask.Goals as goal

pub returns-in-Some : goal.returns-in-Some
returns-in-Some c =
    held_put (λ t. asked_for t c.args.request) c.args.self.now.between.entries c.args.self.now.between.entries (c.get_mut.follows.lender c.ask.new.self).entries c.args.route.now.source c.args.route.now.destination c.ask.new.self refl
    (c.ask.ensures ∙ ap (λ found. asked_for (unwrap_or found none_transferred) c.args.request) c.in-Some.ensures.value)
    ((c.get_mut.follows.holds c.ask.new.self).3 (subst IsSome c.in-Some.ensures.value refl)).0

pub returns : goal.returns
returns c =
    held_put (λ t. asked_for t c.args.request) c.args.self.now.between.entries c.get_mut.follows.lender-at-none.entries c.insert.new.self.entries c.args.route.now.source c.args.route.now.destination c.ask-2.new.self
    (ap (λ m. m.entries) c.get_mut.follows.holds-at-none)
    (c.ask-2.ensures ∙ ap (λ t. asked_for t c.args.request) c.new-transfer.ensures ∙ ap (λ found. asked_for (unwrap_or found none_transferred) c.args.request) c.in-None.ensures.value)
    c.in_ok-insert.ensures.updates.0
