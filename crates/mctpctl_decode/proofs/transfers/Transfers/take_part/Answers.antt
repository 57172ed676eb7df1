-- An entry is written, or nothing is found.
use Rattle.std.proofs.Common.{Some, unwrap_or, ap, sym, subst, refl, ◌∙◌}
use Rattle.std.specs.Prelude.{IsSome}
use Rattle.mctpctl_decode.specs.Transfers.{given, none_transferred, with_given}
use Rattle.mctpctl_decode.proofs.HeldPairs.{anyway, held_kept, held_put, none_answered}
use Rattle.mctpctl_decode.proofs.transfers.Transfers.take_part.Goals as goal

pub returns-in_default-clause-held : goal.returns-in_default-clause-held
returns-in_default-clause-held c =
    held_kept (λ t. with_given t (Some (given c.args.id c.args.next c.args.part.now))) c.args.self.now.between.entries c.get_mut.follows.lender-at-none.entries c.args.route.now.destination c.args.route.now.source
    (ap (λ m. m.entries) c.get_mut.follows.holds-at-none) (none_answered _ (given c.args.id c.args.next c.args.part.now) (sym c.in_default.ensures.value))

pub returns-clause-held : goal.returns-clause-held
returns-clause-held c =
    let some = Some (given c.args.id c.args.next c.args.part.now) in
    anyway c.push_ended.result _
    (held_put (λ t. with_given t some) c.args.self.now.between.entries c.args.self.now.between.entries (c.get_mut.follows.lender c.take.new.self).entries c.args.route.now.destination c.args.route.now.source c.take.new.self refl
    (c.in_ok-take.ensures ∙ ap (λ found. with_given (unwrap_or found none_transferred) some) c.in-Some.ensures.value)
    ((c.get_mut.follows.holds c.take.new.self).3 (subst IsSome c.in-Some.ensures.value refl)).0)
