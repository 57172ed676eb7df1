-- What was added piece by piece is the whole text.
use Rattle.std.proofs.Common.{[], ◌∷◌, flat_map, rules}
use Rattle.mctpctl_state.proofs.Joined.{joined}
use Rattle.mctpctl_state.specs.States.{moment_text, number_text}
use Rattle.mctpctl_state.proofs.kept.push_state.Goals as goal

pub returns : goal.returns
returns c =
    joined c.args.out.now.items _ c.args.kept.now.boot.now (number_text c.args.kept.now.own)
    (number_text c.args.kept.now.device) (number_text c.args.kept.now.next) (number_text c.args.kept.now.queries.next)
    (moment_text c.args.kept.now.queries.last) (flat_map moment_text c.args.kept.now.moments.items) (10 ∷ [])
    c.extend_from_slice.new.self.items c.extend_from_slice-2.new.self.items c.push_number.new.out.items c.push_number-2.new.out.items
    c.push_number-3.new.out.items c.push_number-4.new.out.items c.push_moment.new.out.items c.push_moments.new.out.items c.push.new.self.items
    c.in_ok-extend_from_slice.ensures.items (search rules) (search rules) (search rules) (search rules) (search rules) (search rules) (search rules) (search rules)
