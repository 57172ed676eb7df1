-- The text of the numbers so far.
use Rattle.std.proofs.Common.{◌≡◌, ◌++◌, take, flat_map, codes, decimal}
use Rattle.mctpctl_table.proofs.state_text.push_others.Given as goal

abbrev pub invariant-loop-state : goal.invariant-loop-state
invariant-loop-state l = l.out.items ≡ l.initial.out.items ++ flat_map (λ next. codes ", " ++ decimal next) (take l.state-index l.states)
