-- What follows those that are left.
use Rattle.std.proofs.Common.{◌≡◌, ◌-◌}
use Rattle.mctpctl_decode.specs.NameTexts.{after_each, after_names}
use Rattle.mctpctl_table.proofs.name.after_fields.Given as goal

abbrev pub invariant-loop : goal.invariant-loop
invariant-loop l = after_each after_names (l.count - l.counter) l.rest ≡ after_each after_names l.count l.bytes
