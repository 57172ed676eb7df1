-- The text of the names so far and of those that are left.
use Rattle.std.proofs.Common.{◌≡◌, ◌-◌, ◌++◌, flat_map}
use Rattle.mctpctl_decode.specs.NameTexts.{after_names, each_of, names_line, names_of}
use Rattle.mctpctl_decode.proofs.name_text.push_each_names.Given as goal

abbrev pub invariant-loop : goal.invariant-loop
invariant-loop l = l.out.items ++ flat_map names_line (each_of names_of after_names (l.count - l.counter) l.rest) ≡ l.initial.out.items ++ flat_map names_line (each_of names_of after_names l.count l.bytes)
