-- The text of the names so far and of those that are left, and where these end.
use Rattle.std.proofs.Common.{◌≡◌, ◌-◌, ◌++◌, flat_map}
use Rattle.mctpctl_decode.specs.NameTexts.{after_each, after_name, each_of, name_of, name_text}
use Rattle.mctpctl_decode.proofs.name_text.push_each_name.Given as goal

abbrev pub invariant-loop : goal.invariant-loop
invariant-loop l = record {
  text : l.out.items ++ flat_map name_text (each_of name_of after_name (l.count - l.counter) l.rest) ≡ l.initial.out.items ++ flat_map name_text (each_of name_of after_name l.count l.bytes);
  rest : after_each after_name (l.count - l.counter) l.rest ≡ after_each after_name l.count l.bytes;
}
