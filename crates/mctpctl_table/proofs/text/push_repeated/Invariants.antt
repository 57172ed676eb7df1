-- So many of the bytes stand there.
use Rattle.std.proofs.Common.{◌≡◌, ◌++◌, replicate}
use Rattle.mctpctl_table.proofs.text.push_repeated.Given as goal

abbrev pub invariant-loop : goal.invariant-loop
invariant-loop l = l.out.items ≡ l.initial.out.items ++ replicate l.counter l.byte
