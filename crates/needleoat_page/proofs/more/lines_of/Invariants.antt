-- The lines so far.
use Rattle.std.proofs.Common.{◌≡◌, map, take}
use Rattle.std.specs.Prelude.{string_bytes}
use Rattle.needleoat_page.specs.Explanations.{warning_lines}
use Rattle.needleoat_page.proofs.more.lines_of.Given as goal

abbrev pub invariant-loop-warning : goal.invariant-loop-warning
invariant-loop-warning l = l.lines.items ≡ warning_lines (map (λ text. string_bytes text) (take l.warning-index l.warnings))
