-- The text begins with a quote.
use Rattle.std.proofs.Common.{◌≡◌, ℕ, List, ◌++◌, codes, string_bytes}
use Rattle.mctpctl_explain.proofs.quote.quoted.Given as goal

abbrev pub invariant-loop-place : goal.invariant-loop-place
invariant-loop-place l = (shown : List ℕ) × (string_bytes l.text ≡ codes "'" ++ shown)
