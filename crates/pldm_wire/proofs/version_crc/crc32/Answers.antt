-- What is left at the end is the remainder.
use Rattle.std.proofs.Common.{sym, subst, ℕ, arith, rules}
use Rattle.std.proofs.lemmas.Grind.{common_steps}
use Rattle.pldm_wire.specs.Crc32.{IsCrc32, divided_bits}
use Rattle.pldm_wire.proofs.LongDivision.{crc32_is_remainder}
use Rattle.pldm_wire.proofs.version_crc.crc32.Goals as goal

pub returns-clause-value : goal.returns-clause-value
unfolding divided_bits
returns-clause-value c = first_of (search rules, grind (arith, common_steps))

pub returns-clause-remainder : goal.returns-clause-remainder
returns-clause-remainder c = subst (λ (x : ℕ). IsCrc32 c.args.bytes.now x) (sym (returns-clause-value c)) (crc32_is_remainder c.args.bytes.now)
