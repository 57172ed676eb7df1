-- A count of commands, which stays at the most that 32 bits hold.
use Rattle.std.specs.Prelude.{◌≡◌, ℕ, ◌+◌, List, [], ◌++◌, length, min}
use Rattle.std.proofs.Common.{ap, sym, add-zero, arith, length-append}
use Rattle.pldm_wire.specs.declared.command.Command.{Command}

-- the most that 32 bits hold
abbrev pub MAX_COUNTED : ℕ
MAX_COUNTED = 4294967295

-- the count after one command more
abbrev pub counted : ℕ → ℕ
counted count = min (count + 1) MAX_COUNTED

-- the count rises by one for each command, up to the most that it can hold
abbrev pub Counts : ℕ → List Command → ℕ → Type 0
Counts before commands after = min after MAX_COUNTED ≡ min (before + length commands) MAX_COUNTED

pub counts_none : (count : ℕ) → Counts count [] count
counts_none count = ap (λ n. min n MAX_COUNTED) (sym (add-zero count))

pub counts_in_turn :
    (first second third : ℕ) (before after : List Command)
    → Counts first before second → Counts second after third → Counts first (after ++ before) third
counts_in_turn first second third before after one other =
    rw length-append (omega (arith, one, other))
