-- What becomes of each frame of a line, by a seed.
use Rattle.std.specs.Prelude.{ℕ, ◌+◌, ◌%◌, ◌^◌, Bool, nat_lt, if◌then◌else◌}
use Rattle.line_faults.specs.declared.fate.Fate.{Fate}
use Rattle.line_faults.specs.declared.fate.LineFaults.{LineFaults}
use Rattle.line_faults.specs.declared.fate.TheConstants.{PERCENT}
use Rattle.rand_xoshiro.specs.SplitMix64.{mix_u64}

-- what the generator of a frame is begun with: the first number of the seed's, plus the frame's number
abbrev pub start_of : LineFaults → ℕ → ℕ
start_of faults frame = ((mix_u64 faults.seed).0 + frame) % 2 ^ 64

abbrev pub lost : Fate
lost = record { copies = 0; delay = 0 }

-- whether a number falls within so many percent
abbrev pub is_within : ℕ → ℕ → Bool
is_within percent number = nat_lt (number % PERCENT) percent

-- what becomes of a frame where these are the first three numbers of its generator
abbrev pub fate_by : LineFaults → (first second third : ℕ) → Fate
fate_by faults first second third =
    if is_within faults.lose first then lost
    else record { copies = if is_within faults.repeat second then 2 else 1; delay = third % (faults.delay + 1) }

-- what becomes of a frame
abbrev pub fate_of : LineFaults → ℕ → Fate
fate_of faults frame =
    let first = mix_u64 (start_of faults frame) in
    let second = mix_u64 first.1 in
    let third = mix_u64 second.1 in
    fate_by faults first.0 second.0 third.0
