-- Which timings a requester takes, and the fault of any other: the first of these checks that fails.
use Rattle.std.specs.Prelude.{ℕ, ◌*◌, ◌&&◌, ◌==◌, not, nat_lt, nat_le, Option, Some, None, if◌then◌else◌, refl}
use Rattle.std.specs.Coded.{Coded, code_by, coded×, coded_ℕ}
use Rattle.pldm_requester.specs.declared.timing.Timing.{Timing}
use Rattle.pldm_requester.specs.declared.timing.TimingFault.{TimingFault}
use Rattle.pldm_requester.specs.declared.timing.TimingFault.TheVariants.{Timeout, Tries, TooLate, SameEid}
use Rattle.pldm_requester.specs.declared.timing.TheConstants.{MAX_TRIES}

abbrev pub timing_fault : ℕ → ℕ → Timing → Option TimingFault
timing_fault own device timing =
    if timing.timeout == 0 then Some Timeout
    else (if not (nat_le 1 timing.tries && nat_le timing.tries MAX_TRIES) then Some Tries
    else (if nat_lt timing.keep (timing.tries * timing.timeout) then Some TooLate
    else (if own == device then Some SameEid else None)))

abbrev pub number_of_timing_fault : TimingFault → ℕ
number_of_timing_fault Timeout = 1
number_of_timing_fault Tries = 2
number_of_timing_fault TooLate = 3
number_of_timing_fault SameEid = 4

-- a timing is stored as its parts
abbrev pub coded_timing : Coded Timing
coded_timing =
    code_by (ℕ × (ℕ × ℕ)) (coded× coded_ℕ (coded× coded_ℕ coded_ℕ))
    (λ t. (t.keep, (t.timeout, t.tries)))
    (λ c. record { keep = c.0; timeout = c.1.0; tries = c.1.1 })
    (λ _. refl)
