-- When an instance ID is used again, by the courses of the requests before. The times are this profile's own.
use Rattle.std.specs.Prelude.{ℕ, zero, suc, ◌+◌, ◌-◌, ◌*◌, Bool, false, ◌&&◌, ◌||◌, ◌==◌, not, nat_lt, nat_le, List, [], ◌∷◌, length, filter, Option, Some, None, if◌then◌else◌, refl}
use Rattle.std.specs.Coded.{Coded, code_by, coded×, coded_ℕ, coded_bool}
use Rattle.pldm_wire.specs.declared.assigned.TheConstants.{INSTANCE_IDS}
use Rattle.pldm_requester.specs.Courses.{Course, is_answered}
use Rattle.pldm_requester.specs.declared.pace.Pace.{Pace}
use Rattle.pldm_requester.specs.declared.pace.PaceFault.{PaceFault}
use Rattle.pldm_requester.specs.declared.pace.PaceFault.TheVariants.{NoLifetime, LongLifetime, TooLate, Window}
use Rattle.pldm_requester.specs.declared.pace.SettingFault.{SettingFault}
use Rattle.pldm_requester.specs.declared.pace.SettingFault.TheVariants as settings
use Rattle.pldm_requester.specs.declared.pace.TheConstants.{MOST_SPREAD}
use Rattle.pldm_requester.specs.declared.requester.TheConstants.{MAX_OPEN, MAX_REMEMBERED}
use Rattle.pldm_requester.specs.declared.timing.Timing.{Timing}
use Rattle.pldm_requester.specs.declared.timing.TimingFault.{TimingFault}
use Rattle.pldm_requester.specs.Timings.{timing_fault}

-- by the keeping time alone
abbrev pub at_default : ℕ → Pace
at_default keep = record { lifetime = keep; window = INSTANCE_IDS; spread = false; brief = false }

-- the last so many below a number, the newest first
abbrev pub newest : {A : Type 0} → (each : ℕ → A) → (below most : ℕ) → List A
newest each zero most = []
newest each (suc n) zero = []
newest each (suc n) (suc most) = each n ∷ newest each n most

-- opened at this moment or later, and answered
abbrev pub is_answered_from : ℕ → Course → Bool
is_answered_from start course = is_answered course && nat_le start course.opening

-- how many of these were opened at least the lifetime after an opening, and answered
abbrev pub answered_after : Pace → ℕ → List Course → ℕ
answered_after pace opening since = length (filter (is_answered_from (opening + pace.lifetime)) since)

-- an instance ID is not free yet: the last request with it was opened then, and these since, the newest first
abbrev pub is_too_soon : ℕ → Pace → (moment opening : ℕ) → List Course → Bool
is_too_soon keep pace moment opening since =
    nat_lt moment (opening + 2 * pace.lifetime)
    || (nat_lt moment (opening + 2 * keep) && nat_lt (answered_after pace opening since) pace.window)

-- where requests are spread, each waits for the lifetime after the opening of the one so many before it
abbrev pub stride : Pace → ℕ
stride pace =
    if not pace.spread then 0
    else (if nat_lt (INSTANCE_IDS - pace.window) MOST_SPREAD then INSTANCE_IDS - pace.window else MOST_SPREAD)

-- of how many of the last requests the packets and the answer are kept
abbrev pub kept : Pace → ℕ
kept pace = if pace.brief then MAX_OPEN else MAX_REMEMBERED

abbrev pub is_crowded : Pace → ℕ → Course → Bool
is_crowded pace moment before = nat_lt moment (before.opening + pace.lifetime)

-- ---- which paces a requester takes, and the fault of any other: the first of these checks that fails
abbrev pub pace_fault : Timing → Pace → Option PaceFault
pace_fault timing pace =
    if pace.lifetime == 0 then Some NoLifetime
    else (if nat_lt timing.keep pace.lifetime then Some LongLifetime
    else (if nat_lt pace.lifetime (timing.tries * timing.timeout) then Some TooLate
    else (if not (nat_le 1 pace.window && nat_le pace.window INSTANCE_IDS) then Some Window else None)))

abbrev pub number_of_pace_fault : PaceFault → ℕ
number_of_pace_fault NoLifetime = 1
number_of_pace_fault LongLifetime = 2
number_of_pace_fault TooLate = 3
number_of_pace_fault Window = 4

-- the first fault of the settings of a requester
abbrev pub fault_of_pace : Option PaceFault → Option SettingFault
fault_of_pace None = None
fault_of_pace (Some fault) = Some (settings.Pace fault)

abbrev pub first_fault : Option TimingFault → Option PaceFault → Option SettingFault
first_fault None pace = fault_of_pace pace
first_fault (Some fault) pace = Some (settings.Timing fault)

abbrev pub setting_fault : ℕ → ℕ → Timing → Pace → Option SettingFault
setting_fault own device timing pace = first_fault (timing_fault own device timing) (pace_fault timing pace)

-- a pace is stored as its parts
abbrev pub coded_pace : Coded Pace
coded_pace =
    code_by (ℕ × (ℕ × (Bool × Bool))) (coded× coded_ℕ (coded× coded_ℕ (coded× coded_bool coded_bool)))
    (λ p. (p.lifetime, (p.window, (p.spread, p.brief))))
    (λ c. record { lifetime = c.0; window = c.1.0; spread = c.1.1.0; brief = c.1.1.1 })
    (λ _. refl)
