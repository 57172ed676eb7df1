-- The numbers of what asks a device, as a command line spells them.
use Rattle.std.specs.Prelude.{ℕ, ◌/◌, ◌==◌, ◌||◌, max, min, nat_le, nat_lt, not, false, List, codes, if◌then◌else◌}
use Rattle.std.specs.Prelude.{Option, None, Some, is_some, option_and_then, option_map, unwrap_or}
use Rattle.line_words.specs.Numbers.{number_of}
use Rattle.mctp_packet.specs.declared.TheConstants.{MAX_EID, MAX_KEEP, MIN_EID}
use Rattle.mctpctl_command_line.specs.Choice.{Linked, Watched}
use Rattle.mctpctl.specs.declared.settings.Periods.{Periods}
use Rattle.mctpctl.specs.declared.settings.Settings.{Settings}
use Rattle.mctpctl.specs.declared.settings.TheConstants.{EVERY_MS, KEEP_MS, LIFETIME_MS, MAX_COUNT}
use Rattle.mctpctl.specs.declared.settings.TheConstants.{MAX_EVERY, TIMEOUT_MS, TRIES}
use Rattle.pldm_requester.specs.declared.pace.Pace.{Pace}
use Rattle.pldm_requester.specs.declared.pace.PaceFault.{PaceFault}
use Rattle.pldm_requester.specs.declared.pace.PaceFault.TheVariants as faults
use Rattle.pldm_requester.specs.declared.timing.TheConstants.{MAX_TRIES}
use Rattle.pldm_requester.specs.declared.timing.Timing.{Timing}
use Rattle.pldm_wire.specs.declared.assigned.TheConstants.{INSTANCE_IDS}

abbrev pub from_least : ℕ → ℕ → Option ℕ
from_least least number = if nat_le least number then Some number else None

abbrev pub eid_in : List ℕ → Option ℕ
eid_in word = option_and_then (from_least MIN_EID) (number_of MAX_EID word)

-- the usual number, where none is given
abbrev pub number_in : ℕ → ℕ → Option (List ℕ) → Option ℕ
number_in most usual None = Some usual
number_in most usual (Some word) = number_of most word

-- the number that is given, where one is
abbrev pub given_in : ℕ → Option (List ℕ) → Option (Option ℕ)
given_in most None = Some None
given_in most (Some word) = option_map (λ number. Some number) (number_of most word)

abbrev pub keep_in : Option (List ℕ) → Option ℕ
keep_in word = option_and_then (from_least 1) (number_in MAX_KEEP KEEP_MS word)

abbrev pub timing : ℕ → ℕ → ℕ → Timing
timing keep timeout tries = record { keep = keep; timeout = timeout; tries = tries }

-- the lifetime where none is given
abbrev pub usual_lifetime : (keep window : ℕ) → ℕ
usual_lifetime keep window = if nat_lt window INSTANCE_IDS then LIFETIME_MS else keep

-- spread, but for the default one
abbrev pub paced : (keep lifetime window : ℕ) → Pace
paced keep lifetime window = record {
  lifetime = lifetime;
  window = window;
  spread = not (lifetime == keep) || not (window == INSTANCE_IDS);
  brief = false;
}

abbrev pub pace_of : ℕ → Option ℕ → ℕ → Pace
pace_of keep lifetime window = paced keep (unwrap_or lifetime (usual_lifetime keep window)) window

-- for how long a try waits where nothing is said: the tries share a lifetime that is shorter than the keeping time
abbrev pub usual_timeout : ℕ → Pace → ℕ → ℕ
usual_timeout keep pace tries =
    if nat_le keep pace.lifetime then TIMEOUT_MS else min (max (pace.lifetime / max tries 1) 1) TIMEOUT_MS

abbrev pub times_at : Pace → ℕ → Option ℕ → ℕ → Timing × Pace
times_at pace keep timeout tries = (timing keep (unwrap_or timeout (usual_timeout keep pace tries)) tries, pace)

abbrev pub times_of : ℕ → Option ℕ → ℕ → Option ℕ → ℕ → Timing × Pace
times_of keep timeout tries lifetime window = times_at (pace_of keep lifetime window) keep timeout tries

-- the times and the pace, where each number is one
abbrev pub times_in : Linked → Option (Timing × Pace)
times_in q =
    option_and_then (λ keep. option_and_then (λ timeout. option_and_then (λ tries. option_and_then (λ lifetime.
    option_map (times_of keep timeout tries lifetime)
    (number_in INSTANCE_IDS INSTANCE_IDS q.window)) (given_in MAX_KEEP q.lifetime)) (number_in MAX_TRIES TRIES q.tries))
    (given_in MAX_KEEP q.timeout)) (keep_in q.keep)

-- what is asked for, where each number is one
abbrev pub settings_in : Linked → Option Settings
settings_in q =
    option_and_then (λ own. option_and_then (λ device.
    option_map (λ times. record { own = own; device = device; timing = times.0; pace = times.1 }) (times_in q))
    (eid_in q.device)) (eid_in q.own)

-- the first option of these whose value is no number, or none of its range
abbrev pub refused_time : Linked → Option (List ℕ)
refused_time q =
    if not (is_some (keep_in q.keep)) then Some (codes "--keep <MS>")
    else if not (is_some (given_in MAX_KEEP q.timeout)) then Some (codes "--timeout <MS>")
    else if not (is_some (number_in MAX_TRIES TRIES q.tries)) then Some (codes "--tries <N>")
    else if not (is_some (given_in MAX_KEEP q.lifetime)) then Some (codes "--lifetime <MS>")
    else if not (is_some (number_in INSTANCE_IDS INSTANCE_IDS q.window)) then Some (codes "--window <N>")
    else None

-- and of all
abbrev pub refused_option : Linked → Option (List ℕ)
refused_option q =
    if not (is_some (eid_in q.own)) then Some (codes "--own <EID>")
    else if not (is_some (eid_in q.device)) then Some (codes "--device <EID>")
    else refused_time q

-- the option for which a pace is refused
abbrev pub option_of_pace : Settings → PaceFault → List ℕ
option_of_pace settings faults.NoLifetime = codes "--lifetime <MS>"
option_of_pace settings faults.LongLifetime = codes "--lifetime <MS>"
option_of_pace settings faults.TooLate =
    if nat_lt settings.pace.lifetime settings.timing.tries then codes "--lifetime <MS>" else codes "--timeout <MS>"
option_of_pace settings faults.Window = codes "--window <N>"

-- how long a period is, and how many there are
abbrev pub periods_in : Watched → Option Periods
periods_in w =
    option_and_then (λ every. option_map (λ count. record { every = every; count = count })
    (number_in MAX_COUNT MAX_COUNT w.count)) (number_in MAX_EVERY EVERY_MS w.every)

abbrev pub refused_period : Watched → Option (List ℕ)
refused_period w =
    if not (is_some (number_in MAX_EVERY EVERY_MS w.every)) then Some (codes "--every <MS>")
    else if not (is_some (number_in MAX_COUNT MAX_COUNT w.count)) then Some (codes "--count <N>")
    else None
