-- What a file keeps of earlier requests: its text, and what is known by it.
use Rattle.std.specs.Fmt.{decimal}
use Rattle.std.specs.List.{All, flat_map}
use Rattle.std.specs.Prelude.{◌≡◌, ◌≢◌, ◌⊎◌, ℕ, ◌+◌, ◌-◌, ◌%◌, ◌^◌, ◌<◌, ◌≤◌, nat_lt, min, option_map, List, [], ◌∷◌, ◌++◌, codes, length, map, slice_get, slice_set, if◌then◌else◌, Option, None, Some, IfSome, unwrap_or}
use Rattle.pldm_wire.specs.declared.assigned.TheConstants.{INSTANCE_IDS}
use Rattle.pldm_requester.specs.declared.openings.Openings.{Openings}
use Rattle.mctpctl_state.specs.declared.kept.Kept.{Kept}
use Rattle.mctpctl_state.specs.declared.kept.Known.{Known}
use Rattle.mctpctl_state.specs.declared.kept.Queries.{Queries}
use Rattle.mctpctl_state.specs.declared.kept.Unknown.{Unknown}
use Rattle.mctpctl_state.specs.declared.kept.Unknown.TheVariants.{Damaged, OtherBoot, OtherEndpoints, ToCome}

-- a space, and the number
abbrev pub number_text : ℕ → List ℕ
number_text number = 32 ∷ decimal number

-- a space, and the moment, or '-' where it is not known
abbrev pub moment_text : Option ℕ → List ℕ
moment_text (Some moment) = number_text moment
moment_text None = 32 ∷ 45 ∷ []

-- the boot ID, the two endpoint IDs, the next instance ID, that of control queries and when the last of these went out,
-- and the moments of the openings, in a line that says its form
abbrev pub state_text : Kept → List ℕ
state_text kept =
    codes "mctpctl-openings " ++ kept.boot.now ++ number_text kept.own ++ number_text kept.device
    ++ number_text kept.next ++ number_text kept.queries.next ++ moment_text kept.queries.last
    ++ flat_map moment_text kept.moments.items ++ 10 ∷ []

-- these openings are known: they were kept since this start of the system for these endpoint IDs, none is to come, and
-- one that is not known was up to now
pub record AreOf (kept : Kept) (boot : List ℕ) (own device now : ℕ) (known : Known) : Type 0 where
  pub same_boot : kept.boot.now ≡ boot
  pub same_own : kept.own ≡ own
  pub same_device : kept.device ≡ device
  pub query_passed : IfSome kept.queries.last (λ m. m ≤ now)
  pub passed : All (λ moment. IfSome moment (λ m. m ≤ now)) kept.moments.items
  pub queries : known.queries ≡ record { next = kept.queries.next; last = Some (unwrap_or kept.queries.last now) }
  pub next : known.openings.next ≡ kept.next
  pub moments : known.openings.moments.items ≡ map (λ moment. unwrap_or moment now) kept.moments.items

-- a moment is known, and to come
abbrev pub IsToCome : ℕ → Option ℕ → Type 0
IsToCome now None = ⊥
IsToCome now (Some moment) = now < moment

-- nothing is known, for this reason
abbrev pub IsUnknown : Kept → List ℕ → ℕ → ℕ → ℕ → Unknown → Type 0
IsUnknown kept boot own device now Damaged = ⊥
IsUnknown kept boot own device now OtherBoot = kept.boot.now ≢ boot
IsUnknown kept boot own device now OtherEndpoints = (kept.own ≢ own) ⊎ (kept.device ≢ device)
IsUnknown kept boot own device now ToCome =
    IsToCome now kept.queries.last ⊎ (
    (place : ℕ) × (moment : ℕ) × (slice_get kept.moments.items place ≡ Some (Some moment)) × (now < moment))

-- the instance ID after one
abbrev pub next_after : ℕ → ℕ
next_after id = (id + 1) % INSTANCE_IDS

-- the moments of these openings, each so much later; that of the next instance ID is not known
abbrev pub known_moments : Openings → ℕ → List (Option ℕ)
known_moments openings later = map (λ moment. Some (moment + later)) openings.moments.items

abbrev pub later_moments : Openings → ℕ → List (Option ℕ)
later_moments openings later =
    if nat_lt openings.next (length openings.moments.items)
    then slice_set (known_moments openings later) openings.next None
    else (if nat_lt (length openings.moments.items) INSTANCE_IDS then known_moments openings later ++ None ∷ []
    else known_moments openings later)

-- so are the control queries
abbrev pub later_queries : Queries → ℕ → Queries
later_queries queries later =
    record { next = queries.next; last = option_map (λ last. min (last + later) (2 ^ 64 - 1)) queries.last }
