-- What a file of states says when it is begun, and what is written to it before a request is opened.
use Rattle.std.specs.Prelude.{◌≡◌, ℕ, ◌≤◌, List, string_bytes}
use Rattle.mctp_packet.specs.declared.TheConstants.{MAX_MOMENT}
use Rattle.pldm_requester.specs.declared.openings.Openings.{Openings}
use Rattle.mctpctl_state.specs.States.{AreOf, later_moments, later_queries, next_after, state_text}
use Rattle.mctpctl_state.specs.declared.kept.Kept.{Kept}
use Rattle.mctpctl_state.specs.declared.kept.Queries.{Queries}
use Rattle.mctpctl_state.specs.declared.state_file.Begun.{Begun}
use Rattle.mctpctl_state.specs.declared.state_file.Earlier.{Earlier}
use Rattle.mctpctl_state.specs.declared.state_file.Earlier.TheVariants.{Known, New, Unknown}
use Rattle.mctpctl_state.specs.declared.state_file.StateFile.{StateFile}

-- what is known of earlier requests was kept since this start of the system, for these endpoints, and is not to come
abbrev pub IsEarlier : List ℕ → ℕ → ℕ → ℕ → Earlier → Type 0
IsEarlier boot own device now (Known known) = (kept : Kept) × AreOf kept boot own device now known
IsEarlier boot own device now New = Unit {0}
IsEarlier boot own device now (Unknown reason) = Unit {0}

-- the file has this name and is of these endpoints, and the present is a moment
pub record IsBegun (name : List ℕ) (own device : ℕ) (begun : Begun) : Type 0 where
  pub name_is : string_bytes begun.file.name ≡ name
  pub own_is : begun.file.own ≡ own
  pub device_is : begun.file.device ≡ device
  pub present : begun.present ≤ MAX_MOMENT
  pub earlier : IsEarlier begun.file.boot.items own device begun.present begun.earlier

-- this text keeps these openings and control queries, each so many milliseconds later, and that a request with the next
-- instance ID may be opened
pub record IsTextOf (file : StateFile) (openings : Openings) (queries : Queries) (later : ℕ) (text : List ℕ) : Type 0
  where
    pub kept : Kept
    pub text_is : text ≡ state_text kept
    pub boot : kept.boot.now ≡ file.boot.items
    pub own : kept.own ≡ file.own
    pub device : kept.device ≡ file.device
    pub next : kept.next ≡ next_after openings.next
    pub queries_are : kept.queries ≡ later_queries queries later
    pub moments : kept.moments.items ≡ later_moments openings later
