-- The asking half of an end: a requester that begins anew with each endpoint ID and at each restart, and then rests.
use Rattle.std.specs.Prelude.{◌≡◌, ◌⊎◌, ℕ, ◌+◌, ◌*◌, ◌<◌, ◌≤◌, true, List, [], Option, Some, None, IfSome, IsSome, Ok, Err, refl}
use Rattle.std.specs.Coded.{Coded, code_by, coded×, coded_ℕ, coded_option}
use Rattle.mctp_packet.specs.Memories.{out_of_memory}
use Rattle.mctp_packet.specs.declared.TheConstants.{NULL_EID}
use Rattle.pldm_requester.specs.Asks.{Ask, ask_of}
use Rattle.pldm_requester.specs.Deadlines.{IsDeadline}
use Rattle.pldm_requester.specs.Slots.{RequesterView, coded_view, held_of}
use Rattle.pldm_requester.specs.Steps.{IsHeld, accepts, again_at, begins_message, given_up_at, got_at, opened_with, paced_at_first, opening_answer, passed, received_held, ticked_held}
use Rattle.pldm_requester.specs.Pacing.{coded_pace, setting_fault}
use Rattle.pldm_requester.specs.Timings.{coded_timing}
use Rattle.pldm_requester.specs.declared.pace.Pace.{Pace}
use Rattle.pldm_requester.specs.declared.results.Got.{Got}
use Rattle.pldm_requester.specs.declared.results.Got.TheVariants.{Partial}
use Rattle.pldm_requester.specs.declared.requester.TheConstants.{MAX_REMEMBERED}
use Rattle.pldm_requester.specs.declared.results.OpenFault.{OpenFault}
use Rattle.pldm_requester.specs.declared.results.OpenFault.TheVariants.{Memory}
use Rattle.pldm_requester.specs.declared.results.Opened.{Opened}
use Rattle.pldm_requester.specs.declared.timing.Timing.{Timing}
use Rattle.pldm_wire.specs.declared.command.Command.{Command}
use Rattle.pldm_terminus.specs.declared.asking.AskFault.{AskFault}
use Rattle.pldm_terminus.specs.declared.asking.AskFault.TheVariants.{NoEid, Resting, Open}

-- the peer, the requester's timing and pace, the requester, and the moment before which it opens nothing
pub record AskingView : Type 0 where
  pub peer : ℕ
  pub timing : Timing
  pub pace : Pace
  pub requester : Option RequesterView
  pub rest : ℕ

-- it is stored as its parts
abbrev pub coded_asking : Coded AskingView
coded_asking =
    code_by (ℕ × (Timing × (Pace × (Option RequesterView × ℕ))))
    (coded× coded_ℕ (coded× coded_timing (coded× coded_pace (coded× (coded_option coded_view) coded_ℕ))))
    (λ a. (a.peer, (a.timing, (a.pace, (a.requester, a.rest)))))
    (λ c. record { peer = c.0; timing = c.1.0; pace = c.1.1.0; requester = c.1.1.1.0; rest = c.1.1.1.1 })
    (λ _. refl)

-- a requester begins at this endpoint ID; there is none where that is null, or has a fault with these settings
abbrev pub IsBegunAt : ℕ → ℕ → Timing → Pace → Option RequesterView → Type 0
IsBegunAt own peer timing pace None = (own ≡ NULL_EID) ⊎ IsSome (setting_fault own peer timing pace)
IsBegunAt own peer timing pace (Some r) = IsHeld (held_of r) (paced_at_first own peer timing pace)

-- it begins at this moment, and opens nothing before twice the keeping time has passed
pub record HasBegun (own now : ℕ) (old new : AskingView) : Type 0 where
  pub requester : IsBegunAt own old.peer old.timing old.pace new.requester
  pub rest : new.rest ≡ now + 2 * old.timing.keep
  pub peer : new.peer ≡ old.peer
  pub timing : new.timing ≡ old.timing
  pub pace : new.pace ≡ old.pace

-- the last moment of the requester is not after this one
abbrev pub CameBefore : Option RequesterView → ℕ → Type 0
CameBefore requester now = IfSome requester (λ r. (held_of r).last ≤ now)

-- nothing has changed but what the requester holds
pub record IsSameHalf (old new : AskingView) : Type 0 where
  pub peer : new.peer ≡ old.peer
  pub timing : new.timing ≡ old.timing
  pub pace : new.pace ≡ old.pace
  pub rest : new.rest ≡ old.rest

abbrev pub IsGotBy : Option RequesterView → Option RequesterView → ℕ → List ℕ → Got → Type 0
IsGotBy (Some r) (Some after) now bytes got =
    (got ≡ got_at (held_of r) bytes) × IsHeld (held_of after) (received_held (held_of r) now bytes)
IsGotBy _ _ now bytes got = ⊥

-- the requester took the bytes of a packet
pub record IsGot (old : AskingView) (now : ℕ) (bytes : List ℕ) (new : AskingView) (got : Got) : Type 0 where
  pub requester : IsGotBy old.requester new.requester now bytes got
  pub half : IsSameHalf old new

abbrev pub SameHeld : Option RequesterView → Option RequesterView → Type 0
SameHeld (Some r) (Some after) = IsHeld (held_of after) (held_of r)
SameHeld None None = Unit {0}
SameHeld _ _ = ⊥

-- nothing has changed
pub record IsSameAsking (old new : AskingView) : Type 0 where
  pub requester : SameHeld old.requester new.requester
  pub half : IsSameHalf old new

-- memory was refused, which only the beginning of a message needs
pub record IsNotGot (old : AskingView) (bytes : List ℕ) (new : AskingView) : Type 0 where
  pub partial : IfSome old.requester (λ r. got_at (held_of r) bytes ≡ Partial)
  pub begins : IfSome old.requester (λ r. begins_message (passed (held_of r) bytes) ≡ true)
  pub same : IsSameAsking old new

abbrev pub IsOpenedBy : Option RequesterView → Option RequesterView → ℕ → Ask → Opened → Type 0
IsOpenedBy (Some r) (Some after) now ask opened =
    (opening_answer (held_of r) now ≡ Ok opened) × IsHeld (held_of after) (opened_with (held_of r) now ask)
IsOpenedBy _ _ now ask opened = ⊥

-- the requester opened a request that asks so
pub record HasOpenedFor (old : AskingView) (now : ℕ) (ask : Ask) (new : AskingView) (opened : Opened) : Type 0 where
  pub requester : IsOpenedBy old.requester new.requester now ask opened
  pub half : IsSameHalf old new

-- it opened one for a command
abbrev pub HasOpened : (old : AskingView) (now : ℕ) (command : Command) (new : AskingView) → Opened → Type 0
HasOpened old now command new opened = HasOpenedFor old now (ask_of command) new opened

-- why a requester opens none, or memory was refused, which only the first requests need
abbrev pub IsItsFault : RequesterView → ℕ → OpenFault → Type 0
IsItsFault r now fault =
    ((fault ≡ Memory out_of_memory) × (accepts (held_of r) now ≡ true) × ((held_of r).count < MAX_REMEMBERED))
    ⊎ (opening_answer (held_of r) now ≡ Err fault)

-- the first reason that there is
abbrev pub IsWhyNotOpened : AskingView → ℕ → AskFault → Type 0
IsWhyNotOpened old now NoEid = old.requester ≡ None
IsWhyNotOpened old now Resting = IsSome old.requester × (now < old.rest)
IsWhyNotOpened old now (Open fault) = IfSome old.requester (λ r. IsItsFault r now fault)

abbrev pub IsTickedBy : Option RequesterView → Option RequesterView → ℕ → (again given_up : List ℕ) → Type 0
IsTickedBy (Some r) (Some after) now again given_up =
    (again ≡ again_at (held_of r) now) × (given_up ≡ given_up_at (held_of r) now)
    × IsHeld (held_of after) (ticked_held (held_of r) now)
IsTickedBy None None now again given_up = (again ≡ []) × (given_up ≡ [])
IsTickedBy _ _ now again given_up = ⊥

-- a tick found these requests due; none are where there is no requester
pub record HasTicked (old : AskingView) (now : ℕ) (new : AskingView) (again given_up : List ℕ) : Type 0 where
  pub requester : IsTickedBy old.requester new.requester now again given_up
  pub half : IsSameHalf old new

-- from which moment on a tick finds something due; from none, where there is no requester
abbrev pub IsNextDeadline : Option RequesterView → Option ℕ → Type 0
IsNextDeadline (Some r) deadline = IsDeadline (held_of r) deadline
IsNextDeadline None deadline = deadline ≡ None
