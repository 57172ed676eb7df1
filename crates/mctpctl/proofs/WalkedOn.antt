-- A walk that stops, and a query by another name.
use Rattle.std.proofs.Common.{◌≡◌, ◌⊎◌, ℕ, ◌+◌, inl, inr, List, [], ◌∷◌, Option, refl, subst, sym}
use Rattle.std.proofs.Math.Nat.{max-zero}
use Rattle.std.proofs.lemmas.Bool.{cases_eq}
use Rattle.std.specs.Prelude.{max}
use Rattle.mctp_control.specs.declared.any_query.AnyQuery.{AnyQuery}
use Rattle.mctp_control.specs.declared.command.Command.{Command as ControlCommand}
use Rattle.mctpctl.specs.WalkedTexts.{AsksQueries, ReportsQuery, WalkView, StopsNext, StopsWalking, Walked, query_of}
use Rattle.mctpctl.specs.declared.settings.Settings.{Settings}
use Rattle.mctpctl.specs.declared.statuses.TheConstants.{FAILED}
use Rattle.mctpctl.specs.AskedTexts.{IsOfPrinting}
use Rattle.pldm_line.specs.Asked.{Shown}
use Rattle.pldm_line.specs.declared.ask_fault.AskFault.{AskFault}
use Rattle.pldm_requester.specs.declared.timing.Timing.{Timing}

-- so far
pub record WalkedSo (status : ℕ) (a b : WalkView) : Type 0 where
  pub before : List WalkView
  pub walked : Walked status a before b

pub stopped_walking : (fault : AskFault) (status : ℕ) (a mid b : WalkView) → WalkedSo status a mid
    → IsOfPrinting fault ⊎ StopsNext fault mid b → IsOfPrinting fault ⊎ StopsWalking fault a b
stopped_walking fault status a mid b so (inl printing) = inl printing
stopped_walking fault status a mid b so (inr stops) =
    inr (record { before = so.before; last = mid; status = status; walked = so.walked; reason = inl stops })

-- a query by another name
pub with_query : (timing : Timing) (q q1 : AnyQuery) (status : ℕ) (s s1 : Shown) (out out1 : Option (List ℕ)) → q ≡ q1
    → ReportsQuery timing q status s s1 out out1 → ReportsQuery timing q1 status s s1 out out1
with_query timing q q1 status s s1 out out1 same reports =
    subst (λ x. ReportsQuery timing x status s s1 out out1) same reports

-- a query got no answer: no other was asked
pub query_fails : (settings : Settings) (id : ℕ) (command : ControlCommand) (commands : List ControlCommand) (one : ℕ) (s s1 : Shown) (out out1 : Option (List ℕ))
    → one ≡ FAILED → ReportsQuery settings.timing (query_of settings id command) one s s1 out out1
    → AsksQueries settings id (command ∷ commands) FAILED s s1 out out1
query_fails settings id command commands one s s1 out out1 fails reports =
    (one, s1, out1, reports, inl (fails, refl, refl, refl))

-- it got one: the others were asked
pub query_goes_on : (settings : Settings) (id : ℕ) (command : ControlCommand) (commands : List ControlCommand) (one rest status : ℕ) (s mid s1 : Shown) (out mid_out out1 : Option (List ℕ))
    → (one ≡ FAILED → ⊥) → ReportsQuery settings.timing (query_of settings id command) one s mid out mid_out
    → AsksQueries settings (id + 1) commands rest mid s1 mid_out out1 → status ≡ max one rest
    → AsksQueries settings id (command ∷ commands) status s s1 out out1
query_goes_on settings id command commands one rest status s mid s1 out mid_out out1 goes reports asks greatest =
    (one, mid, mid_out, reports, inr (goes, rest, asks, greatest))

answered_or_not : (settings : Settings) (id : ℕ) (command : ControlCommand) (one : ℕ) (s s1 : Shown) (out out1 : Option (List ℕ))
    → ReportsQuery settings.timing (query_of settings id command) one s s1 out out1 → (one ≡ FAILED) ⊎ (one ≡ FAILED → ⊥)
    → AsksQueries settings id (command ∷ []) one s s1 out out1
answered_or_not settings id command one s s1 out out1 reports (inl fails) =
    (one, s1, out1, reports, inl (fails, refl, refl, fails))
answered_or_not settings id command one s s1 out out1 reports (inr goes) =
    (one, s1, out1, reports, inr (goes, 0, (refl, refl, refl), sym (max-zero one)))

-- the last one
pub query_alone : (settings : Settings) (id : ℕ) (command : ControlCommand) (one : ℕ) (s s1 : Shown) (out out1 : Option (List ℕ))
    → ReportsQuery settings.timing (query_of settings id command) one s s1 out out1
    → AsksQueries settings id (command ∷ []) one s s1 out out1
query_alone settings id command one s s1 out out1 reports =
    answered_or_not settings id command one s s1 out out1 reports (cases_eq one FAILED)
