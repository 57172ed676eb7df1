-- What is reported of a packet that came to the answering end of a terminus is what became of it.
use Rattle.std.proofs.Common.{◌≡◌, ℕ, ◌≤◌, ◌==◌, Bool, true, false, List, Option, None, Some, MatchBool, refl, sym, subst, arith}
use Rattle.std.proofs.lemmas.Bool.{ne_eqb}
use Rattle.bus_endpoint.specs.BusViews.{BusView}
use Rattle.bus_endpoint.specs.Coming.{HasCome, IsInStep, IsStep, control_answer, dropped_for, eid_after}
use Rattle.bus_endpoint.specs.declared.step.BusStep.{BusStep}
use Rattle.bus_endpoint.specs.declared.step.BusStep.TheVariants.{Pldm}
use Rattle.pldm_endpoint.specs.Receiving.{HasReceived}
use Rattle.pldm_endpoint.specs.RequestKeys.{pending_at}
use Rattle.pldm_endpoint.specs.Stepping.{stepping}
use Rattle.pldm_endpoint.specs.TwoSteps.{EndpointView, IsOfCommand}
use Rattle.pldm_endpoint.specs.declared.step.CommandHandle.{CommandHandle}
use Rattle.pldm_endpoint.specs.declared.step.MessageStep.{MessageStep}
use Rattle.pldm_endpoint.specs.declared.step.MessageStep.TheVariants.{Perform}
use Rattle.pldm_endpoint.specs.declared.step.Step.{Step}
use Rattle.pldm_endpoint.specs.declared.step.Step.TheVariants as asked
use Rattle.pldm_terminus.specs.Termini.{HasComeTo, IsFollowed, TerminusView}
use Rattle.pldm_terminus.specs.declared.terminus.TerminusStep.{TerminusStep}
use Rattle.pldm_terminus.specs.declared.terminus.TerminusStep.TheVariants.{Answering}
use Rattle.needleoat_c.specs.Termini.{IsLeftByComing, IsOfAnswering, ReportsComingIn, comes_to_asking, is_next}
use Rattle.needleoat_c.specs.declared.kinds.TheConstants.{STEP_REFUSED}
use Rattle.needleoat_c.specs.declared.reports.ComingReport.{ComingReport}
use Rattle.needleoat_c.proofs.ComeReports.{ReportsBus, come_allowed, come_left}

at_true : (b : Bool) (P Q : Type 0) → b ≡ true → P → MatchBool b P Q
at_true true P Q is p = p
at_true false P Q is p = let no : ⊥ = cc in absurd no

at_false : (b : Bool) (P Q : Type 0) → b ≡ false → Q → MatchBool b P Q
at_false true P Q is q = let no : ⊥ = cc in absurd no
at_false false P Q is q = q

is_pldm : (reply : List ℕ) (taken : Step) (answer : Option (List ℕ)) (step : MessageStep) → IsStep reply taken answer (Pldm step) → stepping reply step ≡ taken
is_pldm reply taken None step is = is
is_pldm reply taken (Some answer) step is = absurd is

-- a command that is to be performed is pending then
perform_pending : (old new : BusView) (now : ℕ) (bytes reply : List ℕ) (handle : CommandHandle) → HasCome old now bytes new reply (Pldm (Perform handle)) → IsOfCommand (pending_at new.endpoint.pending handle)
perform_pending old new now bytes reply handle come =
    let is : asked.Perform handle ≡ come.taken = is_pldm reply come.taken (control_answer old.control now (dropped_for come.taken) bytes) (Perform handle) come.step_is in
    let received = subst (λ (s : Step). HasReceived old.endpoint now bytes come.endpoint s) (sym is) come.received in
    let in_step : new.endpoint ≡ come.endpoint =
    subst (λ (s : Step). IsInStep come.endpoint now (eid_after old.control now (dropped_for s) bytes) new.endpoint) (sym is) come.in_step in
    subst (λ (e : EndpointView). IsOfCommand (pending_at e.pending handle)) (sym in_step) received.command.1

module _ (old new : TerminusView) (now : ℕ) (bytes reply : List ℕ) where
  came : (b : Bool) (step : BusStep) → HasComeTo b old now bytes new reply (Answering step)
      → (b ≡ false) × (HasCome old.answering now bytes new.answering reply step × IsFollowed new.answering.endpoint.end.own old.answering.endpoint.end.own now old.asking new.asking)
  came true step h = absurd h
  came false step h = (refl, (h.0, h.2))

  come_to : (whole : TerminusStep) (step : BusStep) → whole ≡ Answering step → HasComeTo (comes_to_asking bytes old) old now bytes new reply whole
      → (comes_to_asking bytes old ≡ false) × (HasCome old.answering now bytes new.answering reply step × IsFollowed new.answering.endpoint.end.own old.answering.endpoint.end.own now old.asking new.asking)
  come_to whole step is h =
      came (comes_to_asking bytes old) step (subst (λ (t : TerminusStep). HasComeTo (comes_to_asking bytes old) old now bytes new reply t) is h)

  pub performed : (whole : TerminusStep) (step : BusStep) (handle : CommandHandle) → whole ≡ Answering step → step ≡ Pldm (Perform handle)
      → HasComeTo (comes_to_asking bytes old) old now bytes new reply whole → IsOfCommand (pending_at new.answering.endpoint.pending handle)
  performed whole step handle is perform h =
      perform_pending old.answering new.answering now bytes reply handle
      (subst (λ (s : BusStep). HasCome old.answering now bytes new.answering reply s) perform (come_to whole step is h).1.0)

  pub answering_reported : (whole : TerminusStep) (step : BusStep) (r : ComingReport) (rooms : List (List ℕ)) → whole ≡ Answering step → HasComeTo (comes_to_asking bytes old) old now bytes new reply whole
      → is_next now old ≡ true → ReportsBus reply step r.step rooms → IsOfAnswering r → ReportsComingIn now bytes r rooms old
  answering_reported whole step r rooms is h next reported of =
      let come = come_to whole step is h in
      at_false (comes_to_asking bytes old) _ _ come.0
      (of, at_true (is_next now old) _ _ next (come_allowed old.answering new.answering now bytes reply step r.step rooms come.1.0 reported))

  pub answering_left : (whole : TerminusStep) (step : BusStep) (r : ComingReport) → whole ≡ Answering step → HasComeTo (comes_to_asking bytes old) old now bytes new reply whole → 1 ≤ r.step.kind → IsLeftByComing now bytes r old new
  answering_left whole step r is h some =
      let come = come_to whole step is h in
      at_false (comes_to_asking bytes old) _ _ come.0 (record {
        answering = come_left old.answering new.answering now bytes reply step r.step.kind come.1.0 some;
        asking =
            at_false (r.step.kind == STEP_REFUSED) _ _
            (ne_eqb r.step.kind STEP_REFUSED (λ same. omega (arith, some, same))) come.1.1;
      })
