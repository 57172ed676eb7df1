-- An end that answers and asks: a packet comes to exactly one of its halves.
use Rattle.std.specs.Prelude.{◌≡◌, ℕ, ◌==◌, Bool, true, false, List, IfSome, MatchBool, refl}
use Rattle.std.specs.Coded.{Coded, code_by, coded×}
use Rattle.bus_endpoint.specs.BusViews.{BusView, coded_bus}
use Rattle.bus_endpoint.specs.Coming.{BusStepHasReply, HasCome}
use Rattle.pldm_endpoint.specs.Receiving.{IsRefused}
use Rattle.pldm_endpoint.specs.Refusing.{IsOfMemory}
use Rattle.pldm_endpoint.specs.declared.step.ReceiveRefusal.{ReceiveRefusal}
use Rattle.pldm_terminus.specs.Askings.{AskingView, HasBegun, IsGot, IsNotGot, coded_asking}
use Rattle.pldm_terminus.specs.declared.terminus.TerminusStep.{TerminusStep}
use Rattle.pldm_terminus.specs.declared.terminus.TerminusStep.TheVariants.{Answering, Asking}

pub record TerminusView : Type 0 where
  pub answering : BusView
  pub asking : AskingView

-- it is stored as its parts
abbrev pub coded_terminus : Coded TerminusView
coded_terminus =
    code_by (BusView × AskingView) (coded× coded_bus coded_asking)
    (λ t. (t.answering, t.asking))
    (λ c. record { answering = c.0; asking = c.1 })
    (λ _. refl)

-- a requester asks from the endpoint ID that the answering end has
abbrev pub HasOneEid : BusView → AskingView → Type 0
HasOneEid answering asking = IfSome asking.requester (λ r. r.own ≡ answering.endpoint.end.own)

-- a requester begins anew where the endpoint ID is another than before; else the asking half is as before
abbrev pub IsFollowed : (own before now : ℕ) → (old new : AskingView) → Type 0
IsFollowed own before now old new = MatchBool (own == before) (new ≡ old) (HasBegun own now old new)

-- the bytes of a packet came at a moment, to the requester or to the answering end; `reply` is the message that answers
-- a request of PLDM, and has bytes where there is an answer
abbrev pub HasComeTo :
    Bool → (old : TerminusView) (now : ℕ) (bytes : List ℕ) (new : TerminusView) (reply : List ℕ) → TerminusStep → Type 0
HasComeTo true old now bytes new reply (Asking got) =
    IsGot old.asking now bytes new.asking got × (new.answering ≡ old.answering)
HasComeTo true old now bytes new reply (Answering step) = ⊥
HasComeTo false old now bytes new reply (Asking got) = ⊥
HasComeTo false old now bytes new reply (Answering step) =
    HasCome old.answering now bytes new.answering reply step × BusStepHasReply reply step
    × IsFollowed new.answering.endpoint.end.own old.answering.endpoint.end.own now old.asking new.asking

-- they were refused, and both halves are as before
abbrev pub IsRefusedAt :
    Bool → (old : TerminusView) (now : ℕ) (bytes : List ℕ) (new : TerminusView) → ReceiveRefusal → Type 0
IsRefusedAt true old now bytes new refusal =
    IsOfMemory refusal × IsNotGot old.asking bytes new.asking × (new.answering ≡ old.answering)
IsRefusedAt false old now bytes new refusal =
    IsRefused old.answering.endpoint now bytes new.answering.endpoint refusal
    × (new.answering.control ≡ old.answering.control) × (new.asking ≡ old.asking)
