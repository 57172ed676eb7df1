-- What the requester holds is what looking back over the calls that it saw says.
use Rattle.std.proofs.Common.{◌≡◌, ℕ, Bool, true, false, cond, List, ◌∷◌, refl}
use Rattle.pldm_requester.specs.Asks.{Ask}
use Rattle.pldm_requester.specs.Calls as requester
use Rattle.pldm_requester.specs.Laws.{IsLeftBy, OpenLooksBack, ReceiveLooksBack, TickLooksBack}
use Rattle.pldm_requester.specs.Steps.{RequesterState, accepts, opened_with, received_held}
use Rattle.pldm_requester.specs.declared.pace.Pace.{Pace}
use Rattle.pldm_requester.specs.declared.timing.Timing.{Timing}
use Rattle.pldm_terminus.specs.Directions.{is_answer}
use Rattle.pldm_terminus.specs.Laws.{AskingLooksBack, TerminusCall, Came, Opens, Ticks, Answers, asking_after, asking_calls}

module _ (opens : OpenLooksBack) (ticks : TickLooksBack) (receives : ReceiveLooksBack) (own device : ℕ) (timing : Timing) (pace : Pace) (held : RequesterState) (calls : List TerminusCall) (left : IsLeftBy own device timing pace held (asking_calls calls)) where
  came : (moment : ℕ) (bytes : List ℕ) (b : Bool)
      → IsLeftBy own device timing pace (cond b (received_held held moment bytes) held) (cond b (requester.Receive moment bytes ∷ asking_calls calls) (asking_calls calls))
  came moment bytes true = (receives own device timing pace held (asking_calls calls) moment bytes left).1
  came moment bytes false = left

  opened : (moment : ℕ) (ask : Ask) (b : Bool) → accepts held moment ≡ b
      → IsLeftBy own device timing pace (cond b (opened_with held moment ask) held) (requester.OpenRequest moment ask ∷ asking_calls calls)
  opened moment ask true e = (opens own device timing pace held (asking_calls calls) moment ask left).2 e
  opened moment ask false e = (opens own device timing pace held (asking_calls calls) moment ask left).3 e

  pub asking_left : (call : TerminusCall) → IsLeftBy own device timing pace (asking_after held call) (asking_calls (call ∷ calls))
  asking_left (Came moment bytes) = came moment bytes (is_answer bytes)
  asking_left (Opens moment ask) = opened moment ask (accepts held moment) refl
  asking_left (Ticks moment) = (ticks own device timing pace held (asking_calls calls) moment left).2
  asking_left Answers = left

pub asking_looks_back : OpenLooksBack → TickLooksBack → ReceiveLooksBack → AskingLooksBack
asking_looks_back opens ticks receives own device timing pace held calls call left = asking_left opens ticks receives own device timing pace held calls left call
