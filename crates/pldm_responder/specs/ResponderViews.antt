-- What contracts see of a responder: an answering end with a platform behind it.
use Rattle.std.specs.Prelude.{refl}
use Rattle.std.specs.Coded.{Coded, code_by, coded×}
use Rattle.pldm_responder.specs.Ends.{End, coded_end, held_over}
use Rattle.pldm_responder.specs.ResponderStates.{ResponderState}

-- `platform` is the platform's value, and `state` is its state
pub record ResponderView (P S : Type 0) : Type 0 where
  pub end : End
  pub platform : P
  pub state : S

-- it is stored as its parts
abbrev pub coded_view : {P S : Type 0} → Coded P → Coded S → Coded (ResponderView P S)
coded_view {P} {S} coded_platform coded_state =
    code_by (End × (P × S)) (coded× coded_end (coded× coded_platform coded_state))
    (λ s. (s.end, (s.platform, s.state)))
    (λ c. record { end = c.0; platform = c.1.0; state = c.1.1 })
    (λ _. refl)

-- what it holds
abbrev pub held_of : {P S : Type 0} → ResponderView P S → ResponderState S
held_of station = held_over station.state station.end

-- the same with this platform in the place of its own
abbrev pub with_platform : {P S : Type 0} → (P → S) → ResponderView P S → P → ResponderView P S
with_platform state_of station platform = record station { platform = platform; state = state_of platform }
