-- What the machine is told as an answer is what the requester has as one.
use Rattle.std.proofs.Common.{◌≡◌, ℕ, Bool, length, Option, Some, None, IfSome, IfNone, inl, inr}
use Rattle.pldm_update.specs.DeviceAnswers.{answered}
use Rattle.pldm_update.specs.Machines.{Machine}
use Rattle.pldm_update.specs.declared.component.Component.{Component}
use Rattle.pldm_wire.specs.Responses.{Response}
use Rattle.pldm_terminus.specs.Termini.{TerminusView}
use Rattle.update_line.specs.FirmwareEnds.{Does, Takes}
use Rattle.update_line.specs.FlashCalls.{FlashCall}
use Rattle.update_line.specs.OwnAnswers.{response_in}

pub takes :
    {F : Type 0} (acted : F → FlashCall → Bool → F → Type 0) (component : Component) (now number : ℕ) (end : TerminusView)
    (before after : F) (old new : Machine) (response : Option Response) → response_in end.asking.requester number ≡ response
    → IfSome response (λ r. Does acted component r.rest before after new
    (answered old number now r.code (length r.rest)))
    → IfNone response ((new ≡ old) × (after ≡ before))
    → Takes acted component now end before after old new
takes acted component now number end before after old new None e told none = inl none
takes acted component now number end before after old new (Some r) e told none = inr (inr (number, r, e, told))
