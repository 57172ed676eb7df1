use Rattle.std.proofs.Common.{inl, inr, sym}
use Rattle.pldm_device.proofs.Blank.{stated_by_bytes}
use Rattle.pldm_device.proofs.description.Description.read_or_refusal.Goals as goal

pub returns-clause-stated : goal.returns-clause-stated
returns-clause-stated c =
    elim c.in_ok-read_document.ensures [
      | inl failed ↦ absurd (let e = failed.0 in cc)
      | inr same ↦ stated_by_bytes _ _ _ (sym same) c.in_document.ensures.stated
    ]
