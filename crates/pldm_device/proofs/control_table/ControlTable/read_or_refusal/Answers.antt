use Rattle.std.proofs.Common.{inl, inr, sym}
use Rattle.pldm_device.proofs.Blank.{control_by_bytes}
use Rattle.pldm_device.proofs.control_table.ControlTable.read_or_refusal.Goals as goal

pub returns : goal.returns
returns c =
    elim c.in_ok-read_document.ensures [
      | inl failed ↦ absurd (let e = failed.0 in cc)
      | inr same ↦ control_by_bytes _ _ _ (sym same) c.in_document.ensures
    ]
