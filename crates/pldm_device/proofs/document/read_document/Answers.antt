use Rattle.std.proofs.Common.{sym, ◌∙◌, inr}
use Rattle.std.proofs.lemmas.Bool.{false≢true}
use Rattle.pldm_device.proofs.DocumentText.{document_of-text, document_of-refused}
use Rattle.pldm_device.proofs.document.read_document.Goals as goal

pub returns-in-Ok : goal.returns-in-Ok
returns-in-Ok c = inr (sym (document_of-text _ _ c.in-Ok.ensures.ok.0 c.in-Ok.ensures.ok.1))

pub returns-else-is_memory : goal.returns-else-is_memory
returns-else-is_memory c =
    inr (rw c.new.ensures (sym (document_of-refused _ (c.in-Err.ensures.refused (λ e. false≢true (sym c.if-is_memory.false ∙ c.is_memory.ensures.1 e))))))
