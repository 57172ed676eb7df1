-- Texts that explain a fault.
use Rattle.std.proofs.Common.{◌≡◌, ◌≤◌, ℕ, List, [], ◌++◌, codes, inr, refl, ap, ◌∙◌}
use Rattle.std.specs.Fmt.{decimal}
use Rattle.mctpctl_input.specs.declared.faults.LineKind.{LineKind}
use Rattle.pldm_device.specs.declared.description_fault.FileFault.{FileFault}
use Rattle.pldm_device.specs.declared.description_fault.FileFault.TheVariants.{BadRecord}
use Rattle.mctpctl_explain.specs.Reasons.{opening, IsReason, Explains, line_opening, ExplainsNumbered}

pub explained : (fault : FileFault) (text rest : List ℕ) → text ≡ opening fault ++ rest → IsReason fault text
explained fault text rest e = inr (rest, e)

pub flaw_explained : (text : List ℕ) → IsReason BadRecord text
flaw_explained text = inr (text, refl)

pub explained_at : (fault : FileFault) (text front reason : List ℕ) → text ≡ front ++ reason → IsReason fault reason → Explains fault text
explained_at fault text front reason e r = inr (inr (front, reason, e, r))

pub numbered : (number shown : ℕ) (kind : LineKind) (text opens reason : List ℕ)
    → text ≡ codes "input line " ++ (decimal shown ++ (codes ": " ++ (opens ++ reason))) → number ≤ shown → opens ≡ line_opening kind
    → ExplainsNumbered number kind text
numbered number shown kind text opens reason e within is =
    inr (shown, reason, within, e ∙ ap (λ o. codes "input line " ++ (decimal shown ++ (codes ": " ++ (o ++ reason)))) is)
