-- What holds of a run's text holds of an equal one, and a flush leaves what was written.
use Rattle.std.proofs.Common.{◌≡◌, ℕ, List, Option, Some, None, Result, IfSome, subst, true}
use Rattle.std.proofs.KnownBytes.{Appends-kept}
use Rattle.std.specs.Io.KnownBytes.{Keeps}
use Rattle.mctpctl_engines.specs.LineRuns.{Writes}
use Rattle.mctpctl_engines.specs.Pieces.{Gives, WroteOfFront, WroteOfRead}
use Rattle.mctpctl_engines.specs.WholeRuns.{whole_text}
use Rattle.mctpctl_input.specs.declared.faults.EngineFault.{EngineFault}
use Rattle.mctpctl_engines.proofs.RunsOverLines.{Writes-kept}

-- the text of all that the reader had is written, up to the limit
abbrev pub WritesWhole : Gives → Option (List ℕ) → Option (List ℕ) → Option (List ℕ) → Result Unit EngineFault → Type 0
WritesWhole f remaining old new result = IfSome remaining (λ all. Writes (whole_text f all) old new result)

pub same_text : (f g : Gives) (remaining old new : Option (List ℕ)) (result : Result Unit EngineFault) → f ≡ g → WritesWhole f remaining old new result → WritesWhole g remaining old new result
same_text f g remaining old new result same writes = subst (λ (h : Gives). WritesWhole h remaining old new result) same writes

pub same_read : (f g : Gives) (all left old new : Option (List ℕ)) → f ≡ g → WroteOfRead f all left old new → WroteOfRead g all left old new
same_read f g all left old new same wrote = subst (λ (h : Gives). WroteOfRead h all left old new) same wrote

pub same_front : (f g : Gives) (all old new : Option (List ℕ)) → f ≡ g → WroteOfFront f all old new → WroteOfFront g all old new
same_front f g all old new same wrote = subst (λ (h : Gives). WroteOfFront h all old new) same wrote

pub text_flushed : (f : Gives) (remaining old now new : Option (List ℕ)) (result : Result Unit EngineFault) → WritesWhole f remaining old now result → Keeps now new → WritesWhole f remaining old new result
text_flushed f None old now new result writes kept = tt
text_flushed f (Some all) old now new result writes kept =
    Writes-kept (whole_text f all) old now new result writes kept

pub front_flushed : (f : Gives) (all old now new : Option (List ℕ)) → WroteOfFront f all old now → Keeps now new → WroteOfFront f all old new
front_flushed f all old now new (front, back, consumed, written) kept =
    (front, back, consumed, Appends-kept old now new (f true front).text written kept)
