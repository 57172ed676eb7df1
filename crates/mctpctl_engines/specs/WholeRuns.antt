-- What a run does with all that a reader gives, said of both ports as they were before and as they are after.
use Rattle.std.specs.Prelude.{ℕ, nat_lt, List, length, take, Option, IfSome, Result, IsErrOf}
use Rattle.mctpctl_engines.specs.LineRuns.{Written, Writes}
use Rattle.mctpctl_input.specs.OutsideFaults.{no_memory}
use Rattle.mctpctl_engines.specs.Pieces.{Gives, WroteOfFront, WroteOfRead}
use Rattle.mctpctl_input.specs.Ports.{inner_of, ReportsFailedPorts}
use Rattle.mctpctl_input.specs.declared.faults.EngineFault.{EngineFault}
use Rattle.mctpctl_input.specs.declared.faults.EngineFault.TheVariants.{Read, Write}
use Rattle.mctpctl_input.specs.declared.limits.TheConstants.{MAX_INPUT}
use Rattle.mctpctl_input.specs.declared.port.Port.{Port}

-- what the run writes of all bytes: those past the limit are not looked at
abbrev pub whole_text : Gives → List ℕ → Written
whole_text gives all = gives (nat_lt MAX_INPUT (length all)) (take MAX_INPUT all)

module _ {R W : Type 0} (remaining : R → Option (List ℕ)) (contents : W → Option (List ℕ)) where
  -- the text of all that the reader had is written, or its fault returned
  abbrev pub WritesAll : (List ℕ → Written) → Port R → (before after : Port W) → Result Unit EngineFault → Type 0
  WritesAll text reader before after result =
      IfSome (remaining (inner_of reader))
      (λ all. Writes (text all) (contents (inner_of before)) (contents (inner_of after)) result)

  -- at a read fault the text of the lines that ended in what was read is written
  abbrev pub WritesRead
      : Gives → (reader left : Port R) → (before after : Port W) → Result Unit EngineFault → Type 0
  WritesRead gives reader left before after result =
      IsErrOf result Read
      → WroteOfRead gives (remaining (inner_of reader)) (remaining (inner_of left)) (contents (inner_of before))
      (contents (inner_of after))

  -- where memory ends, the text of the lines that ended in some front of the input is written
  abbrev pub WritesFront : Gives → Port R → (before after : Port W) → Result Unit EngineFault → Type 0
  WritesFront gives reader before after result =
      IsErrOf result no_memory
      → WroteOfFront gives (remaining (inner_of reader)) (contents (inner_of before)) (contents (inner_of after))

-- all of this of one run, and which port has failed
pub record RunsOver {R W : Type 0} (remaining : R → Option (List ℕ)) (contents : W → Option (List ℕ)) (gives : Gives)
    (reader left : Port R) (before after : Port W) (result : Result Unit EngineFault) : Type 0 where
  pub text : WritesAll remaining contents (whole_text gives) reader before after result
  pub at_read : WritesRead remaining contents gives reader left before after result
  pub at_memory : WritesFront remaining contents gives reader before after result
  pub ports : ReportsFailedPorts Read Write result left after
