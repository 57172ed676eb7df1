-- The fault of a refusal.
use Rattle.std.specs.Prelude.{Option, Some, None, Result, Ok, Err}
use Rattle.schedule_text.specs.declared.line_fault.LineFaultKind.{LineFaultKind}
use Rattle.schedule_text.specs.declared.refusal.Refusal.{Refusal}

-- what was read, or the fault alone for which it was refused
abbrev pub kinds : {A : Type 0} → Result A Refusal → Result A LineFaultKind
kinds (Ok value) = Ok value
kinds (Err refusal) = Err refusal.kind

-- the fault of what is read, where there is one
abbrev pub fault_of : {A : Type 0} → Result A LineFaultKind → Option LineFaultKind
fault_of (Ok value) = None
fault_of (Err kind) = Some kind

-- the fault of a refusal, where there is one
abbrev pub kind_of : Option Refusal → Option LineFaultKind
kind_of None = None
kind_of (Some refusal) = Some refusal.kind
