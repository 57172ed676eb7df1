-- Why a line of a capture is refused by itself, and what was found there.
use Rattle.std.specs.Prelude.{◌≡◌, ◌==◌, ℕ, List, length, slice_get, Option, Some, None, Result, Ok, Err}
use Rattle.mctpctl_input.specs.CaptureLine.{TimedPacket}
use Rattle.mctpctl_input.specs.declared.refused_capture.CaptureRefusal.{CaptureRefusal}
use Rattle.mctpctl_input.specs.declared.refused_capture.CaptureRefusal.TheVariants as refusals
use Rattle.mctpctl_input.specs.declared.faults.LineKind.{LineKind}
use Rattle.mctpctl_input.specs.declared.faults.LineKind.TheVariants as kinds

-- the fault of what a line says, where there is one
abbrev pub fault_of : Result (Option TimedPacket) LineKind → Option LineKind
fault_of (Ok packet) = None
fault_of (Err kind) = Some kind

-- the fault of a refusal, where there is one
abbrev pub kind_of : Option CaptureRefusal → Option LineKind
kind_of None = None
kind_of (Some (refusals.LongLine count)) = Some kinds.LongLine
kind_of (Some (refusals.Words word)) = Some kinds.Words
kind_of (Some (refusals.Number word alone)) = Some kinds.Number
kind_of (Some (refusals.BadHex word)) = Some kinds.BadHex

-- what is named of a line with so many bytes and these words: its length, its third word, its first one and whether
-- there is no other, its second one
abbrev pub IsFound : ℕ → List (List ℕ) → CaptureRefusal → Type 0
IsFound bytes words (refusals.LongLine count) = count ≡ bytes
IsFound bytes words (refusals.Words word) = slice_get words 2 ≡ Some word.now
IsFound bytes words (refusals.Number word alone) = (slice_get words 0 ≡ Some word.now) × (alone ≡ (length words == 1))
IsFound bytes words (refusals.BadHex word) = slice_get words 1 ≡ Some word.now
