-- Which port a result is said of, where one of them may have failed.
use Rattle.std.specs.Prelude.{◌≡◌, ◌≢◌, ℕ, false, List, [], Result, Err}
use Rattle.mctpctl_input.specs.Ports.{has_failed, ReportsFailed}
use Rattle.mctpctl_input.specs.declared.faults.EngineFault.{EngineFault}
use Rattle.mctpctl_input.specs.declared.faults.EngineFault.TheVariants.{Read, Write}
use Rattle.mctpctl_input.specs.declared.port.Port.{Port}

-- the writer works, and nothing waits to be written
abbrev pub IsReady : {W : Type 0} → List ℕ → Port W → Type 0
IsReady waiting writer = (has_failed writer ≡ false) × (waiting ≡ [])

-- the result is the fault of neither port
abbrev pub ReportsNoPort : {A : Type 0} → Result A EngineFault → Type 0
ReportsNoPort result = (result ≢ Err Read) × (result ≢ Err Write)

-- the result is not the reader's fault, and the writer's exactly where that has failed
abbrev pub ReportsOnlyWriter : {A W : Type 0} → Result A EngineFault → Port W → Type 0
ReportsOnlyWriter result writer = (result ≢ Err Read) × ReportsFailed Write result writer
