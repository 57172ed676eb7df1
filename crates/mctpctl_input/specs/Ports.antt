-- What a clause reads of a port.
use Rattle.std.specs.Prelude.{◌≡◌, ◌↔◌, ◌<◌, ℕ, Bool, true, false, List, length, Result, IfOk, IsErrOf, OnErr, OnOk}
use Rattle.mctpctl_input.specs.declared.port.Port.{Port}

-- the reader or writer that the port passes calls on to
abbrev pub inner_of : {T : Type 0} → Port T → T
inner_of port = port.inner

-- whether a call through the port answered an error, or a write of some bytes took none
abbrev pub has_failed : {T : Type 0} → Port T → Bool
has_failed port = port.failed

-- no byte was taken since the last flush through the port, or since it was made
abbrev pub is_flushed : {T : Type 0} → Port T → Bool
is_flushed port = port.flushed

-- where all was flushed before, it is so after
abbrev pub StaysFlushed : {T : Type 0} → (before after : Port T) → Type 0
StaysFlushed before after = is_flushed before ≡ true → is_flushed after ≡ true

-- neither port has failed
abbrev pub BothWork : {R W : Type 0} → Port R → Port W → Type 0
BothWork reader writer = (has_failed reader ≡ false) × (has_failed writer ≡ false)

-- this fault is the result exactly where the port has failed
abbrev pub ReportsFailed : {A E T : Type 0} → E → Result A E → Port T → Type 0
ReportsFailed fault result port = IsErrOf result fault ↔ (has_failed port ≡ true)

-- the first fault is the result exactly where the reader has failed, the second exactly where the writer has
abbrev pub ReportsFailedPorts : {A E R W : Type 0} → E → E → Result A E → Port R → Port W → Type 0
ReportsFailedPorts at_read at_write result reader writer =
    ReportsFailed at_read result reader × ReportsFailed at_write result writer

-- after an error the port has failed, and after a write of some bytes that took none
abbrev pub FailsIfRefused : {E T : Type 0} → Result ℕ E → List ℕ → Port T → Type 0
FailsIfRefused result bytes after =
    OnErr result (has_failed after ≡ true)
    × IfOk result (λ taken. taken ≡ 0 → 0 < length bytes → has_failed after ≡ true)

-- a write that took some bytes, or had none to take, leaves it as it was, and no write makes a failed port work
abbrev pub StaysIfTaken : {E T : Type 0} → Result ℕ E → List ℕ → (before after : Port T) → Type 0
StaysIfTaken result bytes before after =
    IfOk result (λ taken. 0 < taken → has_failed after ≡ has_failed before)
    × OnOk result (length bytes ≡ 0 → has_failed after ≡ has_failed before)
    × (has_failed before ≡ true → has_failed after ≡ true)

-- bytes that were taken wait for a flush; where none were, all is as before
abbrev pub WaitsIfTaken : {E T : Type 0} → Result ℕ E → (before after : Port T) → Type 0
WaitsIfTaken result before after =
    IfOk result (λ taken. 0 < taken → is_flushed after ≡ false)
    × IfOk result (λ taken. taken ≡ 0 → is_flushed after ≡ is_flushed before)
