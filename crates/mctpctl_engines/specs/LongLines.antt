-- A line over the limit is refused, whatever came before it.
use Rattle.std.specs.Prelude.{ℕ, List, length, refl}
use borrow.Author.Tests.{lt-ltb}
use Rattle.mctpctl_input.specs.CaptureLine.{capture_of}
use Rattle.mctpctl_engines.specs.HeldRuns.{held_step}
use Rattle.mctpctl_engines.specs.LineTasks.{RefusesLong}
use Rattle.mctpctl_engines.specs.MessageForms.{Message}
use Rattle.mctpctl_engines.specs.ObservedRuns.{observed_step}
use Rattle.mctpctl_input.specs.declared.limits.TheConstants.{MAX_CAPTURE_LINE}

pub held_refuses : RefusesLong held_step
unfolding capture_of
held_refuses state line long = rw (lt-ltb MAX_CAPTURE_LINE (length line) long) refl

pub observed_refuses : {H : Type 0} (with : H → Message → H) (held_line : H → Message → List ℕ)
    → RefusesLong (observed_step with held_line)
unfolding capture_of
observed_refuses with held_line state line long = rw (lt-ltb MAX_CAPTURE_LINE (length line) long) refl
