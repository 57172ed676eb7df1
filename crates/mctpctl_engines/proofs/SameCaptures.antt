-- Two runs over the lines of a capture write the same where what they know of the packets stands for one another.
use Rattle.std.proofs.Common.{◌≡◌, ℕ, List, Option, None, Some, Result, Ok, Err, refl, subst, sym, ap}
use Rattle.mctpctl_input.specs.CaptureLine.{TimedPacket, capture_of}
use Rattle.mctpctl_engines.specs.CaptureRuns.{packet_step, capture_step}
use Rattle.mctpctl_input.specs.declared.faults.LineKind.{LineKind}
use Rattle.mctpctl_engines.proofs.RunsOverLines.{SameStep}

-- the last moments are the same, and bytes that come at a moment give the same text and leave such values again
pub record StandsFor {M N : Type 0} (last_m : M → ℕ) (gives_m : M → ℕ → List ℕ → List ℕ) (with_m : M → ℕ → List ℕ → M) (last_n : N → ℕ) (gives_n : N → ℕ → List ℕ → List ℕ) (with_n : N → ℕ → List ℕ → N) (Same : M → N → Type 0) : Type 0 where
  pub last : (m : M) (n : N) → Same m n → last_m m ≡ last_n n
  pub gives : (m : M) (n : N) (moment : ℕ) (bytes : List ℕ) → Same m n → gives_m m moment bytes ≡ gives_n n moment bytes
  pub with : (m : M) (n : N) (moment : ℕ) (bytes : List ℕ) → Same m n → Same (with_m m moment bytes) (with_n n moment bytes)

module _ {M N : Type 0} (last_m : M → ℕ) (gives_m : M → ℕ → List ℕ → List ℕ) (with_m : M → ℕ → List ℕ → M) (last_n : N → ℕ) (gives_n : N → ℕ → List ℕ → List ℕ) (with_n : N → ℕ → List ℕ → N) (Same : M → N → Type 0) (stands : StandsFor last_m gives_m with_m last_n gives_n with_n Same) where
  same_packet : (m : M) (n : N) (said : Result (Option TimedPacket) LineKind) → Same m n → SameStep Same (packet_step last_m gives_m with_m m said) (packet_step last_n gives_n with_n n said)
  same_packet m n (Err kind) same = refl
  same_packet m n (Ok None) same = (refl, same)
  same_packet m n (Ok (Some packet)) same =
      (stands.gives m n packet.moment packet.bytes same, stands.with m n packet.moment packet.bytes same)

  pub same_capture_step : (m : M) (n : N) (line : List ℕ) → Same m n → SameStep Same (capture_step last_m gives_m with_m m line) (capture_step last_n gives_n with_n n line)
  same_capture_step m n line same =
      subst (λ said. SameStep Same (packet_step last_m gives_m with_m m said) (capture_step last_n gives_n with_n n line)) (ap (capture_of line) (sym (stands.last m n same))) (same_packet m n (capture_of line (last_n n)) same)
