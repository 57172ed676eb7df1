-- The assignments of endpoint IDs that are kept, so that a later copy of one is known (DSP0236, "Set Endpoint ID").
use Rattle.std.specs.Prelude.{ℕ, ◌+◌, ◌==◌, ◌&&◌, nat_lt, bytes_eq, Bool, List, ◌∷◌, take}
use Rattle.mctp_control.specs.declared.kept_assignments.KeptAssignment.{KeptAssignment}
use Rattle.mctp_control.specs.declared.kept_assignments.TheConstants.{KEPT_ASSIGNMENTS}

-- the assignment of an endpoint ID by a message that came from a source at a moment
abbrev pub assignment : ℕ → List ℕ → ℕ → ℕ → KeptAssignment
assignment source message moment eid = record { source = source; message = message; moment = moment; eid = eid }

-- a message that comes now repeats one that is kept: it has the same source and the same bytes, and it comes within the
-- keeping time
abbrev pub is_copy_of : ℕ → ℕ → ℕ → List ℕ → KeptAssignment → Bool
is_copy_of keep now source message kept =
    (source == kept.source) && (bytes_eq message kept.message && nat_lt now (kept.moment + keep))

-- with a new one in front: the last ones, the newest first
abbrev pub kept_with : KeptAssignment → List KeptAssignment → List KeptAssignment
kept_with new kept = take KEPT_ASSIGNMENTS (new ∷ kept)
