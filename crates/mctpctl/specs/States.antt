-- Which instance IDs the control queries of a walk have.
use Rattle.std.specs.Prelude.{ℕ, ◌+◌, ◌-◌, ◌*◌, ◌^◌, min, nat_le, if◌then◌else◌, Option, None, Some}
use Rattle.mctpctl_state.specs.declared.kept.Queries.{Queries}
use Rattle.pldm_wire.specs.declared.assigned.TheConstants.{INSTANCE_IDS}
use Rattle.mctpctl.specs.declared.keeper.TheConstants.{WALK_QUERIES}

-- again from 0 on, where answers to earlier queries can no longer come
abbrev pub from_the_start : Option ℕ → ℕ → ℕ → Option ℕ
from_the_start None keep present = None
from_the_start (Some last) keep present =
    if nat_le (min (last + 2 * keep) (2 ^ 64 - 1)) present then Some 0 else None

-- the next one, where there are enough from there on
abbrev pub first_query : Queries → ℕ → ℕ → Option ℕ
first_query queries keep present =
    if nat_le queries.next (INSTANCE_IDS - WALK_QUERIES) then Some queries.next
    else from_the_start queries.last keep present
