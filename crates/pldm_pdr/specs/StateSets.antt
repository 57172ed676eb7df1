-- The possible states of the sensors or effecters of a composite one (DSP0248, "State sensor PDR" and "State effecter
-- PDR").
use Rattle.std.specs.Prelude.{ℕ, zero, suc, ◌+◌, ◌*◌, ◌/◌, ◌%◌, ◌^◌, ◌==◌, nat_le, max, Bool, ◌&&◌, ◌||◌, true, false, not, IsTrue, List, [], ◌∷◌, ◌++◌}
use Rattle.std.specs.Prelude.{length, slice_index, Ok, if◌then◌else◌}
use Rattle.arrayvec.specs.ArrayVec.{ArrayVec}
use Rattle.byteorder.specs.Endian.{little_bytes}
use Rattle.pldm_wire.specs.Numbers.{IsU16}
use Rattle.pldm_wire.specs.States.{is_composite}
use Rattle.pldm_wire.specs.declared.limits.TheConstants.{MAX_STATES}
use Rattle.pldm_pdr.specs.declared.limits.TheConstants.{MAX_STATE_BYTES}
use Rattle.pldm_pdr.specs.declared.fault.RecordFault.TheVariants.{Count, States}
use Rattle.pldm_pdr.specs.declared.possible_states.PossibleStates.{PossibleStates}
use Rattle.pldm_pdr.specs.Fields.{◌>>=◌, Field, byte, byte_at, list_at, number_at, refused}

-- state s is bit s mod 8 of byte s / 8
abbrev pub has_state : List ℕ → ℕ → Bool
has_state bits state = slice_index bits (state / 8) / 2 ^ (state % 8) % 2 == 1

-- whether a state is among these
abbrev pub is_among : List ℕ → ℕ → Bool
is_among [] state = false
is_among (first ∷ states) state = (first == state) || is_among states state

-- the bits of eight states, from a first one on

abbrev pub bit_of : List ℕ → ℕ → ℕ
bit_of states state = if is_among states state then 1 else 0

abbrev pub bits_from : List ℕ → ℕ → ℕ
bits_from states first =
    bit_of states first + 2 * bit_of states (first + 1) + 4 * bit_of states (first + 2)
    + 8 * bit_of states (first + 3) + 16 * bit_of states (first + 4) + 32 * bit_of states (first + 5)
    + 64 * bit_of states (first + 6) + 128 * bit_of states (first + 7)

-- the bits of states in so many bytes
abbrev pub bits_in : List ℕ → ℕ → List ℕ
bits_in states zero = []
bits_in states (suc count) = bits_in states count ++ bits_from states (8 * count) ∷ []

-- the last byte that has a bit of these states
abbrev pub last_byte : List ℕ → ℕ
last_byte [] = 0
last_byte (state ∷ states) = max (state / 8) (last_byte states)

-- these items, as they are kept
abbrev pub kept : {A : Type 0} → List A → ArrayVec A
kept items = record { items = items }

-- the state set, how many bytes the states are in, and these
abbrev pub possible_states_bytes : PossibleStates → List ℕ
possible_states_bytes states =
    little_bytes 2 states.state_set ++ byte (length states.bits.items) ++ states.bits.items

-- the states are in some bytes, and in no more than a record may have
abbrev pub is_states_size : ℕ → Bool
is_states_size count = nat_le 1 count && nat_le count MAX_STATE_BYTES

abbrev pub possible_states_fit : PossibleStates → Bool
possible_states_fit states = is_states_size (length states.bits.items)

unfoldable pub possible_states_at : List ℕ → Field PossibleStates
possible_states_at bytes = do
  state_set ← number_at 2 bytes
  count ← byte_at state_set.1
  refused (not (is_states_size count.0)) States (do
    bits ← list_at count.0 count.1
    Ok (record { state_set = state_set.0; bits = kept bits.0 }, bits.1))

-- those of each, one after another
abbrev pub sets_bytes : List PossibleStates → List ℕ
sets_bytes [] = []
sets_bytes (states ∷ sets) = possible_states_bytes states ++ sets_bytes sets

abbrev pub each_fits : List PossibleStates → Bool
each_fits [] = true
each_fits (states ∷ sets) = possible_states_fit states && each_fits sets

abbrev pub AreInRange : List PossibleStates → Type 0
AreInRange [] = Unit {0}
AreInRange (states ∷ sets) = IsU16 states.state_set × AreInRange sets

unfoldable pub sets_at : ℕ → List ℕ → Field (List PossibleStates)
sets_at zero bytes = Ok ([], bytes)
sets_at (suc count) bytes = do
  first ← possible_states_at bytes
  others ← sets_at count first.1
  Ok (first.0 ∷ others.0, others.1)

-- how many there are, and those of each
abbrev pub composite_bytes : List PossibleStates → List ℕ
composite_bytes sets = byte (length sets) ++ sets_bytes sets

abbrev pub composite_fits : List PossibleStates → Bool
composite_fits sets = is_composite sets && each_fits sets

abbrev pub IsComposite : List PossibleStates → Type 0
IsComposite sets = AreInRange sets × IsTrue (composite_fits sets)

unfoldable pub composite_at : List ℕ → Field (List PossibleStates)
composite_at bytes = do
  count ← byte_at bytes
  refused (not (nat_le 1 count.0 && nat_le count.0 MAX_STATES)) Count (sets_at count.0 count.1)
