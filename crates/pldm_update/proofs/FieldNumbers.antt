-- Parts of the component table and states, by their numbers on the wire.
use Rattle.std.proofs.Common.{◌≡◌, ℕ, Some, refl, arith}
use Rattle.std.proofs.lemmas.Bool.Decides.{nat_tests}
use Rattle.pldm_update.specs.TableParts.{part_number, part_of}
use Rattle.pldm_update.specs.UpdateStates.{state_number, state_of}
use Rattle.pldm_update.specs.declared.table_part.TablePart.{TablePart}
use Rattle.pldm_update.specs.declared.table_part.TablePart.TheVariants.{Start, Middle, End, StartAndEnd}
use Rattle.pldm_update.specs.declared.update_state.UpdateState.{UpdateState}
use Rattle.pldm_update.specs.declared.update_state.UpdateState.TheVariants.{Idle, LearnComponents, ReadyXfer, Download, Verify, Apply, Activate}

pub part_of-part_number : (part : TablePart) → part_of (part_number part) ≡ Some part
part_of-part_number Start = refl
part_of-part_number Middle = refl
part_of-part_number End = refl
part_of-part_number StartAndEnd = refl

pub number_from_part : (number : ℕ) (part : TablePart) → part_of number ≡ Some part → number ≡ part_number part
number_from_part number Start h = grind (arith, nat_tests)
number_from_part number Middle h = grind (arith, nat_tests)
number_from_part number End h = grind (arith, nat_tests)
number_from_part number StartAndEnd h = grind (arith, nat_tests)

pub state_of-state_number : (state : UpdateState) → state_of (state_number state) ≡ Some state
state_of-state_number Idle = refl
state_of-state_number LearnComponents = refl
state_of-state_number ReadyXfer = refl
state_of-state_number Download = refl
state_of-state_number Verify = refl
state_of-state_number Apply = refl
state_of-state_number Activate = refl

pub number_from_state : (number : ℕ) (state : UpdateState) → state_of number ≡ Some state → number ≡ state_number state
number_from_state number Idle h = grind (arith, nat_tests)
number_from_state number LearnComponents h = grind (arith, nat_tests)
number_from_state number ReadyXfer h = grind (arith, nat_tests)
number_from_state number Download h = grind (arith, nat_tests)
number_from_state number Verify h = grind (arith, nat_tests)
number_from_state number Apply h = grind (arith, nat_tests)
number_from_state number Activate h = grind (arith, nat_tests)
