-- A size and its number on the wire.
use Rattle.std.proofs.Common.{◌≡◌, ℕ, Some, refl, arith}
use Rattle.std.proofs.lemmas.Bool.Decides.{nat_tests}
use Rattle.pldm_wire.specs.Sizes.{size_code, size_of}
use Rattle.pldm_wire.specs.declared.size.Size.{Size}
use Rattle.pldm_wire.specs.declared.size.Size.TheVariants.{Uint8, Sint8, Uint16, Sint16, Uint32, Sint32}

pub size_of-size_code : (size : Size) → size_of (size_code size) ≡ Some size
size_of-size_code Uint8 = refl
size_of-size_code Sint8 = refl
size_of-size_code Uint16 = refl
size_of-size_code Sint16 = refl
size_of-size_code Uint32 = refl
size_of-size_code Sint32 = refl

-- a number that is a size's is that size's number
pub code_from_size : (code : ℕ) (size : Size) → size_of code ≡ Some size → code ≡ size_code size
code_from_size code Uint8 h = grind (arith, nat_tests)
code_from_size code Sint8 h = grind (arith, nat_tests)
code_from_size code Uint16 h = grind (arith, nat_tests)
code_from_size code Sint16 h = grind (arith, nat_tests)
code_from_size code Uint32 h = grind (arith, nat_tests)
code_from_size code Sint32 h = grind (arith, nat_tests)
