-- A transfer flag and its number on the wire.
use Rattle.std.proofs.Common.{◌≡◌, ℕ, Some, refl, arith}
use Rattle.std.proofs.lemmas.Bool.Decides.{nat_tests}
use Rattle.pldm_wire.specs.TransferFlags.{flag_number, flag_of}
use Rattle.pldm_wire.specs.declared.transfer_flag.TransferFlag.{TransferFlag}
use Rattle.pldm_wire.specs.declared.transfer_flag.TransferFlag.TheVariants.{Start, Middle, BaseMiddle, End, StartAndEnd}

pub flag_of-flag_number : (flag : TransferFlag) → flag_of (flag_number flag) ≡ Some flag
flag_of-flag_number Start = refl
flag_of-flag_number Middle = refl
flag_of-flag_number BaseMiddle = refl
flag_of-flag_number End = refl
flag_of-flag_number StartAndEnd = refl

-- a number that is a flag's is that flag's number
pub number_from_flag : (number : ℕ) (flag : TransferFlag) → flag_of number ≡ Some flag → number ≡ flag_number flag
number_from_flag number Start h = grind (arith, nat_tests)
number_from_flag number Middle h = grind (arith, nat_tests)
number_from_flag number BaseMiddle h = grind (arith, nat_tests)
number_from_flag number End h = grind (arith, nat_tests)
number_from_flag number StartAndEnd h = grind (arith, nat_tests)
