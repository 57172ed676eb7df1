-- The numbers of SplitMix64 that others give, and what becomes of frames by them.
use Rattle.std.proofs.Common.{◌≡◌, refl, Some, codes}
use Rattle.line_faults.specs.Fates.{fate_by, lost}
use Rattle.line_faults.specs.Spellings.{faults_in, line_faults, parts_of, refused_in}
use Rattle.line_faults.specs.declared.spelling.FaultsPart.TheVariants.{Count, Seed, Lose, Repeat, Delay}
use Rattle.rand_xoshiro.specs.SplitMix64.{mix_u64}

-- the first numbers of the seeds 0 and 1234567, as the author's code in C gives them
first_of_0 : (mix_u64 0).0 ≡ 0xe220a8397b1dcdaf
first_of_0 = refl

first_of_1234567 : (mix_u64 1234567).0 ≡ 6457827717110365317
first_of_1234567 = refl

second_of_1234567 : (mix_u64 (mix_u64 1234567).1).0 ≡ 3203168211198807973
second_of_1234567 = refl

-- by the last two digits of the numbers, and the third one over 51
is_lost : fate_by (line_faults 7 10 20 50) 309 0 0 ≡ lost
is_lost = refl

is_not_lost : fate_by (line_faults 7 10 20 50) 310 320 102 ≡ record { copies = 1; delay = 0 }
is_not_lost = refl

comes_twice : fate_by (line_faults 7 10 20 50) 310 319 101 ≡ record { copies = 2; delay = 50 }
comes_twice = refl

spelled : faults_in (parts_of (codes "7,10,20,50")) ≡ Some (line_faults 7 10 20 50)
spelled = refl

three_parts : refused_in (parts_of (codes "7,10,20")) ≡ Some Count
three_parts = refl

five_parts : refused_in (parts_of (codes "7,10,20,50,")) ≡ Some Count
five_parts = refl

no_seed : refused_in (parts_of (codes ",101,20,50")) ≡ Some Seed
no_seed = refl

too_many_lost : refused_in (parts_of (codes "7,101,200,50")) ≡ Some Lose
too_many_lost = refl

too_many_repeated : refused_in (parts_of (codes "7,10,-1,50")) ≡ Some Repeat
too_many_repeated = refl

too_long : refused_in (parts_of (codes "7,10,20,60001")) ≡ Some Delay
too_long = refl
