-- Reading up to a limit.
use Rattle.std.specs.Prelude.{◌≡◌, ℕ, List, Bool, length, take, nat_lt}

-- of all that the reader gives, the bytes up to the limit are there, and whether there was more is known
pub record ReadUpTo (limit : ℕ) (all bytes : List ℕ) (is_cut : Bool) : Type 0 where
  pub bytes_are : bytes ≡ take limit all
  pub cut : is_cut ≡ nat_lt limit (length all)
