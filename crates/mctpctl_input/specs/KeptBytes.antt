-- What a keeping reader holds.
use Rattle.std.specs.Prelude.{ℕ, Bool, List}
use Rattle.mctpctl_input.specs.declared.tee_reader.TeeReader.{TeeReader}

module _ {R : Type 0} where
  -- the reader that reads go to
  abbrev pub inner_of : TeeReader R → R
  inner_of keeping = keeping.inner

  -- the copy of what was read
  abbrev pub kept_of : TeeReader R → List ℕ
  kept_of keeping = keeping.kept.items

  -- a growth of the copy was refused
  abbrev pub has_lost : TeeReader R → Bool
  has_lost keeping = keeping.lost
