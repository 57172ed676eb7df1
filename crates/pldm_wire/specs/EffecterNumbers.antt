-- The pending and the present value of a numeric effecter (DSP0248, "GetNumericEffecterValue
-- command").
use Rattle.std.specs.Prelude.{◌≡◌}
use Rattle.pldm_wire.specs.Numbers.{SizedNumber, IsNumber}

pub record TwoNumbers : Type 0 where
  pub pending : SizedNumber
  pub present : SizedNumber

abbrev pub two_numbers : SizedNumber → SizedNumber → TwoNumbers
two_numbers pending present = record { pending = pending; present = present }

-- both fit their size, which is one
abbrev pub IsPair : TwoNumbers → Type 0
IsPair values = (values.pending.size ≡ values.present.size) × IsNumber values.pending × IsNumber values.present
