-- Data in which values stand is read as what they make, and what is read was made of values that stand there.
use Rattle.std.proofs.Common.{◌≡◌, ℕ, ◌≤◌, nat_lt, false, List, length, Result, Ok, Err, IfOk, refl, arith}
use Rattle.std.proofs.lemmas.Bool.{le-ltb}
use Rattle.pldm_wire.specs.CommandReading.{data_in, told_as}
use Rattle.pldm_wire.specs.CommandTable.{Data}
use Rattle.pldm_wire.specs.FieldReading.{FieldFault, WrongLength, WrongValue, map_ok, values_at}
use Rattle.pldm_wire.specs.Layouts.{Values, StandIn}
use Rattle.pldm_wire.proofs.Cells.{by_test}
use Rattle.pldm_wire.proofs.FieldsRead.{values_read, values_found}

-- the values that stand in all of the data make what is read, whatever a fault is told as
pub data_read : {A F : Type 0} (wrong_length wrong_value : F) (d : Data A) (v : Values d.layout) (bytes : List ℕ) → d.least ≤ length bytes → StandIn d.layout v bytes
    → told_as wrong_length wrong_value (data_in d bytes) ≡ Ok (d.make v)
data_read wrong_length wrong_value d v bytes enough h =
    let test : nat_lt (length bytes) d.least ≡ false = le-ltb (length bytes) d.least enough in
    let read = values_read d.layout v 0 bytes bytes (omega arith) refl h in
    rw (test, read) refl

made_found : {A F : Type 0} (P : A → Type 0) (wrong_length wrong_value : F) (d : Data A) (bytes : List ℕ) → ((v : Values d.layout) → StandIn d.layout v bytes → P (d.make v))
    → (read : Result (Values d.layout) FieldFault) → IfOk read (λ v. StandIn d.layout v bytes) → IfOk (told_as wrong_length wrong_value (map_ok d.make read)) P
made_found P wrong_length wrong_value d bytes holds (Ok v) h = holds v h
made_found P wrong_length wrong_value d bytes holds (Err WrongLength) h = tt
made_found P wrong_length wrong_value d bytes holds (Err WrongValue) h = tt

-- what holds of all that such values make holds of what is read
pub data_found : {A F : Type 0} (P : A → Type 0) (wrong_length wrong_value : F) (d : Data A) (bytes : List ℕ) → ((v : Values d.layout) → StandIn d.layout v bytes → P (d.make v))
    → IfOk (told_as wrong_length wrong_value (data_in d bytes)) P
data_found P wrong_length wrong_value d bytes holds =
    by_test (λ (r : Result _ FieldFault). IfOk (told_as wrong_length wrong_value r) P) (nat_lt (length bytes) d.least) (Err WrongLength) (map_ok d.make (values_at d.layout 0 bytes)) (λ _. tt)
    (λ _. made_found P wrong_length wrong_value d bytes holds (values_at d.layout 0 bytes) (values_found d.layout 0 bytes (omega arith)))
