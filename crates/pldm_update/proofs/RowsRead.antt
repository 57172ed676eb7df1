-- What a row makes of data has its values in the data, and every such value is read.
use Rattle.std.proofs.Common.{◌≡◌, List, ℕ, Result, Ok, Err, IfOk, refl, arith}
use Rattle.pldm_update.specs.Layouts.{Values, StandIn}
use Rattle.pldm_update.specs.FieldReading.{map_ok, values_at, Row, read_row}
use Rattle.pldm_update.specs.declared.fault.UpdateFault.{UpdateFault}
use Rattle.pldm_update.proofs.FieldsRead.{values_read, values_found}

-- values that stand in the data make what the row reads
pub row_read : {A : Type 0} (r : Row A) (v : Values r.layout) (bytes : List ℕ) → StandIn r.layout v bytes → read_row r bytes ≡ Ok (r.make v)
row_read r v bytes h =
    let read = values_read r.layout v 0 bytes bytes (omega arith) refl h in
    rw read refl

made_found : {A : Type 0} (P : A → Type 0) (r : Row A) (bytes : List ℕ) → ((v : Values r.layout) → StandIn r.layout v bytes → P (r.make v))
    → (read : Result (Values r.layout) UpdateFault) → IfOk read (λ v. StandIn r.layout v bytes) → IfOk (map_ok r.make read) P
made_found P r bytes holds (Ok v) h = holds v h
made_found P r bytes holds (Err fault) h = tt

-- what holds of all values that stand in the data holds of what the row reads
pub row_found : {A : Type 0} (P : A → Type 0) (r : Row A) (bytes : List ℕ) → ((v : Values r.layout) → StandIn r.layout v bytes → P (r.make v))
    → IfOk (read_row r bytes) P
row_found P r bytes holds = made_found P r bytes holds (values_at r.layout 0 bytes) (values_found r.layout 0 bytes (omega arith))
