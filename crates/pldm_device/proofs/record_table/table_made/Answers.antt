-- Where the entity is refused, so is the table.
use Rattle.std.proofs.Common.{sym, inr}
use Rattle.std.proofs.lemmas.Result.{err_from_is_err_and}
use Rattle.pldm_device.proofs.TableRefused.{entity_refused}
use Rattle.pldm_device.proofs.record_table.table_made.Goals as goal

pub returns-in_err-entity : goal.returns-in_err-entity
returns-in_err-entity c =
    let p = err_from_is_err_and c.from_residual-in_err-entity.result c.from_residual-in_err-entity.ensures.1 in
    rw (p.1, p.2) (inr (sym (entity_refused _ _ _ _ _ _ _ (sym c.in_ok-name.ensures) (sym c.in_err-entity.ensures))))
