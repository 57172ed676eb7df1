-- What was added in turn is the record's layout.
use Rattle.pldm_pdr.proofs.Added.{followed}
use Rattle.pldm_pdr.proofs.state_sensor_fields.push_state_sensor.Goals as goal

pub returns-clause-added : goal.returns-clause-added
returns-clause-added c =
    rw c.deref.ensures.0 at
    (followed (followed (followed (followed (followed c.push_u16.ensures.added c.push_u16-2.ensures.added) c.push_entity.ensures.added) c.push_byte.ensures.added) c.push_flag.ensures.added) c.push_composite.ensures.added)
