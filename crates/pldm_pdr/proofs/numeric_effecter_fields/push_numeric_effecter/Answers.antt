-- What was added in turn is the record's layout.
use Rattle.pldm_pdr.proofs.Added.{followed}
use Rattle.pldm_pdr.proofs.numeric_effecter_fields.push_numeric_effecter.Goals as goal

pub returns-clause-added : goal.returns-clause-added
returns-clause-added c =
    followed (followed (followed (followed (followed (followed (followed (followed (followed (followed (followed (followed (followed c.push_u16.ensures.added c.push_u16-2.ensures.added) c.push_entity.ensures.added) c.push_u16-3.ensures.added) c.push_byte.ensures.added) c.push_flag.ensures.added) c.push_units.ensures.added) c.push_byte-2.ensures.added) c.push_conversion.ensures.added) c.push_u32.ensures.added) c.push_u32-2.ensures.added) c.push_sized.ensures.added) c.push_sized-2.ensures.added) c.push_effecter_range.ensures.added
