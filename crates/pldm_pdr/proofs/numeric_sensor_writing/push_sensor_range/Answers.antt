-- What was added in turn is the range's layout.
use Rattle.pldm_pdr.proofs.Added.{followed}
use Rattle.pldm_pdr.proofs.numeric_sensor_writing.push_sensor_range.Goals as goal

pub returns-clause-added : goal.returns-clause-added
returns-clause-added c =
    rw (c.bits_size-size.ensures, c.code.ensures) at
    (followed (followed (followed (followed (followed (followed (followed (followed (followed (followed c.push_byte.ensures.added c.push_byte-2.ensures.added) c.push_sized.ensures.added) c.push_sized-2.ensures.added) c.push_sized-3.ensures.added) c.push_sized-4.ensures.added) c.push_sized-5.ensures.added) c.push_sized-6.ensures.added) c.push_sized-7.ensures.added) c.push_sized-8.ensures.added) c.push_sized-9.ensures.added)
