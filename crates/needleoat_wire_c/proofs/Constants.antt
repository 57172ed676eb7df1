-- The constants of the source that definitions take, written a second time.
use Rattle.std.proofs.Common.{◌≡◌, refl}
use Rattle.needleoat_wire_c.specs.declared.bus_forms.TheConstants.{NOT_AN_ADDRESS}
use Rattle.needleoat_wire_c.specs.declared.record_forms.TheConstants.{NAME_UNITS, STATE_BYTES}
use Rattle.needleoat_wire_c.specs.declared.record_writing.TheConstants.{NO_RECORD}
use Rattle.needleoat_wire_c.specs.declared.records_answer.TheConstants.{NO_RECORDS, OTHER_COMMAND}

name_units : NAME_UNITS ≡ 127
name_units = refl

state_bytes : STATE_BYTES ≡ 32
state_bytes = refl

no_record : NO_RECORD ≡ 0
no_record = refl

other_command : OTHER_COMMAND ≡ 1
other_command = refl

no_records : NO_RECORDS ≡ 2
no_records = refl

not_an_address : NOT_AN_ADDRESS ≡ 255
not_an_address = refl
