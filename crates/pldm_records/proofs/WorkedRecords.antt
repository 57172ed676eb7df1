-- Parts of a record of twelve bytes, and what a repository of two records returns, computed from the
-- definitions.
use Rattle.std.proofs.Common.{◌≡◌, true, false, List, [], ◌∷◌, ℕ, Some, None, refl}
use Rattle.pldm_wire.specs.Crc.{crc}
use Rattle.pldm_wire.specs.RecordParts.{part}
use Rattle.pldm_wire.specs.declared.answer.Answer.TheVariants.{Refused, GetPdr}
use Rattle.pldm_wire.specs.declared.transfer_flag.TransferFlag.TheVariants.{Start, Middle, End, StartAndEnd}
use Rattle.pldm_records.specs.RecordAnswers.{record_answer}
use Rattle.pldm_records.specs.Records.{handle_of, is_record, largest_record_size, next_data_transfer_handle, part_of, position_asked, repository_size}

abbrev seven : List ℕ
seven = 7 ∷ 0 ∷ 0 ∷ 0 ∷ 1 ∷ 1 ∷ 0 ∷ 0 ∷ 2 ∷ 0 ∷ 30 ∷ 40 ∷ []

abbrev eleven : List ℕ
eleven = 11 ∷ 0 ∷ 0 ∷ 0 ∷ 1 ∷ 1 ∷ 0 ∷ 0 ∷ 0 ∷ 0 ∷ []

are_records : (is_record seven ≡ true) × (is_record eleven ≡ true) × (handle_of seven ≡ 7) × (handle_of eleven ≡ 11)
are_records = (refl, refl, refl, refl)

no_header : is_record (7 ∷ 0 ∷ 0 ∷ 0 ∷ 1 ∷ 1 ∷ 0 ∷ 0 ∷ 0 ∷ []) ≡ false
no_header = refl

no_handle : is_record (0 ∷ 0 ∷ 0 ∷ 0 ∷ 1 ∷ 1 ∷ 0 ∷ 0 ∷ 0 ∷ 0 ∷ []) ≡ false
no_handle = refl

another_version : is_record (7 ∷ 0 ∷ 0 ∷ 0 ∷ 2 ∷ 1 ∷ 0 ∷ 0 ∷ 0 ∷ 0 ∷ []) ≡ false
another_version = refl

a_byte_too_many : is_record (7 ∷ 0 ∷ 0 ∷ 0 ∷ 1 ∷ 1 ∷ 0 ∷ 0 ∷ 0 ∷ 0 ∷ 30 ∷ []) ≡ false
a_byte_too_many = refl

whole : (part_of seven 0 12 ≡ part StartAndEnd seven None) × (next_data_transfer_handle seven 0 12 ≡ 0)
whole = (refl, refl)

first : (part_of seven 0 2 ≡ part Start (7 ∷ 0 ∷ []) None) × (next_data_transfer_handle seven 0 2 ≡ 2)
first = (refl, refl)

middle : (part_of seven 8 2 ≡ part Middle (2 ∷ 0 ∷ []) None) × (next_data_transfer_handle seven 8 2 ≡ 10)
middle = (refl, refl)

last : (part_of seven 10 5 ≡ part End (30 ∷ 40 ∷ []) (Some (crc seven))) × (next_data_transfer_handle seven 10 5 ≡ 0)
last = (refl, refl)

sizes : (repository_size (seven ∷ eleven ∷ []) ≡ 22) × (largest_record_size (seven ∷ eleven ∷ []) ≡ 12)
sizes = (refl, refl)

positions : (position_asked 0 (seven ∷ eleven ∷ []) ≡ Some 0) × (position_asked 11 (seven ∷ eleven ∷ []) ≡ Some 1) × (position_asked 8 (seven ∷ eleven ∷ []) ≡ None)
positions = (refl, refl, refl)

told : record_answer 0 99 1 2 (seven ∷ eleven ∷ []) ≡ GetPdr 11 2 (part Start (7 ∷ 0 ∷ []) None)
told = refl

last_byte : record_answer 7 11 0 1 (seven ∷ eleven ∷ []) ≡ GetPdr 11 0 (part End (40 ∷ []) (Some (crc seven)))
last_byte = refl

refusals : (record_answer 8 0 7 0 (seven ∷ []) ≡ Refused 0x02) × (record_answer 8 0 7 1 (seven ∷ []) ≡ Refused 0x81) × (record_answer 8 0 0 1 (seven ∷ []) ≡ Refused 0x82) × (record_answer 7 0 0 1 (seven ∷ []) ≡ Refused 0x80) × (record_answer 7 12 0 1 (seven ∷ []) ≡ Refused 0x80) × (record_answer 0 0 1 1 [] ≡ Refused 0x82)
refusals = (refl, refl, refl, refl, refl, refl)
