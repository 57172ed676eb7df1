-- Every constant of the source, written a second time.
use Rattle.std.proofs.Common.{◌≡◌, refl}
use Rattle.needleoat_forms.specs.declared.message.TheConstants.{MOST_REPORTED}
use Rattle.needleoat_forms.specs.declared.packet.TheConstants.{NOT_AN_ENDPOINT}
use Rattle.needleoat_forms.specs.declared.answer_writing.TheConstants.{PLDM_TYPES}

not_an_endpoint : NOT_AN_ENDPOINT ≡ 255
not_an_endpoint = refl

most_reported : MOST_REPORTED ≡ 4294967295
most_reported = refl

pldm_types : PLDM_TYPES ≡ 64
pldm_types = refl
