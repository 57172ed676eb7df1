-- The entity, the units and the conversion: what is read was taken, and is read again.
use Rattle.std.proofs.Common.{◌≡◌, ℕ, List, ◌++◌, Ok, refl, ap, subst, ◌∙◌}
use Rattle.byteorder.specs.Endian.{little_bytes}
use Rattle.pldm_wire.specs.Sizes.{size_code}
use Rattle.pldm_pdr.specs.declared.entity.Entity.{Entity}
use Rattle.pldm_pdr.specs.declared.units.Units.{Units}
use Rattle.pldm_pdr.specs.declared.conversion.Conversion.{Conversion}
use Rattle.pldm_pdr.specs.Fields.{byte, signed_byte, flag}
use Rattle.pldm_pdr.specs.Entities.{entity_bytes, IsEntity, entity_at}
use Rattle.pldm_pdr.specs.Measures.{units_bytes, IsUnits, units_at, conversion_bytes, IsConversion, conversion_at}
use Rattle.pldm_pdr.proofs.Steps.{IsBytes, stepped, goes_on, ok_is, Takes, with_next}
use Rattle.pldm_pdr.proofs.FieldsTaken.{byte_taken, signed_byte_taken, flag_taken, number_taken, size_taken}
use Rattle.pldm_pdr.proofs.FieldsAgain.{byte_again, signed_byte_again, flag_again, number_again, size_again}
use Rattle.pldm_pdr.proofs.Regrouped.{regroup_3, regroup_7}

pub entity_taken : (bytes : List ℕ) → IsBytes bytes → (x : Entity × List ℕ) → entity_at bytes ≡ Ok x → Takes bytes (entity_bytes x.0) x.1 × IsEntity x.0
unfolding entity_at
entity_taken bytes small x e =
    stepped e (number_taken 2 bytes small) (λ f1 t1 e1.
    stepped e1 (number_taken 2 f1.1 t1.0.small) (λ f2 t2 e2.
    stepped e2 (number_taken 2 f2.1 t2.0.small) (λ f3 t3 e3.
    subst (λ (y : Entity × List ℕ). Takes bytes (entity_bytes y.0) y.1 × IsEntity y.0) (ok_is e3) (with_next (with_next t1.0 t2.0) t3.0, (t1.1, t2.1, t3.1)))))

pub entity_again : (entity : Entity) (rest : List ℕ) → IsEntity entity → entity_at (entity_bytes entity ++ rest) ≡ Ok (entity, rest)
unfolding entity_at
entity_again entity rest ok =
    ap entity_at (regroup_3 (little_bytes 2 entity.entity_type) (little_bytes 2 entity.instance) (little_bytes 2 entity.container_id) rest)
    ∙ goes_on _ (number_again 2 entity.entity_type _ ok.0) (goes_on _ (number_again 2 entity.instance _ ok.1) (goes_on _ (number_again 2 entity.container_id _ ok.2) refl))

pub units_taken : (bytes : List ℕ) → IsBytes bytes → (x : Units × List ℕ) → units_at bytes ≡ Ok x → Takes bytes (units_bytes x.0) x.1 × IsUnits x.0
unfolding units_at
units_taken bytes small x e =
    stepped e (byte_taken bytes small) (λ f1 t1 e1.
    stepped e1 (signed_byte_taken f1.1 t1.0.small) (λ f2 t2 e2.
    stepped e2 (byte_taken f2.1 t2.0.small) (λ f3 t3 e3.
    stepped e3 (byte_taken f3.1 t3.0.small) (λ f4 t4 e4.
    stepped e4 (byte_taken f4.1 t4.0.small) (λ f5 t5 e5.
    stepped e5 (signed_byte_taken f5.1 t5.0.small) (λ f6 t6 e6.
    stepped e6 (byte_taken f6.1 t6.0.small) (λ f7 t7 e7.
    subst (λ (y : Units × List ℕ). Takes bytes (units_bytes y.0) y.1 × IsUnits y.0) (ok_is e7) (with_next (with_next (with_next (with_next (with_next (with_next t1.0 t2.0) t3.0) t4.0) t5.0) t6.0) t7.0, (t1.1, t2.1, t3.1, t4.1, t5.1, t6.1, t7.1)))))))))

pub units_again : (units : Units) (rest : List ℕ) → IsUnits units → units_at (units_bytes units ++ rest) ≡ Ok (units, rest)
unfolding units_at
units_again units rest ok =
    ap units_at (regroup_7 (byte units.base_unit) (signed_byte units.unit_modifier) (byte units.rate_unit) (byte units.base_oem_unit_handle) (byte units.auxiliary_unit) (signed_byte units.auxiliary_unit_modifier) (byte units.auxiliary_rate_unit) rest)
    ∙ goes_on _ (byte_again units.base_unit _) (goes_on _ (signed_byte_again units.unit_modifier _ ok.1) (goes_on _ (byte_again units.rate_unit _) (goes_on _ (byte_again units.base_oem_unit_handle _) (goes_on _ (byte_again units.auxiliary_unit _) (goes_on _ (signed_byte_again units.auxiliary_unit_modifier _ ok.5) (goes_on _ (byte_again units.auxiliary_rate_unit _) refl))))))

pub conversion_taken : (bytes : List ℕ) → IsBytes bytes → (x : Conversion × List ℕ) → conversion_at bytes ≡ Ok x → Takes bytes (conversion_bytes x.0) x.1 × IsConversion x.0
unfolding conversion_at
conversion_taken bytes small x e =
    stepped e (flag_taken bytes small) (λ f1 t1 e1.
    stepped e1 (size_taken f1.1 t1.small) (λ f2 t2 e2.
    stepped e2 (number_taken 4 f2.1 t2.small) (λ f3 t3 e3.
    stepped e3 (number_taken 4 f3.1 t3.0.small) (λ f4 t4 e4.
    stepped e4 (number_taken 2 f4.1 t4.0.small) (λ f5 t5 e5.
    stepped e5 (byte_taken f5.1 t5.0.small) (λ f6 t6 e6.
    stepped e6 (byte_taken f6.1 t6.0.small) (λ f7 t7 e7.
    subst (λ (y : Conversion × List ℕ). Takes bytes (conversion_bytes y.0) y.1 × IsConversion y.0) (ok_is e7) (with_next (with_next (with_next (with_next (with_next (with_next t1 t2) t3.0) t4.0) t5.0) t6.0) t7.0, (t3.1, t4.1, t5.1, t6.1, t7.1)))))))))

pub conversion_again : (conversion : Conversion) (rest : List ℕ) → IsConversion conversion → conversion_at (conversion_bytes conversion ++ rest) ≡ Ok (conversion, rest)
unfolding conversion_at
conversion_again conversion rest ok =
    ap conversion_at (regroup_7 (flag conversion.is_linear) (byte (size_code conversion.size)) (little_bytes 4 conversion.resolution) (little_bytes 4 conversion.offset) (little_bytes 2 conversion.accuracy) (byte conversion.plus_tolerance) (byte conversion.minus_tolerance) rest)
    ∙ goes_on _ (flag_again conversion.is_linear _) (goes_on _ (size_again conversion.size _) (goes_on _ (number_again 4 conversion.resolution _ ok.0) (goes_on _ (number_again 4 conversion.offset _ ok.1) (goes_on _ (number_again 2 conversion.accuracy _ ok.2) (goes_on _ (byte_again conversion.plus_tolerance _) (goes_on _ (byte_again conversion.minus_tolerance _) refl))))))
