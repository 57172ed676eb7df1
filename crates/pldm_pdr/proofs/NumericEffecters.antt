-- The numeric effecter: what is read was taken, and is read again.
use Rattle.std.proofs.Common.{◌≡◌, ℕ, List, [], ◌∷◌, ◌++◌, Ok, refl, ap, subst, ◌∙◌}
use Rattle.byteorder.specs.Endian.{little_bytes}
use Rattle.pldm_wire.specs.Numbers.{IsU8}
use Rattle.std.proofs.Common.{IsTrue}
use Rattle.pldm_pdr.specs.declared.effecter_range.EffecterRange.{EffecterRange}
use Rattle.pldm_pdr.specs.declared.numeric_effecter.NumericEffecter.{NumericEffecter}
use Rattle.pldm_pdr.specs.Fields.{all_fit, byte, flag, sized_bytes}
use Rattle.pldm_pdr.specs.Entities.{entity_bytes}
use Rattle.pldm_pdr.specs.Measures.{units_bytes, conversion_bytes}
use Rattle.pldm_pdr.specs.RangeFormats.{bits_size, format_code}
use Rattle.pldm_pdr.specs.NumericEffecters.{effecter_range_bytes, range_fields, range_fits, effecter_range_at, numeric_effecter_bytes, settings, IsNumericEffecter, numeric_effecter_at}
use Rattle.pldm_pdr.proofs.Steps.{IsBytes, stepped, goes_on, ok_is, Takes, with_next}
use Rattle.pldm_pdr.proofs.FittingTests.{all_fits, each_fits, split_and, join_and}
use Rattle.pldm_pdr.proofs.FieldsTaken.{byte_taken, flag_taken, number_taken, sized_taken, format_taken}
use Rattle.pldm_pdr.proofs.FieldsAgain.{byte_again, flag_again, number_again, sized_again, format_again}
use Rattle.pldm_pdr.proofs.Measures.{entity_taken, entity_again, units_taken, units_again, conversion_taken, conversion_again}
use Rattle.pldm_pdr.proofs.Regrouped.{regroup_7, regroup_14}

abbrev pub IsEffecterRange : EffecterRange → Type 0
IsEffecterRange range = IsU8 range.support × IsTrue (range_fits range)

pub effecter_range_taken : (bytes : List ℕ) → IsBytes bytes → (x : EffecterRange × List ℕ) → effecter_range_at bytes ≡ Ok x → Takes bytes (effecter_range_bytes x.0) x.1 × IsEffecterRange x.0
unfolding effecter_range_at
effecter_range_taken bytes small x e =
    stepped e (format_taken bytes small) (λ f1 t1 e1.
    stepped e1 (byte_taken f1.1 t1.small) (λ f2 t2 e2.
    stepped e2 (sized_taken (bits_size f1.0) f2.1 t2.0.small) (λ f3 t3 e3.
    stepped e3 (sized_taken (bits_size f1.0) f3.1 t3.0.small) (λ f4 t4 e4.
    stepped e4 (sized_taken (bits_size f1.0) f4.1 t4.0.small) (λ f5 t5 e5.
    stepped e5 (sized_taken (bits_size f1.0) f5.1 t5.0.small) (λ f6 t6 e6.
    stepped e6 (sized_taken (bits_size f1.0) f6.1 t6.0.small) (λ f7 t7 e7.
    subst (λ (y : EffecterRange × List ℕ). Takes bytes (effecter_range_bytes y.0) y.1 × IsEffecterRange y.0) (ok_is e7) (with_next (with_next (with_next (with_next (with_next (with_next t1 t2.0) t3.0) t4.0) t5.0) t6.0) t7.0, (t2.1, all_fits (bits_size f1.0) (f3.0 ∷ f4.0 ∷ f5.0 ∷ f6.0 ∷ f7.0 ∷ []) (t3.1, (t4.1, (t5.1, (t6.1, (t7.1, tt))))))))))))))

pub effecter_range_again : (range : EffecterRange) (rest : List ℕ) → IsEffecterRange range → effecter_range_at (effecter_range_bytes range ++ rest) ≡ Ok (range, rest)
unfolding effecter_range_at
effecter_range_again range rest ok =
    let fits = each_fits (bits_size range.format) (range_fields range) ok.1 in
    ap effecter_range_at (regroup_7 (byte (format_code range.format)) (byte range.support) (sized_bytes (bits_size range.format) range.nominal) (sized_bytes (bits_size range.format) range.normal_max) (sized_bytes (bits_size range.format) range.normal_min) (sized_bytes (bits_size range.format) range.rated_max) (sized_bytes (bits_size range.format) range.rated_min) rest)
    ∙ goes_on _ (format_again range.format _) (goes_on _ (byte_again range.support _) (goes_on _ (sized_again (bits_size range.format) range.nominal _ fits.0) (goes_on _ (sized_again (bits_size range.format) range.normal_max _ fits.1.0) (goes_on _ (sized_again (bits_size range.format) range.normal_min _ fits.1.1.0) (goes_on _ (sized_again (bits_size range.format) range.rated_max _ fits.1.1.1.0) (goes_on _ (sized_again (bits_size range.format) range.rated_min _ fits.1.1.1.1.0) refl))))))

pub numeric_effecter_taken : (bytes : List ℕ) → IsBytes bytes → (x : NumericEffecter × List ℕ) → numeric_effecter_at bytes ≡ Ok x → Takes bytes (numeric_effecter_bytes x.0) x.1 × IsNumericEffecter x.0
unfolding numeric_effecter_at
numeric_effecter_taken bytes small x e =
    stepped e (number_taken 2 bytes small) (λ f1 t1 e1.
    stepped e1 (number_taken 2 f1.1 t1.0.small) (λ f2 t2 e2.
    stepped e2 (entity_taken f2.1 t2.0.small) (λ f3 t3 e3.
    stepped e3 (number_taken 2 f3.1 t3.0.small) (λ f4 t4 e4.
    stepped e4 (byte_taken f4.1 t4.0.small) (λ f5 t5 e5.
    stepped e5 (flag_taken f5.1 t5.0.small) (λ f6 t6 e6.
    stepped e6 (units_taken f6.1 t6.small) (λ f7 t7 e7.
    stepped e7 (byte_taken f7.1 t7.0.small) (λ f8 t8 e8.
    stepped e8 (conversion_taken f8.1 t8.0.small) (λ f9 t9 e9.
    stepped e9 (number_taken 4 f9.1 t9.0.small) (λ f10 t10 e10.
    stepped e10 (number_taken 4 f10.1 t10.0.small) (λ f11 t11 e11.
    stepped e11 (sized_taken (f9.0.size) f11.1 t11.0.small) (λ f12 t12 e12.
    stepped e12 (sized_taken (f9.0.size) f12.1 t12.0.small) (λ f13 t13 e13.
    stepped e13 (effecter_range_taken f13.1 t13.0.small) (λ f14 t14 e14.
    subst (λ (y : NumericEffecter × List ℕ). Takes bytes (numeric_effecter_bytes y.0) y.1 × IsNumericEffecter y.0) (ok_is e14) (with_next (with_next (with_next (with_next (with_next (with_next (with_next (with_next (with_next (with_next (with_next (with_next (with_next t1.0 t2.0) t3.0) t4.0) t5.0) t6) t7.0) t8.0) t9.0) t10.0) t11.0) t12.0) t13.0) t14.0, (t1.1, t2.1, t3.1, t4.1, t5.1, t7.1, t8.1, t9.1, t10.1, t11.1, t14.1.0, join_and _ _ (all_fits f9.0.size (f12.0 ∷ f13.0 ∷ []) (t12.1, (t13.1, tt))) t14.1.1))))))))))))))))

pub numeric_effecter_again : (effecter : NumericEffecter) (rest : List ℕ) → IsNumericEffecter effecter → numeric_effecter_at (numeric_effecter_bytes effecter ++ rest) ≡ Ok (effecter, rest)
unfolding numeric_effecter_at
numeric_effecter_again effecter rest ok =
    let both = split_and (all_fit effecter.conversion.size (settings effecter)) (range_fits effecter.range) ok.11 in
    let fits = each_fits effecter.conversion.size (settings effecter) both.0 in
    ap numeric_effecter_at (regroup_14 (little_bytes 2 effecter.terminus_handle) (little_bytes 2 effecter.effecter_id) (entity_bytes effecter.entity) (little_bytes 2 effecter.semantic_id) (byte effecter.init) (flag effecter.has_auxiliary_names) (units_bytes effecter.units) (byte effecter.auxiliary_oem_unit_handle) (conversion_bytes effecter.conversion) (little_bytes 4 effecter.state_transition_interval) (little_bytes 4 effecter.transition_interval) (sized_bytes (effecter.conversion.size) effecter.max_settable) (sized_bytes (effecter.conversion.size) effecter.min_settable) (effecter_range_bytes effecter.range) rest)
    ∙ goes_on _ (number_again 2 effecter.terminus_handle _ ok.0) (goes_on _ (number_again 2 effecter.effecter_id _ ok.1) (goes_on _ (entity_again effecter.entity _ ok.2) (goes_on _ (number_again 2 effecter.semantic_id _ ok.3) (goes_on _ (byte_again effecter.init _) (goes_on _ (flag_again effecter.has_auxiliary_names _) (goes_on _ (units_again effecter.units _ ok.5) (goes_on _ (byte_again effecter.auxiliary_oem_unit_handle _) (goes_on _ (conversion_again effecter.conversion _ ok.7) (goes_on _ (number_again 4 effecter.state_transition_interval _ ok.8) (goes_on _ (number_again 4 effecter.transition_interval _ ok.9) (goes_on _ (sized_again (effecter.conversion.size) effecter.max_settable _ fits.0) (goes_on _ (sized_again (effecter.conversion.size) effecter.min_settable _ fits.1.0) (goes_on _ (effecter_range_again effecter.range _ (ok.10, both.1)) refl)))))))))))))
