-- The parts of a package's header: what is read was taken from the front, and what is written is read again.
use Rattle.std.proofs.Common.{◌≡◌, ℕ, ◌+◌, ◌^◌, ◌<◌, ◌≤◌, not, List, ◌++◌, length, refl, sym, ap, subst, ◌∙◌, append_assoc, arith, eqb-true}
use Rattle.std.proofs.lemmas.Bool.{eq-eqb, eqb-false, ne_eqb}
use Rattle.std.proofs.lemmas.List.{length-append}
use Rattle.std.specs.List.{flat_map}
use Rattle.byteorder.specs.Endian.{little_bytes}
use Rattle.byteorder.specs.Numbers.{length-bytes_low_first}
use Rattle.pldm_update.specs.VersionTexts.{VersionText, IsVersionText, version_text}
use Rattle.pldm_update.specs.PackageFields.{byte}
use Rattle.pldm_update.specs.Packages.{Descriptor, Device, Image, text_bytes, descriptor_bytes, device_fields_bytes, device_bytes, image_bytes, IsDescriptor, IsDevice, IsImage}
use Rattle.pldm_update.specs.PackageReading.{text_at, descriptor_at, device_at, image_at}
use Rattle.pldm_update.proofs.PackageSteps.{IsTaken, IsAgain, stepped, goes_on, went_by, goes_by, not_false, ok_is, Takes, with_next, byte_taken, byte_again, number_taken, number_again, list_taken, list_again, many_taken, many_again}

regroup_3 : (a b c rest : List ℕ) → (a ++ b ++ c) ++ rest ≡ a ++ (b ++ (c ++ rest))
regroup_3 a b c rest = simp append_assoc

regroup_8 : (a b c d e f g h rest : List ℕ) → (a ++ b ++ c ++ d ++ e ++ f ++ g ++ h) ++ rest ≡ a ++ (b ++ (c ++ (d ++ (e ++ (f ++ (g ++ (h ++ rest)))))))
regroup_8 a b c d e f g h rest = simp append_assoc

regroup_9 : (a b c d e f g h i rest : List ℕ) → (a ++ b ++ c ++ d ++ e ++ f ++ g ++ h ++ i) ++ rest ≡ a ++ (b ++ (c ++ (d ++ (e ++ (f ++ (g ++ (h ++ (i ++ rest))))))))
regroup_9 a b c d e f g h i rest = simp append_assoc

pub text_taken : IsTaken text_at text_bytes IsVersionText
unfolding text_at
text_taken bytes small x e =
    stepped e (byte_taken bytes small) (λ f1 t1 e1.
    stepped e1 (byte_taken f1.1 t1.0.small) (λ f2 t2 e2.
    stepped e2 (list_taken f2.0 f2.1 t2.0.small) (λ f3 t3 e3.
    let counted : Takes f1.1 (byte (length f3.0)) f2.1 = subst (λ (n : ℕ). Takes f1.1 (byte n) f2.1) (sym t3.1) t2.0 in
    let range : length f3.0 ≤ 255 = omega (arith, t2.1, t3.1) in
    subst (λ (y : VersionText × List ℕ). Takes bytes (text_bytes y.0) y.1 × IsVersionText y.0) (ok_is e3) (with_next (with_next t1.0 counted) t3.0, range))))

pub text_again : IsAgain text_at text_bytes IsVersionText
unfolding text_at
text_again version rest ok =
    ap text_at (regroup_3 (byte version.string_type) (byte (length version.text)) version.text rest)
    ∙ goes_on _ (byte_again version.string_type _) (goes_on _ (byte_again (length version.text) _) (goes_on _ (list_again (length version.text) version.text _ refl) refl))

pub descriptor_taken : IsTaken descriptor_at descriptor_bytes IsDescriptor
unfolding descriptor_at
descriptor_taken bytes small x e =
    stepped e (number_taken 2 bytes small) (λ f1 t1 e1.
    stepped e1 (number_taken 2 f1.1 t1.0.small) (λ f2 t2 e2.
    stepped e2 (list_taken f2.0 f2.1 t2.0.small) (λ f3 t3 e3.
    let counted : Takes f1.1 (little_bytes 2 (length f3.0)) f2.1 = subst (λ (n : ℕ). Takes f1.1 (little_bytes 2 n) f2.1) (sym t3.1) t2.0 in
    let range : length f3.0 < 256 ^ 2 = subst (λ (n : ℕ). n < 256 ^ 2) (sym t3.1) t2.1 in
    subst (λ (y : Descriptor × List ℕ). Takes bytes (descriptor_bytes y.0) y.1 × IsDescriptor y.0) (ok_is e3) (with_next (with_next t1.0 counted) t3.0, (t1.1, range)))))

pub descriptor_again : IsAgain descriptor_at descriptor_bytes IsDescriptor
unfolding descriptor_at
descriptor_again d rest ok =
    ap descriptor_at (regroup_3 (little_bytes 2 d.kind) (little_bytes 2 (length d.content)) d.content rest)
    ∙ goes_on _ (number_again 2 d.kind _ ok.0) (goes_on _ (number_again 2 (length d.content) _ ok.1) (goes_on _ (list_again (length d.content) d.content _ refl) refl))

-- a record's length is that of its bytes
size_counted : (size : ℕ) (bytes after fields rest : List ℕ) → bytes ≡ little_bytes 2 size ++ after → after ≡ fields ++ rest → length rest + size ≡ length bytes → size ≡ 2 + length fields
size_counted size bytes after fields rest first next same =
    omega (arith, same, ap length first, length-append (little_bytes 2 size) after, ap length next, length-append fields rest, length-bytes_low_first 0 2 size)

pub device_taken : (applicable_bytes : ℕ) → IsTaken (device_at applicable_bytes) device_bytes (IsDevice applicable_bytes)
unfolding device_at
device_taken applicable_bytes bytes small x e =
    stepped e (number_taken 2 bytes small) (λ f1 t1 e1.
    stepped e1 (byte_taken f1.1 t1.0.small) (λ f2 t2 e2.
    stepped e2 (number_taken 4 f2.1 t2.0.small) (λ f3 t3 e3.
    stepped e3 (byte_taken f3.1 t3.0.small) (λ f4 t4 e4.
    stepped e4 (byte_taken f4.1 t4.0.small) (λ f5 t5 e5.
    stepped e5 (number_taken 2 f5.1 t5.0.small) (λ f6 t6 e6.
    went_by _ e6 (λ some e7.
    stepped e7 (list_taken applicable_bytes f6.1 t6.0.small) (λ f7 t7 e8.
    stepped e8 (list_taken f5.0 f7.1 t7.0.small) (λ f8 t8 e9.
    stepped e9 (many_taken descriptor_at descriptor_bytes IsDescriptor descriptor_taken f2.0 f8.1 t8.0.small) (λ f9 t9 e10.
    stepped e10 (list_taken f6.0 f9.1 t9.0.small) (λ f10 t10 e11.
    went_by _ e11 (λ same e12.
    let count : Takes f1.1 (byte (length f9.0)) f2.1 = subst (λ (n : ℕ). Takes f1.1 (byte n) f2.1) (sym t9.1.counted) t2.0 in
    let text : Takes f4.1 (byte (length f8.0)) f5.1 = subst (λ (n : ℕ). Takes f4.1 (byte n) f5.1) (sym t8.1) t5.0 in
    let left : Takes f5.1 (little_bytes 2 (length f10.0)) f6.1 = subst (λ (n : ℕ). Takes f5.1 (little_bytes 2 n) f6.1) (sym t10.1) t6.0 in
    let fields = with_next (with_next (with_next (with_next (with_next (with_next (with_next (with_next count t3.0) t4.0) text) left) t7.0) t8.0) t9.0) t10.0 in
    let d : Device = record { option_flags = f3.0; version = version_text f4.0 f8.0; applicable = f7.0; descriptors = f9.0; package_data = f10.0 } in
    let size : f1.0 ≡ 2 + length (device_fields_bytes d) = size_counted f1.0 bytes f1.1 (device_fields_bytes d) f10.1 t1.0.parts fields.parts (eqb-true _ _ (not_false _ same)) in
    let first : Takes bytes (little_bytes 2 (2 + length (device_fields_bytes d))) f1.1 = subst (λ (n : ℕ). Takes bytes (little_bytes 2 n) f1.1) size t1.0 in
    subst (λ (y : Device × List ℕ). Takes bytes (device_bytes y.0) y.1 × IsDevice applicable_bytes y.0) (ok_is e12) (
      with_next first fields,
      (
        t3.1,
        omega (arith, t5.1, t8.1),
        subst (λ (n : ℕ). n < 256 ^ 2) (sym t10.1) t6.1,
        t7.1,
        omega (arith, eqb-false _ _ some, t9.1.counted),
        omega (arith, t2.1, t9.1.counted),
        t9.1.each,
        subst (λ (n : ℕ). n < 256 ^ 2) size t1.1,
      ),
    )))))))))))))

pub device_again : (applicable_bytes : ℕ) → IsAgain (device_at applicable_bytes) device_bytes (IsDevice applicable_bytes)
unfolding device_at
device_again applicable_bytes d rest ok =
    let fields = device_fields_bytes d in
    let grouped = append_assoc (little_bytes 2 (2 + length fields)) fields rest
    ∙ ap (λ (l : List ℕ). little_bytes 2 (2 + length fields) ++ l)
    (regroup_9 (byte (length d.descriptors)) (little_bytes 4 d.option_flags) (byte d.version.string_type) (byte (length d.version.text)) (little_bytes 2 (length d.package_data)) d.applicable d.version.text (flat_map descriptor_bytes d.descriptors) d.package_data rest) in
    let whole : length rest + (2 + length fields) ≡ length (device_bytes d ++ rest) =
    omega (arith, length-append (device_bytes d) rest, length-append (little_bytes 2 (2 + length fields)) fields, length-bytes_low_first 0 2 (2 + length fields)) in
    ap (device_at applicable_bytes) grouped
    ∙ goes_on _ (number_again 2 (2 + length fields) _ ok.7)
    (goes_on _ (byte_again (length d.descriptors) _)
    (goes_on _ (number_again 4 d.option_flags _ ok.0)
    (goes_on _ (byte_again d.version.string_type _)
    (goes_on _ (byte_again (length d.version.text) _)
    (goes_on _ (number_again 2 (length d.package_data) _ ok.2)
    (goes_by _ (ne_eqb (length d.descriptors) 0 (omega (arith, ok.4)))
    (goes_on _ (list_again applicable_bytes d.applicable _ ok.3)
    (goes_on _ (list_again (length d.version.text) d.version.text _ refl)
    (goes_on _ (many_again descriptor_at descriptor_bytes IsDescriptor descriptor_again d.descriptors _ ok.6)
    (goes_on _ (list_again (length d.package_data) d.package_data _ refl)
    (goes_by _ (ap not (eq-eqb _ _ (whole ∙ ap length grouped))) refl)))))))))))

pub image_taken : IsTaken image_at image_bytes IsImage
unfolding image_at
image_taken bytes small x e =
    stepped e (number_taken 2 bytes small) (λ f1 t1 e1.
    stepped e1 (number_taken 2 f1.1 t1.0.small) (λ f2 t2 e2.
    stepped e2 (number_taken 4 f2.1 t2.0.small) (λ f3 t3 e3.
    stepped e3 (number_taken 2 f3.1 t3.0.small) (λ f4 t4 e4.
    stepped e4 (number_taken 2 f4.1 t4.0.small) (λ f5 t5 e5.
    stepped e5 (number_taken 4 f5.1 t5.0.small) (λ f6 t6 e6.
    stepped e6 (number_taken 4 f6.1 t6.0.small) (λ f7 t7 e7.
    stepped e7 (text_taken f7.1 t7.0.small) (λ f8 t8 e8.
    subst (λ (y : Image × List ℕ). Takes bytes (image_bytes y.0) y.1 × IsImage y.0) (ok_is e8) (
      with_next (with_next (with_next (with_next (with_next (with_next (with_next t1.0 t2.0) t3.0) t4.0) t5.0) t6.0) t7.0) t8.0,
      (t1.1, t2.1, t3.1, t4.1, t5.1, t6.1, t7.1, t8.1),
    )))))))))

pub image_again : IsAgain image_at image_bytes IsImage
unfolding image_at
image_again i rest ok =
    ap image_at (regroup_8 (little_bytes 2 i.classification) (little_bytes 2 i.identifier) (little_bytes 4 i.comparison_stamp) (little_bytes 2 i.options) (little_bytes 2 i.activation_methods) (little_bytes 4 i.offset) (little_bytes 4 i.size) (text_bytes i.version) rest)
    ∙ goes_on _ (number_again 2 i.classification _ ok.0)
    (goes_on _ (number_again 2 i.identifier _ ok.1)
    (goes_on _ (number_again 4 i.comparison_stamp _ ok.2)
    (goes_on _ (number_again 2 i.options _ ok.3)
    (goes_on _ (number_again 2 i.activation_methods _ ok.4)
    (goes_on _ (number_again 4 i.offset _ ok.5)
    (goes_on _ (number_again 4 i.size _ ok.6)
    (goes_on _ (text_again i.version _ ok.7) refl)))))))
