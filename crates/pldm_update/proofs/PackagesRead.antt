-- What is read of a file is the package that the file has, and every package that it has is read.
use Rattle.std.proofs.Common.{◌≡◌, ℕ, zero, suc, ◌+◌, ◌-◌, ◌*◌, ◌/◌, ◌%◌, ◌^◌, ◌<◌, Bool, ◌&&◌, not, true, false, List, [], ◌∷◌, ◌++◌, length, take, Result, Ok, Err, IfOk, refl, sym, ap, subst, ◌∙◌, append_assoc, arith, eqb-true}
use Rattle.std.proofs.lemmas.Bool.{eq-eqb, leb-true, le-leb}
use Rattle.std.proofs.lemmas.List.{length-append, take_at}
use Rattle.std.proofs.lemmas.Nat.{xor_lt}
use Rattle.std.proofs.lemmas.Slice.Eq.{bytes_eq-Decides}
use Rattle.std.specs.Int.{reverse_bits_onto}
use Rattle.std.specs.List.{flat_map}
use Rattle.byteorder.specs.Endian.{little_bytes}
use Rattle.byteorder.specs.Numbers.{length-bytes_low_first}
use Rattle.pldm_wire.specs.Crc32.{crc32, divided_bits}
use Rattle.pldm_update.specs.VersionTexts.{IsVersionText}
use Rattle.pldm_update.specs.PackageFields.{byte, many_at}
use Rattle.pldm_update.specs.Packages.{Image, Package, package_identifier, text_bytes, device_bytes, image_bytes, package_fields_bytes, header_size, checked_bytes, Each, IsDevice, IsImage, IsPackage, IsPlaced, HasPackage}
use Rattle.pldm_update.specs.PackageReading.{size_at, device_at, image_at, package_fields_at, is_placed, all_placed, package_of}
use Rattle.pldm_update.specs.declared.package_fault.PackageFault.{PackageFault}
use Rattle.pldm_update.proofs.PackageSteps.{IsBytes, stepped, goes_on, went_by, goes_by, not_false, ok_is, Takes, with_next, byte_taken, byte_again, number_taken, number_again, list_taken, list_again, many_taken, many_again}
use Rattle.pldm_update.proofs.PackageParts.{text_taken, text_again, device_taken, device_again, image_taken, image_again}

regroup_3 : (a b c rest : List ℕ) → (a ++ b ++ c) ++ rest ≡ a ++ (b ++ (c ++ rest))
regroup_3 a b c rest = simp append_assoc

regroup_7 : (a b c d e f g rest : List ℕ) → (a ++ b ++ c ++ d ++ e ++ f ++ g) ++ rest ≡ a ++ (b ++ (c ++ (d ++ (e ++ (f ++ (g ++ rest))))))
regroup_7 a b c d e f g rest = simp append_assoc

-- a checksum has 32 bits

reversed_below : (k n a j : ℕ) → a < 2 ^ j → reverse_bits_onto k n a < 2 ^ (j + k)
unfolding reverse_bits_onto
reversed_below zero n a j h =
    let same : j + 0 ≡ j = omega arith in
    rw same h
reversed_below (suc k) n a j h =
    let next : j + suc k ≡ suc j + k = omega arith in
    let twice : a * 2 + n % 2 < 2 ^ suc j = omega (arith, h) in
    rw next (reversed_below k (n / 2) (a * 2 + n % 2) (suc j) twice)

checksum_below : (bytes : List ℕ) → crc32 bytes < 256 ^ 4
checksum_below bytes =
    let one : 0 < 2 ^ 0 = omega arith in
    let other : 2 ^ 32 - 1 < 2 ^ 32 = omega arith in
    xor_lt 32 _ _ (reversed_below 32 (divided_bits bytes) 0 0 one) other

-- the identifier, the revision, and the header's size

front : ℕ → List ℕ
front size = package_identifier ++ byte 1 ++ little_bytes 2 size

size_taken : (bytes : List ℕ) → IsBytes bytes → (x : ℕ × List ℕ) → size_at bytes ≡ Ok x → Takes bytes (front x.0) x.1 × (x.0 < 256 ^ 2)
unfolding size_at front
size_taken bytes small x e =
    stepped e (list_taken 16 bytes small) (λ f1 t1 e1.
    went_by _ e1 (λ is e2.
    stepped e2 (byte_taken f1.1 t1.0.small) (λ f2 t2 e3.
    went_by _ e3 (λ one e4.
    let t3 = number_taken 2 f2.1 t2.0.small x e4 in
    let first : Takes bytes package_identifier f1.1 = subst (λ (l : List ℕ). Takes bytes l f1.1) ((bytes_eq-Decides f1.0 package_identifier).0 (not_false _ is)) t1.0 in
    let second : Takes f1.1 (byte 1) f2.1 = subst (λ (n : ℕ). Takes f1.1 (byte n) f2.1) (eqb-true _ _ (not_false _ one)) t2.0 in
    (with_next (with_next first second) t3.0, t3.1)))))

size_again : (size : ℕ) (rest : List ℕ) → size < 256 ^ 2 → size_at (front size ++ rest) ≡ Ok (size, rest)
unfolding size_at front
size_again size rest below =
    ap size_at (regroup_3 package_identifier (byte 1) (little_bytes 2 size) rest)
    ∙ goes_on _ (list_again 16 package_identifier _ refl) (goes_by _ refl (goes_on _ (byte_again 1 _) (goes_by _ refl (number_again 2 size rest below))))

-- the fields between the header's size and its checksum

record AreFields (file : List ℕ) (p : Package) : Type 0 where
  pub is : p.file ≡ file
  pub release : length p.release ≡ 13
  pub bits : p.applicable_bytes * 8 < 256 ^ 2
  pub version : IsVersionText p.version
  pub device_count : length p.devices < 256
  pub devices : Each (IsDevice p.applicable_bytes) p.devices
  pub image_count : length p.images < 256 ^ 2
  pub images : Each IsImage p.images

fields_taken : (file bytes : List ℕ) → IsBytes bytes → (x : Package × List ℕ) → package_fields_at file bytes ≡ Ok x → Takes bytes (package_fields_bytes x.0) x.1 × AreFields file x.0
unfolding package_fields_at
fields_taken file bytes small x e =
    stepped e (list_taken 13 bytes small) (λ f1 t1 e1.
    stepped e1 (number_taken 2 f1.1 t1.0.small) (λ f2 t2 e2.
    went_by _ e2 (λ whole e3.
    stepped e3 (text_taken f2.1 t2.0.small) (λ f3 t3 e4.
    stepped e4 (byte_taken f3.1 t3.0.small) (λ f4 t4 e5.
    stepped e5 (many_taken (device_at (f2.0 / 8)) device_bytes (IsDevice (f2.0 / 8)) (device_taken (f2.0 / 8)) f4.0 f4.1 t4.0.small) (λ f5 t5 e6.
    stepped e6 (number_taken 2 f5.1 t5.0.small) (λ f6 t6 e7.
    stepped e7 (many_taken image_at image_bytes IsImage image_taken f6.0 f6.1 t6.0.small) (λ f7 t7 e8.
    let eight : f2.0 ≡ f2.0 / 8 * 8 = omega (arith, eqb-true _ _ (not_false _ whole)) in
    let bits : Takes f1.1 (little_bytes 2 (f2.0 / 8 * 8)) f2.1 = subst (λ (n : ℕ). Takes f1.1 (little_bytes 2 n) f2.1) eight t2.0 in
    let devices : Takes f3.1 (byte (length f5.0)) f4.1 = subst (λ (n : ℕ). Takes f3.1 (byte n) f4.1) (sym t5.1.counted) t4.0 in
    let images : Takes f5.1 (little_bytes 2 (length f7.0)) f6.1 = subst (λ (n : ℕ). Takes f5.1 (little_bytes 2 n) f6.1) (sym t7.1.counted) t6.0 in
    subst (λ (y : Package × List ℕ). Takes bytes (package_fields_bytes y.0) y.1 × AreFields file y.0) (ok_is e8) (
      with_next (with_next (with_next (with_next (with_next (with_next t1.0 bits) t3.0) devices) t5.0) images) t7.0,
      record {
        is = refl;
        release = t1.1;
        bits = subst (λ (n : ℕ). n < 256 ^ 2) eight t2.1;
        version = t3.1;
        device_count = subst (λ (n : ℕ). n < 256) (sym t5.1.counted) t4.1;
        devices = t5.1.each;
        image_count = subst (λ (n : ℕ). n < 256 ^ 2) (sym t7.1.counted) t6.1;
        images = t7.1.each;
      },
    )))))))))

fields_again : (p : Package) (rest : List ℕ) → IsPackage p → package_fields_at p.file (package_fields_bytes p ++ rest) ≡ Ok (p, rest)
unfolding package_fields_at
fields_again p rest ok =
    let bits = p.applicable_bytes * 8 in
    let eighth : bits / 8 ≡ p.applicable_bytes = omega arith in
    let whole : bits % 8 ≡ 0 = omega arith in
    let devices : (more : List ℕ) → many_at (device_at (bits / 8)) (length p.devices) (flat_map device_bytes p.devices ++ more) ≡ Ok (p.devices, more) =
    λ more. rw eighth (many_again (device_at p.applicable_bytes) device_bytes (IsDevice p.applicable_bytes) (device_again p.applicable_bytes) p.devices more ok.4) in
    ap (package_fields_at p.file) (regroup_7 p.release (little_bytes 2 bits) (text_bytes p.version) (byte (length p.devices)) (flat_map device_bytes p.devices) (little_bytes 2 (length p.images)) (flat_map image_bytes p.images) rest)
    ∙ goes_on _ (list_again 13 p.release _ ok.0)
    (goes_on _ (number_again 2 bits _ ok.1)
    (goes_by _ (ap not (eq-eqb _ _ whole))
    (goes_on _ (text_again p.version _ ok.2)
    (goes_on _ (byte_again (length p.devices) _)
    (goes_on _ (devices _)
    (goes_on _ (number_again 2 (length p.images) _ ok.5)
    (goes_on _ (many_again image_at image_bytes IsImage image_again p.images _ ok.6) (rw eighth refl))))))))

-- whether each image is placed

split_and : (a b : Bool) → (a && b) ≡ true → (a ≡ true) × (b ≡ true)
split_and true b h = (refl, h)
split_and false b h = absurd cc

join_and : (a b : Bool) → a ≡ true → b ≡ true → (a && b) ≡ true
join_and a b p q = rw (p, q) refl

each_placed : (header file : ℕ) (images : List Image) → all_placed header file images ≡ true → Each (IsPlaced header file) images
each_placed header file [] h = tt
each_placed header file (i ∷ images) h =
    let both = split_and (is_placed header file i) (all_placed header file images) h in
    let place = split_and _ _ both.0 in
    ((leb-true _ _ place.0, leb-true _ _ place.1), each_placed header file images both.1)

placed_each : (header file : ℕ) (images : List Image) → Each (IsPlaced header file) images → all_placed header file images ≡ true
placed_each header file [] h = refl
placed_each header file (i ∷ images) h =
    join_and _ _ (join_and _ _ (le-leb _ _ h.0.0) (le-leb _ _ h.0.1)) (placed_each header file images h.1)

-- how many bytes the header has before its checksum
checked_length : (p : Package) → length (checked_bytes p) ≡ header_size p - 4
checked_length p = omega (arith, length-append (package_identifier ++ byte 1 ++ little_bytes 2 (header_size p)) (package_fields_bytes p), length-append (package_identifier ++ byte 1) (little_bytes 2 (header_size p)), length-bytes_low_first 0 2 (header_size p))

front_length : (size : ℕ) → length (front size) ≡ 19
unfolding front
front_length size = omega (arith, length-append (package_identifier ++ byte 1) (little_bytes 2 size), length-bytes_low_first 0 2 size)

pub found : (file : List ℕ) (p : Package) → IsBytes file → package_of file ≡ Ok p → HasPackage file p
unfolding front
found file p small e =
    stepped e (size_taken file small) (λ f1 t1 e1.
    stepped e1 (fields_taken file f1.1 t1.0.small) (λ f2 t2 e2.
    stepped e2 (number_taken 4 f2.1 t2.0.small) (λ f3 t3 e3.
    went_by _ e3 (λ same e4.
    went_by _ e4 (λ sum e5.
    went_by _ e5 (λ placed e6.
    let fields = package_fields_bytes f2.0 in
    let all : length f3.1 + f1.0 ≡ length file = eqb-true _ _ (not_false _ same) in
    let size : f1.0 ≡ header_size f2.0 =
    omega (arith, all, ap length t1.0.parts, length-append (front f1.0) f1.1, front_length f1.0, ap length t2.0.parts, length-append fields f2.1, ap length t3.0.parts, length-append (little_bytes 4 f3.0) f3.1, length-bytes_low_first 0 4 f3.0) in
    let checked : Takes file (checked_bytes f2.0) f2.1 = subst (λ (n : ℕ). Takes file (front n ++ fields) f2.1) size (with_next t1.0 t2.0) in
    let long : length (checked_bytes f2.0) ≡ f1.0 - 4 = checked_length f2.0 ∙ ap (λ (n : ℕ). n - 4) (sym size) in
    let covered : take (f1.0 - 4) file ≡ checked_bytes f2.0 = ap (take (f1.0 - 4)) checked.parts ∙ take_at (checked_bytes f2.0) f2.1 (f1.0 - 4) long in
    let is_sum : f3.0 ≡ crc32 (checked_bytes f2.0) = eqb-true _ _ (not_false _ sum) ∙ ap crc32 covered in
    let summed : Takes f2.1 (little_bytes 4 (crc32 (checked_bytes f2.0))) f3.1 = subst (λ (n : ℕ). Takes f2.1 (little_bytes 4 n) f3.1) is_sum t3.0 in
    let r = t2.1 in
    subst (HasPackage file) (ok_is e6) (record {
      is = r.is;
      range = (r.release, r.bits, r.version, r.device_count, r.devices, r.image_count, r.images, subst (λ (n : ℕ). n < 256 ^ 2) size t1.1);
      after = f3.1;
      begins = (with_next checked summed).parts;
      placed = subst (λ (n : ℕ). Each (IsPlaced n (length file)) f2.0.images) size (each_placed f1.0 (length file) f2.0.images (not_false _ placed));
    })))))))

read_again : (p : Package) → HasPackage p.file p → package_of p.file ≡ Ok p
unfolding front
read_again p is =
    let size = header_size p in
    let fields = package_fields_bytes p in
    let sum = little_bytes 4 (crc32 (checked_bytes p)) in
    let first : p.file ≡ front size ++ (fields ++ (sum ++ is.after)) = is.begins ∙ append_assoc (checked_bytes p) sum is.after ∙ append_assoc (front size) fields (sum ++ is.after) in
    let all : length is.after + size ≡ length p.file =
    omega (arith, ap length first, length-append (front size) (fields ++ (sum ++ is.after)), front_length size, length-append fields (sum ++ is.after), length-append sum is.after, length-bytes_low_first 0 4 (crc32 (checked_bytes p))) in
    let covered : take (size - 4) p.file ≡ checked_bytes p =
    ap (take (size - 4)) (is.begins ∙ append_assoc (checked_bytes p) sum is.after) ∙ take_at (checked_bytes p) (sum ++ is.after) (size - 4) (checked_length p) in
    goes_on _ (ap size_at first ∙ size_again size _ is.range.7)
    (goes_on _ (fields_again p _ is.range)
    (goes_on _ (number_again 4 (crc32 (checked_bytes p)) is.after (checksum_below (checked_bytes p)))
    (goes_by _ (ap not (eq-eqb _ _ all))
    (goes_by _ (ap not (eq-eqb _ _ (ap crc32 (sym covered))))
    (goes_by _ (ap not (placed_each size (length p.file) p.images is.placed)) refl)))))

pub only : (file : List ℕ) (p : Package) → HasPackage file p → package_of file ≡ Ok p
only file p is =
    let own : HasPackage p.file p = subst (λ (f : List ℕ). HasPackage f p) (sym is.is) is in
    ap package_of (sym is.is) ∙ read_again p own

pub is_found : (file : List ℕ) (result : Result Package PackageFault) → IsBytes file → result ≡ package_of file → IfOk result (λ p. HasPackage file p)
is_found file (Ok p) small is = found file p small (sym is)
is_found file (Err fault) small is = tt

-- no file has two packages
pub one : (file : List ℕ) (p other : Package) → HasPackage file p → HasPackage file other → p ≡ other
one file p other is also = ok_is (sym (only file p is) ∙ only file other also)
