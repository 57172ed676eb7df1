-- What is open on a key is what stands under its number.
use Rattle.std.specs.FinMap as map
use Rattle.std.proofs.Common.{◌≡◌, ℕ, ◌+◌, ◌*◌, ◌/◌, ◌%◌, ◌<◌, Bool, true, false, cond, ◌==◌, length, Some, None, arith, eqb-true, refl}
use Rattle.std.proofs.lemmas.Bool.{eqb-false}
use Rattle.mctp_packet.specs.Bits.{bit}
use Rattle.mctp_assembly.specs.Keys.{IsKey, key_cmp}
use Rattle.mctp_assembly.specs.NumberLists.{Changes, Differ, at}
use Rattle.mctp_assembly.specs.Numbered.{Numbered, KEYS, held_in, key_at, none_open, number_of}
use Rattle.mctp_assembly.specs.Opened.{Opened}
use Rattle.mctp_assembly.specs.declared.key.Key.{Key}
use Rattle.mctp_assembly.proofs.KeyOrder.{keys_total, keys_exact}
use Rattle.mctp_assembly.proofs.NumberedMaps as maps

-- ---- numbers and keys
odd : (n : ℕ) (b : Bool) → (n % 2 == 1) ≡ b → bit b ≡ n % 2
odd n true h = omega (arith, eqb-true (n % 2) 1 h)
odd n false h = omega (arith, eqb-false (n % 2) 1 h)

pub number_of_key : (n : ℕ) → number_of (key_at n) ≡ n
number_of_key n = omega (arith, odd n (n % 2 == 1) refl)

owner_of : (source tag : ℕ) (owner : Bool) → ((KEYS * source + 2 * tag + bit owner) % 2 == 1) ≡ owner
owner_of source tag true = grind arith
owner_of source tag false = grind arith

tag_of : (source tag : ℕ) (owner : Bool) → tag < 8 → (KEYS * source + 2 * tag + bit owner) % KEYS / 2 ≡ tag
tag_of source tag true h = omega arith
tag_of source tag false h = omega arith

source_of : (source tag : ℕ) (owner : Bool) → tag < 8 → (KEYS * source + 2 * tag + bit owner) / KEYS ≡ source
source_of source tag true h = omega arith
source_of source tag false h = omega arith

pub key_of_number : (k : Key) → IsKey k → key_at (number_of k) ≡ k
key_of_number k h =
    λ i. record { source = source_of k.source k.tag k.owner h.1 i; tag = tag_of k.source k.tag k.owner h.1 i; owner = owner_of k.source k.tag k.owner i }

-- ---- what is open on a key stands under its number
pub is_key : Key → Bool
is_key = maps.is_key key_cmp keys_total keys_exact none_open key_at number_of number_of_key

pub got : (l : Numbered) (q : Key) → map.get (held_in l) q ≡ cond (is_key q) (at l (number_of q)) None
unfolding is_key
got = maps.got key_cmp keys_total keys_exact none_open key_at number_of number_of_key

pub get_held : (l : Numbered) (k : Key) → IsKey k → map.get (held_in l) k ≡ at l (number_of k)
get_held l k h = maps.get_in key_cmp keys_total keys_exact none_open key_at number_of number_of_key l k (key_of_number k h)

pub inserted_held : (l new : Numbered) (k : Key) (v : Opened) → IsKey k → Changes l new (number_of k) (Some v) → held_in new ≡ map.insert (held_in l) k v
inserted_held l new k v h = maps.inserted_in key_cmp keys_total keys_exact none_open key_at number_of number_of_key l new k v (key_of_number k h)

pub removed_held : (l new : Numbered) (k : Key) → IsKey k → Changes l new (number_of k) None → held_in new ≡ map.remove (held_in l) k
removed_held l new k h = maps.removed_in key_cmp keys_total keys_exact none_open key_at number_of number_of_key l new k (key_of_number k h)

pub unchanged_held : (l new : Numbered) (n : ℕ) → Changes l new n (at l n) → held_in new ≡ held_in l
unchanged_held = maps.unchanged_in key_cmp keys_total keys_exact none_open key_at number_of number_of_key

pub len_held : (l : Numbered) → Differ none_open l → map.len (held_in l) ≡ length l
len_held = maps.len_differing key_cmp keys_total keys_exact none_open key_at number_of number_of_key
