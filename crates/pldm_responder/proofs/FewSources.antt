-- The endpoints other than the own are numbered from 0 without a gap, so that numbered pairs are few.
use Rattle.std.proofs.Common.{◌≡◌, ◌≢◌, ℕ, ◌+◌, ◌-◌, ◌<◌, ◌≤◌, Bool, true, false, cond, nat_lt, ◌⊎◌, inl, inr, refl, arith}
use borrow.Author.Tests.{ltb-true, ltb-false}
use Rattle.mctp_packet.specs.Ids.{IsEid}
use Rattle.mctp_packet.specs.declared.TheConstants.{MIN_EID, MAX_EID}

-- an endpoint's number among those other than the own
abbrev pub place : ℕ → ℕ → ℕ
place own n = cond (nat_lt n own) (n - MIN_EID) (n - (MIN_EID + 1))

by_test : (t : Bool) (own n : ℕ) → nat_lt n own ≡ t → ((n < own) × (cond t (n - MIN_EID) (n - (MIN_EID + 1)) ≡ n - MIN_EID)) ⊎ ((own ≤ n) × (cond t (n - MIN_EID) (n - (MIN_EID + 1)) ≡ n - (MIN_EID + 1)))
by_test true own n h = inl (ltb-true n own h, refl)
by_test false own n h = inr (ltb-false n own h, refl)

either : (own n : ℕ) → ((n < own) × (place own n ≡ n - MIN_EID)) ⊎ ((own ≤ n) × (place own n ≡ n - (MIN_EID + 1)))
either own n = by_test (nat_lt n own) own n refl

pub place_low : (own n : ℕ) → IsEid own → IsEid n → n ≢ own → place own n < MAX_EID - MIN_EID
place_low own n home there other = elim (either own n) [ inl below ↦ omega arith | inr above ↦ omega arith ]

pub same_place : (own a b : ℕ) → IsEid own → IsEid a → a ≢ own → IsEid b → b ≢ own → place own a ≡ place own b → a ≡ b
same_place own a b home one other two another h =
    elim (either own a) [
      | inl below ↦ elim (either own b) [ inl under ↦ omega arith | inr over ↦ omega arith ]
      | inr above ↦ elim (either own b) [ inl under ↦ omega arith | inr over ↦ omega arith ]
    ]
