-- What is open stays within a bound, and only a start packet opens more.
use Rattle.std.specs.FinMap as finite
use Rattle.std.proofs.Common.{◌≡◌, ℕ, ◌+◌, ◌-◌, ◌<◌, ◌≤◌, Bool, true, false, cond, refl, arith}
use Rattle.mctp_packet.specs.Packets.{Packet}
use Rattle.mctp_assembly.specs.Keys.{key_of}
use Rattle.mctp_assembly.specs.Opened.{Opened}
use Rattle.mctp_assembly.specs.Steps.{OpenMessages, answer, stays_open, carried_on, unless_whole, after_without_ending}
use Rattle.mctp_assembly.specs.declared.fed.Fed.{Fed}
use Rattle.mctp_assembly.specs.declared.fed.Fed.TheVariants.{Whole, Partial, Dropped}
use Rattle.mctp_assembly.specs.declared.key.Key.{Key}
use Rattle.mctp_assembly.proofs.KeyOrder.{keys_total}

-- ---- a change keeps it within a bound
removed_by : (t : Bool) (n bound : ℕ) → n ≤ bound → cond t (n - 1) n ≤ bound
removed_by true n bound within = omega arith
removed_by false n bound within = within

pub len_without : (held : OpenMessages) (k : Key) (bound : ℕ) → finite.len held ≤ bound → finite.len (finite.remove held k) ≤ bound
len_without held k bound within =
    rw (finite.len-remove keys_total held k) (removed_by (finite.contains_key held k) (finite.len held) bound within)

inserted_by : (t : Bool) (n bound : ℕ) → n ≤ bound → (t ≡ false → n < bound) → cond t n (n + 1) ≤ bound
inserted_by true n bound within room = within
inserted_by false n bound within room = omega (arith, room refl)

after_by : (fed : Fed) (held : OpenMessages) (k : Key) (o : Opened) (bound : ℕ) → finite.len held ≤ bound → (fed ≡ Partial → finite.contains_key held k ≡ false → finite.len held < bound)
    → finite.len (unless_whole fed held (cond (stays_open fed) (finite.insert held k o) (finite.remove held k))) ≤ bound
after_by (Whole body) held k o bound within room = within
after_by Partial held k o bound within room =
    rw (finite.len-insert keys_total held k o) (inserted_by (finite.contains_key held k) (finite.len held) bound within (room refl))
after_by (Dropped reason) held k o bound within room = len_without held k bound within

-- a packet has room where its key is open, or one more may be
pub len_after_packet : (held : OpenMessages) (p : Packet) (bound : ℕ) → finite.len held ≤ bound
    → (answer held p ≡ Partial → finite.contains_key held (key_of p) ≡ false → finite.len held < bound) → finite.len (after_without_ending held p) ≤ bound
len_after_packet held p bound within room =
    after_by (answer held p) held (key_of p) (carried_on (finite.get held (key_of p)) p) bound within room
