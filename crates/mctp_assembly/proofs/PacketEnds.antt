-- What a packet cannot give: an end packet leaves no message open, and no other completes one.
use Rattle.std.specs.FinMap as map
use Rattle.std.proofs.Common.{◌≡◌, ℕ, List, true, false, Some, None, Option, refl, sym, ap, ◌∙◌, arith}
use Rattle.std.proofs.lemmas.Grind.{common_steps}
use Rattle.mctp_packet.specs.Packets.{Packet}
use Rattle.mctp_packet.specs.declared.TheConstants.{MAX_PACKETS}
use Rattle.mctp_assembly.specs.Fed.{fed_with}
use Rattle.mctp_assembly.specs.Keys.{key_of}
use Rattle.mctp_assembly.specs.Opened.{Opened}
use Rattle.mctp_assembly.specs.Steps.{OpenMessages, answer, answer_alone, answer_to, after, after_without_ending, unless_whole}
use Rattle.mctp_assembly.specs.declared.fed.Fed.{Fed}
use Rattle.mctp_assembly.specs.declared.fed.Fed.TheVariants as feds
use Rattle.mctp_assembly.specs.declared.fed.Assembled.{Assembled}
use Rattle.mctp_assembly.specs.declared.fed.Assembled.TheVariants.{Whole, Partial, Dropped}

-- a packet that is not an end packet completes no message, so it gives the same with any bytes
none_whole : (o : Option Opened) (p : Packet) (bytes : List ℕ) → p.end ≡ false → feds.Whole (record { items = bytes }) ≡ answer_to MAX_PACKETS o p → ⊥
none_whole None p bytes unended whole = grind (arith, common_steps, unended, whole)
none_whole (Some o) p bytes unended whole = grind (arith, common_steps, unended, whole)

-- and an end packet leaves no message open
pub none_partial : (o : Option Opened) (p : Packet) → p.end ≡ true → feds.Partial ≡ answer_to MAX_PACKETS o p → ⊥
none_partial None p ended partial = grind (arith, common_steps, ended, partial)
none_partial (Some o) p ended partial = grind (arith, common_steps, ended, partial)

-- a packet that is no start packet begins no message
not_begun : (p : Packet) → p.start ≡ false → feds.Partial ≡ answer_alone p → ⊥
not_begun p start partial = grind (arith, common_steps, start, partial)

pub not_partial : (p : Packet) (given : Assembled) (body : List ℕ) → fed_with body given ≡ answer_alone p → p.start ≡ false → given ≡ Partial → ⊥
not_partial p given body fed start partial = not_begun p start (ap (fed_with body) (sym partial) ∙ fed)

pub with_any : (given : Assembled) (body bytes : List ℕ) (o : Option Opened) (p : Packet) → p.end ≡ false
    → fed_with body given ≡ answer_to MAX_PACKETS o p → fed_with bytes given ≡ answer_to MAX_PACKETS o p
with_any Whole body bytes o p unended fed = absurd (none_whole o p _ unended fed)
with_any Partial body bytes o p unended fed = fed
with_any (Dropped reason) body bytes o p unended fed = fed

-- so what is held after it is the same where a whole message is left to be ended
unless_none : (fed : Fed) (old new : OpenMessages) → ((bytes : List ℕ) → feds.Whole (record { items = bytes }) ≡ fed → ⊥) → unless_whole fed old new ≡ new
unless_none (feds.Whole message) old new none = absurd (none message.items refl)
unless_none feds.Partial old new none = refl
unless_none (feds.Dropped reason) old new none = refl

pub after_unended : (held : OpenMessages) (p : Packet) → p.end ≡ false → after_without_ending held p ≡ after held p
after_unended held p unended = unless_none (answer held p) held (after held p) (λ bytes. none_whole (map.get held (key_of p)) p bytes unended)
