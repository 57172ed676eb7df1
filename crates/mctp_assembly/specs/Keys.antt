-- Whose message a packet carries: one is assembled at a time for each source, tag and
-- tag owner (DSP0236, "Message assembly").
use Rattle.std.specs.Prelude.{ℕ, Bool, refl}
use Rattle.std.specs.Ordering.{nat_cmp, bool_cmp, ordering_then}
use Rattle.std.specs.declared.cmp.Ordering.{Ordering}
use Rattle.std.specs.Coded.{Coded, code_by, coded×, coded_ℕ, coded_bool}
use Rattle.mctp_packet.specs.Ids.{IsEid, IsTag}
use Rattle.mctp_packet.specs.Packets.{Packet}
use Rattle.mctp_assembly.specs.declared.key.Key.{Key}

abbrev pub IsKey : Key → Type 0
IsKey k = IsEid k.source × IsTag k.tag

abbrev pub key_of : Packet → Key
key_of p = record { source = p.route.source; tag = p.route.tag; owner = p.route.owner }

-- by source, then by tag, then by TO
abbrev pub key_cmp : Key → Key → Ordering
key_cmp a b = ordering_then (nat_cmp a.source b.source) (ordering_then (nat_cmp a.tag b.tag) (bool_cmp a.owner b.owner))

-- a key is stored as its parts
abbrev pub coded_key : Coded Key
coded_key =
    code_by (ℕ × (ℕ × Bool)) (coded× coded_ℕ (coded× coded_ℕ coded_bool)) (λ k. (k.source, (k.tag, k.owner)))
    (λ c. record { source = c.0; tag = c.1.0; owner = c.1.1 }) (λ _. refl)
