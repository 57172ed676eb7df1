-- What is open on a key: the packets of a message that has begun and not ended, and what of them a
-- later packet is checked by.
use Rattle.std.specs.Prelude.{◌≡◌, ℕ, ◌*◌, ◌≤◌, List, length, refl}
use Rattle.std.specs.Coded.{Coded, code_by, coded×, coded_ℕ, coded_list}
use Rattle.mctp_packet.specs.Ids.{IsSeq}
use Rattle.mctp_packet.specs.declared.TheConstants.{BASELINE_UNIT, MAX_PACKETS}

pub record Opened : Type 0 where
  -- the payload length of the start packet, which is the unit of the message
  pub unit : ℕ
  -- the sequence number of the last packet
  pub last : ℕ
  -- how many packets there are
  pub count : ℕ
  -- their payloads, joined
  pub bytes : List ℕ

-- it is stored as its parts
abbrev pub coded_opened : Coded Opened
coded_opened =
    code_by (ℕ × (ℕ × (ℕ × List ℕ))) (coded× coded_ℕ (coded× coded_ℕ (coded× coded_ℕ (coded_list coded_ℕ))))
    (λ o. (o.unit, (o.last, (o.count, o.bytes))))
    (λ c. record { unit = c.0; last = c.1.0; count = c.1.1.0; bytes = c.1.1.1 }) (λ _. refl)

pub record IsOpened (o : Opened) : Type 0 where
  pub some : 1 ≤ o.unit
  pub baseline : o.unit ≤ BASELINE_UNIT
  pub begun : 1 ≤ o.count
  pub few : o.count ≤ MAX_PACKETS
  pub full : length o.bytes ≡ o.count * o.unit
  pub seq : IsSeq o.last
