-- A few packets, computed from the definitions: device 9 reads them from endpoint 8.
use Rattle.std.proofs.Common.{◌≡◌, true, false, [], ◌∷◌, Some, None, Ok, Err, replicate, refl}
use Rattle.mctp_packet.specs.Packets.{packet}
use Rattle.mctp_packet.specs.Pieces.{written_packets}
use Rattle.mctp_packet.specs.Reading.{reading}
use Rattle.mctp_packet.specs.declared.reason.Reason.TheVariants.{Short, BadVersion, UnknownDestination, BadSource, NoPayload, UnsupportedUnit}

a_request : reading (Some 9) (1 ∷ 9 ∷ 8 ∷ 200 ∷ 1 ∷ 128 ∷ 0 ∷ 2 ∷ []) ≡ Ok (packet (record { destination = 9; source = 8; owner = true; tag = 0 }) true true 0 (1 ∷ 128 ∷ 0 ∷ 2 ∷ []))
a_request = refl

reserved_bits_do_not_count : reading (Some 9) (241 ∷ 9 ∷ 8 ∷ 200 ∷ 1 ∷ []) ≡ Ok (packet (record { destination = 9; source = 8; owner = true; tag = 0 }) true true 0 (1 ∷ []))
reserved_bits_do_not_count = refl

an_end_packet : reading (Some 9) (1 ∷ 9 ∷ 8 ∷ 88 ∷ 0 ∷ 2 ∷ []) ≡ Ok (packet (record { destination = 9; source = 8; owner = true; tag = 0 }) false true 1 (0 ∷ 2 ∷ []))
an_end_packet = refl

no_bytes : reading (Some 9) [] ≡ Err Short
no_bytes = refl

three_bytes : reading (Some 9) (2 ∷ 9 ∷ 8 ∷ []) ≡ Err Short
three_bytes = refl

another_version : reading (Some 9) (2 ∷ 9 ∷ 8 ∷ 200 ∷ 1 ∷ []) ≡ Err BadVersion
another_version = refl

another_destination : reading (Some 9) (1 ∷ 11 ∷ 8 ∷ 200 ∷ 1 ∷ []) ≡ Err UnknownDestination
another_destination = refl

a_reserved_source : reading (Some 9) (1 ∷ 9 ∷ 7 ∷ 200 ∷ 1 ∷ []) ≡ Err BadSource
a_reserved_source = refl

the_own_source : reading (Some 9) (1 ∷ 9 ∷ 9 ∷ 200 ∷ 1 ∷ []) ≡ Err BadSource
the_own_source = refl

the_own_source_is_not_known : reading None (1 ∷ 9 ∷ 9 ∷ 200 ∷ 1 ∷ []) ≡ Ok (packet (record { destination = 9; source = 9; owner = true; tag = 0 }) true true 0 (1 ∷ []))
the_own_source_is_not_known = refl

no_payload : reading (Some 9) (1 ∷ 9 ∷ 8 ∷ 200 ∷ []) ≡ Err NoPayload
no_payload = refl

payload_of_65 : reading (Some 9) (1 ∷ 9 ∷ 8 ∷ 200 ∷ replicate 65 1) ≡ Err UnsupportedUnit
payload_of_65 = refl

-- an answer of one packet, and one of two
an_answer : written_packets (record { destination = 8; source = 9; owner = false; tag = 0 }) (1 ∷ 0 ∷ 0 ∷ 2 ∷ 0 ∷ 1 ∷ []) ≡ (1 ∷ 8 ∷ 9 ∷ 192 ∷ 1 ∷ 0 ∷ 0 ∷ 2 ∷ 0 ∷ 1 ∷ []) ∷ []
an_answer = refl

two_packets : written_packets (record { destination = 8; source = 9; owner = false; tag = 1 }) (replicate 65 7) ≡ (1 ∷ 8 ∷ 9 ∷ 129 ∷ replicate 64 7) ∷ (1 ∷ 8 ∷ 9 ∷ 81 ∷ 7 ∷ []) ∷ []
two_packets = refl
