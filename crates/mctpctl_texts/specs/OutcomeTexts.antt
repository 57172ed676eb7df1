-- The text of what became of a packet.
use Rattle.std.specs.Prelude.{ℕ, List, [], ◌∷◌, ◌++◌, codes}
use Rattle.std.specs.List.{flat_map}
use Rattle.hex.specs.Hex.{encode_lower}
use Rattle.mctp_packet.specs.Reasons.{name_of}
use Rattle.mctp_packet.specs.declared.reason.Reason.{Reason}
use Rattle.pldm_responder.specs.declared.outcome.Outcome.{Outcome}
use Rattle.pldm_responder.specs.declared.outcome.Outcome.TheVariants.{Dropped, Partial, Answered}

abbrev pub dropped_text : Reason → List ℕ
dropped_text reason = codes "drop " ++ (name_of reason ++ 10 ∷ [])

-- a packet's bytes as lower-case hex, on a line
abbrev pub packet_text : List ℕ → List ℕ
packet_text packet = encode_lower packet ++ 10 ∷ []

-- a message's packets, each on its line
abbrev pub packets_text : List (List ℕ) → List ℕ
packets_text packets = flat_map packet_text packets

abbrev pub outcome_text : Outcome → List ℕ
outcome_text (Dropped reason) = dropped_text reason
outcome_text Partial = codes "partial\n"
outcome_text (Answered fresh changed packets) = packets_text packets
