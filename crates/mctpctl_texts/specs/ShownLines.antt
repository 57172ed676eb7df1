-- The lines that `mctpctl show` writes of a packet and of the message that it completes.
use Rattle.std.specs.Prelude.{ℕ, Bool, not, ◌&&◌, nat_le, List, [], ◌∷◌, ◌++◌, length, slice_index, codes}
use Rattle.std.specs.Prelude.{unwrap_or, Result, Ok, Err, if◌then◌else◌}
use Rattle.std.specs.Fmt.{decimal}
use Rattle.hex.specs.Hex.{encode_lower}
use Rattle.mctp_assembly.specs.declared.fed.Fed.{Fed}
use Rattle.mctp_assembly.specs.declared.fed.Fed.TheVariants.{Whole, Partial, Dropped}
use Rattle.mctp_packet.specs.Bits.{bit, is_set}
use Rattle.mctp_packet.specs.Packets.{Packet}
use Rattle.mctp_packet.specs.Reasons.{name_of}
use Rattle.mctp_packet.specs.declared.packet.Route.{Route}
use Rattle.mctp_packet.specs.declared.reason.Reason.{Reason}
use Rattle.pldm_wire.specs.CommandNames.{name_of_kind}
use Rattle.pldm_wire.specs.CommandReading.{command_of}
use Rattle.pldm_wire.specs.Kinds.{TypeAndCommand}
use Rattle.pldm_wire.specs.Requests.{Request, request_of}
use Rattle.pldm_wire.specs.Responses.{Response, response_of}
use Rattle.pldm_wire.specs.declared.command.Command.{Command}

-- these words, with a space between
abbrev pub spaced : List (List ℕ) → List ℕ
spaced [] = []
spaced (word ∷ []) = word
spaced (word ∷ next ∷ more) = word ++ 32 ∷ spaced (next ∷ more)

-- the same, and a line feed
abbrev pub spaced_line : List (List ℕ) → List ℕ
spaced_line [] = 10 ∷ []
spaced_line (word ∷ []) = word ++ 10 ∷ []
spaced_line (word ∷ next ∷ more) = word ++ 32 ∷ spaced_line (next ∷ more)

abbrev pub drop_text : Reason → List ℕ
drop_text reason = codes "drop " ++ name_of reason

-- of bytes that are no frame, for the reason of this name
abbrev pub no_frame_text : List ℕ → List ℕ
no_frame_text name = codes "no frame: " ++ name

-- a byte as two lower-case hex digits
abbrev pub byte_text : ℕ → List ℕ
byte_text byte = encode_lower (byte ∷ [])

-- bytes in lower-case hex, or `-` where there are none
abbrev pub data_text : List ℕ → List ℕ
data_text [] = codes "-"
data_text (first ∷ more) = encode_lower (first ∷ more)

-- the command's name, else its PLDM type in decimal and its number in hex
abbrev pub command_text : TypeAndCommand → List ℕ
command_text kind =
    unwrap_or (name_of_kind kind) (decimal kind.pldm_type ++ (codes "/" ++ byte_text kind.command))

-- whether the request carries a command, or the completion code of its refusal
abbrev pub verdict_text : Result Command ℕ → List ℕ
verdict_text (Ok command) = codes "ok"
verdict_text (Err code) = codes "refused " ++ byte_text code

abbrev pub request_words : Result Request Reason → List (List ℕ)
request_words (Err reason) = drop_text reason ∷ []
request_words (Ok request) =
    codes "request" ∷ decimal request.id ∷ command_text request.kind ∷ data_text request.rest
    ∷ verdict_text (command_of request.kind request.rest) ∷ []

abbrev pub response_words : Result Response Reason → List (List ℕ)
response_words (Err reason) = drop_text reason ∷ []
response_words (Ok response) =
    codes "response" ∷ decimal response.id ∷ command_text response.kind ∷ byte_text response.code
    ∷ data_text response.rest ∷ []

-- two bytes at least, and the request bit of the second is 0
abbrev pub is_shown_as_response : List ℕ → Bool
is_shown_as_response message = nat_le 2 (length message) && not (is_set (slice_index message 1) 7)

abbrev pub message_words : List ℕ → List (List ℕ)
message_words message =
    if is_shown_as_response message then response_words (response_of message) else request_words (request_of message)

-- the line of a whole message, two spaces in
abbrev pub message_line : List ℕ → List ℕ
message_line message = codes "  " ++ spaced_line (message_words message)

-- what a packet gave: a whole message, a front of one, or nothing
abbrev pub fed_text : Fed → List ℕ
fed_text (Whole body) = codes "whole"
fed_text Partial = codes "partial"
fed_text (Dropped reason) = drop_text reason

-- where a packet goes to, and whose message it carries
abbrev pub route_words : Route → List (List ℕ)
route_words route =
    decimal route.destination ∷ codes "tag" ∷ decimal route.tag ∷ codes "to" ∷ decimal (bit route.owner) ∷ []

abbrev pub route_text : Route → List ℕ
route_text route = decimal route.source ++ 62 ∷ spaced (route_words route)

-- the three bits of a packet with the names around them, as they stand in its line
abbrev pub bits_text : Bool → Bool → Bool → List ℕ
bits_text owner start end =
    codes " to " ++ (decimal (bit owner) ++ (codes " som " ++ (decimal (bit start)
    ++ (codes " eom " ++ (decimal (bit end) ++ codes " seq ")))))

-- a packet's place in its message, and how much of it it carries
abbrev pub place_words : Packet → List (List ℕ)
place_words p =
    codes "som" ∷ decimal (bit p.start) ∷ codes "eom" ∷ decimal (bit p.end)
    ∷ codes "seq" ∷ decimal p.seq ∷ codes "len" ∷ decimal (length p.payload) ∷ []

abbrev pub place_text : Packet → List ℕ
place_text p = spaced (place_words p)

-- the line of a packet that came at this moment and gave this
abbrev pub packet_line : ℕ → Packet → Fed → List ℕ
packet_line moment p fed = spaced_line (decimal moment ∷ route_text p.route ∷ place_text p ∷ fed_text fed ∷ [])

-- after a packet that completes a message comes the line of that message
abbrev pub completed_text : (List ℕ → List ℕ) → Fed → List ℕ
completed_text line (Whole body) = line body.items
completed_text line Partial = []
completed_text line (Dropped reason) = []

-- what is written of the bytes that came at this moment: they spell a packet, and `gives` says what it gave; or they
-- spell none, and these words say why. `line` says how the line of a whole message of a route is written.
abbrev pub shown_text : (Route → List ℕ → List ℕ) → ℕ → Result Packet (List ℕ) → (Packet → Fed) → List ℕ
shown_text line moment (Err words) gives = spaced_line (decimal moment ∷ words ∷ [])
shown_text line moment (Ok p) gives = packet_line moment p (gives p) ++ completed_text (line p.route) (gives p)
