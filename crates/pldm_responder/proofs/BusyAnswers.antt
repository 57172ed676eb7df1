-- The answer to a request while the responder is busy is one packet of five bytes: a response whose code is NotReady.
use Rattle.std.proofs.Common.{◌≡◌, ℕ, ◌+◌, ◌*◌, ◌<◌, true, List, [], ◌∷◌, Option, Some, None, Ok, sym, ap, ◌∙◌, subst, arith}
use Rattle.std.specs.Prelude.{slice_index}
use Rattle.mctp_packet.specs.Packets.{packet, written}
use Rattle.mctp_packet.specs.Pieces.{packets, written_packets}
use Rattle.mctp_packet.specs.declared.packet.Route.{Route}
use Rattle.mctp_packet.specs.declared.reason.Reason.{Reason}
use Rattle.pldm_wire.specs.Kinds.{TypeAndCommand, IsKind}
use Rattle.pldm_wire.specs.Messages.{IsResponse}
use Rattle.mctp_packet.specs.Reading.{unless}
use Rattle.pldm_wire.specs.Requests.{Request, request_of, request_refusal}
use Rattle.pldm_wire.specs.declared.assigned.TheConstants.{INSTANCE_IDS, MESSAGE_TYPE, ERROR_NOT_READY}
use Rattle.pldm_responder.specs.Laws.{BusyAnswersAreOnePacket}
use Rattle.pldm_responder.specs.Performing.{busy_reply, busy_reply_to}

abbrev five : Request → List ℕ
five request =
    MESSAGE_TYPE ∷ (128 * 0 + INSTANCE_IDS * 0 + request.id) ∷ request.kind.pldm_type ∷ request.kind.command ∷ ERROR_NOT_READY ∷ []

five_bytes : (bytes : List ℕ) (request : Request) → request_of bytes ≡ Ok request → busy_reply bytes ≡ five request
five_bytes bytes request read = ap busy_reply_to read

one_packet : (route : Route) (bytes : List ℕ) (request : Request) → request_of bytes ≡ Ok request → packets route (busy_reply bytes) ≡ packet route true true 0 (busy_reply bytes) ∷ []
one_packet route bytes request read =
    ap (packets route) (five_bytes bytes request read) ∙ ap (λ m. packet route true true 0 m ∷ []) (sym (five_bytes bytes request read))

one_written : (route : Route) (bytes : List ℕ) (request : Request) → request_of bytes ≡ Ok request → written_packets route (busy_reply bytes) ≡ written (packet route true true 0 (busy_reply bytes)) ∷ []
one_written route bytes request read =
    ap (written_packets route) (five_bytes bytes request read) ∙ ap (λ m. written (packet route true true 0 m) ∷ []) (sym (five_bytes bytes request read))

ranges_by : (refusal : Option Reason) (read request : Request) → read.id < INSTANCE_IDS → IsKind read.kind → unless refusal read ≡ Ok request → (request.id < INSTANCE_IDS) × IsKind request.kind
ranges_by None read request id kind h = let same : read ≡ request = cc in (subst (λ (r : Request). r.id < INSTANCE_IDS) same id, subst (λ (r : Request). IsKind r.kind) same kind)
ranges_by (Some reason) read request id kind h = cc

ranges : (bytes : List ℕ) (request : Request) → request_of bytes ≡ Ok request → (request.id < INSTANCE_IDS) × IsKind request.kind
unfolding request_of
ranges bytes request h = ranges_by (request_refusal bytes) _ request (omega arith) (omega arith) h

not_ready : (bytes : List ℕ) (request : Request) → request_of bytes ≡ Ok request → (id : ℕ) (kind : TypeAndCommand) (code : ℕ) (rest : List ℕ) → IsResponse (busy_reply bytes) id kind code rest → code ≡ ERROR_NOT_READY
not_ready bytes request read id kind code rest is =
    sym (ap (λ m. slice_index m 4) (sym (five_bytes bytes request read) ∙ is.bytes_are))

pub busy_answers_are_one_packet : BusyAnswersAreOnePacket
busy_answers_are_one_packet route bytes request read = (
  one_packet route bytes request read,
  one_written route bytes request read,
  record {
    id_range = (ranges bytes request read).0;
    kind_range = (ranges bytes request read).1;
    reserved = 0;
    bit = omega arith;
    bytes_are = five_bytes bytes request read;
  },
  not_ready bytes request read,
)
