-- Where the oldest does not end, what is open after a packet is what assembly leaves.
use Rattle.std.proofs.Common.{◌≡◌, Bool, true, false, ◌&&◌, Option, None, Ok, Err, if◌then◌else◌, refl, ap}
use Rattle.std.specs.Prelude.{Result}
use Rattle.mctp_packet.specs.Packets.{Packet}
use Rattle.mctp_packet.specs.declared.reason.Reason.{Reason}
use Rattle.mctp_assembly.specs.Keys.{key_of}
use Rattle.mctp_assembly.specs.Steps.{after}
use Rattle.mctp_assembly.specs.declared.key.Key.{Key}
use Rattle.pldm_responder.specs.Ends.{End}
use Rattle.pldm_responder.specs.OpenOrder.{begins, ended_for, first_open, is_full_for, open_passed, without}
use Rattle.pldm_responder.specs.Steps.{open_after}

none_by : (begin full ends : Bool) (found : Option Key) → ends ≡ false → (if begin then (if full && ends then found else None) else None) ≡ None
none_by true true false found never = refl
none_by true false ends found never = refl
none_by false full ends found never = refl
none_by true true true found never = cc

none_ends : (end : End) (p : Packet) → end.ends_oldest ≡ false → ended_for end p ≡ None
none_ends end p never =
    none_by (begins p) (is_full_for end (key_of p)) end.ends_oldest (first_open end.open_messages end.begun) never

pub open_unended : (end : End) (read : Result Packet Reason) → end.ends_oldest ≡ false → open_passed end read ≡ open_after end.open_messages read
open_unended end (Ok p) never = ap (λ ended. without ended (after end.open_messages p)) (none_ends end p never)
open_unended end (Err reason) never = refl
