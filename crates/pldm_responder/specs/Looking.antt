-- What an answering end makes of a packet by looking at it, and of the request that it completes.
use Rattle.std.specs.FinMap as map
use Rattle.std.specs.Prelude.{◌≡◌, ◌≢◌, ℕ, ◌<◌, Bool, true, false, List, length, IfSome, IfOk, OnErr, IsErrOf, ◌↔◌, Option, Result, Ok, if◌then◌else◌}
use Rattle.mctp_packet.specs.Ids.{IsEid}
use Rattle.mctp_packet.specs.Packets.{Packet}
use Rattle.mctp_packet.specs.declared.packet.Route.{Route}
use Rattle.mctp_packet.specs.declared.reason.Reason.{Reason}
use Rattle.mctp_assembly.specs.Steps as assembly
use Rattle.mctp_assembly.specs.declared.fed.Fed.TheVariants as assembled
use Rattle.mctp_assembly.specs.declared.key.Key.{Key}
use Rattle.pldm_responder.specs.Arrivals.{Arrival, Drop, Part, Whole, message_of, passed_arrival, request_packet}
use Rattle.pldm_responder.specs.Ends.{End, held_by}
use Rattle.pldm_responder.specs.Events.{Message}
use Rattle.pldm_responder.specs.ResponderStates.{ResponderState}
use Rattle.pldm_responder.specs.OpenOrder.{begun_passed, ended_passed, is_shut_out, is_shut_out_passed, open_passed}
use Rattle.pldm_responder.specs.Performing.{busy_reply}
use Rattle.pldm_responder.specs.Requested.{Requested}
use Rattle.pldm_responder.specs.Steps.{entry_for, received_arrival, refuses_now, repeats}
use Rattle.pldm_responder.specs.declared.arriving.Disposition.{Disposition}
use Rattle.pldm_responder.specs.declared.arriving.Disposition.TheVariants.{Dropped, Partial, Request}
use Rattle.pldm_responder.specs.declared.arriving.RoomRefusal.{RoomRefusal}
use Rattle.pldm_responder.specs.declared.arriving.RoomRefusal.TheVariants.{Sources, OpenMessages}
use Rattle.pldm_responder.specs.declared.arriving.RequestClass.{RequestClass}
use Rattle.pldm_responder.specs.declared.arriving.RequestClass.TheVariants.{Busy, Copy, Fresh}
use Rattle.pldm_responder.specs.declared.arriving.Intake.{Intake}
use Rattle.pldm_responder.specs.declared.arriving.Intake.TheVariants as taken

-- the message that it is, whose last packet came at this moment
abbrev pub message_at : ℕ → Requested → Message
message_at moment r = message_of r.source r.tag moment r.bytes

-- the packets of a request of this source and tag are assembled on this key
abbrev pub assembly_key : ℕ → ℕ → Key
assembly_key source tag = record { source = source; tag = tag; owner = true }

-- ---- a packet is looked at
abbrev pub arrival_in : ℕ → Disposition → Arrival
arrival_in moment (Dropped reason) = Drop reason
arrival_in moment Partial = Part
arrival_in moment (Request r) = Whole (message_at moment r)

-- the end once a packet was taken that was read so: one that did not pass changes nothing that is open
abbrev pub end_taken : End → ℕ → Result Packet Reason → End
end_taken end moment read = record end {
  open_messages = open_passed end read;
  begun = begun_passed end read;
  last = moment;
}

-- the end once the packet of these bytes was taken
abbrev pub end_after : End → ℕ → List ℕ → End
end_after end moment bytes = end_taken end moment (request_packet end.own bytes)

-- the end once what is open of this source and tag has ended
abbrev pub end_closed : End → ℕ → ℕ → ℕ → End
end_closed end moment source tag = record end {
  open_messages = map.remove end.open_messages (assembly_key source tag);
  last = moment;
}

-- the end once this request, which came at this moment, was done with: its packets are no longer open
abbrev pub end_finished : End → ℕ → Requested → End
end_finished end moment r = end_closed end moment r.source r.tag

-- a request that another endpoint sent to this one
pub record IsRequestTo (end : End) (r : Requested) : Type 0 where
  pub other : r.source ≢ end.own
  pub here : r.destination ≡ end.own

-- the packet was taken; but with the request that it completes nothing is done yet
abbrev pub IsLookedAt : End → ℕ → Result Packet Reason → End → Disposition → Type 0
IsLookedAt old moment read new (Dropped reason) = new ≡ end_taken old moment read
IsLookedAt old moment read new Partial = new ≡ end_taken old moment read
IsLookedAt old moment read new (Request r) =
    (new ≡ old) × IsRequestTo old r × (end_finished old moment r ≡ end_taken old moment read)

-- a packet that was read so brought this
pub record HasArrived (old : End) (moment : ℕ) (read : Result Packet Reason) (new : End) (arrived : Disposition) : Type 0 where
  pub arrival : arrival_in moment arrived ≡ passed_arrival (assembly.answer old.open_messages) moment read
  pub left : IsLookedAt old moment read new arrived

-- a packet that another endpoint sent to this one with TO 1
pub record IsSentTo (end : End) (p : Packet) : Type 0 where
  pub owner : p.route.owner ≡ true
  pub other : p.route.source ≢ end.own
  pub here : p.route.destination ≡ end.own
  pub home : IsEid end.own

-- the last packet of several, which another endpoint sent to this one with TO 1
pub record IsLastFor (end : End) (p : Packet) : Type 0 where
  pub goes_on : p.start ≡ false
  pub ends : p.end ≡ true
  pub sent : IsSentTo end p
  pub open sent use *

-- the packet was taken; or it was refused, and the end is as before: for the open messages exactly where it is shut
-- out, and never for the sources
pub record IsTakenOrRefused
    (old : End) (moment : ℕ) (p : Packet) (new : End) (result : Result Disposition RoomRefusal) : Type 0 where
  pub ok : IfOk result (HasArrived old moment (Ok p) new)
  pub err : OnErr result (new ≡ old)
  pub sources : IsErrOf result Sources → ⊥
  pub open_messages : IsErrOf result OpenMessages ↔ (is_shut_out old p ≡ true)

-- a start packet that gives Partial: only such a one needs room
abbrev pub OpensMessage : End → Packet → Type 0
OpensMessage end p = (assembly.answer end.open_messages p ≡ assembled.Partial) × (p.start ≡ true)

-- the packet of these bytes is one, and nothing is done with it yet
pub record IsLast (old : End) (bytes : List ℕ) (new : End) (p : Packet) : Type 0 where
  pub packet : request_packet old.own bytes ≡ Ok p
  pub last : IsLastFor old p
  pub same : new ≡ old

abbrev pub HasTaken : End → ℕ → List ℕ → End → Intake → Type 0
HasTaken old moment bytes new (taken.Decided arrived) = HasArrived old moment (request_packet old.own bytes) new arrived
HasTaken old moment bytes new (taken.Last p) = IsLast old bytes new p

-- a whole message was read whose packets had this route
abbrev pub IsReadBy : End → ℕ → Route → List ℕ → End → Disposition → Type 0
IsReadBy old moment route bytes new (Dropped reason) = new ≡ end_closed old moment route.source route.tag
IsReadBy old moment route bytes new Partial = ⊥
IsReadBy old moment route bytes new (Request r) =
    (new ≡ old)
    × (r ≡ record { source = route.source; destination = route.destination; tag = route.tag; bytes = bytes })

-- these bytes begin a message for which there is no room
abbrev pub is_past_open : End → List ℕ → Bool
is_past_open end bytes = is_shut_out_passed end (request_packet end.own bytes)

-- the key whose message ends for these bytes
abbrev pub ended_by : End → List ℕ → Option Key
ended_by end bytes = ended_passed end (request_packet end.own bytes)

-- ---- a request is looked at
module _ {S : Type 0} (held : ResponderState S) (m : Message) where
  abbrev pub standing : RequestClass
  standing =
      if refuses_now held m then Busy
      else (if repeats held.keep m (entry_for held m) then Copy else Fresh)

  -- `reply` is the message that answers it, where there is one already
  abbrev pub IsReply : List ℕ → RequestClass → Type 0
  IsReply reply Busy = (reply ≡ busy_reply m.bytes) × (0 < length reply)
  IsReply reply Copy = IfSome (entry_for held m) (λ e. reply ≡ e.answer)
  IsReply reply Fresh = Unit {0}
