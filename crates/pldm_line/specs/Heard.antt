-- What a line that is served makes of bytes: what answers then, what its platform performed, what was written, and what
-- its watcher saw. `performing` holds of a platform, commands, the newest first, and the platform once they were
-- performed.
use Rattle.std.specs.Prelude.{◌≡◌, ℕ, List, [], ◌∷◌, length, Option}
use Rattle.std.specs.Io.KnownBytes.{Appends, Consumes, Keeps}
use Rattle.std.specs.List.{FoldsTo}
use Rattle.mctp_serial.specs.Readings.{Reading, after}
use Rattle.mctpctl_input.specs.Ports.{inner_of}
use Rattle.mctpctl_input.specs.declared.port.Port.{Port}
use Rattle.pldm_line.specs.Clocks.{HasNoMore}
use Rattle.pldm_line.specs.Events.{Seen, Came}
use Rattle.pldm_line.specs.Serving.{Answerers, answerers, answers, came, commands, moment_after}
use Rattle.pldm_line.specs.Serving.{packet_after, packet_frames, packets_after, packets_in}
use Rattle.pldm_line.specs.Seen.{bytes_seen, packet_seen}
use Rattle.pldm_line.specs.declared.serve_fault.ServeFault.{ServeFault}
use Rattle.pldm_line.specs.declared.serve_fault.ServeFault.TheVariants as fault
use Rattle.pldm_line.specs.declared.served_line.ServedLine.{ServedLine}
use Rattle.pldm_responder.specs.Performing.{Rules}
use Rattle.pldm_responder.specs.ResponderViews.{held_of}
use Rattle.pldm_responder.specs.Steps.{received_commands}
use Rattle.pldm_responder.specs.declared.bounds.Bounds.{Bounds}
use Rattle.pldm_wire.specs.declared.command.Command.{Command}

-- what a line and its writer show: what answers, the platform and the bounds of the responder, where the reader of
-- frames stands, the readings of the clock to come and what was written, where these are known, and who watches
pub record Shown (P S L : Type 0) : Type 0 where
  pub answering : Answerers S
  pub platform : P
  pub bounds : Bounds
  pub reading : Reading
  pub clock : Option (List ℕ)
  pub written : Option (List ℕ)
  pub watch : L

abbrev pub shown :
    {P C L S W : Type 0} → (C → Option (List ℕ)) → (W → Option (List ℕ)) → ServedLine P C L S → Port W → Shown P S L
shown to_come contents line writer = record {
  answering = answerers (held_of line.responder) line.control;
  platform = line.responder.platform;
  bounds = line.responder.end.bounds;
  reading = line.frames;
  clock = to_come line.ticks;
  written = contents (inner_of writer);
  watch = line.watch;
}

-- what a watcher saw where the line stopped at a fault: a packet that found no memory has come
abbrev pub SeesAt : {L : Type 0} → (L → Seen → L → Type 0) → ServeFault → L → L → Type 0
SeesAt sees fault.Memory watch watch1 = (moment : ℕ) × (packet : List ℕ) × sees watch (Came moment packet) watch1
SeesAt sees _ watch watch1 = watch1 ≡ watch

-- why a line stops at a fault, by the readings of the clock that were to come: that a port has failed stands in a clause
-- of its own
abbrev pub StopsFor : ServeFault → Option (List ℕ) → Type 0
StopsFor fault.Clock clock = HasNoMore clock
StopsFor _ clock = Unit {0}

-- the line stopped at a fault: nothing was written, and no command performed
pub record Stops {P S L : Type 0} (performing : P → List Command → P → Type 0) (sees : L → Seen → L → Type 0)
    (fault : ServeFault) (s s1 : Shown P S L) : Type 0 where
  pub kept : Keeps s.written s1.written
  pub seen : SeesAt sees fault s.watch s1.watch
  pub reason : StopsFor fault s.clock
  pub none_performed : performing s.platform [] s1.platform
  pub bounds : s1.bounds ≡ s.bounds

module _ {P S L : Type 0} (performing : P → List Command → P → Type 0) (device : Rules S)
    (sees : L → Seen → L → Type 0) where
  -- this packet was answered at this moment, and seen
  pub record HearsAt (s : Shown P S L) (moment : ℕ) (packet : List ℕ) (s1 : Shown P S L) : Type 0 where
    pub answer : s1.answering ≡ packet_after device s.answering moment packet
    pub wrote : Appends s.written s1.written (packet_frames device s.answering moment packet)
    pub seen : FoldsTo sees s.watch (packet_seen device s.answering moment packet) s1.watch
    pub performed : performing s.platform (received_commands s.answering.held moment packet) s1.platform
    pub bounds : s1.bounds ≡ s.bounds

  -- the same at the moment of a reading that the clock gave
  pub record HearsPacket (s : Shown P S L) (packet : List ℕ) (s1 : Shown P S L) : Type 0 where
    pub reading : ℕ
    pub ticked : Consumes s.clock s1.clock (reading ∷ [])
    pub heard : HearsAt s (moment_after s.answering.held.last reading) packet s1

  -- of these bytes, with readings that the clock gave, one for each packet, the answers were written, the commands were
  -- performed, and what happened was seen
  pub record Hears (s : Shown P S L) (bytes : List ℕ) (s1 : Shown P S L) : Type 0 where
    pub readings : List ℕ
    pub each : length readings ≡ length (packets_in s.reading bytes)
    pub ticked : Consumes s.clock s1.clock readings
    pub reader : s1.reading ≡ after s.reading bytes
    pub answer : s1.answering ≡ packets_after device s.answering (came device s.answering s.reading bytes readings)
    pub wrote :
        Appends s.written s1.written (answers device s.answering (came device s.answering s.reading bytes readings))
    pub seen : FoldsTo sees s.watch (bytes_seen device s.answering s.reading bytes readings) s1.watch
    pub performed :
        performing s.platform (commands device s.answering (came device s.answering s.reading bytes readings))
        s1.platform
    pub bounds : s1.bounds ≡ s.bounds

  -- of what was taken of the bytes that were left
  pub record HearsTaken (s : Shown P S L) (left left1 : Option (List ℕ)) (s1 : Shown P S L) : Type 0 where
    pub taken : List ℕ
    pub consumed : Consumes left left1 taken
    pub hears : Hears s taken s1

  -- of a front of all bytes, before a fault
  pub record HearsFront (s : Shown P S L) (all : Option (List ℕ)) (fault : ServeFault) (s1 : Shown P S L) : Type 0 where
    pub front : List ℕ
    pub back : Option (List ℕ)
    pub all_are : Consumes all back front
    pub answering1 : Answerers S
    pub reading1 : Reading
    pub clock1 : Option (List ℕ)
    pub watch1 : L
    pub hears : Hears s front (record {
      answering = answering1;
      platform = s1.platform;
      bounds = s1.bounds;
      reading = reading1;
      clock = clock1;
      written = s1.written;
      watch = watch1;
    })
    pub seen : SeesAt sees fault watch1 s1.watch
    pub reason : StopsFor fault clock1
