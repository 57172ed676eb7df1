-- What a line that asks read, which readings its clock gave, and what was written.
use Rattle.std.specs.Io.KnownBytes.{Appends, Consumes, Keeps}
use Rattle.std.specs.List.{flat_map}
use Rattle.std.specs.Prelude.{◌≡◌, ◌≢◌, ◌⊎◌, ℕ, ◌+◌, ◌<◌, ◌≤◌, true, false, List, [], ◌∷◌, length, Option, None, Some}
use Rattle.std.specs.Prelude.{Result, MatchResult}
use Rattle.pldm_line.specs.Ends.{Before, IsEarly, IsRefused, IsWaiting, ended_of}
use Rattle.pldm_line.specs.Turns.{Asking, Turn, WantsMemory, after_turns, all_sent, at_first, bytes_read, framed}
use Rattle.pldm_line.specs.Turns.{is_end, moment_of, readings}
use Rattle.pldm_line.specs.declared.ask_fault.AskFault.{AskFault}
use Rattle.pldm_line.specs.declared.ask_fault.AskFault.TheVariants as faults
use Rattle.pldm_line.specs.declared.ask_fault.BeginFault.{BeginFault}
use Rattle.pldm_line.specs.declared.ask_fault.BeginFault.TheVariants as begin
use Rattle.pldm_line.specs.declared.asking_line.AskingLine.{AskingLine}
use Rattle.pldm_line.specs.declared.asking_line.Ended.{Ended}
use Rattle.mctpctl_input.specs.Ports.{inner_of}
use Rattle.mctpctl_input.specs.declared.port.Port.{Port}
use Rattle.pldm_line.specs.Clocks.{HasNoMore}
use Rattle.pldm_line.specs.Serving.{packets_in}
use Rattle.pldm_requester.specs.Numbering.{packets_of}
use Rattle.pldm_requester.specs.Pacing.{setting_fault}
use Rattle.pldm_requester.specs.Slots.{held_of}
use Rattle.pldm_requester.specs.Steps.{accepts, opened_held}
use Rattle.pldm_requester.specs.declared.pace.Pace.{Pace}
use Rattle.pldm_requester.specs.declared.requester.TheConstants.{MAX_REMEMBERED}
use Rattle.pldm_requester.specs.declared.timing.Timing.{Timing}
use Rattle.pldm_wire.specs.declared.command.Command.{Command}

-- a line with its reader and writer: what it holds, and the bytes to come, the readings to come and what was written,
-- where these are known
pub record Shown : Type 0 where
  pub asking : Asking
  pub left : Option (List ℕ)
  pub clock : Option (List ℕ)
  pub written : Option (List ℕ)

abbrev pub asking_of : {C : Type 0} → AskingLine C → Asking
asking_of line = record { held = held_of line.requester; reading = line.frames; quiet = line.quiet }

abbrev pub shown :
    {C R W : Type 0} → (C → Option (List ℕ)) → (R → Option (List ℕ)) → (W → Option (List ℕ))
    → AskingLine C → Port R → Port W → Shown
shown to_come remaining contents line reader writer = record {
  asking = asking_of line;
  left = remaining (inner_of reader);
  clock = to_come line.ticks;
  written = contents (inner_of writer);
}

-- these turns were taken
pub record Turned (s : Shown) (turns : List Turn) (s1 : Shown) : Type 0 where
  pub asking : s1.asking ≡ after_turns s.asking turns
  pub read : Consumes s.left s1.left (bytes_read turns)
  pub ticked : Consumes s.clock s1.clock (readings turns)
  pub wrote : Appends s.written s1.written (all_sent s.asking turns)

-- one turn was
pub record TakesTurn (s s1 : Shown) : Type 0 where
  pub turn : Turn
  pub turned : Turned s (turn ∷ []) s1

-- turns were taken while it was so
pub record Goes (waits : Asking → Type 0) (s s1 : Shown) : Type 0 where
  pub turns : List Turn
  pub turned : Turned s turns s1
  pub before : Before waits s.asking turns

-- after one turn more were taken, until a time had passed since that one
pub record Listens (span : ℕ) (s s1 : Shown) : Type 0 where
  pub first : Turn
  pub begun : Shown
  pub turned : Turned s (first ∷ []) begun
  pub goes : Goes (IsEarly (begun.asking.held.last + span)) begun s1
  pub long : begun.asking.held.last + span ≤ s1.asking.held.last

-- a request for the command was opened at the last moment: its frames went out
pub record Opened (command : Command) (number : ℕ) (a a1 : Asking) (written written1 : Option (List ℕ)) : Type 0 where
  pub next : number ≡ a.held.count
  pub accepted : accepts a.held a.held.last ≡ true
  pub asking : a1 ≡ record a { held = opened_held a.held a.held.last command }
  pub wrote :
      Appends written written1
      (flat_map framed (packets_of a.held.own a.held.device a.held.count command))

-- one was opened where it might be; else all is as before
abbrev pub OpensNow :
    Command → Option ℕ → Asking → Asking → Option (List ℕ) → Option (List ℕ) → Type 0
OpensNow command (Some number) a a1 written written1 = Opened command number a a1 written written1
OpensNow command None a a1 written written1 =
    (accepts a.held a.held.last ≡ false) × (a1 ≡ a) × (written1 ≡ written)

-- turns were taken while no request might be opened; then one was
pub record Opens (command : Command) (number : ℕ) (s s1 : Shown) : Type 0 where
  pub free : Shown
  pub waited : Goes IsRefused s free
  pub opened : Opened command number free.asking s1.asking free.written s1.written
  pub left : s1.left ≡ free.left
  pub clock : s1.clock ≡ free.clock

-- a request for the command was opened as soon as it might be; then turns were taken until it had ended
pub record Asks (command : Command) (number : ℕ) (ended : Ended) (s s1 : Shown) : Type 0 where
  pub asked : Shown
  pub opens : Opens command number s asked
  pub waited : Goes (IsWaiting number) asked s1
  pub ends : ended_of s1.asking.held number ≡ Some ended

-- a turn read these bytes and this reading of the clock, and then a packet wanted memory
pub record LacksMemory (s s1 : Shown) : Type 0 where
  pub turn : Turn
  pub read : Consumes s.left s1.left turn.bytes
  pub ticked : Consumes s.clock s1.clock (turn.clock ∷ [])
  pub wants : WantsMemory s.asking.held (moment_of s.asking turn) (packets_in s.asking.reading turn.bytes)

-- how a turn may fail: that a port has failed stands in a clause of its own
abbrev pub FailsTurn : AskFault → (s s1 : Shown) → Type 0
FailsTurn faults.LineEnded s s1 = ⊥
FailsTurn faults.Read s s1 = Unit {0}
FailsTurn faults.Write s s1 = Unit {0}
FailsTurn faults.Clock s s1 = HasNoMore s.clock
FailsTurn faults.Memory s s1 = LacksMemory s s1
FailsTurn faults.TooMany s s1 = ⊥
FailsTurn faults.Unread s s1 = ⊥

-- why a line stopped after these turns: its end had come, there were too many, or one turn more failed
abbrev pub StopsFor : AskFault → List Turn → (last s1 : Shown) → Type 0
StopsFor faults.LineEnded turns last s1 = is_end last.asking.quiet ≡ true
StopsFor faults.TooMany turns last s1 = length turns ≡ 18446744073709551615
StopsFor faults.Read turns last s1 = FailsTurn faults.Read last s1
StopsFor faults.Write turns last s1 = FailsTurn faults.Write last s1
StopsFor faults.Clock turns last s1 = FailsTurn faults.Clock last s1
StopsFor faults.Memory turns last s1 = FailsTurn faults.Memory last s1
StopsFor faults.Unread turns last s1 = FailsTurn faults.Unread last s1

-- turns were taken, and then no more was written
pub record Stops (waits : Asking → Type 0) (fault : AskFault) (s s1 : Shown) : Type 0 where
  pub last : Shown
  pub goes : Goes waits s last
  pub kept : Keeps last.written s1.written
  pub reason : StopsFor fault goes.turns last s1

-- a request might be opened, and there was no memory for it and its answer, which is kept from then on
pub record LacksRoom (fault : AskFault) (s s1 : Shown) : Type 0 where
  pub last : Shown
  pub goes : Goes IsRefused s last
  pub kept : Keeps last.written s1.written
  pub no_memory : fault ≡ faults.Memory
  pub accepted : accepts last.asking.held last.asking.held.last ≡ true
  pub grows : last.asking.held.count < MAX_REMEMBERED

abbrev pub StopsOpening : AskFault → Shown → Shown → Type 0
StopsOpening fault s s1 = Stops IsRefused fault s s1 ⊎ LacksRoom fault s s1

-- it stopped before a request was opened, or while it was open
pub record StopsOpen (command : Command) (fault : AskFault) (s s1 : Shown) : Type 0 where
  pub number : ℕ
  pub asked : Shown
  pub opens : Opens command number s asked
  pub stops : Stops (IsWaiting number) fault asked s1

abbrev pub AskStops : Command → AskFault → Shown → Shown → Type 0
AskStops command fault s s1 = StopsOpening fault s s1 ⊎ StopsOpen command fault s s1

-- it stopped at the first turn, or later
pub record StopsAtFirst (fault : AskFault) (s s1 : Shown) : Type 0 where
  pub kept : Keeps s.written s1.written
  pub reason : FailsTurn fault s s1

pub record StopsLater (span : ℕ) (fault : AskFault) (s s1 : Shown) : Type 0 where
  pub first : Turn
  pub begun : Shown
  pub turned : Turned s (first ∷ []) begun
  pub stops : Stops (IsEarly (begun.asking.held.last + span)) fault begun s1

abbrev pub StopsListening : ℕ → AskFault → Shown → Shown → Type 0
StopsListening span fault s s1 = StopsAtFirst fault s s1 ⊎ StopsLater span fault s s1

-- a new line
abbrev pub begun_as :
    {C R W : Type 0} → (C → Option (List ℕ)) → (R → Option (List ℕ)) → (W → Option (List ℕ))
    → ℕ → ℕ → Timing → Pace → C → Port R → Port W → Shown
begun_as to_come remaining contents own device timing pace ticks reader writer = record {
  asking = at_first own device timing pace;
  left = remaining (inner_of reader);
  clock = to_come ticks;
  written = contents (inner_of writer);
}

-- a line that listened stopped before it was begun, where these bytes are left to come and these were written
abbrev pub StopsBeginning : ℕ → Shown → (left written : Option (List ℕ)) → BeginFault → Type 0
StopsBeginning span s left written (begin.Setting fault) = Unit {0}
StopsBeginning span s left written (begin.Line fault) =
    fault ≢ faults.Write
    → (asking : Asking) × (clock : Option (List ℕ))
    × StopsListening span fault s (record { asking = asking; left = left; clock = clock; written = written })

-- why a line was not begun: its settings have this fault, or they have none
abbrev pub RefusesSettings : ℕ → ℕ → Timing → Pace → BeginFault → Type 0
RefusesSettings own device timing pace (begin.Setting fault) = setting_fault own device timing pace ≡ Some fault
RefusesSettings own device timing pace (begin.Line fault) = setting_fault own device timing pace ≡ None

-- a line was begun only where its settings have no fault, and else it says why not
abbrev pub ChecksSettings : {A : Type 0} → ℕ → ℕ → Timing → Pace → Result A BeginFault → Type 0
ChecksSettings own device timing pace result =
    MatchResult result (λ _. setting_fault own device timing pace ≡ None) (RefusesSettings own device timing pace)
