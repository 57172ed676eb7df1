-- A control query on a line: its frame goes out at once, and again each time that a try has had its time without an
-- answer. It ends with the first packet that answers it, or when the last try has had its time. All is said by looking
-- back over the turns since the frame went out first, the newest first.
use Rattle.std.specs.Io.KnownBytes.{Appends, Consumes, Keeps}
use Rattle.std.specs.Option.{option_or}
use Rattle.std.specs.Prelude.{◌≡◌, ℕ, Bool, true, false, List, [], ◌∷◌, ◌++◌, Option, None, if◌then◌else◌}
use Rattle.mctp_control.specs.AnyQueries.{any_answer_in, any_packet}
use Rattle.mctp_control.specs.declared.any_query.AnyQuery.{AnyQuery}
use Rattle.pldm_line.specs.Asked.{Shown, StopsFor}
use Rattle.pldm_line.specs.QueryTries.{is_again, is_over, tried_again, tries_from}
use Rattle.pldm_line.specs.Turns.{Asking, Turn, after_turns, bytes_read, framed, is_end, readings, sent_frames}
use Rattle.pldm_line.specs.declared.ask_fault.AskFault.{AskFault}
use Rattle.pldm_line.specs.declared.tries.Tries.{Tries}
use Rattle.pldm_line.specs.Serving.{packets_in}

-- the message of the first packet that answers a query
abbrev pub first_answer : AnyQuery → List (List ℕ) → Option (List ℕ)
first_answer q [] = None
first_answer q (packet ∷ packets) = option_or (any_answer_in q packet) (first_answer q packets)

-- the frame of the query, where it goes out
abbrev pub query_frame : AnyQuery → Bool → List ℕ
query_frame q goes = if goes then framed (any_packet q) else []

-- the moment of the latest turn
abbrev pub latest : Asking → List Turn → ℕ
latest a turns = (after_turns a turns).held.last

-- the answer, where it has come: that of the packets whose frames end in the bytes that were read
abbrev pub answer_after : AnyQuery → Asking → List Turn → Option (List ℕ)
answer_after q a turns = first_answer q (packets_in a.reading (bytes_read turns))

module _ (q : AnyQuery) (again most : ℕ) (a : Asking) where
  -- after these turns the frame goes out again: no answer has come, the latest of the tries before has had its time,
  -- and another one is left
  abbrev pub goes_out : Tries → List Turn → Bool
  goes_out before turns = is_again before (latest a turns) (answer_after q a turns)

  -- the tries: the first at once, and one more at each turn after which the frame goes out again
  abbrev pub tries_after : List Turn → Tries
  tries_after [] = tries_from again most a.held.last
  tries_after (turn ∷ turns) =
      tried_again (goes_out (tries_after turns) (turn ∷ turns)) (tries_after turns) (latest a (turn ∷ turns))

  -- what was written: the frame at once, and at each turn the frames of the requests that are sent again, and then that
  -- of the query where it goes out again
  abbrev pub all_written : List Turn → List ℕ
  all_written [] = framed (any_packet q)
  all_written (turn ∷ turns) =
      all_written turns
      ++ (sent_frames (after_turns a turns) turn ++ query_frame q (goes_out (tries_after turns) (turn ∷ turns)))

-- the answer is awaited: the line goes on, no answer has come, and the last try has not had its time
pub record IsAwaited (q : AnyQuery) (again most : ℕ) (a : Asking) (turns : List Turn) : Type 0 where
  pub goes_on : is_end (after_turns a turns).quiet ≡ false
  pub unanswered : answer_after q a turns ≡ None
  pub lasts : is_over (tries_after q again most a turns) (latest a turns) ≡ false

-- it was, before each of the turns
abbrev pub AwaitedBefore : AnyQuery → ℕ → ℕ → Asking → List Turn → Type 0
AwaitedBefore q again most a [] = Unit {0}
AwaitedBefore q again most a (turn ∷ turns) = IsAwaited q again most a turns × AwaitedBefore q again most a turns

-- the query went out, and turns were taken while its answer was awaited
pub record Awaits (q : AnyQuery) (again most : ℕ) (s s1 : Shown) : Type 0 where
  pub turns : List Turn
  pub asking : s1.asking ≡ after_turns s.asking turns
  pub read : Consumes s.left s1.left (bytes_read turns)
  pub ticked : Consumes s.clock s1.clock (readings turns)
  pub wrote : Appends s.written s1.written (all_written q again most s.asking turns)
  pub before : AwaitedBefore q again most s.asking turns

-- the turns ended with its answer, or without one when the last try had had its time
pub record AsksQuery (q : AnyQuery) (again most : ℕ) (answer : Option (List ℕ)) (s s1 : Shown) : Type 0 where
  pub awaits : Awaits q again most s s1
  pub answered : answer_after q s.asking awaits.turns ≡ answer
  pub over :
      answer ≡ None
      → is_over (tries_after q again most s.asking awaits.turns) (latest s.asking awaits.turns) ≡ true

-- turns were taken, and then no more was written
pub record StopsQuery (q : AnyQuery) (again most : ℕ) (fault : AskFault) (s s1 : Shown) : Type 0 where
  pub last : Shown
  pub awaits : Awaits q again most s last
  pub kept : Keeps last.written s1.written
  pub reason : StopsFor fault awaits.turns last s1
