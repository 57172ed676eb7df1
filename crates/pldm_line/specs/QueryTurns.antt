-- One turn of a query, and what it sees of the packets.
use Rattle.std.specs.Io.KnownBytes.{Appends, Consumes}
use Rattle.std.specs.Option.{option_or}
use Rattle.std.specs.Prelude.{◌≡◌, ℕ, List, [], ◌∷◌, ◌++◌, Option, option_and_then}
use Rattle.mctp_control.specs.AnyQueries.{any_answer_in}
use Rattle.mctp_control.specs.declared.any_query.AnyQuery.{AnyQuery}
use Rattle.mctp_serial.specs.Readings.{Reading, step}
use Rattle.pldm_line.specs.Asked.{Shown, Turned}
use Rattle.pldm_line.specs.Queries.{query_frame}
use Rattle.pldm_line.specs.QueryTries.{is_again, tried_again}
use Rattle.pldm_line.specs.Turns.{Turn, after_turn, sent_frames}
use Rattle.pldm_line.specs.declared.tries.Tries.{Tries}
use Rattle.pldm_line.specs.Serving.{packets_in}

-- the query whose answer is wanted, if one is, and the message that answered it first
pub record WantedAnswer : Type 0 where
  pub query : Option AnyQuery
  pub answer : Option (List ℕ)

abbrev pub wanted_of : Option AnyQuery → Option (List ℕ) → WantedAnswer
wanted_of query answer = record { query = query; answer = answer }

-- a packet was seen, or packets were
abbrev pub seen : WantedAnswer → List ℕ → WantedAnswer
seen w packet = wanted_of w.query (option_or w.answer (option_and_then (λ q. any_answer_in q packet) w.query))

abbrev pub all_seen : WantedAnswer → List (List ℕ) → WantedAnswer
all_seen w [] = w
all_seen w (packet ∷ packets) = all_seen (seen w packet) packets

-- a byte was read, and where it ended the frame of a packet, that was seen: what is seen in more bytes is that of the
-- rest of them
pub record SeesByte (w : WantedAnswer) (r : Reading) (byte : ℕ) (w1 : WantedAnswer) : Type 0 where
  pub seen :
      (bytes : List ℕ)
      → all_seen w (packets_in r (byte ∷ bytes)) ≡ all_seen w1 (packets_in (step r byte).next bytes)

-- one turn was taken, and its packets were seen
pub record TakesTurnSeeing (w w1 : WantedAnswer) (s s1 : Shown) : Type 0 where
  pub turn : Turn
  pub turned : Turned s (turn ∷ []) s1
  pub seen : w1 ≡ all_seen w (packets_in s.asking.reading turn.bytes)

-- the same, and then the frame of the query went out where it goes out again
pub record TakesQueryTurn (q : AnyQuery) (w w1 : WantedAnswer) (tries tries1 : Tries) (s s1 : Shown) : Type 0 where
  pub turn : Turn
  pub asking : s1.asking ≡ after_turn s.asking turn
  pub read : Consumes s.left s1.left turn.bytes
  pub ticked : Consumes s.clock s1.clock (turn.clock ∷ [])
  pub wrote :
      Appends s.written s1.written
      (sent_frames s.asking turn ++ query_frame q (is_again tries s1.asking.held.last w1.answer))
  pub seen : w1 ≡ all_seen w (packets_in s.asking.reading turn.bytes)
  pub tried : tries1 ≡ tried_again (is_again tries s1.asking.held.last w1.answer) tries s1.asking.held.last
