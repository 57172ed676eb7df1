-- A turn of a query, by its parts: the turn, and what went out after it.
use Rattle.std.proofs.Common.{◌≡◌, ℕ, Bool, List, Option, ◌++◌, subst}
use Rattle.std.proofs.KnownBytes.{Appends-trans}
use Rattle.std.specs.Io.KnownBytes.{Appends}
use Rattle.mctp_control.specs.declared.any_query.AnyQuery.{AnyQuery}
use Rattle.pldm_line.specs.Asked.{Shown}
use Rattle.pldm_line.specs.Queries.{query_frame}
use Rattle.pldm_line.specs.QueryTries.{is_again, tried_again}
use Rattle.pldm_line.specs.QueryTurns.{TakesQueryTurn, TakesTurnSeeing, WantedAnswer}
use Rattle.pldm_line.specs.Turns.{sent_frames}
use Rattle.pldm_line.specs.declared.tries.Tries.{Tries}

pub query_turn_taken : (q : AnyQuery) (w w1 : WantedAnswer) (tries tries1 : Tries) (s mid : Shown) (written : Option (List ℕ)) (goes : Bool) (now : ℕ)
    → TakesTurnSeeing w w1 s mid → now ≡ mid.asking.held.last → goes ≡ is_again tries now w1.answer
    → Appends mid.written written (query_frame q goes) → tries1 ≡ tried_again goes tries now
    → TakesQueryTurn q w w1 tries tries1 s (record mid { written = written })
query_turn_taken q w w1 tries tries1 s mid written goes now seen at again wrote tried =
    let again_then : goes ≡ is_again tries mid.asking.held.last w1.answer =
    subst (λ (n : ℕ). goes ≡ is_again tries n w1.answer) at again in
    let tried_then : tries1 ≡ tried_again goes tries mid.asking.held.last =
    subst (λ (n : ℕ). tries1 ≡ tried_again goes tries n) at tried in
    record {
      turn = seen.turn;
      asking = seen.turned.asking;
      read = seen.turned.read;
      ticked = seen.turned.ticked;
      wrote =
          subst (λ (g : Bool). Appends s.written written (sent_frames s.asking seen.turn ++ query_frame q g)) again_then
          (Appends-trans s.written mid.written written (sent_frames s.asking seen.turn) (query_frame q goes) seen.turned.wrote wrote);
      seen = seen.seen;
      tried = subst (λ (g : Bool). tries1 ≡ tried_again g tries mid.asking.held.last) again_then tried_then;
    }
