-- A request that comes in time comes before its instance ID is used again.
use Rattle.std.proofs.Common.{◌+◌, ◌<◌, ◌≤◌, ⊎_elim, arith}
use Rattle.std.proofs.lemmas.Bool.{cases_lt}
use Rattle.pldm_requester.specs.Calls.{requests}
use Rattle.pldm_requester.specs.Laws.{IdsApart, OpenedBefore}
use Rattle.event_queue.specs.Laws.{ComesBeforeItsIdIsUsed}

pub comes_before : OpenedBefore → IdsApart → ComesBeforeItsIdIsUsed
comes_before before apart own device timing pace calls number moment order last below soon =
    let count = (requests own device timing pace calls).count in
    ⊎_elim
    (λ (used : number + 32 < count).
    let far = apart own device timing pace calls number (number + 32) order (omega arith) used (omega arith) in
    let now = before own device timing pace calls (number + 32) order used in
    absurd (omega arith))
    (λ (few : count ≤ number + 32). few)
    (cases_lt (number + 32) count)
