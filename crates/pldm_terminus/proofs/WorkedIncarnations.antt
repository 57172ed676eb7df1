-- The premises of the law over restarts are met: a requester opens a request, begins anew at 5,000, rests for twice the
-- keeping time, and opens one with the same instance ID.
use Rattle.std.proofs.Common.{ℕ, zero, suc, ◌+◌, ◌*◌, ◌<◌, ◌≤◌, [], ◌∷◌, refl, arith}
use Rattle.pldm_requester.specs.Calls.{Open}
use Rattle.pldm_requester.specs.Pacing.{at_default}
use Rattle.pldm_requester.specs.declared.pace.Pace.{Pace}
use Rattle.pldm_requester.specs.declared.timing.Timing.{Timing}
use Rattle.pldm_wire.specs.declared.command.Command.TheVariants.{GetTid}
use Rattle.pldm_terminus.specs.Laws.{ApartOverRestarts, AreRested, Incarnation, opening_in}

abbrev timing : Timing
timing = record { keep = 1000; timeout = 200; tries = 3 }

abbrev pace : Pace
pace = at_default 1000

abbrev before : Incarnation
before = record { begun = 0; calls = Open 2000 GetTid ∷ [] }

abbrev after : Incarnation
after = record { begun = 5000; calls = Open 7000 GetTid ∷ [] }

before_rested : (n : ℕ) → n < 1 → 0 + 2 * 1000 ≤ opening_in 8 9 timing pace before n
before_rested zero l = omega arith
before_rested (suc n) l = absurd (omega arith)

after_rested : (n : ℕ) → n < 1 → 5000 + 2 * 1000 ≤ opening_in 8 9 timing pace after n
after_rested zero l = omega arith
after_rested (suc n) l = absurd (omega arith)

rested : AreRested 8 9 timing pace (after ∷ before ∷ [])
rested = (
  record { order = (omega arith, tt); rested = after_rested; follows = (omega arith, omega arith) },
  (record { order = (omega arith, tt); rested = before_rested; follows = tt }, tt),
)

-- at its very end the rest is over
opened_apart : ApartOverRestarts → opening_in 8 9 timing pace before 0 + 2 * 1000 ≤ opening_in 8 9 timing pace after 0
opened_apart apart = apart 8 9 timing pace (after ∷ before ∷ []) 0 1 after before 0 0 rested (omega arith) refl refl (omega arith) (omega arith)
