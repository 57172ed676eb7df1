-- The moments of steps, in runs of one moment each.
use Rattle.std.specs.Prelude.{ℕ, ◌<◌, List, replicate}
use Rattle.std.specs.List.{AllByRecursion, flat_map}
use Rattle.schedule_text.specs.declared.moments.MomentRun.{MomentRun}

-- the moment of a run, as often as a step has it
abbrev pub moments_of : MomentRun → List ℕ
moments_of run = replicate run.count run.moment

abbrev pub moments_in : List MomentRun → List ℕ
moments_in runs = flat_map moments_of runs

-- each run is of a step or more
abbrev pub HaveSteps : List MomentRun → Type 0
HaveSteps runs = AllByRecursion (λ run. 0 < run.count) runs
