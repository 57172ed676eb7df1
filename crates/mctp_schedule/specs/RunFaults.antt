-- Why a schedule is not run: the first of its requesters whose timing is refused.
use Rattle.std.specs.Prelude.{ℕ, List, [], ◌∷◌, Option, Some, None}
use Rattle.pldm_requester.specs.Timings.{timing_fault}
use Rattle.pldm_requester.specs.declared.timing.TimingFault.{TimingFault}
use Rattle.mctp_schedule.specs.Worlds.{timing_from}
use Rattle.schedule_text.specs.declared.step.RequesterLine.{RequesterLine}
use Rattle.mctp_schedule.specs.declared.run_fault.RunFault.{RunFault}
use Rattle.mctp_schedule.specs.declared.run_fault.RunFault.TheVariants.{Timing, Memory}

abbrev pub number_of_run_fault : RunFault → ℕ
number_of_run_fault (Timing requester fault) = 1
number_of_run_fault (Memory memory) = 2

abbrev pub refusal_of : ℕ → Option TimingFault → Option RunFault → Option RunFault
refusal_of requester None later = later
refusal_of requester (Some fault) later = Some (Timing requester fault)

-- the first of these requesters whose timing is refused, for a device at the endpoint `device`
abbrev pub refusal : ℕ → ℕ → List RequesterLine → Option RunFault
refusal device keep [] = None
refusal device keep (line ∷ lines) =
    refusal_of line.eid (timing_fault line.eid device (timing_from keep (Some line))) (refusal device keep lines)
