-- How a request stands, as the code keeps it and as it returns it.
use Rattle.std.specs.Global.{Global}
use Rattle.std.specs.Prelude.{ℕ, List, [], Option, Some, None, Box}
use Rattle.pldm_requester.specs.Courses as courses
use Rattle.pldm_requester.specs.declared.remembered.Content.{Content}
use Rattle.pldm_requester.specs.declared.remembered.Progress.{Progress}
use Rattle.pldm_requester.specs.declared.remembered.Progress.TheVariants.{Waiting, Answered, GaveUp}
use Rattle.pldm_requester.specs.declared.results.Status.{Status}
use Rattle.pldm_requester.specs.declared.results.Status.TheVariants as status

-- the packets and the answer, where they are kept
abbrev pub packets_in : Option (Box Content Global) → List (List ℕ)
packets_in None = []
packets_in (Some content) = content.value.packets

abbrev pub answer_in : Option (Box Content Global) → List ℕ
answer_in None = []
answer_in (Some content) = content.value.answer.items

-- with this answer, where there is one
abbrev pub progress_of : Progress → List ℕ → courses.Progress
progress_of Waiting answer = courses.Waiting
progress_of Answered answer = courses.Answered answer
progress_of GaveUp answer = courses.GaveUp

abbrev pub progress_in_status : Status → courses.Progress
progress_in_status status.Open = courses.Waiting
progress_in_status (status.Answered message) = courses.Answered message.now
progress_in_status status.GaveUp = courses.GaveUp
