-- The premises of the law are met by an update of an image in three pieces, over restarts and losses: both ends begin
-- anew after the first piece, and the device's numbers with them; then the piece of request 1 comes only when it was given
-- up and asked for by request 2, whose piece comes twice; request 3 comes twice and is answered twice, and one answer is
-- lost; bytes that no agent gave come for a request that is not open. Lists have the newest first.
use Rattle.std.proofs.Common.{◌≡◌, ℕ, zero, suc, ◌+◌, true, List, [], ◌∷◌, length, Some, refl, arith}
use Rattle.pldm_wire.specs.declared.assigned.TheConstants.{SUCCESS}
use Rattle.pldm_update.specs.declared.agent_stage.DeviceReply.TheVariants.{Taken}
use Rattle.pldm_update.specs.declared.device_stage.DeviceRequest.TheVariants.{Piece, TransferComplete}
use Rattle.pldm_update.specs.declared.flash.FlashAction.TheVariants.{Verify}
use Rattle.pldm_update.specs.AgentCalls as agents
use Rattle.pldm_update.specs.Deeds.{image, size_begun}
use Rattle.pldm_update.specs.DeviceCalls as devices
use Rattle.pldm_update.specs.DeviceCalls.{deeds, machine}
use Rattle.pldm_update.specs.DeviceLaws.{VerifiedIsWhole}
use Rattle.pldm_update.specs.ImagePieces.{piece}
use Rattle.pldm_update.specs.UpdateRuns.{AgentBegins, AtAgent, AtDevice, Happening, IsRun, Serves, device_calls, given_to, question_of}
use Rattle.pldm_update.proofs.OfferedOne.{image_is_the_offered_one}

-- so many bytes, each one more than the last
abbrev counted : ℕ → ℕ → List ℕ
counted zero next = []
counted (suc count) next = next ∷ counted count (next + 1)

abbrev file : List ℕ
file = counted 70 1

abbrev IsRunOfIt : List Happening → Type 0
IsRunOfIt = IsRun file 0 0 1

-- agent 8 offers its one component, and the device makes room for it, as its step with this number
abbrev offered : ℕ → List Happening → List Happening
offered step past =
    AtDevice (devices.Done step true) ∷ AtAgent (agents.Answered 2 30 Taken)
    ∷ AtDevice (devices.UpdateComponent 8 30 70 (Some 4096)) ∷ AtAgent (agents.Opened 2 30)
    ∷ AtAgent (agents.Answered 1 20 Taken) ∷ AtDevice (devices.PassComponent 8 20 5) ∷ AtAgent (agents.Opened 1 20)
    ∷ AtAgent (agents.Answered 0 10 Taken) ∷ AtDevice (devices.RequestUpdate 8 10 32 1) ∷ AtAgent (agents.Opened 0 10)
    ∷ past

-- the device is handed these bytes as the answer to a request
abbrev takes : ℕ → List ℕ → Happening
takes number bytes = AtDevice (devices.Answered number 50 SUCCESS bytes)

abbrev opens : ℕ → Happening
opens number = AtDevice (devices.Opened number 40)

abbrev serves : ℕ → Happening
serves number = Serves number 45 32

abbrev stored : ℕ → Happening
stored step = AtDevice (devices.Done step true)

-- the first piece is stored, and the second is given when both ends begin anew
abbrev begun_anew : List Happening
begun_anew =
    AgentBegins 60 1 ∷ AtDevice (devices.Restart 100)
    ∷ serves 2 ∷ opens 2
    ∷ stored 2 ∷ takes 1 (piece file 0 32) ∷ serves 1 ∷ opens 1 ∷ offered 1 []

-- the piece of request 1 does not come; that of request 2 comes twice
abbrev one_lost : List Happening
one_lost =
    takes 2 (piece file 0 32) ∷ stored 102 ∷ takes 2 (piece file 0 32) ∷ serves 2 ∷ opens 2
    ∷ AtDevice (devices.GaveUp 1) ∷ serves 1 ∷ opens 1 ∷ offered 101 begun_anew

-- request 3 is answered twice; the piece of request 1 comes at last, and so does what no agent gave
abbrev one_late : List Happening
one_late =
    stored 103 ∷ takes 3 (piece file 32 32) ∷ takes 2 (9 ∷ []) ∷ takes 1 (piece file 0 32) ∷ serves 3 ∷ serves 3 ∷ opens 3
    ∷ one_lost

-- the last piece comes, and the device says that it has all
abbrev all_taken : List Happening
all_taken =
    AtAgent (agents.TransferComplete 55 true) ∷ opens 5
    ∷ stored 104 ∷ takes 4 (piece file 64 6) ∷ serves 4 ∷ opens 4 ∷ one_late

-- the agent's answer to that
abbrev last_call : devices.Call
last_call = devices.Answered 5 58 SUCCESS []

-- ---- each thing may happen
run_begun : IsRunOfIt (offered 101 begun_anew)
run_begun _ = (tt, λ _. (tt, λ begins. absurd (cc)))

run_lost : IsRunOfIt one_lost
run_lost _ = (
  λ offset count well is_open asks. (0, omega arith, refl),
  λ _. (
    tt,
    λ _. (
      λ offset count well is_open asks. (0, omega arith, refl),
      λ _. (tt, λ _. (tt, λ _. (tt, λ _. (tt, λ _. (tt, run_begun))))),
    ),
  ),
)

run_late : IsRunOfIt one_late
run_late _ = (
  tt,
  λ _. (
    λ offset count well is_open asks. (1, omega arith, refl),
    λ _. (
      λ offset count well is_open asks. absurd (cc),
      λ _. (λ offset count well is_open asks. (0, omega arith, refl), λ _. (tt, λ _. (tt, λ _. (tt, run_lost)))),
    ),
  ),
)

pub is_met : IsRunOfIt all_taken
is_met _ = (tt, λ _. (tt, λ _. (tt, λ _. (λ offset count well is_open asks. (0, omega arith, refl), λ _. (tt, λ _. (tt, run_late))))))

-- ---- what has happened by then
-- request 2 asked for the second piece before both ends began anew, and for the first one after it
asked_before : question_of 0 begun_anew 2 ≡ Some (Piece 32 32)
asked_before = refl

asked_after : question_of 0 one_lost 2 ≡ Some (Piece 0 32)
asked_after = refl

given_twice : given_to file 0 0 1 one_late 3 ≡ piece file 32 32 ∷ piece file 32 32 ∷ []
given_twice = refl

asks_for_the_last : question_of 0 all_taken 4 ≡ Some (Piece 64 6)
asks_for_the_last = refl

says_that_it_has_all : question_of 0 all_taken 5 ≡ Some (TransferComplete true)
says_that_it_has_all = refl

-- ---- the premises, and what follows from them
size_is : size_begun (deeds 0 (device_calls all_taken)) ≡ Some (length file)
size_is = refl

is_to_verify : (devices.happens (machine 0 (device_calls all_taken)) last_call).action ≡ Some Verify
is_to_verify = refl

is_the_file : VerifiedIsWhole → image (deeds 0 (device_calls all_taken)) ≡ file
is_the_file whole = image_is_the_offered_one whole file 0 0 1 all_taken last_call is_met size_is is_to_verify

-- it is so by computation too
stored_is : image (deeds 0 (device_calls all_taken)) ≡ file
stored_is = refl
