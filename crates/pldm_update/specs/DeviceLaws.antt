-- What holds of a firmware device after every list of calls.
use Rattle.std.specs.Prelude.{◌≡◌, ℕ, Bool, true, false, List, [], ◌∷◌, length, take, drop, Option, Some}
use Rattle.pldm_wire.specs.declared.assigned.TheConstants.{SUCCESS}
use Rattle.pldm_update.specs.declared.flash.FlashAction.TheVariants.{Begin, Store, Verify}
use Rattle.pldm_update.specs.declared.flash.FlashAction.{FlashAction}
use Rattle.pldm_update.specs.declared.device_stage.DeviceRequest.TheVariants.{Piece}
use Rattle.pldm_update.specs.Machines.{Machine, is_agent}
use Rattle.pldm_update.specs.DeviceStages.{is_idle}
use Rattle.pldm_update.specs.DeviceAnswers.{only}
use Rattle.pldm_update.specs.Deeds.{AreInOrder, image, size_begun}
use Rattle.pldm_update.specs.DeviceCalls.{Call, Question, RequestUpdate, PassComponent, UpdateComponent, ActivateFirmware, CancelComponent, CancelUpdate, Answered, deeds, happens, last_asked, machine}

-- whatever comes, the flash is told each thing when it may come
abbrev pub FlashIsInOrder : Type 0
FlashIsInOrder = (latest : ℕ) (calls : List Call) → AreInOrder (deeds latest calls)

-- a call has a piece stored at an offset: it is the answer, with SUCCESS, to the request that was opened last, and this one
-- asked for just as many bytes from that offset on
pub record IsOwnPiece (latest : ℕ) (past : List Call) (call : Call) (offset : ℕ) : Type 0 where
  pub number : ℕ
  pub now : ℕ
  pub bytes : List ℕ
  pub call_is : call ≡ Answered number now SUCCESS bytes
  pub asked : last_asked latest past ≡ Some (record { number = number; request = Piece offset (length bytes) })

abbrev pub PiecesAreOwn : Type 0
PiecesAreOwn =
    (latest : ℕ) (past : List Call) (call : Call) (offset : ℕ)
    → (happens (machine latest past) call).action ≡ Some (Store offset)
    → IsOwnPiece latest past call offset

-- a command of an endpoint other than the agent of the update that is under way
abbrev pub IsOfAnother : Machine → Call → Type 0
IsOfAnother m (RequestUpdate source now most total) = Unit {0}
IsOfAnother m (PassComponent source now part) = is_agent m source ≡ false
IsOfAnother m (UpdateComponent source now size room) = is_agent m source ≡ false
IsOfAnother m (ActivateFirmware source now) = is_agent m source ≡ false
IsOfAnother m (CancelComponent source now) = is_agent m source ≡ false
IsOfAnother m (CancelUpdate source) = is_agent m source ≡ false
IsOfAnother m _ = ⊥

-- it changes nothing, and neither does another RequestUpdate
abbrev pub OneAgentAtATime : Type 0
OneAgentAtATime =
    (m : Machine) (call : Call) → is_idle m.stage ≡ false → IsOfAnother m call → happens m call ≡ only m

-- a call answers the request that is open, the one that was opened last, where this one asked for a piece: with the bytes
-- of the image from that offset on
abbrev pub IsServed : List ℕ → Machine → Option Question → Call → Type 0
IsServed file m last (Answered number now code bytes) =
    (offset count : ℕ) → m.asked ≡ Some number → last ≡ Some (record { number = number; request = Piece offset count })
    → code ≡ SUCCESS → length bytes ≡ count → bytes ≡ take count (drop offset file)
IsServed file m last call = Unit {0}

-- a call begins a transfer
abbrev pub begins : Option FlashAction → Bool
begins (Some (Begin size)) = true
begins _ = false

-- since the last transfer began, each piece was answered from the image
module _ (file : List ℕ) (latest : ℕ) where
  abbrev pub IsServedSince : List Call → Type 0
  IsServedSince [] = Unit {0}
  IsServedSince (call ∷ past) =
      begins (happens (machine latest past) call).action ≡ false
      → IsServed file (machine latest past) (last_asked latest past) call × IsServedSince past

-- then what is stored is the image's own beginning, byte for byte, and what is verified is the whole image
abbrev pub ImageIsTheOffered : Type 0
ImageIsTheOffered =
    (file : List ℕ) (latest : ℕ) (calls : List Call) → IsServedSince file latest calls
    → image (deeds latest calls) ≡ take (length (image (deeds latest calls))) file

abbrev pub VerifiedIsWhole : Type 0
VerifiedIsWhole =
    (file : List ℕ) (latest : ℕ) (past : List Call) (call : Call) → IsServedSince file latest past
    → size_begun (deeds latest past) ≡ Some (length file)
    → (happens (machine latest past) call).action ≡ Some Verify
    → image (deeds latest past) ≡ file
