-- What the flash was told to do, and what it reported, and when it may be told to do the next thing. Lists have the newest
-- first.
use Rattle.std.specs.Prelude.{◌≡◌, ℕ, ◌+◌, ◌<◌, ◌≤◌, Bool, true, false, ◌&&◌, ◌||◌, List, [], ◌∷◌, ◌++◌, length, Option, Some, None}
use Rattle.pldm_update.specs.declared.flash.FlashAction.{FlashAction}
use Rattle.pldm_update.specs.declared.flash.FlashAction.TheVariants as actions

pub data Deed : Type 0 where
  -- room is made for an image of this size
  Begins : (size : ℕ) → Deed
  -- these bytes are stored from this offset on
  Stores : (offset : ℕ) → (bytes : List ℕ) → Deed
  Verifies : Deed
  Applies : Deed
  Activates : Deed
  -- the image that was begun last is forgotten
  Abandons : Deed
  -- all that is not active is forgotten
  AbandonsUpdate : Deed
  -- the last thing was done, well or not
  Reports : (well : Bool) → Deed
  -- the device began anew
  Restarts : Deed

abbrev pub deed_of : FlashAction → List ℕ → Deed
deed_of (actions.Begin size) bytes = Begins size
deed_of (actions.Store offset) bytes = Stores offset bytes
deed_of actions.Verify bytes = Verifies
deed_of actions.Apply bytes = Applies
deed_of actions.Activate bytes = Activates
deed_of actions.Abandon bytes = Abandons
deed_of actions.AbandonUpdate bytes = AbandonsUpdate

-- the size of the image that is under way
abbrev pub size_begun : List Deed → Option ℕ
size_begun [] = None
size_begun (Begins size ∷ past) = Some size
size_begun (Activates ∷ past) = None
size_begun (Abandons ∷ past) = None
size_begun (AbandonsUpdate ∷ past) = None
size_begun (Restarts ∷ past) = None
size_begun (deed ∷ past) = size_begun past

-- the bytes of it that were stored, in their order
abbrev pub image : List Deed → List ℕ
image [] = []
image (Begins size ∷ past) = []
image (Stores offset bytes ∷ past) = image past ++ bytes
image (deed ∷ past) = image past

-- whether it was to be verified already
abbrev pub has_verified : List Deed → Bool
has_verified [] = false
has_verified (Begins size ∷ past) = false
has_verified (Verifies ∷ past) = true
has_verified (deed ∷ past) = has_verified past

abbrev pub is_apply : List Deed → Bool
is_apply (Applies ∷ past) = true
is_apply _ = false

-- whether something was applied, well, and neither activated nor forgotten since
abbrev pub has_applied : List Deed → Bool
has_applied [] = false
has_applied (Activates ∷ past) = false
has_applied (AbandonsUpdate ∷ past) = false
has_applied (Restarts ∷ past) = false
has_applied (Reports well ∷ past) = (well && is_apply past) || has_applied past
has_applied (deed ∷ past) = has_applied past

-- the last thing was done, well
abbrev pub WasDone : List Deed → Type 0
WasDone past = (before : List Deed) × (past ≡ Reports true ∷ before)

-- bytes are stored behind those that are stored, no more than the image has; verified is a whole image, once; applied is
-- what has just been verified, well; activated is only what was applied
abbrev pub MayCome : List Deed → Deed → Type 0
MayCome past (Begins size) = 0 < size
MayCome past (Stores offset bytes) =
    (size : ℕ) × (size_begun past ≡ Some size) × (offset ≡ length (image past)) × (0 < length bytes)
    × (offset + length bytes ≤ size) × (has_verified past ≡ false) × WasDone past
MayCome past Verifies = (size_begun past ≡ Some (length (image past))) × (has_verified past ≡ false) × WasDone past
MayCome past Applies = (before : List Deed) × (past ≡ Reports true ∷ Verifies ∷ before)
MayCome past Activates = has_applied past ≡ true
MayCome past _ = Unit {0}

-- each came when it might
abbrev pub AreInOrder : List Deed → Type 0
AreInOrder [] = Unit {0}
AreInOrder (deed ∷ past) = MayCome past deed × AreInOrder past
