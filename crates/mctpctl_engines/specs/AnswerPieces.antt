-- A line of a capture with no bytes gives nothing.
use Rattle.std.specs.Prelude.{◌≡◌, Bool, true, false, [], ◌∷◌, refl}
use Rattle.mctpctl_engines.specs.HeldRuns.{held_run}
use Rattle.mctpctl_input.specs.CaptureLine.{capture_of}
use Rattle.pldm_device.specs.declared.description.Description.{Description}

pub blank_capture : (description : Description) (is_cut : Bool)
    → held_run description is_cut [] ≡ held_run description is_cut ([] ∷ [])
unfolding capture_of
blank_capture description true = refl
blank_capture description false = refl
