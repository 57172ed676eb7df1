-- Two requests of one endpoint, with instance IDs 0 and 1: the first is delivered, then the second, then the first
-- again. A window of two takes that for a copy, and the log is timely. A window of one performs the first request
-- again, and the log is not timely for it; it is where the first is delivered again before the second.
use Rattle.std.proofs.Common.{◌≡◌, true, false, List, [], ◌∷◌, refl}
use Rattle.pldm_wire.specs.declared.restart_policy.RestartPolicy.TheVariants.{All}
use Rattle.mctp_schedule.specs.FirstArrivals.{has_arrived}
use Rattle.mctp_schedule.specs.Logs.{Asked, Happening, Opened, Delivered, message_at, reached}
use Rattle.pldm_responder.specs.Events.{is_copy, is_fresh}
use Rattle.mctp_schedule.specs.Timely.{ids_arrived, is_in_window}

abbrev No : Type 0
No = Unit {0}

abbrev first_asked : Asked
first_asked = record { source = 9; own = 0; opening = 0; message = 1 ∷ 128 ∷ 2 ∷ 57 ∷ [] }

abbrev second_asked : Asked
second_asked = record { source = 9; own = 1; opening = 0; message = 1 ∷ 129 ∷ 2 ∷ 57 ∷ [] }

abbrev once : List Happening
once = Delivered 10 0 ∷ Opened second_asked ∷ Opened first_asked ∷ []

abbrev both : List Happening
both = Delivered 11 1 ∷ once

arrived : has_arrived No 1000 both 0 ≡ true
arrived = refl

ids : ids_arrived No 1000 both 9 ≡ 1 ∷ 0 ∷ []
ids = refl

two : is_in_window No 2 1000 both first_asked ≡ true
two = refl

one : is_in_window No 1 1000 both first_asked ≡ false
one = refl

one_before : is_in_window No 1 1000 once first_asked ≡ true
one_before = refl

copied_by_two : is_copy All 2 1000 (reached {S = No} both) (message_at 12 first_asked) ≡ true
copied_by_two = refl

again_by_one : is_fresh All 1 1000 (reached {S = No} both) (message_at 12 first_asked) ≡ true
again_by_one = refl

copied_by_one_before : is_copy All 1 1000 (reached {S = No} once) (message_at 12 first_asked) ≡ true
copied_by_one_before = refl
