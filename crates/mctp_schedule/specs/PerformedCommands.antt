-- Which commands the device performs, the newest first: that of each request, where it carries one, at each of its
-- deliveries that is fresh at the responder; and, where each is performed once, at its first arrival alone.
use Rattle.std.specs.Prelude.{ℕ, List, [], ◌∷◌, ◌++◌, Bool, Option, Some, None, if◌then◌else◌}
use Rattle.pldm_responder.specs.Performing.{commands_of}
use Rattle.pldm_wire.specs.declared.command.Command.{Command}
use Rattle.mctp_schedule.specs.FirstArrivals.{fresh_of, is_first}
use Rattle.mctp_schedule.specs.Logs.{Asked, Happening, Delivered, asked_at, reached}
use Rattle.mctp_schedule.specs.Actions.{Action}
use Rattle.mctp_schedule.specs.Actions.{Open, Tick, Request, Reply, Sense, Restart, Busy}

-- the command of a request that was opened, if it is performed
abbrev pub commands_if : Bool → Option Asked → List Command
commands_if performed None = []
commands_if performed (Some r) = if performed then commands_of r.message else []

-- over a device with states S
module _ (S : Type 0) where
  -- the commands that the device performs at a delivery of request k
  abbrev pub commands_at_delivery : (window keep : ℕ) → List Happening → ℕ → ℕ → List Command
  commands_at_delivery window keep past moment k =
      commands_if (fresh_of window keep (reached {S = S} past) moment (asked_at past k)) (asked_at past k)

  -- all that it performed
  abbrev pub commands_performed : (window keep : ℕ) → List Happening → List Command
  commands_performed window keep [] = []
  commands_performed window keep (Delivered moment k ∷ past) =
      commands_at_delivery window keep past moment k ++ commands_performed window keep past
  commands_performed window keep (_ ∷ past) = commands_performed window keep past

  -- what it performs where each request that arrived is performed once, at its first arrival
  abbrev pub commands_once : ℕ → List Happening → List Command
  commands_once keep [] = []
  commands_once keep (Delivered moment k ∷ past) =
      commands_if (is_first S keep past moment k) (asked_at past k) ++ commands_once keep past
  commands_once keep (_ ∷ past) = commands_once keep past

  -- the commands that a step has performed after what happened on the link: a delivery alone performs any
  abbrev pub commands_at_step : (window keep : ℕ) → List Happening → ℕ → Action → List Command
  commands_at_step window keep log moment (Request k) = commands_at_delivery window keep log moment k
  commands_at_step window keep log moment (Open e ask) = []
  commands_at_step window keep log moment (Tick e) = []
  commands_at_step window keep log moment (Reply j k) = []
  commands_at_step window keep log moment (Sense id value) = []
  commands_at_step window keep log moment Restart = []
  commands_at_step window keep log moment (Busy k) = []
