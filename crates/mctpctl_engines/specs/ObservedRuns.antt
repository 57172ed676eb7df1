-- What an observer makes of the lines of a capture, over what it holds.
use Rattle.std.specs.FinMap as map
use Rattle.std.specs.Prelude.{ℕ, ◌==◌, if◌then◌else◌, List, Option, unwrap_or, Result, Ok, Err}
use Rattle.std.specs.BTreeMap.{is_at}
use Rattle.std.specs.Map.{lookup}
use Rattle.std.specs.Ordering.{nat_cmp}
use Rattle.mctp_assembly.specs.Steps.{OpenMessages, answer, after}
use Rattle.mctp_assembly.specs.declared.fed.Fed.{Fed}
use Rattle.mctp_packet.specs.Packets.{Packet}
use Rattle.mctpctl_input.specs.declared.binding.Binding.{Binding}
use Rattle.mctpctl_engines.specs.CaptureRuns.{capture_step}
use Rattle.mctpctl_texts.specs.ShownLines.{shown_text}
use Rattle.mctpctl_input.specs.declared.faults.LineKind.{LineKind}
use Rattle.mctpctl_engines.specs.LinePackets.{packet_on}
use Rattle.mctpctl_engines.specs.MessageForms.{Message, whole_message, with_read}
use Rattle.mctpctl_engines.specs.declared.observer.Observer.{Observer}

-- which frames stand on the lines, the moment of the last packet, what is open at each destination, and what is held of
-- the whole messages
pub record Observed (H : Type 0) : Type 0 where
  pub binding : Option Binding
  pub last : ℕ
  pub open_at : ℕ → OpenMessages
  pub held : H

-- what is held by the assemblers, of which a destination without one has nothing open
abbrev pub open_in : List (ℕ × OpenMessages) → ℕ → OpenMessages
open_in assemblers destination = unwrap_or (lookup (is_at (nat_cmp destination)) assemblers) map.empty

-- `held_of` says what a form holds
abbrev pub observed_of : {F H : Type 0} → (F → H) → Observer F → Observed H
observed_of held_of observer =
    record {
      binding = observer.binding;
      last = observer.last;
      open_at = open_in observer.assemblers.entries;
      held = held_of observer.form;
    }

-- nothing has come, of which this is held
abbrev pub none_observed : {H : Type 0} → H → Option Binding → Observed H
none_observed none binding = record { binding = binding; last = 0; open_at = λ destination. map.empty; held = none }

-- what a packet gives at its destination
abbrev pub given_at : (ℕ → OpenMessages) → Packet → Fed
given_at open_at p = answer (open_at p.route.destination) p

-- what is open at each destination after it
abbrev pub open_after : (ℕ → OpenMessages) → Packet → ℕ → OpenMessages
open_after open_at p destination =
    if p.route.destination == destination then after (open_at destination) p else open_at destination

-- bytes that spell no packet change nothing
abbrev pub open_with : (ℕ → OpenMessages) → Result Packet (List ℕ) → ℕ → OpenMessages
open_with open_at (Err words) = open_at
open_with open_at (Ok p) = open_after open_at p

-- `with` puts a whole message to what is held, and `held_line` says how its line is written over what was held before
module _ {H : Type 0} (with : H → Message → H) (held_line : H → Message → List ℕ) where
  abbrev pub observed_with : Observed H → ℕ → List ℕ → Observed H
  observed_with observed moment bytes =
      record {
        binding = observed.binding;
        last = moment;
        open_at = open_with observed.open_at (packet_on observed.binding bytes);
        held = with_read with observed.held (packet_on observed.binding bytes) (given_at observed.open_at);
      }

  abbrev pub observed_text : Observed H → ℕ → List ℕ → List ℕ
  observed_text observed moment bytes =
      shown_text (λ route body. held_line observed.held (whole_message route body)) moment
      (packet_on observed.binding bytes) (given_at observed.open_at)

  -- what one line gives
  abbrev pub observed_step : Observed H → List ℕ → Result (List ℕ × Observed H) LineKind
  observed_step = capture_step (λ observed. observed.last) observed_text observed_with
