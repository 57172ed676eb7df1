-- The run over what an observer holds writes the same as the run that looks back over all packets.
use Rattle.std.proofs.Common.{◌≡◌, ℕ, ◌+◌, ◌==◌, ◌++◌, Bool, true, false, List, [], ◌∷◌, Option, Result, Ok, Err, refl, sym, subst, ap, ◌∙◌, lit≤}
use Rattle.std.specs.Prelude.{if◌then◌else◌}
use Rattle.line_words.specs.TextLines.{lines_of}
use Rattle.mctp_assembly.specs.Histories.{feed, IsLeftBy}
use Rattle.mctp_assembly.specs.Laws.{FeedLooksBack, NewLooksBack}
use Rattle.mctp_assembly.specs.Steps.{after}
use Rattle.mctp_assembly.specs.declared.fed.Fed.{Fed}
use Rattle.mctp_assembly.specs.declared.fed.Fed.TheVariants.{Whole, Partial, Dropped}
use Rattle.mctp_packet.specs.Packets.{Packet}
use Rattle.mctp_packet.specs.declared.packet.Route.{Route}
use Rattle.mctp_packet.specs.declared.TheConstants.{MAX_PACKETS}
use Rattle.mctpctl_input.specs.declared.binding.Binding.{Binding}
use Rattle.mctpctl_engines.specs.LinePackets.{packet_on}
use Rattle.mctpctl_input.specs.CaptureLine.{TimedPacket}
use Rattle.mctpctl_engines.specs.LinePieces.{lines_after, run_gives}
use Rattle.mctpctl_engines.specs.LineTasks.{task_writes}
use Rattle.mctpctl_engines.specs.declared.capture_lines.CaptureLines.{CaptureLines}
use Rattle.mctpctl_engines.specs.declared.line_run.LineRun.{LineRun}
use Rattle.mctpctl_engines.specs.declared.observer.Observer.{Observer}
use Rattle.mctpctl_engines.specs.LineRuns.{lines_written}
use Rattle.mctpctl_engines.specs.ObservedRuns.{Observed, none_observed, observed_of, given_at, open_with, observed_text, observed_with, observed_step}
use Rattle.mctpctl_engines.specs.MessageForms.{LooksBack, Message, whole_message, known_of, with_completed, with_read}
use Rattle.mctpctl_engines.specs.ShowText.{last_seen, fed_more, fed_to, gives_after, messages_of, seen_text, seen_with, seen_step, seen_run}
use Rattle.mctpctl_texts.specs.ShownLines.{packet_line, completed_text, shown_text}
use Rattle.mctpctl_engines.proofs.LineGlue.{none_kept}
use Rattle.mctpctl_engines.proofs.RunsOverLines.{SameStep, same_run}
use Rattle.mctpctl_engines.proofs.SameCaptures.{same_capture_step}

-- what is held is what the packets that came leave, at each destination, and what their messages leave
pub record IsLeft {H : Type 0} (with : H → Message → H) (none : H) (binding : Option Binding) (observed : Observed H) (seen : List TimedPacket) : Type 0 where
  pub binding_is : observed.binding ≡ binding
  pub last : observed.last ≡ last_seen seen
  pub open_at : (destination : ℕ) → IsLeftBy (observed.open_at destination) (fed_to binding destination seen)
  pub held : observed.held ≡ known_of with none (messages_of binding seen)

-- a message that completes is the newest of those before it
known_with : {H : Type 0} (with : H → Message → H) (none : H) (messages : List Message) (route : Route) (fed : Fed) → with_completed with (known_of with none messages) route fed ≡ known_of with none (with_completed (λ ms m. m ∷ ms) messages route fed)
known_with with none messages route (Whole body) = refl
known_with with none messages route Partial = refl
known_with with none messages route (Dropped reason) = refl

module _ {H : Type 0} (with : H → Message → H) (held_line : H → Message → List ℕ) (none : H) (line : List Message → Message → List ℕ) (sees : LooksBack line none with held_line) (feeds : FeedLooksBack) (binding : Option Binding) where
  same_fed : (observed : Observed H) (seen : List TimedPacket) (p : Packet) → IsLeft with none binding observed seen → given_at observed.open_at p ≡ gives_after binding seen p
  same_fed observed seen p left =
      (feeds MAX_PACKETS (observed.open_at p.route.destination) (fed_to binding p.route.destination seen) p (lit≤ tt) (left.open_at p.route.destination)).0

  same_line : (observed : Observed H) (seen : List TimedPacket) (m : Message) → IsLeft with none binding observed seen → held_line observed.held m ≡ line (messages_of binding seen) m
  same_line observed seen m left = ap (λ held. held_line held m) left.held ∙ sees (messages_of binding seen) m

  same_completed : (observed : Observed H) (seen : List TimedPacket) (route : Route) (fed : Fed) → IsLeft with none binding observed seen
      → completed_text (λ body. held_line observed.held (whole_message route body)) fed ≡ completed_text (λ body. line (messages_of binding seen) (whole_message route body)) fed
  same_completed observed seen route (Whole body) left = same_line observed seen (whole_message route body.items) left
  same_completed observed seen route Partial left = refl
  same_completed observed seen route (Dropped reason) left = refl

  same_text : (observed : Observed H) (seen : List TimedPacket) (moment : ℕ) (read : Result Packet (List ℕ)) → IsLeft with none binding observed seen
      → shown_text (λ route body. held_line observed.held (whole_message route body)) moment read (given_at observed.open_at) ≡ shown_text (λ route body. line (messages_of binding seen) (whole_message route body)) moment read (gives_after binding seen)
  same_text observed seen moment (Err words) left = refl
  same_text observed seen moment (Ok p) left =
      ap (λ fed. packet_line moment p fed ++ completed_text (λ body. held_line observed.held (whole_message p.route body)) fed) (same_fed observed seen p left)
      ∙ ap (λ text. packet_line moment p (gives_after binding seen p) ++ text) (same_completed observed seen p.route (gives_after binding seen p) left)

  left_by : (here : Bool) (observed : Observed H) (seen : List TimedPacket) (p : Packet) (destination : ℕ) → IsLeft with none binding observed seen
      → IsLeftBy (if here then after (observed.open_at destination) p else observed.open_at destination) (if here then feed p ∷ fed_to binding destination seen else fed_to binding destination seen)
  left_by true observed seen p destination left =
      (feeds MAX_PACKETS (observed.open_at destination) (fed_to binding destination seen) p (lit≤ tt) (left.open_at destination)).1
  left_by false observed seen p destination left = left.open_at destination

  left_with : (observed : Observed H) (seen : List TimedPacket) (read : Result Packet (List ℕ)) → IsLeft with none binding observed seen
      → (destination : ℕ) → IsLeftBy (open_with observed.open_at read destination) (fed_more destination read (fed_to binding destination seen))
  left_with observed seen (Err words) left destination = left.open_at destination
  left_with observed seen (Ok p) left destination = left_by (p.route.destination == destination) observed seen p destination left

  held_with_read : (observed : Observed H) (seen : List TimedPacket) (read : Result Packet (List ℕ)) → IsLeft with none binding observed seen
      → with_read with observed.held read (given_at observed.open_at) ≡ known_of with none (with_read (λ ms m. m ∷ ms) (messages_of binding seen) read (gives_after binding seen))
  held_with_read observed seen (Err words) left = left.held
  held_with_read observed seen (Ok p) left =
      ap (λ held. with_completed with held p.route (given_at observed.open_at p)) left.held
      ∙ ap (with_completed with (known_of with none (messages_of binding seen)) p.route) (same_fed observed seen p left)
      ∙ known_with with none (messages_of binding seen) p.route (gives_after binding seen p)

  step_left : (observed : Observed H) (seen : List TimedPacket) (moment : ℕ) (bytes : List ℕ) → IsLeft with none binding observed seen → IsLeft with none binding (observed_with with held_line observed moment bytes) (seen_with seen moment bytes)
  step_left observed seen moment bytes left = record {
    binding_is = left.binding_is;
    last = refl;
    open_at = λ destination.
        subst (λ on. IsLeftBy (open_with observed.open_at (packet_on on bytes) destination) (fed_more destination (packet_on binding bytes) (fed_to binding destination seen))) (sym left.binding_is) (left_with observed seen (packet_on binding bytes) left destination);
    held = ap (λ on. with_read with observed.held (packet_on on bytes) (given_at observed.open_at)) left.binding_is ∙ held_with_read observed seen (packet_on binding bytes) left;
  }

  same_step : (observed : Observed H) (seen : List TimedPacket) (text : List ℕ) → IsLeft with none binding observed seen → SameStep (IsLeft with none binding) (observed_step with held_line observed text) (seen_step binding line seen text)
  same_step =
      same_capture_step (λ observed. observed.last) (observed_text with held_line) (observed_with with held_line) last_seen (seen_text binding line) seen_with (IsLeft with none binding) (record {
        last = λ observed seen left. left.last;
        gives = λ observed seen moment bytes left.
            ap (λ on. shown_text (λ route body. held_line observed.held (whole_message route body)) moment (packet_on on bytes) (given_at observed.open_at)) left.binding_is ∙ same_text observed seen moment (packet_on binding bytes) left;
        with = step_left;
      })

  module _ (new : NewLooksBack) where
    none_left : IsLeft with none binding (none_observed none binding) []
    none_left = record { binding_is = refl; last = refl; open_at = λ destination. new MAX_PACKETS; held = refl }

    -- the run over what is held is the run that looks back
    run_looks_back : (is_cut : Bool) (text : List ℕ) → lines_written (observed_step with held_line) is_cut 1 (none_observed none binding) (lines_after [] text) ≡ seen_run binding line is_cut text
    run_looks_back is_cut text =
        ap (lines_written (observed_step with held_line) is_cut 1 (none_observed none binding)) (none_kept [] text refl)
        ∙ same_run (observed_step with held_line) (seen_step binding line) (IsLeft with none binding) same_step is_cut 1 (none_observed none binding) [] (lines_of text) none_left

    first_lines : (ended : ℕ) (observed : Observed H) (kept : List ℕ) → ended ≡ 0 → observed ≡ none_observed none binding → kept ≡ []
        → (λ is_cut text. lines_written (observed_step with held_line) is_cut (ended + 1) observed (lines_after kept text)) ≡ seen_run binding line
    first_lines ended observed kept first nothing empty = rw (first, nothing, empty) (λ i is_cut text. run_looks_back is_cut text i)

    -- at first the run gives the text of its input
    pub first_shows : {F : Type 0} (held_of : F → H) (run : LineRun (CaptureLines (Observer F))) (lines : CaptureLines (Observer F)) (observer : Observer F) (held : H)
        → run.taker ≡ lines → run.kept.items ≡ [] → lines.ended ≡ 0 → lines.task ≡ observer → observed_of held_of observer ≡ none_observed held binding → held ≡ none
        → run_gives (task_writes (observed_step with held_line) (observed_of held_of)) run ≡ seen_run binding line
    first_shows held_of run lines observer held taker empty first task nothing new_form =
        first_lines run.taker.ended (observed_of held_of run.taker.task) run.kept.items (ap (λ t. t.ended) taker ∙ first)
        (ap (λ t. observed_of held_of t.task) taker ∙ ap (observed_of held_of) task ∙ nothing ∙ ap (λ h. none_observed h binding) new_form) empty
