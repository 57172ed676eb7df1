-- Where no request was opened, nothing is sent.
use Rattle.std.proofs.Common.{◌≡◌, ℕ, List, [], ◌∷◌, ◌++◌, Option, None, Some, filter, inl, inr, refl, ap, append-nil, ◌∙◌}
use Rattle.std.specs.Io.KnownBytes.{Appends, Keeps}
use Rattle.std.proofs.KnownBytes.{Keeps-trans}
use Rattle.pldm_line.specs.Asked.{Shown, Turned, Listens, StopsLater, StopsListening}
use Rattle.pldm_line.specs.Turns.{Asking, Turn, after_turns, all_sent, frames_of, heard, moment_of, received, sent_frames}
use Rattle.pldm_line.specs.declared.ask_fault.AskFault.{AskFault}
use Rattle.pldm_line.specs.Serving.{packets_in}
use Rattle.pldm_requester.specs.Courses.{is_sent_again}
use Rattle.pldm_requester.specs.Steps.{RequesterState, passes, received_held, recent_numbers}

same_count : (held : RequesterState) (moment : ℕ) (packets : List (List ℕ)) → (received held moment packets).count ≡ held.count
same_count held moment [] = refl
same_count held moment (packet ∷ packets) = same_count (received_held held moment packet) moment packets

heard_count : (a : Asking) (turn : Turn) → a.held.count ≡ 0 → (heard a turn).count ≡ 0
heard_count a turn none = same_count a.held (moment_of a turn) (packets_in a.reading turn.bytes) ∙ none

silent_turn : (a : Asking) (turn : Turn) → a.held.count ≡ 0 → sent_frames a turn ≡ []
silent_turn a turn none =
    ap
    (λ n. frames_of (heard a turn) (filter (λ number. passes (is_sent_again (heard a turn).timing (moment_of a turn)) ((heard a turn).remembered number)) (recent_numbers n)))
    (heard_count a turn none)

silent_turns : (a : Asking) (turns : List Turn) → a.held.count ≡ 0 → (all_sent a turns ≡ []) × ((after_turns a turns).held.count ≡ 0)
silent_turns a [] none = (refl, none)
silent_turns a (turn ∷ turns) none =
    let before = silent_turns a turns none in (
      ap (λ (l : List ℕ). l ++ sent_frames (after_turns a turns) turn) before.0 ∙ silent_turn (after_turns a turns) turn before.1,
      heard_count (after_turns a turns) turn before.1,
    )

kept_where_none : (a b : Option (List ℕ)) (bytes : List ℕ) → bytes ≡ [] → Appends a b bytes → Keeps a b
kept_where_none None b bytes none wrote = tt
kept_where_none (Some x) None bytes none wrote = absurd wrote
kept_where_none (Some x) (Some y) bytes none wrote = wrote ∙ ap (λ (l : List ℕ). x ++ l) none ∙ append-nil x

turned_silent : (s : Shown) (turns : List Turn) (s1 : Shown) → s.asking.held.count ≡ 0 → Turned s turns s1
    → Keeps s.written s1.written × (s1.asking.held.count ≡ 0)
turned_silent s turns s1 none turned =
    let all = silent_turns s.asking turns none in (
      kept_where_none s.written s1.written (all_sent s.asking turns) all.0 turned.wrote,
      ap (λ (a : Asking). a.held.count) turned.asking ∙ all.1,
    )

pub listens_silent : (span : ℕ) (s s1 : Shown) → s.asking.held.count ≡ 0 → Listens span s s1 → Keeps s.written s1.written
listens_silent span s s1 none f =
    let first = turned_silent s (f.first ∷ []) f.begun none f.turned in
    let later = turned_silent f.begun f.goes.turns s1 first.1 f.goes.turned in
    Keeps-trans s.written f.begun.written s1.written first.0 later.0

later_silent : (span : ℕ) (fault : AskFault) (s s1 : Shown) → s.asking.held.count ≡ 0 → StopsLater span fault s s1 → Keeps s.written s1.written
later_silent span fault s s1 none f =
    let first = turned_silent s (f.first ∷ []) f.begun none f.turned in
    let later = turned_silent f.begun f.stops.goes.turns f.stops.last first.1 f.stops.goes.turned in
    Keeps-trans s.written f.begun.written s1.written first.0
    (Keeps-trans f.begun.written f.stops.last.written s1.written later.0 f.stops.kept)

pub stops_silent : (span : ℕ) (fault : AskFault) (s s1 : Shown) → s.asking.held.count ≡ 0 → StopsListening span fault s s1 → Keeps s.written s1.written
stops_silent span fault s s1 none (inl f) = f.kept
stops_silent span fault s s1 none (inr f) = later_silent span fault s s1 none f
