-- The frames of requests and of packets, one further; and of requests before a tick and after it.
use Rattle.std.proofs.Common.{◌≡◌, ℕ, ◌+◌, ◌<◌, Bool, true, false, arith, List, [], ◌∷◌, ◌++◌, length, take, get_or, slice_get, cond, Option, Some, None, option_map, refl, ap, ◌∙◌, append-nil}
use Rattle.std.specs.List.{flat_map}
use Rattle.std.specs.Prelude.{◌==◌, ◌&&◌, nat_lt, nat_le}
use Rattle.std.proofs.lemmas.Bool.{and_from, cond-true, eq-eqb, le-leb, lt-ltb}
use Rattle.pldm_requester.specs.Pacing.{kept}
use Rattle.pldm_requester.specs.declared.pace.Pace.{Pace}
use Rattle.std.proofs.lemmas.Grind.{flat_map-append, take_at_read}
use Rattle.std.proofs.lemmas.Option.{get_or_from_slice_get, slice_get_within}
use Rattle.pldm_line.specs.Turns.{framed, frames_of, memo_frames}
use Rattle.pldm_requester.specs.Courses.{Course, ticked}
use Rattle.pldm_requester.specs.Numbering.{packets_of}
use Rattle.pldm_requester.specs.Steps.{RequesterState, Memo, at_hand, is_kept, is_recent, is_there, outline_if, new_memo, opened_held, ticked_held, with_course}
use Rattle.pldm_wire.specs.declared.command.Command.{Command}

one_further : {A : Type 0} (text : A → List ℕ) (xs : List A) (i : ℕ) (d x : A) → i < length xs → get_or xs i d ≡ x
    → flat_map text (take (i + 1) xs) ≡ flat_map text (take i xs) ++ text x
one_further {A} text xs i d x within at =
    ap (flat_map text) ((take_at_read xs i d within).1 ∙ ap (λ (y : A). take i xs ++ y ∷ []) at)
    ∙ flat_map-append text (take i xs) (x ∷ [])
    ∙ ap (λ l. flat_map text (take i xs) ++ l) (append-nil (text x))

pub packet_further : (packets : List (List ℕ)) (i : ℕ) (packet : List ℕ) → slice_get packets i ≡ Some packet
    → flat_map framed (take (i + 1) packets) ≡ flat_map framed (take i packets) ++ framed packet
packet_further packets i packet at =
    one_further framed packets i [] packet (slice_get_within packets i packet at) (get_or_from_slice_get packets i packet [] at)

pub request_further : (held : RequesterState) (numbers : List ℕ) (i : ℕ) → i < length numbers
    → frames_of held (take (i + 1) numbers) ≡ frames_of held (take i numbers) ++ memo_frames (at_hand held (get_or numbers i 0))
request_further held numbers i within =
    one_further (λ number. memo_frames (at_hand held number)) numbers i 0 (get_or numbers i 0) within refl

-- a tick changes no packets
same_packets : (change : Course → Course) (b : Bool) (memo : Option Memo) → memo_frames (cond b (option_map (with_course change) memo) None) ≡ memo_frames (cond b memo None)
same_packets change true None = refl
same_packets change true (Some memo) = refl
same_packets change false memo = refl

pub frames_same : (held : RequesterState) (moment : ℕ) (numbers : List ℕ) → frames_of (ticked_held held moment) numbers ≡ frames_of held numbers
frames_same held moment [] = refl
frames_same held moment (number ∷ numbers) =
    ap (λ l. l ++ frames_of (ticked_held held moment) numbers) (same_packets (ticked held.timing moment) (is_there held number) (held.remembered number))
    ∙ ap (λ l. memo_frames (at_hand held number) ++ l) (frames_same held moment numbers)

-- a request that was just opened
new_kept : (pace : Pace) (n : ℕ) → is_kept pace (n + 1) n ≡ true
new_kept pace n = go pace.brief
  where
    go : (b : Bool) → nat_le (n + 1) (n + cond b 8 32) ≡ true
    go true = le-leb (n + 1) (n + 8) (omega arith)
    go false = le-leb (n + 1) (n + 32) (omega arith)

new_there : (held : RequesterState) → (is_recent (held.count + 1) held.count && is_kept held.pace (held.count + 1) held.count) ≡ true
new_there held =
    and_from (is_recent (held.count + 1) held.count) (is_kept held.pace (held.count + 1) held.count)
    (and_from (nat_lt held.count (held.count + 1)) (nat_le (held.count + 1) (held.count + 32)) (lt-ltb held.count (held.count + 1) (omega arith)) (le-leb (held.count + 1) (held.count + 32) (omega arith)))
    (new_kept held.pace held.count)

pub opened_frames : (held : RequesterState) (moment : ℕ) (command : Command) → memo_frames (at_hand (opened_held held moment command) held.count)
    ≡ flat_map framed (packets_of held.own held.device held.count command)
opened_frames held moment command =
    ap memo_frames (cond-true (is_there (opened_held held moment command) held.count) _ _ (new_there held))
    ∙ ap (λ b. memo_frames (cond b (Some (new_memo held moment command)) (cond (is_recent (held.count + 1) held.count) (outline_if (held.count + kept held.pace == held.count) (held.remembered held.count)) None)))
    (eq-eqb held.count held.count refl)
