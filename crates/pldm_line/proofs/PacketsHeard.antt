-- A packet was heard as it came at the responder, at the moment of its reading.
use Rattle.std.proofs.Common.{◌≡◌, ℕ, List, [], ◌∷◌, sym, ap, subst, ◌∙◌}
use Rattle.std.specs.Io.KnownBytes.{Appends, Consumes}
use Rattle.std.specs.List.{FoldsTo}
use Rattle.pldm_line.specs.Events.{Seen, Came}
use Rattle.pldm_line.specs.Heard.{Shown, HearsAt, HearsPacket}
use Rattle.pldm_line.specs.Serving.{answerers_after, frames_of, moment_after}
use Rattle.pldm_line.specs.Seen.{outcome_seen}
use Rattle.pldm_responder.specs.Performing.{Rules}
use Rattle.pldm_responder.specs.Steps.{received_commands, received_held, received_outcome}
use Rattle.pldm_responder.specs.declared.outcome.Outcome.{Outcome}
use Rattle.pldm_wire.specs.declared.command.Command.{Command}

pub packet_heard : {P S L : Type 0} (performing : P → List Command → P → Type 0) (device : Rules S) (sees : L → Seen → L → Type 0) (s : Shown P S L) (packet : List ℕ) (s1 : Shown P S L)
    (reading now : ℕ) (came : L) (outcome : Outcome)
    → now ≡ moment_after s.answering.held.last reading → Consumes s.clock s1.clock (reading ∷ [])
    → received_outcome device s.answering.held now packet ≡ outcome
    → s1.answering ≡ answerers_after (received_held device s.answering.held now packet) now s.answering.control packet outcome
    → Appends s.written s1.written (frames_of s.answering.control now packet outcome)
    → sees s.watch (Came now packet) came → FoldsTo sees came (outcome_seen s.answering.control now packet outcome) s1.watch
    → performing s.platform (received_commands s.answering.held now packet) s1.platform → s1.bounds ≡ s.bounds
    → HearsPacket performing device sees s packet s1
packet_heard performing device sees s packet s1 reading now came outcome same ticked gives answering wrote seen_first then_seen performed bounds =
    let before = s.answering in
    let at_now : HearsAt performing device sees s now packet s1 = record {
      answer =
          answering ∙ ap (answerers_after (received_held device before.held now packet) now before.control packet) (sym gives);
      wrote = subst (λ (o : Outcome). Appends s.written s1.written (frames_of before.control now packet o)) (sym gives) wrote;
      seen = (came, seen_first, subst (λ (o : Outcome). FoldsTo sees came (outcome_seen before.control now packet o) s1.watch) (sym gives) then_seen);
      performed = performed;
      bounds = bounds;
    } in
    record {
      reading = reading;
      ticked = ticked;
      heard = subst (λ m. HearsAt performing device sees s m packet s1) same at_now;
    }
