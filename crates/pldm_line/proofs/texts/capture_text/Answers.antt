-- The line of a packet has bytes.
use Rattle.std.proofs.Common.{◌≡◌, sym, ◌∙◌, rules}
use Rattle.pldm_line.proofs.Hearing.{on_err}
use Rattle.pldm_line.proofs.LinesHaveBytes.{capture_line_has_bytes}
use Rattle.pldm_line.specs.Events.{seen_of}
use Rattle.pldm_line.specs.Logs.{capture_line, capture_text}
use Rattle.pldm_line.proofs.texts.capture_text.Goals as goal

pub returns-in-Came-clause-memory : goal.returns-in-Came-clause-memory
returns-in-Came-clause-memory c =
    let line : capture_text (seen_of c.args.event.now) ≡ capture_line c.in-Came.moment c.in-Came.packet.now = search rules in
    on_err c.capture_line.result _ (λ none. capture_line_has_bytes c.in-Came.moment c.in-Came.packet.now (sym line ∙ none))
