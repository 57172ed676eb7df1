-- What the response is, and then its code and its data.
use Rattle.std.proofs.Common.{rules, ◌≡◌, ◌++◌, ◌∷◌, [], Ok, OnOk, codes, ap, append_assoc, ◌∙◌}
use Rattle.std.specs.Fmt.{decimal}
use Rattle.std.specs.Io.KnownBytes.{Appends}
use Rattle.mctpctl_texts.specs.ShownLines.{byte_text, command_text, data_text}
use Rattle.mctpctl_texts.proofs.WrittenParts.{and_last, given_as}
use Rattle.mctpctl_texts.proofs.message_line.write_response_line.Goals as goal
use Rattle.pldm_wire.specs.Responses.{response_of}

pub returns : goal.returns
returns g c =
    let r = c.in-Ok.response in
    let read : response_of c.args.message.now ≡ Ok r = search rules in
    let given = byte_text r.code ++ 32 ∷ (data_text r.rest ++ 10 ∷ []) in
    let first : Appends (g.O.TextWriter.contents c.args.out.now) (g.O.TextWriter.contents c.write_subject.new.out) (codes "  response " ++ (decimal r.id ++ 32 ∷ (command_text r.kind ++ 32 ∷ []))) = rw (← c.id.ensures.value, ← c.kind.ensures.value) c.in_ok-write_subject.ensures.text in
    let last : OnOk c.write_given.result (Appends (g.O.TextWriter.contents c.write_subject.new.out) (g.O.TextWriter.contents c.write_given.new.out) given) = rw (← c.code.ensures.value, ← c.data.ensures) c.write_given.ensures.text in
    let same =
    ap (λ t. codes "  response " ++ t)
    (append_assoc (decimal r.id) (32 ∷ (command_text r.kind ++ 32 ∷ [])) given ∙ ap (λ t. decimal r.id ++ 32 ∷ t) (append_assoc (command_text r.kind) (32 ∷ []) given)) in
    rw read (record {
      text = given_as _ _ _ _ _ same (and_last _ _ _ _ _ _ first last);
      ok = search rules;
      err = search rules;
    })
