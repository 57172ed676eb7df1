-- The digits of these bytes come after those of the bytes before.
use Rattle.std.proofs.Common.{◌++◌, ◌*◌, [], arith, drop, length-append, length-drop, length-take, take, refl, subst, ◌∙◌}
use Rattle.std.specs.Io.KnownBytes.{Appends}
use Rattle.std.proofs.KnownBytes.{Appends-nil, Appends-trans}
use Rattle.mctpctl_input.proofs.WrittenFronts.{moves_front}
use Rattle.mctpctl_texts.proofs.WrittenParts.{hex_after, hex_of_nothing}
use Rattle.mctpctl_texts.proofs.text_writer.PortTextWriter.write_hex.Goals as goal

pub loop-rest-init : goal.loop-rest-init
loop-rest-init g c = ([], refl, subst (Appends _ _) hex_of_nothing (Appends-nil _), refl, refl)

pub loop-rest-preserved : goal.loop-rest-preserved
loop-rest-preserved g c =
    let (done, split, written, works, long) = c.loop-rest.invariant in
    let rest = c.loop-rest.rest.now in
    let n = c.min-count.result in (
      done ++ take n rest,
      moves_front _ done rest n split,
      subst (Appends _ _) (hex_after done (take n rest))
          (Appends-trans _ _ _ _ _ written (subst (Appends _ _) c.in-Ok.ensures.written c.in_ok-write_bytes.ensures.written.text)),
      c.in_ok-write_bytes.ensures.written.ok ∙ works,
      omega (arith, length-append c.encode_to_slice.new.output (drop (2 * n) c.loop-rest.room), length-drop (2 * n) c.loop-rest.room, length-take (2 * n) c.loop-rest.room, c.encode_to_slice.auto.output, long, c.min-count.ensures),
    )
