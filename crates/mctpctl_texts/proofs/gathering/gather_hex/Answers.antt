-- The digits of these bytes come after those of the bytes before.
use Rattle.std.proofs.Common.{◌++◌, [], take, refl, subst, ◌∙◌}
use Rattle.std.specs.Io.KnownBytes.{Appends}
use Rattle.std.proofs.KnownBytes.{Appends-nil, Appends-trans}
use Rattle.mctpctl_input.proofs.WrittenFronts.{moves_front}
use Rattle.mctpctl_texts.proofs.GatheredParts.{after_room, grown_to}
use Rattle.mctpctl_texts.proofs.WrittenParts.{hex_after, hex_of_nothing}
use Rattle.mctpctl_texts.proofs.gathering.gather_hex.Goals as goal

pub loop-rest-init : goal.loop-rest-init
loop-rest-init g c = record {
  done = [];
  split = refl;
  written = subst (Appends _ _) hex_of_nothing (Appends-nil _);
  works = refl;
}

pub loop-rest-preserved : goal.loop-rest-preserved
loop-rest-preserved g c =
    let so_far = c.loop-rest.invariant in
    let rest = c.loop-rest.rest.now in
    let n = c.min-count.result in
    record {
      done = so_far.done ++ take n rest;
      split = moves_front _ so_far.done rest n so_far.split;
      written = subst (Appends _ _) (hex_after so_far.done (take n rest))
          (Appends-trans _ _ _ _ _ so_far.written (after_room _ _ _ _ c.in_ok-make_room.ensures.gathered.text (grown_to _ _ _ _ c.add_hex.ensures)));
      works = c.in_ok-make_room.ensures.gathered.ok ∙ so_far.works;
    }
