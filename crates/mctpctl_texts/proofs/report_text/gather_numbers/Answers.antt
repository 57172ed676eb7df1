-- A number further, it is gathered after a space.
use Rattle.std.proofs.Common.{◌≡◌, ◌∷◌, Some, slice_index, refl, ◌∙◌}
use Rattle.std.specs.Fmt.{decimal}
use Rattle.std.specs.List.{slice_get}
use Rattle.std.proofs.lemmas.Option.{slice_get-get_or}
use Rattle.mctpctl_texts.proofs.GatheredParts.{after_room, grown_to}
use Rattle.mctpctl_texts.proofs.PlacesListed.{written_further}
use Rattle.mctpctl_texts.proofs.report_text.gather_numbers.Goals as goal

pub loop-i-preserved : goal.loop-i-preserved
loop-i-preserved g c =
    let so_far = c.loop-i.invariant in
    let number = slice_index c.args.numbers.now c.loop-i.i in
    let found : slice_get c.args.numbers.now c.loop-i.i ≡ Some number = slice_get-get_or c.args.numbers.now c.loop-i.i 0 c.loop-i-test.true in (
      written_further (λ n. 32 ∷ decimal n) c.args.numbers.now c.loop-i.i number _ _ _ (32 ∷ decimal number) so_far.0
          (after_room _ _ _ _ c.in_ok-make_room.ensures.gathered.text (grown_to _ _ _ _ (c.add_after_space.ensures.value))) refl found,
      c.in_ok-make_room.ensures.gathered.ok ∙ so_far.1,
    )
