-- Each field has room: it is one of all the fields, and these fit.
use Rattle.std.proofs.Common.{length, get_or, ap, arith, length-append}
use Rattle.std.proofs.lemmas.List.Folds.{length-flat_map-take}
use Rattle.pldm_update.specs.FieldWriting.{written_bytes}
use Rattle.pldm_update.specs.declared.field.Field.{Field}
use Rattle.pldm_update.specs.declared.field.Field.TheVariants.{U8}
use Rattle.pldm_update.proofs.field.data_of.Goals as goal

pub push_field-requires : goal.push_field-requires
push_field-requires c =
    let item : Field = get_or c.args.fields.now c.loop-field.field-index (U8 0) in
    let fits = length-flat_map-take written_bytes c.args.fields.now c.loop-field.field-index (U8 0) c.loop-field-test.true in
    omega (arith, length-append c.loop-field.data.items (written_bytes item), ap length c.loop-field.invariant, fits, c.requires)
