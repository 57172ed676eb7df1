-- The number that was read is the one at the place, and so fits the size and 64 bits.
use Rattle.std.proofs.Common.{◌≡◌, pos, sym, ◌∙◌, arith}
use Rattle.byteorder.specs.Endian.{little_from}
use Rattle.pldm_wire.specs.Sizes.{width, Fits}
use Rattle.pldm_wire.specs.Numbers.{value_of}
use Rattle.pldm_wire.proofs.NumberRanges.{fits_word, signed_value, unsigned_value, placed_fits, passed_fits, cast_value}
use Rattle.pldm_wire.proofs.number.value_in.Goals as goal

pub returns-then-is_signed-clause-fits : goal.returns-then-is_signed-clause-fits
returns-then-is_signed-clause-fits c =
    passed_fits c.args.size c.read_int.result _
    (signed_value c.args.size c.width-width.result c.args.place c.args.bytes.now c.split_at.result.1.now c.read_int.result c.width-width.ensures c.split_at.ensures.back (sym c.is_signed.ensures ∙ c.if-is_signed.true) c.read_int.ensures)
    (placed_fits c.args.size c.args.place c.args.bytes.now (λ i. omega (arith, c.type_inv.bytes i)))

-- the unsigned number as a signed one
value : (c : goal.After-read_uint) → pos c.read_uint.result ≡ value_of c.args.size (little_from c.args.place (width c.args.size) c.args.bytes.now)
value c =
    unsigned_value c.args.size c.width-width.result c.args.place c.args.bytes.now c.split_at.result.1.now c.read_uint.result c.width-width.ensures c.split_at.ensures.back (sym c.is_signed.ensures ∙ c.if-is_signed.false) c.read_uint.ensures

fits : (c : goal.After-read_uint) → Fits c.args.size (value_of c.args.size (little_from c.args.place (width c.args.size) c.args.bytes.now))
fits c = placed_fits c.args.size c.args.place c.args.bytes.now (λ i. omega (arith, c.type_inv.bytes i))

pub overflow_cast-result : goal.overflow_cast-result
overflow_cast-result c = rw (value c) (fits_word c.args.size _ (fits c))

pub returns-clause-value : goal.returns-clause-value
returns-clause-value c = cast_value c.args.size c.read_uint.result _ (value c) (fits c)

pub returns-clause-fits : goal.returns-clause-fits
returns-clause-fits c = rw (cast_value c.args.size c.read_uint.result _ (value c) (fits c)) (fits c)
