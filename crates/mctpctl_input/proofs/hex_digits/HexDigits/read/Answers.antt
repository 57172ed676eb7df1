-- A pair is read as `hex` reads it, or the text is refused as `hex` refuses it.
use Rattle.std.proofs.Common.{arith}
use Rattle.std.proofs.lemmas.Bool.Decides.{nat_tests}
use Rattle.mctpctl_input.proofs.DigitTables.{PairAt, answered, at_most_none, looked_on}
use Rattle.mctpctl_input.proofs.hex_digits.HexDigits.read.Goals as goal

pub overflow_mul-value : goal.overflow_mul-value
overflow_mul-value c =
    let few = at_most_none c.self.inside.values c.from.result c.self.invariant (omega arith) in
    omega (arith, few)

pub overflow_add-value : goal.overflow_add-value
overflow_add-value c =
    let few = at_most_none c.self.inside.values c.from.result c.self.invariant (omega arith) in
    let few_too = at_most_none c.self.inside.values c.from-in-loop-place.result c.self.invariant (omega arith) in
    omega (arith, few, few_too)

pub loop-place-preserved : goal.loop-place-preserved
loop-place-preserved c =
    let pair : PairAt c.args.digits.now c.loop-place.place c.from.result c.from-in-loop-place.result = record {
      within = omega arith;
      first_is = c.from.ensures;
      second_is = c.from-in-loop-place.ensures;
      first_byte = omega arith;
      second_byte = omega arith;
    } in
    rw c.max-greatest.ensures
    (looked_on c.self.inside.values c.args.digits.now c.loop-place.bytes c.loop-place.place _ _ c.loop-place.greatest c.self.invariant pair
    (omega arith) c.loop-place.invariant)

pub returns : goal.returns
returns c =
    answered c.args.digits.now c.loop-place.bytes _ c.loop-place.place c.loop-place.greatest _
    (λ yes. grind (arith, nat_tests, yes)) (λ no. grind (arith, nat_tests, no)) (omega arith) (omega arith)
    c.if-digits-ne0.false (omega arith) c.loop-place.invariant
