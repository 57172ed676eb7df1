-- A number below x^33 is below x^32 without the divisor.
use Rattle.std.proofs.Common.{◌*◌, ◌<◌, ◌≤◌, ◌^◌, bit_xor, arith}
use Rattle.pldm_wire.proofs.LongDivision.{subtracted_low, number_low}
use Rattle.pldm_wire.proofs.version_crc.bit_divided.Goals as goal

pub overflow_cast-result-else-number-lt-HIGH : goal.overflow_cast-result-else-number-lt-HIGH
overflow_cast-result-else-number-lt-HIGH c =
    let low : c.from.result < 2 ^ 32 = omega (arith, c.from.ensures, c.ranges.remainder.fits) in
    let few : c.from-2.result ≤ 1 = omega (arith, c.from-2.ensures, c.requires) in
    let small = subtracted_low (bit_xor (c.from.result * 2) (c.from-2.result * 4294967296)) c.if-number-lt-HIGH.false (number_low c.from.result c.from-2.result low few) in
    omega (arith, small)
