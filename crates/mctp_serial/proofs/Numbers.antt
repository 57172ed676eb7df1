-- Every constant of the source, written a second time.
use Rattle.std.proofs.Common.{◌≡◌, refl}
use Rattle.mctp_serial.specs.declared.TheConstants.{FLAG, ESCAPE, ESCAPED_FLAG, ESCAPED_ESCAPE, REVISION, FRAMING, MAX_FRAME_BYTES, START_REGISTER, POLYNOMIAL}

flag : FLAG ≡ 126
flag = refl

escape : ESCAPE ≡ 125
escape = refl

escaped_flag : ESCAPED_FLAG ≡ 94
escaped_flag = refl

escaped_escape : ESCAPED_ESCAPE ≡ 93
escaped_escape = refl

revision : REVISION ≡ 1
revision = refl

bytes_beside_the_packet : FRAMING ≡ 6
bytes_beside_the_packet = refl

frame_bytes : MAX_FRAME_BYTES ≡ 142
frame_bytes = refl

register_at_the_start : START_REGISTER ≡ 65535
register_at_the_start = refl

polynomial : POLYNOMIAL ≡ 33800
polynomial = refl
