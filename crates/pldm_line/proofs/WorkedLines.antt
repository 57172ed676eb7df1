-- A few lines of a log, computed from the definitions.
use Rattle.std.proofs.Common.{◌≡◌, [], ◌∷◌, codes, refl}
use Rattle.hex.specs.Hex.{encode_with}
use Rattle.std.specs.Fmt.{digits}
use Rattle.mctp_packet.specs.declared.reason.Reason.TheVariants.{NotPldm}
use Rattle.mctp_serial.specs.declared.fault.SerialFault.TheVariants.{WrongCheck}
use Rattle.pldm_line.specs.Logs.{capture_line, capture_lines, drop_line, no_frame_line}

a_packet : capture_line 17 (0x01 ∷ 0x09 ∷ 0x08 ∷ 0xC8 ∷ []) ≡ codes "17 010908c8\n"
unfolding digits encode_with
a_packet = refl

two_packets : capture_lines 0 ((0xFF ∷ []) ∷ (0x0A ∷ []) ∷ []) ≡ codes "0 ff\n0 0a\n"
unfolding digits encode_with
two_packets = refl

a_drop : drop_line NotPldm ≡ codes "mctpctl: drop NotPldm\n"
a_drop = refl

no_frame : no_frame_line WrongCheck ≡ codes "mctpctl: no frame: WrongCheck\n"
no_frame = refl
