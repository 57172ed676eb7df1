-- Every constant of the source, written a second time.
use Rattle.std.proofs.Common.{◌≡◌, refl}
use Rattle.pldm_line.specs.declared.quiet.TheConstants.{END_MS, END_READS}

end_reads : END_READS ≡ 8
end_reads = refl

end_ms : END_MS ≡ 5
end_ms = refl
