-- Before a checksum stands a version.
use Rattle.std.proofs.Common.{◌≡◌, ◌<◌, length, true, ap, arith}
use Rattle.pldm_discovery.specs.Versions.{is_checksum_of}
use Rattle.pldm_discovery.proofs.ChecksumTests.{some_before}
use Rattle.pldm_discovery.proofs.versions.last_version.Goals as goal

pub last_four-requires : goal.last_four-requires
last_four-requires c =
    let is : is_checksum_of c.split_at.result.1.now c.split_at.result.0.now ≡ true = cc in
    let some : 0 < length c.split_at.result.0.now = some_before _ _ is in
    omega (arith, some, c.split_at.ensures.front_len, c.as_slice-bytes.ensures.range, ap length c.as_slice-bytes.ensures.value)
