-- The bytes that this write took come after those that were taken before.
use Rattle.std.proofs.Common.{◌<◌, ◌++◌, take, ◌∙◌, arith}
use Rattle.std.proofs.KnownBytes.{Appends-trans}
use Rattle.mctpctl_input.proofs.WrittenFronts.{moves_front}
use Rattle.mctpctl_input.proofs.port.PortWrite.write_all.Goals as goal

pub loop-rest-preserved : goal.loop-rest-preserved
loop-rest-preserved g c =
    let (done, split, appended, same, waits) = c.loop-rest.invariant in
    let rest = c.loop-rest.rest.now in
    let n = c.in_ok-count.count in
    let took : 0 < n = omega arith in (
      done ++ take n rest,
      moves_front _ done rest n split,
      Appends-trans _ _ _ _ _ appended c.in_ok-count.ensures.bytes,
      c.in_ok-count.ensures.taken.0 took ∙ same,
      λ _. c.in_ok-count.ensures.waits.0 took,
    )
