-- One request further.
use Rattle.std.proofs.Common.{◌<◌, sym, subst, get_or, length, take, rules}
use Rattle.std.specs.Io.KnownBytes.{Appends}
use Rattle.std.proofs.KnownBytes.{Appends-trans}
use Rattle.pldm_line.specs.Turns.{frames_of, memo_frames}
use Rattle.pldm_line.proofs.Sending.{request_further}
use Rattle.pldm_requester.specs.Slots.{held_of}
use Rattle.pldm_requester.specs.Steps.{at_hand}
use Rattle.pldm_line.proofs.turn.send_requests.Goals as goal

pub loop-number-preserved : goal.loop-number-preserved
loop-number-preserved g c =
    let i = c.loop-number.invariant in
    let start = g.W.Write.contents c.args.writer.now.inner in
    let before = g.W.Write.contents c.loop-number.writer.inner in
    let end = g.W.Write.contents c.send_request.new.writer.inner in
    let held = held_of c.args.requester.now in
    let numbers = c.args.numbers.now in
    let at = c.loop-number.number-index in
    let within : at < length numbers = search rules in
    let more : Appends before end (memo_frames (at_hand held (get_or numbers at 0))) = search rules in
    record {
      wrote =
          subst (Appends start end) (sym (request_further held numbers at within))
          (Appends-trans start before end (frames_of held (take at numbers)) (memo_frames (at_hand held (get_or numbers at 0))) i.wrote more);
      works = search rules;
      flushed = search rules;
    }
