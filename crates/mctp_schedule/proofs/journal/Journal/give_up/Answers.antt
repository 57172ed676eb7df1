-- The request of this number is among the requests.
use Rattle.std.proofs.Common.{◌<◌, length, Some, sym, ap, ◌∙◌, arith}
use Rattle.std.specs.Prelude.{slice_index_or}
use Rattle.mctp_schedule.proofs.GivenUpRequests.{number_below, one_more}
use Rattle.mctp_schedule.proofs.ListPlaces.{get_or, length_set}
use Rattle.mctp_schedule.proofs.journal.Journal.give_up.Goals as goal

pub index_mut-requires : goal.index_mut-requires
index_mut-requires c =
    let below = number_below c.args.numbers.now (length c.args.self.now.requests.items) c.loop-number.number-index c.requires c.loop-number-test.true in
    let all = c.loop-number.invariant.all in
    omega (arith, below, all)

pub loop-number-preserved : goal.loop-number-preserved
loop-number-preserved c =
    let numbers = c.args.numbers.now in
    let i = c.loop-number.number-index in
    let n = slice_index_or numbers i 0 in
    let now = c.loop-number.self.requests.items in
    let below = number_below numbers (length c.args.self.now.requests.items) i c.requires c.loop-number-test.true in
    let all = c.loop-number.invariant.all in
    let within : n < length now = omega (arith, below, all) in
    let was = c.index_mut.result.now in
    record {
      requests = one_more numbers c.args.self.now.requests.items i now was c.give_up.new.self c.loop-number-test.true c.loop-number.invariant.requests within (get_or now n was within ∙ ap Some (sym c.index_mut.ensures.value)) c.give_up.ensures;
      all = length_set now n c.give_up.new.self ∙ all;
      arena = c.loop-number.invariant.arena;
      entries = c.loop-number.invariant.entries;
      traffic = c.loop-number.invariant.traffic;
      order = c.loop-number.invariant.order;
      timely = c.loop-number.invariant.timely;
    }
