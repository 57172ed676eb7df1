use Rattle.std.proofs.Common.{◌-◌, ◌+◌, ◌%◌, ◌<◌, ◌≤◌, ◌∙◌, refl, arith}
use Rattle.std.specs.Prelude.{slice_index_or}
use Rattle.pldm_requester.specs.Courses.{is_given_up, is_sent_again, ticked}
use Rattle.pldm_requester.specs.Slots.{AreSlots, remembered_in}
use Rattle.pldm_requester.specs.Steps.{passes, with_course}
use Rattle.pldm_requester.proofs.SlotSteps.{listed_more}
use Rattle.pldm_requester.proofs.TickedSlots.{is_first, changed_more, left_more, passes_at, few_more}
use Rattle.pldm_requester.proofs.requester.tick_last.Goals as goal

pub loop-number-preserved : goal.loop-number-preserved
loop-number-preserved c =
    let count = c.args.count in
    let number = c.loop-number.number in
    let slots = c.loop-number.slots in
    let before = c.loop-number.invariant in
    let seen = c.index-slots-number.result in
    let memo = slice_index_or slots (number % 32) seen in
    let low : count - 8 ≤ number = omega arith in
    let near : count ≤ number + 32 = omega arith in
    let below : number < count = omega arith in
    let are : AreSlots count slots = record {
      some = λ few. c.loop-number.auto.slots ∙ c.requires.slots.some few;
      all = λ many. c.loop-number.auto.slots ∙ c.requires.slots.all many;
    } in
    let change = with_course (ticked c.args.timing.now c.args.now) in
    let first = is_first count number slots seen memo are below near refl c.args.slots.now before.left in
    record {
      again = listed_more (λ n. passes (is_sent_again c.args.timing.now c.args.now) (remembered_in count c.args.slots.now n)) (count - 8) number c.loop-number.due.again.items c.tick.new.due.again.items _ low before.again (passes_at (is_sent_again c.args.timing.now c.args.now) _ memo first) c.tick.ensures.again;
      given_up = listed_more (λ n. passes (is_given_up c.args.timing.now c.args.now) (remembered_in count c.args.slots.now n)) (count - 8) number c.loop-number.due.given_up.items c.tick.new.due.given_up.items _ low before.given_up (passes_at (is_given_up c.args.timing.now c.args.now) _ memo first) c.tick.ensures.given_up;
      few_again = let few = few_more _ _ _ _ c.tick.ensures.again in omega (arith, few, before.few_again, low);
      few_given_up = let few = few_more _ _ _ _ c.tick.ensures.given_up in omega (arith, few, before.few_given_up, low);
      ticked = changed_more count number slots seen memo are below near refl c.args.slots.now before.left change c.tick.new.self c.tick.ensures.value before.ticked;
      left = left_more count number slots seen memo are below near refl c.args.slots.now before.left c.tick.new.self;
    }
