use Rattle.std.proofs.Common.{◌≡◌, ℕ, ◌+◌, ◌-◌, ◌<◌, ◌≤◌, length, ap, sym, ◌∙◌, ⊎_elim, refl, arith}
use Rattle.std.specs.Prelude.{filter}
use Rattle.std.proofs.lemmas.Bool.{cases_lt}
use Rattle.pldm_requester.specs.Pacing.{is_answered_from, newest}
use Rattle.pldm_requester.specs.Slots.{remembered_in}
use Rattle.pldm_requester.specs.Steps.{course_of}
use Rattle.pldm_requester.proofs.NewestRequests.{counted_one, counted_none, newest_all}
use Rattle.pldm_requester.proofs.TickedSlots.{is_first}
use Rattle.pldm_requester.proofs.requester.answered_from.Goals.{then-is_answered_from, else-is_answered_from}
use Rattle.pldm_requester.proofs.requester.answered_from.Goals as goal

pub loop-number-preserved : goal.loop-number-preserved
loop-number-preserved c =
    let count = c.args.count in
    let number = c.loop-number.number in
    let slots = c.args.slots.now in
    let memo = c.index-slots-number.result in
    let test = is_answered_from c.args.start in
    let each = λ (n : ℕ). course_of (remembered_in count slots n) in
    let low : count - 31 ≤ number = omega arith in
    let below : number < count = omega arith in
    let near : count ≤ number + 32 = omega arith in
    let here = ap course_of (is_first count number slots memo memo c.requires below near c.index-slots-number.is slots (λ k l. refl)) in
    let before = c.loop-number.invariant in
    elim c.if-is_answered_from.branch [
      | then-is_answered_from w ↦ record {
        counted = w.answered-is ∙ counted_one test each (count - 31) number c.loop-number.answered low before.counted (ap test here ∙ sym w.if-is_answered_from.ensures);
        few = let x = w.answered-is in let y = before.few in omega (arith, x, y, low);
      }
      | else-is_answered_from w ↦ record {
        counted = w.answered-is ∙ counted_none test each (count - 31) number c.loop-number.answered low before.counted (ap test here ∙ sym w.if-is_answered_from.ensures);
        few = let x = w.answered-is in let y = before.few in omega (arith, x, y, low);
      }
    ]

pub returns : goal.returns
returns c =
    let count = c.args.count in
    let slots = c.args.slots.now in
    let number = c.loop-number.number in
    let test = is_answered_from c.args.start in
    let each = λ (n : ℕ). course_of (remembered_in count slots n) in
    let counted = c.loop-number.invariant.counted in
    let at : number ≡ count = omega arith in
    counted ∙ ap (λ n. length (filter test (newest each n (n - (count - 31))))) at
    ∙ ⊎_elim
    (λ (few : count < 31). ap (λ xs. length (filter test xs)) (newest_all each count (count - (count - 31)) 31 (omega arith) (omega arith)))
    (λ (many : 31 ≤ count). ap (λ m. length (filter test (newest each count m))) (let x : count - (count - 31) ≡ 31 = omega arith in x))
    (cases_lt count 31)
