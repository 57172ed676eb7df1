use Rattle.std.proofs.Common.{◌≡◌, ℕ, List, [], ◌∷◌, ◌++◌, Some, None, ap, sym, subst, ◌∙◌, cond, is_ok, map}
use Rattle.std.proofs.Math.ListN.{length-set}
use Rattle.mctp_assembly.specs.NumberLists.{IsAt, at}
use Rattle.mctp_assembly.specs.Numbered.{none_open, AreOpen, Numbered}
use Rattle.mctp_assembly.specs.Opened.{Opened}
use Rattle.mctp_assembly.specs.Steps.{carried_on}
use Rattle.mctp_assembly.proofs.DifferingPlaces.{none_of}
use Rattle.mctp_assembly.proofs.OpenPlaces.{few, open_appended}
use Rattle.mctp_assembly.proofs.ListedNumbers.{listed_left, listed_push, listed_set}
use Rattle.mctp_assembly.proofs.PacketEnds.{with_any}
use Rattle.mctp_assembly.proofs.TakenPackets.{open_taken, open_dropped, fed_here, taken_here, dropped_here, fed_alone, begun_here, unchanged_here}
use Rattle.mctp_assembly.proofs.messages.Messages.take_part.Goals as goal

pub end_at-requires-clause-few : goal.end_at-requires-clause-few
end_at-requires-clause-few c = rw length-set (few c.self.inside.list.items c.self.invariant.messages)

pub invariant_of-self : goal.invariant_of-self
invariant_of-self c =
    let list = c.self.inside.list.items in
    let is = subst (λ (l : Numbered). IsAt none_open l c.args.number c.in-Some.place) (sym c.self.view_is) c.in-Some.ensures.found in
    let listed = listed_set c.self.inside.numbers.items list c.self.invariant c.in-Some.place c.index_mut.result.now c.take-given.new.self is.in_range c.index_mut.ensures.value c.take-given.ensures.number in
    record {
      messages = open_dropped list c.args.self.now c.self.view_is c.self.invariant.messages.differ c.args.number c.in-Some.place c.in-Some.ensures.found
          c.index_mut.result.now c.index_mut.ensures.value c.take-given.new.self c.take-given.ensures.number c.end_at.new.list.items c.end_at.ensures.list
          (c.take-given.ensures.other (λ same. cc (sym c.in-Dropped.is ∙ same))) c.self.invariant.messages.each;
      listed = listed_left c.self.inside.numbers.items c.end_at.new.numbers.items _ c.end_at.new.list.items c.in-Some.place listed (rw length-set is.in_range) c.end_at.ensures.numbers c.end_at.ensures.list;
    }

pub invariant_of-self-in_default : goal.invariant_of-self-in_default
invariant_of-self-in_default c =
    let list = c.self.inside.list.items in
    let is = subst (λ (l : Numbered). IsAt none_open l c.args.number c.in-Some.place) (sym c.self.view_is) c.in-Some.ensures.found in
    record {
      messages = open_taken list c.args.self.now c.self.view_is c.self.invariant.messages.differ c.args.number c.in-Some.place c.in-Some.ensures.found
          c.index_mut.result.now c.index_mut.ensures.value c.take-given.new.self c.take-given.ensures.number c.self.invariant.messages.each c.take-given.ensures.range;
      listed = listed_set c.self.inside.numbers.items list c.self.invariant c.in-Some.place c.index_mut.result.now c.take-given.new.self is.in_range c.index_mut.ensures.value c.take-given.ensures.number;
    }

pub invariant_of-self-in-Partial : goal.invariant_of-self-in-Partial
invariant_of-self-in-Partial c =
    let list = c.self.inside.list.items in
    let nothing = subst (λ (l : Numbered). at l c.args.number ≡ None) (sym c.self.view_is) c.in-None.ensures.absent in
    let under = ap (λ (e : ℕ × Opened). e.0) c.new-begun.ensures.value in
    let pushed : c.push-in-Partial.new.self.items ≡ c.self.inside.numbers.items ++ c.args.number ∷ []
    = c.push-in-Partial.ensures.items ∙ ap (λ r. cond (is_ok r) (c.reserve.new.self.items ++ c.args.number ∷ []) c.reserve.new.self.items) c.unwrap.ensures
    ∙ ap (λ (ns : List ℕ). ns ++ c.args.number ∷ []) c.reserve.ensures.items in
    record {
      messages = subst AreOpen (sym c.in_ok-push-in-None.ensures.items)
          (open_appended list c.args.number (none_of none_open list c.args.number nothing) c.new-begun.result c.self.invariant.messages under c.requires.number c.new-begun.ensures.range);
      listed = pushed ∙ listed_push c.self.inside.numbers.items list c.self.invariant c.args.number c.new-begun.result under
          ∙ ap (λ (l : Numbered). map (λ entry. entry.0) l) (sym c.in_ok-push-in-None.ensures.items);
    }

pub returns-in-Dropped-clause-fed : goal.returns-in-Dropped-clause-fed
returns-in-Dropped-clause-fed c bytes =
    with_any c.take-given.result _ bytes (at c.args.self.now c.args.number) c.args.packet.now c.requires.unended
    (fed_here c.self.inside.list.items c.args.self.now c.self.view_is c.self.invariant.messages.differ c.args.number c.in-Some.place c.in-Some.ensures.found
    c.index_mut.result.now c.index_mut.ensures.value c.take-given.new.self c.take-given.ensures.number c.args.packet.now c.take-given.result (carried_on (Some c.index_mut.result.now.1) c.args.packet.now).bytes c.take-given.ensures.given)

pub returns-in-Dropped-clause-ok : goal.returns-in-Dropped-clause-ok
returns-in-Dropped-clause-ok c =
    dropped_here c.self.inside.list.items c.args.self.now c.self.view_is c.self.invariant.messages.differ c.args.number c.in-Some.place c.in-Some.ensures.found
    c.index_mut.result.now c.index_mut.ensures.value c.take-given.new.self c.take-given.ensures.number c.args.packet.now c.take-given.result (carried_on (Some c.index_mut.result.now.1) c.args.packet.now).bytes c.take-given.ensures.given
    c.end_at.new.list.items c.in-Dropped.field-0 c.end_at.ensures.list
    (c.take-given.ensures.other (λ same. cc (sym c.in-Dropped.is ∙ same))) c.in-Dropped.is

pub returns-in_default : goal.returns-in_default
returns-in_default c = record {
  fed = λ bytes. with_any c.take-given.result _ bytes (at c.args.self.now c.args.number) c.args.packet.now c.requires.unended
      (fed_here c.self.inside.list.items c.args.self.now c.self.view_is c.self.invariant.messages.differ c.args.number c.in-Some.place c.in-Some.ensures.found
      c.index_mut.result.now c.index_mut.ensures.value c.take-given.new.self c.take-given.ensures.number c.args.packet.now c.take-given.result (carried_on (Some c.index_mut.result.now.1) c.args.packet.now).bytes c.take-given.ensures.given);
  ok = taken_here c.self.inside.list.items c.args.self.now c.self.view_is c.self.invariant.messages.differ c.args.number c.in-Some.place c.in-Some.ensures.found
      c.index_mut.result.now c.index_mut.ensures.value c.take-given.new.self c.take-given.ensures.number c.args.packet.now c.take-given.result (carried_on (Some c.index_mut.result.now.1) c.args.packet.now).bytes c.take-given.ensures.given
      c.take-given.ensures.partial c.take-given.ensures.other c.in_default.not-Dropped;
  err = tt;
}

pub returns-in_ok-push-in-None-clause-ok : goal.returns-in_ok-push-in-None-clause-ok
returns-in_ok-push-in-None-clause-ok c =
    begun_here c.args.self.now c.args.number c.in-None.ensures.absent c.args.packet.now c.judge_alone-given.result c.args.packet.now.payload c.judge_alone-given.ensures
    c.self.inside.list.items c.push.new.self.items c.new-begun.result c.self.view_is c.in_ok-push-in-None.ensures.items c.new-begun.ensures.value c.in-Partial.is

pub returns-in_default-given : goal.returns-in_default-given
returns-in_default-given c = record {
  fed = λ bytes. with_any c.judge_alone-given.result _ bytes (at c.args.self.now c.args.number) c.args.packet.now c.requires.unended
      (fed_alone c.args.self.now c.args.number c.in-None.ensures.absent c.args.packet.now c.judge_alone-given.result c.args.packet.now.payload c.judge_alone-given.ensures);
  ok = unchanged_here c.args.self.now c.args.number c.in-None.ensures.absent c.args.packet.now c.judge_alone-given.result c.args.packet.now.payload c.judge_alone-given.ensures
      c.in_default-given.not-Partial;
  err = tt;
}
