use Rattle.std.proofs.Common.{refl, sym, subst}
use Rattle.mctp_packet.specs.declared.TheConstants.{MAX_PACKETS}
use Rattle.mctp_assembly.specs.NumberLists.{Changes, IsAt, at}
use Rattle.mctp_assembly.specs.Steps.{answer_to, left_by}
use Rattle.mctp_assembly.specs.Numbered.{none_open, Numbered}
use Rattle.mctp_assembly.proofs.OpenPlaces.{few}
use Rattle.mctp_assembly.proofs.ListedNumbers.{stays_listed}
use Rattle.mctp_assembly.proofs.TakenPackets.{fed_here, kept_here, ended_here, fed_alone, unchanged_at_end}
use Rattle.mctp_assembly.proofs.messages.Messages.take_end.Goals as goal

pub end_at-requires-clause-few : goal.end_at-requires-clause-few
end_at-requires-clause-few c = few c.self.inside.list.items c.self.invariant.messages

pub invariant_of-self : goal.invariant_of-self
invariant_of-self c =
    stays_listed c.self.inside.numbers.items c.end_at.new.numbers.items c.self.inside.list.items c.end_at.new.list.items c.args.number c.in-Some.place c.self.invariant
    (subst (λ (l : Numbered). IsAt none_open l c.args.number c.in-Some.place) (sym c.self.view_is) c.in-Some.ensures.found) c.end_at.ensures.numbers c.end_at.ensures.list

pub returns-in-Dropped-clause-fed : goal.returns-in-Dropped-clause-fed
returns-in-Dropped-clause-fed c =
    fed_here c.self.inside.list.items c.args.self.now c.self.view_is c.self.invariant.messages.differ c.args.number c.in-Some.place c.in-Some.ensures.found
    c.index.result.now c.index.ensures c.index.result.now refl c.args.packet.now c.look_into-given.result c.look_into-given.new.message.items c.look_into-given.ensures

pub returns-in-Dropped-clause-left : goal.returns-in-Dropped-clause-left
returns-in-Dropped-clause-left c =
    ended_here c.self.inside.list.items c.args.self.now c.self.view_is c.self.invariant.messages.differ c.args.number c.in-Some.place c.in-Some.ensures.found
    c.index.result.now c.index.ensures c.index.result.now refl c.args.packet.now c.look_into-given.result c.look_into-given.new.message.items c.look_into-given.ensures
    c.end_at.new.list.items c.in-Dropped.field-0 c.end_at.ensures.list c.in-Dropped.is

pub returns-in_default : goal.returns-in_default
returns-in_default c = record {
  fed = fed_here c.self.inside.list.items c.args.self.now c.self.view_is c.self.invariant.messages.differ c.args.number c.in-Some.place c.in-Some.ensures.found
      c.index.result.now c.index.ensures c.index.result.now refl c.args.packet.now c.look_into-given.result c.look_into-given.new.message.items c.look_into-given.ensures;
  left = subst (λ (new : Numbered). Changes c.args.self.now new c.args.number
      (left_by (answer_to MAX_PACKETS (at c.args.self.now c.args.number) c.args.packet.now) (at c.args.self.now c.args.number) c.args.packet.now)) (sym c.self.view_is)
      (kept_here c.self.inside.list.items c.args.self.now c.self.view_is c.self.invariant.messages.differ c.args.number c.in-Some.place c.in-Some.ensures.found
      c.index.result.now c.index.ensures c.index.result.now refl c.args.packet.now c.look_into-given.result c.look_into-given.new.message.items c.look_into-given.ensures
      c.requires c.in_default.not-Dropped);
}

pub returns-in-None-clause-fed : goal.returns-in-None-clause-fed
returns-in-None-clause-fed c =
    fed_alone c.args.self.now c.args.number c.in-None.ensures.absent c.args.packet.now c.look_alone.result c.look_alone.new.message.items c.look_alone.ensures

pub returns-in-None-clause-left : goal.returns-in-None-clause-left
returns-in-None-clause-left c =
    unchanged_at_end c.args.self.now c.args.number c.in-None.ensures.absent c.args.packet.now c.look_alone.result c.look_alone.new.message.items c.look_alone.ensures
    c.requires
