-- The endpoint was asked, then what a walk asks, and then the table was printed.
use Rattle.std.proofs.Common.{ap, inl, inr, refl, subst}
use Rattle.mctpctl.specs.Conversations.{printed_in, shown_in}
use Rattle.mctpctl.specs.WalkedTexts.{AsksEndpoint, walk_view}
use Rattle.mctpctl.proofs.walking.walk_device.Goals as goal

pub returns-in-Ok-write_records-clause-walked : goal.returns-in-Ok-write_records-clause-walked
returns-in-Ok-write_records-clause-walked g c = inr (record {
  endpoint = c.in-Ok.found;
  begun = shown_in g.C.Ticks.to_come g.R.Read.remaining g.W.Write.contents c.ask_endpoint.new.conversation;
  begun_out = printed_in g.O.Write.contents c.ask_endpoint.new.conversation;
  asks = c.in-Ok.ensures.asked;
  walked = c.in-Ok-ask_all.walked;
  first = walk_view g.C.Ticks.to_come g.R.Read.remaining g.W.Write.contents g.O.Write.contents c.new-walk.result c.ask_endpoint.new.conversation;
  last = walk_view g.C.Ticks.to_come g.R.Read.remaining g.W.Write.contents g.O.Write.contents c.ask_all.new.walk c.ask_all.new.conversation;
  walks = c.in-Ok-ask_all.ensures.walked;
  from_the_start =
      ap (λ w. walk_view g.C.Ticks.to_come g.R.Read.remaining g.W.Write.contents g.O.Write.contents w c.ask_endpoint.new.conversation)
      c.new-walk.ensures;
  shown = refl;
  prints = c.in-Ok-print_table.ensures;
  status_is = inl c.max.ensures;
})

pub returns-clause-walked : goal.returns-clause-walked
returns-clause-walked g c = inr (record {
  endpoint = c.in-Ok.found;
  begun = shown_in g.C.Ticks.to_come g.R.Read.remaining g.W.Write.contents c.ask_endpoint.new.conversation;
  begun_out = printed_in g.O.Write.contents c.ask_endpoint.new.conversation;
  asks = c.in-Ok.ensures.asked;
  walked = c.in-Ok-ask_all.walked;
  first = walk_view g.C.Ticks.to_come g.R.Read.remaining g.W.Write.contents g.O.Write.contents c.new-walk.result c.ask_endpoint.new.conversation;
  last = walk_view g.C.Ticks.to_come g.R.Read.remaining g.W.Write.contents g.O.Write.contents c.ask_all.new.walk c.ask_all.new.conversation;
  walks = c.in-Ok-ask_all.ensures.walked;
  from_the_start =
      ap (λ w. walk_view g.C.Ticks.to_come g.R.Read.remaining g.W.Write.contents g.O.Write.contents w c.ask_endpoint.new.conversation)
      c.new-walk.ensures;
  shown = refl;
  prints = c.in-Ok-print_table.ensures;
  status_is = inr refl;
})

-- the endpoint did not answer
pub returns-then-found-eq-FAILED-clause-walked : goal.returns-then-found-eq-FAILED-clause-walked
returns-then-found-eq-FAILED-clause-walked g c =
    inl (
      subst (λ status. AsksEndpoint c.args.settings.now c.args.first_query status
          (shown_in g.C.Ticks.to_come g.R.Read.remaining g.W.Write.contents c.args.conversation.now)
          (shown_in g.C.Ticks.to_come g.R.Read.remaining g.W.Write.contents c.ask_endpoint.new.conversation)
          (printed_in g.O.Write.contents c.args.conversation.now) (printed_in g.O.Write.contents c.ask_endpoint.new.conversation))
          c.if-found-eq-FAILED.true c.in-Ok.ensures.asked,
      refl,
    )
