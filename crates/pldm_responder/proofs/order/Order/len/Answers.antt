use Rattle.std.proofs.Common.{length, sym, ap, ◌∙◌}
use Rattle.std.proofs.lemmas.List.{length-map}
use Rattle.pldm_responder.specs.Rings.{places_after, with_id}
use Rattle.pldm_responder.proofs.Rings.{as_many}
use Rattle.pldm_responder.proofs.order.Order.len.Goals as goal

pub returns : goal.returns
returns c =
    let inside = c.self.inside in
    sym (ap length (sym c.self.view_is) ∙ length-map (places_after inside.next 32 inside.count) (with_id inside.ids) ∙ as_many inside.next 32 inside.count)
