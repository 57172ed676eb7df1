use Rattle.std.proofs.Common.{rules, ◌∙◌, ap, sym, ◌++◌, ◌∷◌, [], ◌&&◌, if◌then◌else◌}
use Rattle.std.specs.FinMap as finite
use Rattle.std.proofs.lemmas.Fn.{filter_same}
use Rattle.pldm_responder.specs.OpenOrder.{begun_with, is_apart}
use Rattle.pldm_responder.proofs.open_order.put_begun.Goals as goal

pub returns-then-is_kept : goal.returns-then-is_kept
returns-then-is_kept c =
    c.push_reserved.ensures.items
    ∙ ap (λ keys. keys ++ c.args.key ∷ [])
    (filter_same _ (λ other. is_apart other c.args.key && finite.contains_key c.args.assembler.now other) _
    (λ other kept f k. search rules) _ _ c.retain.ensures.filtered)
    ∙ ap (λ t. if t then begun_with c.args.assembler.now c.args.key c.args.begun.now.items else c.args.begun.now.items) (sym c.if-is_kept.true)
