use Rattle.std.proofs.Common.{◌≡◌, Bor, Option, Some, None, ap, ◌∙◌, is_some, refl}
use Rattle.std.specs.Option.{option_copied, option_map}
use Rattle.mctp_assembly.proofs.HeldEntries.{held_at}
use Rattle.mctp_assembly.proofs.assembler.Assembler.is_open.Goals as goal

some_copied : {X Y : Type 0} (f : X → Y) (o : Option (Bor X)) → is_some o ≡ is_some (option_map f (option_copied o))
some_copied f None = refl
some_copied f (Some x) = refl

pub returns : goal.returns
returns c =
    c.is_some.ensures ∙ some_copied _ c.get.result
    ∙ ap is_some (c.get.ensures ∙ held_at c.self.inside.messages c.args.self.now c.args.key c.args.key c.number.result c.self.view_is c.number.ensures.range c.number.ensures.value refl)
