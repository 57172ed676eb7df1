-- The text of an event.
use Rattle.std.proofs.Common.{◌≡◌, false, refl, rules, string_bytes}
use Rattle.pldm_line.proofs.TextsAdded.{text_added}
use Rattle.pldm_line.specs.Events.{seen_of}
use Rattle.pldm_line.specs.Logs.{drop_text}
use Rattle.pldm_line.proofs.log.TextLog.add_drop.Goals as goal

pub returns-then-is_open : goal.returns-then-is_open
returns-then-is_open g c =
    let works : c.args.self.now.failed ≡ false = search rules in
    text_added g.W.Write.contents string_bytes c.drop_text.result (drop_text (seen_of c.args.event.now)) c.args.self.now c.add.new.self
    works (c.if-is_open.ensures.there refl) c.drop_text.ensures.text c.drop_text.ensures.memory (c.add.ensures.adds works) c.add.ensures.memory c.add.ensures.port
