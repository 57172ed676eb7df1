use Rattle.std.proofs.Common.{◌∙◌, ap, arith, length}
use Rattle.needleoat_forms.proofs.command_writing.command_write.Goals as goal

pub put_front-requires-clause-fits : goal.put_front-requires-clause-fits
put_front-requires-clause-fits c =
    let id = c.args.fields.now.instance_id in
    let short = c.messages_fit.ensures.short id c.in-Some.command c.write_command.ensures.range in
    let same = ap length (c.deref.ensures.0 ∙ c.write_command.ensures.spelled) in
    omega arith
