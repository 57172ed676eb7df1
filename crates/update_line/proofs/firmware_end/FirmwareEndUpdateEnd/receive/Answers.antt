-- An answer is taken as the requester has it.
use Rattle.std.proofs.Common.{ap}
use Rattle.pldm_terminus.specs.Termini.{TerminusView}
use Rattle.update_line.specs.OwnAnswers.{response_in}
use Rattle.update_line.proofs.AnswersTaken.{takes}
use Rattle.update_line.proofs.firmware_end.FirmwareEndUpdateEnd.receive.Goals as goal

pub returns-in-Asking-Answered : goal.returns-in-Asking-Answered
returns-in-Asking-Answered g c =
    let number = c.in-Asking-Answered.number in
    let told = c.take_answer.ensures in (
      c.moment_at-now.result,
      takes g.F.Flash.acted c.args.self.now.settings.component c.moment_at-now.result number
          c.take_answer.new.self.end c.args.self.now.flash c.take_answer.new.self.flash c.args.self.now.machine c.take_answer.new.self.machine
          (response_in c.receive_message.new.self.asking.requester number)
          (ap (λ (t : TerminusView). response_in t.asking.requester number) told.end) told.told told.none,
    )
