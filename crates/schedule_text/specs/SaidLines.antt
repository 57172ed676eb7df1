-- What a line of a schedule says.
use Rattle.schedule_text.specs.declared.step.RequesterLine.{RequesterLine}
use Rattle.schedule_text.specs.declared.step.Step.{Step as OneStep}

-- nothing, where it is blank or a comment, or that there is a requester, or that a step is to be done
pub data Line : Type 0 where
  Nothing : Line
  Requester : RequesterLine → Line
  Step : OneStep → Line
