-- The law is proved in DeliveriesExpected.
use Rattle.mctp_schedule.proofs.DeliveriesExpected.{state_is_once, not_performed_again, delivery_is_expected, given_is_the_reply, the_reply_fits}
use Rattle.mctp_schedule.proofs.laws.performs_once.Goals as goal

pub returns : goal.returns
returns g c = record {
  state = λ device. state_is_once device;
  not_again = λ device. not_performed_again device;
  delivery = λ device. delivery_is_expected device;
  given = λ device. given_is_the_reply device;
  fits = λ device. the_reply_fits device;
}
