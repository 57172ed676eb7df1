-- One packet has one message, which is one response.
use Rattle.mctp_control.proofs.Queried.{alike, same_message}
use Rattle.mctp_control.proofs.laws.answers_are_of_one_query.Goals as goal

pub returns-clause-apart : goal.returns-clause-apart
returns-clause-apart c = alike c.bytes_spell_one_packet.ensures.one

pub returns-clause-one : goal.returns-clause-one
returns-clause-one c = same_message c.bytes_spell_one_packet.ensures.one
