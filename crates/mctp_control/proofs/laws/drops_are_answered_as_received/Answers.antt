-- A packet that the header's checks drop is handed on, or is no request to the endpoint.
use Rattle.mctp_control.proofs.PassThrough.{headers, messages, no_ids, parts, shorts, versions}
use Rattle.mctp_control.proofs.laws.drops_are_answered_as_received.Goals as goal

pub returns-clause-header : goal.returns-clause-header
returns-clause-header c = headers

pub returns-clause-no_id : goal.returns-clause-no_id
returns-clause-no_id c = no_ids

pub returns-clause-short : goal.returns-clause-short
returns-clause-short c = shorts

pub returns-clause-version : goal.returns-clause-version
returns-clause-version c = versions

pub returns-clause-part : goal.returns-clause-part
returns-clause-part c = parts

pub returns-clause-message : goal.returns-clause-message
returns-clause-message c = messages
