use Rattle.pldm_requester.proofs.CallsLookBack.{open_looks_back, tick_looks_back, receive_looks_back, new_looks_back}
use Rattle.pldm_requester.proofs.laws.looks_back.Goals as goal

pub returns-clause-open : goal.returns-clause-open
returns-clause-open c = open_looks_back c.looks_back.ensures.forget

pub returns-clause-tick : goal.returns-clause-tick
returns-clause-tick c = tick_looks_back

pub returns-clause-receive : goal.returns-clause-receive
returns-clause-receive c = receive_looks_back c.looks_back.ensures.feed

pub returns-clause-new : goal.returns-clause-new
returns-clause-new c = new_looks_back c.looks_back.ensures.new
