use Rattle.pldm_requester.proofs.OpenRequests.{open_are_recent, open_are_opened, one_on_each_tag}
use Rattle.pldm_requester.proofs.TagSearch.{found_on_its_tag}
use Rattle.pldm_requester.proofs.FedPackets.{fed_since_its_opening, begins_with_none}
use Rattle.pldm_requester.proofs.CallsLookBack.{few_are_open}
use Rattle.pldm_requester.proofs.laws.one_open_on_each_tag.Goals as goal

pub returns-clause-recent : goal.returns-clause-recent
returns-clause-recent c = open_are_recent

pub returns-clause-few : goal.returns-clause-few
returns-clause-few c = few_are_open

pub returns-clause-opened : goal.returns-clause-opened
returns-clause-opened c = open_are_opened

pub returns-clause-one : goal.returns-clause-one
returns-clause-one c = one_on_each_tag

pub returns-clause-found : goal.returns-clause-found
returns-clause-found c = found_on_its_tag

pub returns-clause-fed : goal.returns-clause-fed
returns-clause-fed c = fed_since_its_opening

pub returns-clause-begins : goal.returns-clause-begins
returns-clause-begins c = begins_with_none
