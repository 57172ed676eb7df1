use Rattle.pldm_endpoint.proofs.AskedInTurn.{answers_its_origin, asked_in_turn, copies_are_answered_again, counts_askings}
use Rattle.pldm_endpoint.proofs.laws.each_answer_is_to_its_asking.Goals as goal

pub returns : goal.returns
returns c = record {
  asked = asked_in_turn c.looks_back.ensures.feed;
  counted = counts_askings;
  origin = answers_its_origin;
  copies = copies_are_answered_again;
}
