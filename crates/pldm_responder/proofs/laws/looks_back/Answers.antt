use Rattle.pldm_responder.specs.Performing.{rules_of}
use Rattle.pldm_responder.proofs.CallsLookBack.{received_looks_back, sensed_looks_back, updated_looks_back, put_is_updated, restarted_looks_back, assigned_looks_back, ended_looks_back, new_looks_back, same_is_left, kept_where_fresh}
use Rattle.pldm_responder.proofs.laws.looks_back.Goals as goal

pub returns : goal.returns
returns g c =
    let device = rules_of g.P.Platform.answer g.P.Platform.after g.P.Platform.sensed in
    record {
      received = received_looks_back device c.looks_back.ensures.feed;
      sensed = sensed_looks_back device;
      updated = updated_looks_back device;
      put = put_is_updated g.P.Platform.state;
      restarted = restarted_looks_back device c.looks_back.ensures.new;
      assigned = assigned_looks_back device c.looks_back.ensures.new;
      ended = ended_looks_back device c.looks_back.ensures.forget;
      new = new_looks_back device c.looks_back.ensures.new;
      same = same_is_left device;
      kept = kept_where_fresh device;
    }
