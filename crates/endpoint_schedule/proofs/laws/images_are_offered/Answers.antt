-- The law is proved in OfferedImages, by those of messages, of both ends and of a firmware device.
use Rattle.endpoint_schedule.proofs.OfferedImages.{images_are_offered}
use Rattle.endpoint_schedule.proofs.laws.images_are_offered.Goals as goal

pub returns : goal.returns
returns g c =
    λ setting.
    images_are_offered setting
    (record {
      requests = c.messages_are_told_apart.ensures.reads_back;
      responses = c.messages_are_told_apart.ensures.response_reads_back;
      performed = c.requesters_take_the_one_reply.ensures.performed setting;
      whole = c.verified_is_whole.ensures;
    })
