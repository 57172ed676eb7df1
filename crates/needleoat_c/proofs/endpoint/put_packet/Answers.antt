use Rattle.std.proofs.Common.{refl}
use Rattle.needleoat_c.proofs.PacketPlaces.{in_front, none_in_front}
use Rattle.needleoat_c.proofs.endpoint.put_packet.Goals as goal

pub returns-in-Some : goal.returns-in-Some
returns-in-Some c =
    in_front c.args.route.now c.args.message.now c.args.index c.in-Some.packet c.write.result c.args.room.now c.write.new.out
    (c.in-Some.ensures.some.0 refl) c.in-Some.ensures.value c.write.ensures.count c.write.ensures.bytes

pub returns-in-None : goal.returns-in-None
returns-in-None c =
    none_in_front c.args.route.now c.args.message.now c.args.index 0 c.args.room.now (λ lt. cc (c.in-None.ensures.some.1 lt)) refl
