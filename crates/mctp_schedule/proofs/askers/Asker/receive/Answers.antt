-- What the requester gives is what the asker gives.
use Rattle.std.proofs.Common.{◌≡◌, IfOk, OnOk, subst}
use Rattle.mctp_packet.specs.Packets.{written}
use Rattle.pldm_requester.specs.Slots.{held_of}
use Rattle.pldm_requester.specs.Steps.{IsHeld, got_at, received_held}
use Rattle.mctp_schedule.specs.Askers.{Side}
use Rattle.mctp_schedule.proofs.askers.Asker.receive.Goals as goal

pub returns-clause-got : goal.returns-clause-got
returns-clause-got c =
    subst (λ (s : Side). IfOk c.receive_read.result (λ got. got ≡ got_at (held_of s.station) (written c.args.packet.now))) c.self.view_is c.receive_read.ensures.got

pub returns-clause-held : goal.returns-clause-held
returns-clause-held c =
    subst (λ (s : Side). OnOk c.receive_read.result (IsHeld (held_of c.receive_read.new.self) (received_held (held_of s.station) c.args.now (written c.args.packet.now)))) c.self.view_is c.receive_read.ensures.held
