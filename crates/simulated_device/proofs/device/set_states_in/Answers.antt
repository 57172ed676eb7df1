-- The thing that was found is changed in its place.
use Rattle.std.proofs.Common.{sym, ap, ◌∙◌}
use Rattle.std.specs.Option.{option_copied_mut}
use Rattle.simulated_device.specs.EffecterAnswers.{set_states}
use Rattle.pldm_platform.specs.declared.refusals.TheConstants.{INVALID_EFFECTER_ID}
use Rattle.simulated_device.proofs.Changed.{change_at-written}
use Rattle.simulated_device.proofs.device.set_states_in.Goals as goal

pub returns-in-Some : goal.returns-in-Some
returns-in-Some c =
    change_at-written INVALID_EFFECTER_ID (set_states c.args.fields.now) c.args.id c.args.effecters.now.entries _ c.in-Some.effecter.now c.set.new.self c.set.result
    (sym c.get_mut.ensures.value ∙ ap option_copied_mut c.in-Some.is) (c.get_mut.follows.holds c.set.new.self).0 c.set.ensures
