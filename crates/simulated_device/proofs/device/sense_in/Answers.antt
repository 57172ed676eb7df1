-- The sensor that was found is given its reading in its place.
use Rattle.std.proofs.Common.{◌≡◌, rules, sym, ap, ◌∙◌, w64, to_z, of_z}
use Rattle.std.proofs.lemmas.Int.{to_z-of_z}
use Rattle.std.specs.Option.{option_copied_mut}
use Rattle.simulated_device.specs.SensorAnswers.{sense}
use Rattle.pldm_platform.specs.declared.platform.ReadingFault.TheVariants.{NoSuchSensor}
use Rattle.simulated_device.proofs.Changed.{change_at-written}
use Rattle.simulated_device.proofs.device.sense_in.Goals as goal

pub returns-in-Some : goal.returns-in-Some
returns-in-Some c =
    let same : to_z w64 (of_z w64 c.args.value) ≡ c.args.value = search (rules, to_z-of_z) in
    change_at-written NoSuchSensor (sense c.args.value) c.args.id c.args.sensors.now.entries _ c.in-Some.sensor.now c.sense.new.self c.sense.result
    (sym c.get_mut.ensures.value ∙ ap option_copied_mut c.in-Some.is) (c.get_mut.follows.holds c.sense.new.self).0 (rw same at c.sense.ensures)
