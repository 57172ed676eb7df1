use Rattle.std.proofs.Common.{◌≡◌, Option, Some, None, option_map, refl}
use Rattle.std.specs.Option.{ok_or}
use Rattle.toml.proofs.Views.{table_get}
use Rattle.pldm_device.specs.declared.description_fault.FileFault.{FileFault}
use Rattle.pldm_device.specs.KeyValues.{map_ok}
use Rattle.pldm_device.proofs.keys.value_at.Goals as goal

map_ok-ok_or : {A B : Type 0} (f : A → B) (found : Option A) (fault : FileFault) → map_ok f (ok_or found fault) ≡ ok_or (option_map f found) fault
map_ok-ok_or f None fault = refl
map_ok-ok_or f (Some x) fault = refl

pub returns : goal.returns
returns c =
    let found = table_get c.get.result c.args.key.now c.args.table.now.entries c.get.ensures.value in
    rw (c.ok_or.ensures.value, ← found, c.new.ensures) (map_ok-ok_or _ c.get.result _)
