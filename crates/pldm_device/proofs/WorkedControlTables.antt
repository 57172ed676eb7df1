-- What the table `control` of a few descriptions says, computed from the definitions.
use Rattle.std.proofs.Common.{◌≡◌, [], ◌∷◌, Some, None, Ok, Err, true, false, codes, refl}
use Rattle.pldm_device.specs.declared.control_table.ControlTable.{ControlTable}
use Rattle.pldm_device.specs.declared.description_fault.FileFault.TheVariants.{Toml, WrongKind, OutOfRange, BadHex}
use Rattle.pldm_device.specs.ControlTables.{control_of, control_table_of}
use Rattle.pldm_device.proofs.DescriptionLiterals.{description_on_literals}

abbrev nothing : ControlTable
nothing = record { uuid = None; base_version = None; control_version = None; pldm_version = None; assigned = false }

no_text : control_of [] ≡ Ok nothing
unfolding description_on_literals control_of control_table_of
no_text = refl

no_table : control_of (codes "eid = 300\n") ≡ Ok nothing
unfolding description_on_literals control_of control_table_of
no_table = refl

an_empty_table : control_of (codes "[control]\n") ≡ Ok nothing
unfolding description_on_literals control_of control_table_of
an_empty_table = refl

another_key : control_of (codes "[control]\nversion = 1\n") ≡ Ok nothing
unfolding description_on_literals control_of control_table_of
another_key = refl

-- 1.3.1, 1.3 and 1.2a
a_whole_table : control_of (codes "eid = 9\n[control]\nassigned = true\npldm_version = 'f1f2ff61'\ncontrol_version = 'F1F3FF00'\nbase_version = 'f1f3f100'\nuuid = '00112233445566778899AAbbccddeeff'\n") ≡ Ok (record {
  uuid = Some (0x00 ∷ 0x11 ∷ 0x22 ∷ 0x33 ∷ 0x44 ∷ 0x55 ∷ 0x66 ∷ 0x77 ∷ 0x88 ∷ 0x99 ∷ 0xaa ∷ 0xbb ∷ 0xcc ∷ 0xdd ∷ 0xee ∷ 0xff ∷ []);
  base_version = Some (0xf1 ∷ 0xf3 ∷ 0xf1 ∷ 0x00 ∷ []);
  control_version = Some (0xf1 ∷ 0xf3 ∷ 0xff ∷ 0x00 ∷ []);
  pldm_version = Some (0xf1 ∷ 0xf2 ∷ 0xff ∷ 0x61 ∷ []);
  assigned = true;
})
unfolding description_on_literals control_of control_table_of
a_whole_table = refl

one_key : control_of (codes "control.base_version = 'f1f3f100'\n") ≡ Ok (record {
  uuid = None;
  base_version = Some (0xf1 ∷ 0xf3 ∷ 0xf1 ∷ 0x00 ∷ []);
  control_version = None;
  pldm_version = None;
  assigned = false;
})
unfolding description_on_literals control_of control_table_of
one_key = refl

no_toml : control_of (codes "[control\n") ≡ Err Toml
unfolding description_on_literals control_of control_table_of
no_toml = refl

a_number_for_the_table : control_of (codes "control = 1\n") ≡ Err WrongKind
unfolding description_on_literals control_of control_table_of
a_number_for_the_table = refl

a_list_of_tables : control_of (codes "[[control]]\n") ≡ Err WrongKind
unfolding description_on_literals control_of control_table_of
a_list_of_tables = refl

a_number_for_a_version : control_of (codes "[control]\npldm_version = 1\n") ≡ Err WrongKind
unfolding description_on_literals control_of control_table_of
a_number_for_a_version = refl

a_number_for_assigned : control_of (codes "[control]\nassigned = 1\n") ≡ Err WrongKind
unfolding description_on_literals control_of control_table_of
a_number_for_assigned = refl

half_a_byte : control_of (codes "[control]\ncontrol_version = 'f1f3f10'\n") ≡ Err BadHex
unfolding description_on_literals control_of control_table_of
half_a_byte = refl

a_uuid_with_dashes : control_of (codes "[control]\nuuid = '00112233-4455-6677-8899-aabbccddeeff'\n") ≡ Err BadHex
unfolding description_on_literals control_of control_table_of
a_uuid_with_dashes = refl

fifteen_bytes_of_a_uuid : control_of (codes "[control]\nuuid = '00112233445566778899aabbccddee'\n") ≡ Err OutOfRange
unfolding description_on_literals control_of control_table_of
fifteen_bytes_of_a_uuid = refl

two_versions : control_of (codes "[control]\nbase_version = 'f1f3f100f1f2f000'\n") ≡ Err OutOfRange
unfolding description_on_literals control_of control_table_of
two_versions = refl

-- the keys are looked at in their order, not in that of the text
the_first_key_is_reported_first : control_of (codes "[control]\nbase_version = 1\nuuid = '0'\n") ≡ Err BadHex
unfolding description_on_literals control_of control_table_of
the_first_key_is_reported_first = refl
