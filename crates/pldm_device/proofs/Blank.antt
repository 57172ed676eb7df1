-- A text without content has no keys.
use Rattle.std.proofs.Common.{◌≡◌, ℕ, Bool, true, false, if◌then◌else◌, inl, inr, sym, codes, List, Option, Some, None, IsSome, Result, Ok, Err, refl}
use Rattle.std.specs.Option.{ok_or}
use Rattle.std.specs.Str.{is_utf8}
use Rattle.std.proofs.lemmas.Bool.{false≢true}
use Rattle.toml.specs.Data.{Data, Members, no_members, get_member}
use Rattle.toml.specs.Errors.{IsBlank}
use Rattle.toml.specs.Parse.{parse_document, lines}
use Rattle.pldm_device.specs.declared.description_fault.FileFault.{FileFault}
use Rattle.pldm_device.specs.declared.description_fault.FileFault.TheVariants.{MissingKey, Toml}
use Rattle.pldm_device.specs.declared.control_table.ControlTable.{ControlTable}
use Rattle.pldm_device.specs.declared.description.Description.{Description}
use Rattle.pldm_device.specs.ControlTables.{control_in, control_of}
use Rattle.pldm_device.specs.Descriptions.{description_of, stated}
use Rattle.pldm_device.specs.Documents.{document_of}
use Rattle.pldm_device.specs.FileFaults.{IsOrMemoryWhere}
use Rattle.pldm_device.specs.KeyValues.{◌>>=◌, number_in, number_at}

pub blank_document : (bytes : List ℕ) → IsBlank bytes → parse_document bytes ≡ Some no_members
unfolding parse_document lines
blank_document bytes blank = rw blank refl

there : (low high : ℕ) (found : Option Data) (number : ℕ) → (ok_or found MissingKey >>= number_in low high) ≡ Ok number → IsSome found
there low high None number e = cc
there low high (Some value) number e = refl

-- a number that is at a key is there
pub number_is_there : (key : List ℕ) (low high : ℕ) (document : Members) (number : ℕ) → number_at key low high document ≡ Ok number → IsSome (get_member key document)
number_is_there key low high document number e = there low high (get_member key document) number e

no_keys : (text : Bool) (key : List ℕ) (document : Members) → (if text then ok_or (Some no_members) Toml else Err Toml) ≡ Ok document → IsSome (get_member key document) → ⊥
no_keys false key document e there = cc
no_keys true key document e there = let same : no_members ≡ document = cc in false≢true (rw (sym same) at there)

key_not_blank : (key bytes : List ℕ) (document : Members) → document_of bytes ≡ Ok document → IsSome (get_member key document) → ¬ IsBlank bytes
key_not_blank key bytes document read there blank = no_keys (is_utf8 bytes) key document (rw (blank_document bytes blank) at read) there

-- what is read of the document of the bytes is read of the bytes
pub read_of_bytes : {A : Type 0} (key bytes : List ℕ) (read : Members → Result A FileFault) (document : Members) (result : Result A FileFault) → document_of bytes ≡ Ok document → IsOrMemoryWhere (IsSome (get_member key document)) result (read document) → IsOrMemoryWhere (¬ IsBlank bytes) result (document_of bytes >>= read)
read_of_bytes key bytes read document result there given =
    elim given [ inl failed ↦ inl (failed.0, key_not_blank key bytes document there failed.1) | inr same ↦ inr (rw there same) ]

-- what the document of the bytes states, the bytes state
pub stated_by_bytes : (bytes : List ℕ) (document : Members) (result : Result Description FileFault) → document_of bytes ≡ Ok document → IsOrMemoryWhere (IsSome (get_member (codes "eid") document)) result (description_of document) → IsOrMemoryWhere (¬ IsBlank bytes) result (stated bytes)
unfolding stated
stated_by_bytes bytes = read_of_bytes (codes "eid") bytes description_of

-- what the document of the bytes says of control messages, the bytes say
pub control_by_bytes : (bytes : List ℕ) (document : Members) (result : Result ControlTable FileFault) → document_of bytes ≡ Ok document → IsOrMemoryWhere (IsSome (get_member (codes "control") document)) result (control_in document) → IsOrMemoryWhere (¬ IsBlank bytes) result (control_of bytes)
unfolding control_of
control_by_bytes bytes = read_of_bytes (codes "control") bytes control_in
