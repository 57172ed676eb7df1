-- The document of some bytes, beside what is known of the bytes as a text.
use Rattle.std.proofs.Common.{◌≡◌, ℕ, Bool, true, false, if◌then◌else◌, List, Option, Some, None, Ok, Err, refl}
use Rattle.std.specs.Option.{ok_or}
use Rattle.std.specs.Prelude.{IsUtf8}
use Rattle.std.specs.Str.{is_utf8}
use Rattle.std.proofs.lemmas.Str.{IsUtf8-from_is_utf8, is_utf8-from_IsUtf8}
use Rattle.toml.specs.Data.{Members}
use Rattle.toml.specs.Parse.{parse_document}
use Rattle.pldm_device.specs.declared.description_fault.FileFault.TheVariants.{Toml}
use Rattle.pldm_device.specs.Documents.{document_of}

pub document_of-text : (bytes : List ℕ) (document : Members) → IsUtf8 bytes → parse_document bytes ≡ Some document → document_of bytes ≡ Ok document
document_of-text bytes document text parsed = rw (is_utf8-from_IsUtf8 bytes text, parsed)

refused_unless : {A : Type 0} (b : Bool) (found : Option A) → (b ≡ true → found ≡ None) → (if b then ok_or found Toml else Err Toml) ≡ Err Toml
refused_unless true found none = rw (none refl)
refused_unless false found none = refl

pub document_of-refused : (bytes : List ℕ) → (IsUtf8 bytes → parse_document bytes ≡ None) → document_of bytes ≡ Err Toml
document_of-refused bytes none = refused_unless (is_utf8 bytes) (parse_document bytes) (λ t. none (IsUtf8-from_is_utf8 bytes t))
