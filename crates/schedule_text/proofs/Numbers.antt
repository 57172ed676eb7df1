-- Every constant of the source, written a second time.
use Rattle.std.proofs.Common.{◌≡◌, refl}
use Rattle.schedule_text.specs.declared.word.TheConstants.{MAX_BYTE, MAX_ID, MAX_HANDLE, MAX_TIMEOUT}

greatest_byte : MAX_BYTE ≡ 255
greatest_byte = refl

greatest_id : MAX_ID ≡ 65535
greatest_id = refl

greatest_handle : MAX_HANDLE ≡ 4294967295
greatest_handle = refl

longest_timeout_in_milliseconds : MAX_TIMEOUT ≡ 60000
longest_timeout_in_milliseconds = refl
