-- What a word of a line has to spell, or the fault `Number`.
use Rattle.std.specs.Prelude.{ℕ, ℤ, List, Option, Some, None, Result, Ok, Err, nat_lt, if◌then◌else◌}
use Rattle.line_words.specs.Numbers.{decimal_of, number_of, value_of}
use Rattle.mctp_packet.specs.declared.TheConstants.{MIN_EID, MAX_EID, MAX_MOMENT}
use Rattle.schedule_text.specs.declared.line_fault.LineFaultKind.{LineFaultKind}
use Rattle.schedule_text.specs.declared.line_fault.LineFaultKind.TheVariants.{Number}

-- the second step where the first gave a value, else the first one's fault
infixl 10 ◌>>=◌
abbrev pub ◌>>=◌ : {A B : Type 0} → Result A LineFaultKind → (A → Result B LineFaultKind) → Result B LineFaultKind
Ok x >>= next = next x
Err fault >>= next = Err fault

abbrev pub or_number : {A : Type 0} → Option A → Result A LineFaultKind
or_number None = Err Number
or_number (Some value) = Ok value

-- a number of at most 16 digits
abbrev pub any_number : List ℕ → Result ℕ LineFaultKind
any_number word = or_number (decimal_of word)

-- a number up to this one
abbrev pub number_up_to : ℕ → List ℕ → Result ℕ LineFaultKind
number_up_to most word = or_number (number_of most word)

-- a value of at most 16 digits, with a sign or without
abbrev pub any_value : List ℕ → Result ℤ LineFaultKind
any_value word = or_number (value_of word)

abbrev pub from_first : Option ℕ → Option ℕ
from_first None = None
from_first (Some number) = if nat_lt number MIN_EID then None else Some number

-- an endpoint ID
abbrev pub eid_of : List ℕ → Option ℕ
eid_of word = from_first (number_of MAX_EID word)

abbrev pub eid_in : List ℕ → Result ℕ LineFaultKind
eid_in word = or_number (eid_of word)

-- a moment in milliseconds
abbrev pub moment_in : List ℕ → Result ℕ LineFaultKind
moment_in word = number_up_to MAX_MOMENT word
