-- What is held of the messages before, in place of looking back.
use Rattle.std.specs.Prelude.{ℕ, List, ◌++◌, unwrap_or, refl}
use Rattle.std.specs.BTreeMap.{is_at}
use Rattle.std.specs.Map.{lookup}
use Rattle.std.specs.Ordering.{nat_cmp, ordering_then}
use Rattle.std.specs.declared.cmp.Ordering.{Ordering}
use Rattle.mctpctl_decode.specs.DecodedLines.{decoded_line}
use Rattle.mctpctl_decode.specs.TransferTexts.{decoded_text, message_ends}
use Rattle.mctpctl_decode.specs.Transfers.{Between, Transferred, none_between, none_transferred, with_message}
use Rattle.mctpctl_engines.specs.MessageForms.{LooksBack, Message}

-- a requester and a responder, in the order of the endpoint IDs
abbrev pub pair_cmp : ℕ × ℕ → ℕ × ℕ → Ordering
pair_cmp x y = ordering_then (nat_cmp x.0 y.0) (nat_cmp x.1 y.1)

-- what is held between them, which is nothing where there is no entry
abbrev pub held_in : List ((ℕ × ℕ) × Transferred) → Between
held_in entries requester responder =
    unwrap_or (lookup (is_at (pair_cmp (requester, responder))) entries) none_transferred

-- the line of a message over what is held of those before it
abbrev pub held_text : Between → Message → List ℕ
held_text all m = decoded_line m.bytes ++ message_ends (with_message all m) m

pub looks_back : LooksBack decoded_text none_between with_message held_text
looks_back before m = refl
