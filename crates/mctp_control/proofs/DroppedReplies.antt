-- A packet that answers a control message has bytes.
use Rattle.std.proofs.Common.{◌≡◌, ℕ, ◌<◌, List, length, Option, Some, None, IfSome, option_map, sym, subst, arith}
use Rattle.mctp_control.specs.Messages.{Request}
use Rattle.mctp_control.specs.Packets.{reply_by, reply_to, request_in}
use Rattle.mctp_control.specs.declared.control_responder.ControlResponder.{ControlResponder}

reply_has_bytes : (e : ControlResponder) (now : ℕ) (bytes : List ℕ) (request : Option Request) → IfSome (reply_by e now bytes request) (λ reply. 0 < length reply)
reply_has_bytes e now bytes None = tt
reply_has_bytes e now bytes (Some request) = omega arith

bytes_of : {A : Type 0} (items : A → List ℕ) (result : Option A) → IfSome (option_map items result) (λ reply. 0 < length reply)
    → IfSome result (λ reply. 0 < length (items reply))
bytes_of items None some = tt
bytes_of items (Some reply) some = some

pub replies_have_bytes : {A : Type 0} (items : A → List ℕ) (result : Option A) (e : ControlResponder) (now : ℕ) (bytes : List ℕ)
    → option_map items result ≡ reply_to e now bytes → IfSome result (λ reply. 0 < length (items reply))
replies_have_bytes items result e now bytes same =
    bytes_of items result
    (subst (λ reply. IfSome reply (λ reply. 0 < length reply)) (sym same) (reply_has_bytes e now bytes (request_in e bytes)))
