-- The line of a message, and then those of the record that it ends.
use Rattle.std.proofs.Common.{◌≡◌, ℕ, List, ◌++◌, Result, Ok, Err, OnOk, ap, ◌∙◌, append_assoc}
use Rattle.mctpctl_decode.specs.TransferTexts.{message_ends}
use Rattle.mctpctl_decode.specs.Transfers.{Between}
use Rattle.mctpctl_engines.specs.MessageForms.{Message}

-- the lines over what is held after the message are those over what it leaves
pub then_ends : {E : Type 0} (result : Result Unit E) (held left : Between) (m : Message) (old now new front : List ℕ)
    → now ≡ old ++ front → OnOk result (held ≡ left) → OnOk result (new ≡ now ++ message_ends held m) → OnOk result (new ≡ old ++ (front ++ message_ends left m))
then_ends (Ok done) held left m old now new front first same last =
    last ∙ ap (λ all. now ++ message_ends all m) same ∙ ap (λ l. l ++ message_ends left m) first ∙ append_assoc old front (message_ends left m)
then_ends (Err fault) held left m old now new front first same last = tt
