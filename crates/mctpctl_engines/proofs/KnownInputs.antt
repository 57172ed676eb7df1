-- At the end of input `bytes` is all of it; past the limit its front is the front of all.
use Rattle.std.proofs.Common.{◌≡◌, ℕ, ◌<◌, ◌≤◌, true, false, List, [], ◌++◌, length, take, sym, ap, ◌∙◌, append-nil, length-append, arith, Option, Some, None, IfSome}
use Rattle.std.proofs.lemmas.List.{take-append-le}
use Rattle.std.proofs.lemmas.Grind.{common_steps}
use Rattle.std.specs.Io.KnownBytes.{Consumes, IsAtEnd}
use Rattle.mctpctl_engines.specs.BoundedRead.{ReadUpTo}

all_read : (all bytes rest last : List ℕ) (limit : ℕ) → all ≡ bytes ++ rest → rest ≡ [] ++ last → last ≡ [] → length bytes ≤ limit → ReadUpTo limit all bytes false
all_read all bytes rest last limit split none ended within =
    let same : all ≡ bytes = split ∙ ap (λ xs. bytes ++ xs) (none ∙ ended) ∙ append-nil bytes in
    record { bytes_are = grind (arith, common_steps); cut = grind (arith, common_steps) }

pub known_all_read : (old now last : Option (List ℕ)) (bytes : List ℕ) (limit : ℕ) → Consumes old now bytes → Consumes now last [] → IsAtEnd last → length bytes ≤ limit → IfSome old (λ all. ReadUpTo limit all bytes false)
known_all_read None now last bytes limit front none ended within = tt
known_all_read (Some all) None last bytes limit front none ended within = absurd front
known_all_read (Some all) (Some rest) None bytes limit front none ended within = absurd none
known_all_read (Some all) (Some rest) (Some last) bytes limit front none ended within =
    all_read all bytes rest last limit front none ended within

pub known_cut : (old now : Option (List ℕ)) (bytes : List ℕ) (limit : ℕ) → Consumes old now bytes → limit < length bytes → IfSome old (λ all. ReadUpTo limit all (take limit bytes) true)
known_cut None now bytes limit front past = tt
known_cut (Some all) None bytes limit front past = absurd front
known_cut (Some all) (Some rest) bytes limit front past =
    let within : limit ≤ length bytes = omega arith in
    record { bytes_are = sym (ap (take limit) front ∙ take-append-le limit bytes rest within); cut = grind (arith, common_steps, length-append) }
