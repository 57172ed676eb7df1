-- What was added piece by piece is all of it.
use Rattle.std.proofs.Common.{◌≡◌, List, ℕ, ◌++◌, ap, ◌∙◌}
use Rattle.std.proofs.lemmas.List.{append_assoc}

-- one piece more
one_more : (o p x o1 o2 : List ℕ) → o1 ≡ o ++ p → o2 ≡ o1 ++ x → o2 ≡ o ++ (p ++ x)
one_more o p x o1 o2 e1 e2 = e2 ∙ ap (λ y. y ++ x) e1 ∙ append_assoc o p x

pub joined : (o a b c d e f g h z o1 o2 o3 o4 o5 o6 o7 o8 o9 : List ℕ) → o1 ≡ o ++ a → o2 ≡ o1 ++ b → o3 ≡ o2 ++ c → o4 ≡ o3 ++ d → o5 ≡ o4 ++ e → o6 ≡ o5 ++ f → o7 ≡ o6 ++ g → o8 ≡ o7 ++ h → o9 ≡ o8 ++ z
    → o9 ≡ o ++ ((((((((a ++ b) ++ c) ++ d) ++ e) ++ f) ++ g) ++ h) ++ z)
joined o a b c d e f g h z o1 o2 o3 o4 o5 o6 o7 o8 o9 e1 e2 e3 e4 e5 e6 e7 e8 e9 =
    let s2 = one_more o a b o1 o2 e1 e2 in
    let s3 = one_more o (a ++ b) c o2 o3 s2 e3 in
    let s4 = one_more o ((a ++ b) ++ c) d o3 o4 s3 e4 in
    let s5 = one_more o (((a ++ b) ++ c) ++ d) e o4 o5 s4 e5 in
    let s6 = one_more o ((((a ++ b) ++ c) ++ d) ++ e) f o5 o6 s5 e6 in
    let s7 = one_more o (((((a ++ b) ++ c) ++ d) ++ e) ++ f) g o6 o7 s6 e7 in
    let s8 = one_more o ((((((a ++ b) ++ c) ++ d) ++ e) ++ f) ++ g) h o7 o8 s7 e8 in
    one_more o (((((((a ++ b) ++ c) ++ d) ++ e) ++ f) ++ g) ++ h) z o8 o9 s8 e9
