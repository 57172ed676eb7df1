-- A list by numbers is the map by the keys that have these numbers.
use Rattle.std.specs.FinMap as map
use Rattle.std.proofs.Common.{◌≡◌, ℕ, suc, ◌+◌, Bool, true, false, cond, ◌&&◌, ◌==◌, [], ◌∷◌, length, Option, Some, None, is_some, refl, sym, ap, ◌∙◌, arith, subst, add-one, eqb-true}
use Rattle.std.specs.Ordering.{eq_by_cmp, is_eq}
use Rattle.std.specs.declared.cmp.Ordering.{Ordering}
use Rattle.std.specs.declared.cmp.Ordering.TheVariants.{Less, Equal, Greater}
use Rattle.std.specs.Cmp.{IsTotalOrder, eq_by_cmp_equiv}
use Rattle.std.proofs.lemmas.Bool.{eqb-false}
use Rattle.mctp_assembly.specs.NumberLists.{NumberList, Changes, Differ, Rises, at, keyed, map_in}
use Rattle.mctp_assembly.proofs.NumberLookups.{absent}
use Rattle.mctp_assembly.proofs.DifferingPlaces.{differ_as_they_rise}

equal : (r : Ordering) → is_eq r ≡ true → r ≡ Equal
equal Less h = cc
equal Equal h = refl
equal Greater h = cc

pub and_yes : (b : Bool) → b ≡ (b && true)
and_yes true = refl
and_yes false = refl

and_no : (b : Bool) → false ≡ (b && false)
and_no true = refl
and_no false = refl

nothing : {A : Type 0} (b : Bool) → None ≡ cond {A = Option A} b None None
nothing true = refl
nothing false = refl

-- keys in an order that distinguishes them, each number with a key of its own
module _
    {K X : Type 0} (R : K → K → Ordering) (total : IsTotalOrder R) (exact : map.IsAntisymmetric R)
    (past : X) (key_at : ℕ → K) (number_of : K → ℕ) (number_of_key : (n : ℕ) → number_of (key_at n) ≡ n) where
  pub is_key : K → Bool
  is_key q = eq_by_cmp R q (key_at (number_of q))

  tied_by : (q : K) (m : ℕ) (a b : Bool) → eq_by_cmp R q (key_at m) ≡ a → (m == number_of q) ≡ b → a ≡ (is_key q && b)
  unfolding is_key
  tied_by q m a true h e = sym h ∙ ap (λ n. eq_by_cmp R q (key_at n)) (eqb-true m (number_of q) e) ∙ and_yes (is_key q)
  tied_by q m true false h e = absurd (eqb-false m (number_of q) e (sym (number_of_key m) ∙ ap number_of (sym (exact q (key_at m) (equal _ h)))))
  tied_by q m false false h e = and_no (is_key q)

  -- a key ties with that of a number where the number is its own
  tied : (q : K) (m : ℕ) → eq_by_cmp R q (key_at m) ≡ (is_key q && (m == number_of q))
  tied q m = tied_by q m (eq_by_cmp R q (key_at m)) (m == number_of q) refl refl

  valid : (k : K) → key_at (number_of k) ≡ k → is_key k ≡ true
  unfolding is_key
  valid k h = subst (λ x. eq_by_cmp R k x ≡ true) (sym h) ((eq_by_cmp_equiv total).refl k)

  joined : (t b : Bool) (x y : Option X) → cond (t && b) x (cond t y None) ≡ cond t (cond b x y) None
  joined true b x y = refl
  joined false b x y = refl

  found : (l : NumberList X) (q : K) → map.find R q (keyed key_at l) ≡ cond (is_key q) (at l (number_of q)) None
  found [] q = nothing (is_key q)
  found ((m, o) ∷ rest) q =
      ap (cond (eq_by_cmp R q (key_at m)) (Some o)) (found rest q)
      ∙ ap (λ b. cond b (Some o) (cond (is_key q) (at rest (number_of q)) None)) (tied q m)
      ∙ joined (is_key q) (m == number_of q) (Some o) (at rest (number_of q))

  pub got : (l : NumberList X) (q : K) → map.get (map_in R key_at l) q ≡ cond (is_key q) (at l (number_of q)) None
  got l q = map.get-from_entries total (keyed key_at l) q ∙ found l q

  -- what is open on a key stands under its number
  pub get_in : (l : NumberList X) (k : K) → key_at (number_of k) ≡ k → map.get (map_in R key_at l) k ≡ at l (number_of k)
  get_in l k h = got l k ∙ ap (λ b. cond b (at l (number_of k)) None) (valid k h)

  -- ---- a change under one number is one on its key
  changed : (l new : NumberList X) (k : K) (o : Option X) → key_at (number_of k) ≡ k → Changes l new (number_of k) o → (q : K) → map.get (map_in R key_at new) q ≡ cond (eq_by_cmp R q k) o (map.get (map_in R key_at l) q)
  changed l new k o h change q =
      let own : eq_by_cmp R q k ≡ (is_key q && (number_of k == number_of q)) = subst (λ x. eq_by_cmp R q x ≡ (is_key q && (number_of k == number_of q))) h (tied q (number_of k)) in
      got new q ∙ ap (λ x. cond (is_key q) x None) (change (number_of q))
      ∙ sym (joined (is_key q) (number_of k == number_of q) o (at l (number_of q)))
      ∙ ap (λ b. cond b o (cond (is_key q) (at l (number_of q)) None)) (sym own)
      ∙ ap (cond (eq_by_cmp R q k) o) (sym (got l q))

  pub inserted_in : (l new : NumberList X) (k : K) (v : X) → key_at (number_of k) ≡ k → Changes l new (number_of k) (Some v) → map_in R key_at new ≡ map.insert (map_in R key_at l) k v
  inserted_in l new k v h change =
      map.same_map total exact _ _ (λ q. changed l new k (Some v) h change q ∙ sym (map.get-insert total (map_in R key_at l) k v q))

  pub removed_in : (l new : NumberList X) (k : K) → key_at (number_of k) ≡ k → Changes l new (number_of k) None → map_in R key_at new ≡ map.remove (map_in R key_at l) k
  removed_in l new k h change =
      map.same_map total exact _ _ (λ q. changed l new k None h change q ∙ sym (map.get-remove total (map_in R key_at l) k q))

  own_value : (l : NumberList X) (n q : ℕ) (b : Bool) → (n == q) ≡ b → cond b (at l n) (at l q) ≡ at l q
  own_value l n q true h = ap (at l) (eqb-true n q h)
  own_value l n q false h = refl

  -- to put what stands under a number there is to change nothing
  pub unchanged_in : (l new : NumberList X) (n : ℕ) → Changes l new n (at l n) → map_in R key_at new ≡ map_in R key_at l
  unchanged_in l new n change =
      map.same_map total exact _ _ (λ q. got new q ∙ ap (λ x. cond (is_key q) x None) (change (number_of q) ∙ own_value l n (number_of q) (n == number_of q) refl) ∙ sym (got l q))

  -- ---- how many
  tail : (x : ℕ × X) (l : NumberList X) → Differ past (x ∷ l) → Differ past l
  tail x l differ i j lt in_range = differ (suc i) (suc j) (omega arith) (omega arith)

  pub len_differing : (l : NumberList X) → Differ past l → map.len (map_in R key_at l) ≡ length l
  len_differing [] differ = map.len-empty R X
  len_differing ((m, o) ∷ rest) differ =
      let none : at rest m ≡ None = absent past rest m (λ j lt same. differ 0 (suc j) (omega arith) (omega arith) (sym same)) in
      let free : map.get (map_in R key_at rest) (key_at m) ≡ None =
      got rest (key_at m) ∙ ap (λ n. cond (is_key (key_at m)) (at rest n) None) (number_of_key m) ∙ ap (λ x. cond (is_key (key_at m)) x None) none ∙ sym (nothing (is_key (key_at m))) in
      map.len-insert total (map_in R key_at rest) (key_at m) o
      ∙ ap (λ (x : Option X). cond (is_some x) (map.len (map_in R key_at rest)) (map.len (map_in R key_at rest) + 1)) free
      ∙ ap (λ n. n + 1) (len_differing rest (tail (m, o) rest differ))
      ∙ add-one (length rest)

  pub len_in : (l : NumberList X) → Rises past l → map.len (map_in R key_at l) ≡ length l
  len_in l rises = len_differing l (differ_as_they_rise past l rises)
