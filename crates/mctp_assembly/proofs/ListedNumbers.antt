-- The numbers of the open messages beside the messages: what is found among them, and that they follow each change.
use Rattle.std.proofs.Common.{◌≡◌, ℕ, ◌-◌, ◌<◌, ◌≤◌, List, [], ◌∷◌, ◌++◌, length, map, take, None, sym, ◌∙◌, ap, subst, arith}
use Rattle.std.specs.Prelude.{slice_set, slice_index_or}
use Rattle.std.specs.List.{swap_remove}
use Rattle.std.proofs.lemmas.List.{length-map, get_or-map, map-set, map-append, set-get_or, take-map}
use Rattle.mctp_assembly.specs.NumberLists.{AreDistinct, IsAt, StandsAt, StandsNowhere, at, number_in}
use Rattle.mctp_assembly.specs.Numbered.{Numbered, AreListed, AreOpen, none_open}
use Rattle.mctp_assembly.specs.Opened.{Opened}
use Rattle.mctp_assembly.specs.declared.assembler.TheConstants.{MAX_ASSEMBLIES}
use Rattle.mctp_assembly.proofs.NumberLookups.{absent}
use Rattle.mctp_assembly.proofs.OpenPlaces.{few, open_left}

module _ (numbers : List ℕ) (l : Numbered) (are : AreListed numbers l) where
  pub as_many : length numbers ≡ length l
  as_many = ap length are.listed ∙ length-map l (λ entry. entry.0)

  reads : (i : ℕ) → i < length l → slice_index_or numbers i 0 ≡ number_in none_open l i
  reads i lt = ap (λ (ns : List ℕ). slice_index_or ns i 0) are.listed ∙ get_or-map (λ (entry : ℕ × Opened). entry.0) l i (0, none_open) 0 lt

  pub few_numbers : length numbers ≤ MAX_ASSEMBLIES
  few_numbers = omega (arith, as_many, few l are.messages)

  pub distinct : AreDistinct numbers
  distinct i j lt in_range same =
      let within : j < length l = omega (arith, as_many, in_range) in
      are.messages.differ i j lt within (sym (reads i (omega (arith, lt, within))) ∙ same ∙ reads j within)

  pub place_in : (k place : ℕ) → StandsAt numbers k place → IsAt none_open l k place
  place_in k place is =
      let within : place < length l = omega (arith, as_many, is.in_range) in
      record { in_range = within; has = sym (reads place within) ∙ is.has }

  pub nothing_at : (k : ℕ) → StandsNowhere numbers k → at l k ≡ None
  nothing_at k nowhere = absent none_open l k (λ j lt same. nowhere j (omega (arith, as_many, lt)) (reads j lt ∙ same))

  -- ---- after each change
  pub listed_set : (place : ℕ) (d w : ℕ × Opened) → place < length l → d ≡ slice_index_or l place d → w.0 ≡ d.0 → numbers ≡ map (λ entry. entry.0) (slice_set l place w)
  listed_set place d w within read number =
      let here : w.0 ≡ slice_index_or (map (λ (entry : ℕ × Opened). entry.0) l) place d.0 = number ∙ ap (λ (e : ℕ × Opened). e.0) read ∙ sym (get_or-map (λ (entry : ℕ × Opened). entry.0) l place d d.0 within) in
      are.listed
      ∙ sym (set-get_or (map (λ (entry : ℕ × Opened). entry.0) l) place d.0)
      ∙ ap (slice_set (map (λ (entry : ℕ × Opened). entry.0) l) place) (sym here)
      ∙ sym (map-set (λ (entry : ℕ × Opened). entry.0) l place w)

  pub listed_push : (k : ℕ) (entry : ℕ × Opened) → entry.0 ≡ k → (numbers ++ k ∷ []) ≡ map (λ entry. entry.0) (l ++ entry ∷ [])
  listed_push k entry under =
      ap (λ (ns : List ℕ). ns ++ k ∷ []) are.listed ∙ ap (λ n. map (λ (entry : ℕ × Opened). entry.0) l ++ n ∷ []) (sym under) ∙ sym (map-append (λ (entry : ℕ × Opened). entry.0) l (entry ∷ []))

-- where one is taken out
pub listed_left : (numbers new : List ℕ) (l left : Numbered) (place : ℕ) → numbers ≡ map (λ (entry : ℕ × Opened). entry.0) l → place < length l
    → new ≡ swap_remove numbers place 0 → left ≡ swap_remove l place (0, none_open) → new ≡ map (λ entry. entry.0) left
listed_left numbers new l left place listed within removed taken =
    let of = λ (l : Numbered). map (λ (entry : ℕ × Opened). entry.0) l in
    let last = length l - 1 in
    removed ∙ ap (λ (ns : List ℕ). swap_remove ns place 0) listed
    ∙ ap (λ n. take (n - 1) (slice_set (of l) place (slice_index_or (of l) (n - 1) 0))) (length-map l (λ (entry : ℕ × Opened). entry.0))
    ∙ ap (λ n. take last (slice_set (of l) place n)) (get_or-map (λ (entry : ℕ × Opened). entry.0) l last (0, none_open) 0 (omega (arith, within)))
    ∙ ap (take last) (sym (map-set (λ (entry : ℕ × Opened). entry.0) l place (slice_index_or l last (0, none_open))))
    ∙ take-map (λ (entry : ℕ × Opened). entry.0) last (slice_set l place (slice_index_or l last (0, none_open)))
    ∙ ap of (sym taken)

pub stays_listed : (numbers new : List ℕ) (l left : Numbered) (k place : ℕ) → AreListed numbers l → IsAt none_open l k place
    → new ≡ swap_remove numbers place 0 → left ≡ swap_remove l place (0, none_open) → AreListed new left
stays_listed numbers new l left k place are is removed taken = record {
  messages = subst AreOpen (sym taken) (open_left l are.messages.differ k place is are.messages.each);
  listed = listed_left numbers new l left place are.listed is.in_range removed taken;
}
