-- What a change of the open messages at a place leaves, and how many there can be.
use Rattle.std.proofs.Common.{◌≡◌, ℕ, ◌*◌, ◌-◌, ◌≤◌, [], ◌∷◌, ◌++◌, length, sym, subst, arith, ◌∙◌}
use Rattle.std.specs.Prelude.{slice_set, slice_index_or}
use Rattle.std.specs.List.{All, swap_remove}
use Rattle.std.proofs.lemmas.List.Elements.{All-set, All-cons, All-append, All-take}
use Rattle.mctp_packet.specs.declared.TheConstants.{MIN_EID}
use Rattle.mctp_assembly.specs.NumberLists.{Differ, IsAt}
use Rattle.mctp_assembly.specs.Numbered.{Numbered, AreOpen, IsEntry, IsNumber, KEYS, none_open}
use Rattle.mctp_assembly.specs.Opened.{Opened, IsOpened}
use Rattle.mctp_assembly.specs.declared.assembler.TheConstants.{MAX_ASSEMBLIES}
use Rattle.mctp_assembly.proofs.NumberLookups.{NoneBefore}
use Rattle.mctp_assembly.proofs.DifferingPlaces.{here, differ_changed, differ_left, differ_appended, few_between}

module _ (l : Numbered) (differ : Differ none_open l) (k place : ℕ) (is : IsAt none_open l k place) where
  pub open_changed : (v : Opened) → All IsEntry l → IsOpened v → AreOpen (slice_set l place (k, v))
  open_changed v each opened = record {
    differ = differ_changed none_open l differ k place is v;
    each = All-set IsEntry l place (k, v) (record { number = subst IsNumber is.has (each place (0, none_open) is.in_range).number; opened = opened }) each;
  }

  pub open_written : (d w : ℕ × Opened) → d ≡ slice_index_or l place d → w.0 ≡ d.0 → All IsEntry l → IsOpened w.1 → AreOpen (slice_set l place w)
  open_written d w read number each opened =
      subst (λ n. AreOpen (slice_set l place (n, w.1))) (sym (number ∙ here none_open l differ k place is d read)) (open_changed w.1 each opened)

  pub open_left : All IsEntry l → AreOpen (swap_remove l place (0, none_open))
  open_left each = record {
    differ = differ_left none_open l differ k place is;
    each = All-take IsEntry (length l - 1) _ (All-set IsEntry l place (slice_index_or l (length l - 1) (0, none_open)) (each (length l - 1) (0, none_open) (omega (arith, is.in_range))) each);
  }

module _ (l : Numbered) (k : ℕ) (none : NoneBefore none_open l k (length l)) where
  pub open_appended : (entry : ℕ × Opened) → AreOpen l → entry.0 ≡ k → IsNumber k → IsOpened entry.1 → AreOpen (l ++ entry ∷ [])
  open_appended entry are under number opened = subst (λ n. AreOpen (l ++ (n, entry.1) ∷ [])) (sym under) (record {
    differ = differ_appended none_open l k entry.1 are.differ none;
    each = All-append IsEntry l ((k, entry.1) ∷ []) are.each (All-cons IsEntry (k, entry.1) [] (record { number = number; opened = opened }) (λ i d in_range. omega (arith, in_range)));
  })

-- ---- how many there can be: as many as there are numbers
pub few : (l : Numbered) → AreOpen l → length l ≤ MAX_ASSEMBLIES
few l are =
    few_between none_open (KEYS * MIN_EID) MAX_ASSEMBLIES l are.differ
    (λ i in_range. let entry = are.each i (0, none_open) in_range in (entry.number.low, omega (arith, entry.number.high)))
