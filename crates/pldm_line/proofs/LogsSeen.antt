-- A log that saw events has the texts of them all, while it has not failed.
use Rattle.std.proofs.Common.{◌≡◌, ℕ, Bool, false, true, List, [], ◌∷◌, Option, refl, sym, ap, subst, ◌∙◌}
use Rattle.std.specs.Io.KnownBytes.{Appends}
use Rattle.std.specs.List.{FoldsTo, flat_map}
use Rattle.std.proofs.KnownBytes.{Appends-nil, Appends-trans}
use Rattle.pldm_line.proofs.TextsAdded.{true-is-not-false}
use Rattle.pldm_line.specs.Events.{Seen}
use Rattle.pldm_line.specs.Laws.{LogsHaveAll}
use Rattle.pldm_line.specs.Logs.{AddsEvent, AddsText, capture_text, drop_text, port_contents}
use Rattle.pldm_line.specs.declared.log.Log.{Log}
use Rattle.pldm_line.specs.declared.log.TextLog.{TextLog}

-- a log that works now has worked
worked : {W : Type 0} (contents : W → Option (List ℕ)) (old : TextLog W) (text : List ℕ) (new : TextLog W)
    → AddsText contents old text new → new.failed ≡ false → old.failed ≡ false
worked {W} contents old text new adds works = at old.failed refl where
  at : (failed : Bool) → old.failed ≡ failed → old.failed ≡ false
  at false e = e
  at true e = absurd (true-is-not-false (sym e ∙ ap (λ (log : TextLog W). log.failed) (sym (adds.stays e)) ∙ works))

module _ {G W : Type 0} (sees : G → Seen → G → Type 0) (view : G → TextLog W) (contents : W → Option (List ℕ)) (text : Seen → List ℕ)
    (each : (old : G) (event : Seen) (new : G) → sees old event new → AddsText contents (view old) (text event) (view new)) where
  have_worked : (old : G) (events : List Seen) (new : G) → FoldsTo sees old events new → (view new).failed ≡ false → (view old).failed ≡ false
  have_worked old [] new seen works = ap (λ (log : G). (view log).failed) seen ∙ works
  have_worked old (event ∷ events) new seen works =
      worked contents (view old) (text event) (view seen.0) (each old event seen.0 seen.1) (have_worked seen.0 events new seen.2 works)

  has_all : (old : G) (events : List Seen) (new : G) → FoldsTo sees old events new → (view new).failed ≡ false
      → Appends (port_contents contents (view old).port) (port_contents contents (view new).port) (flat_map text events)
  has_all old [] new seen works =
      subst (λ (log : G). Appends (port_contents contents (view old).port) (port_contents contents (view log).port) []) seen
      (Appends-nil (port_contents contents (view old).port))
  has_all old (event ∷ events) new seen works =
      let middle = seen.0 in
      Appends-trans (port_contents contents (view old).port) (port_contents contents (view middle).port) (port_contents contents (view new).port)
      (text event) (flat_map text events)
      ((each old event middle seen.1).added (have_worked middle events new seen.2 works))
      (has_all middle events new seen.2 works)

pub logs_have_all : {N T : Type 0} (drops : N → Option (List ℕ)) (captured : T → Option (List ℕ)) → LogsHaveAll drops captured
logs_have_all {N} {T} drops captured old new events seen = (
  (λ works. has_all (AddsEvent drops captured) (λ (log : Log N T). log.drops) drops drop_text (λ _ _ _ h. h.0) old events new seen works),
  (λ works. has_all (AddsEvent drops captured) (λ (log : Log N T). log.capture) captured capture_text (λ _ _ _ h. h.1) old events new seen works),
)
