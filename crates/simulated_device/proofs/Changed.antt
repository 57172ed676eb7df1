-- A thing that is changed in its place among the things with an ID, and how the outcome is answered.
use Rattle.std.proofs.Common.{◌≡◌, ℕ, Bool, true, false, cond, List, [], ◌∷◌, Some, Result, Ok, Err, ap, sym, ◌∙◌, refl}
use Rattle.std.specs.Map.{lookup, set_value}
use Rattle.pldm_wire.specs.declared.answer.Answer.{Answer}
use Rattle.pldm_records.specs.ById.{ById, with_id, replace, replaced, change_at}
use Rattle.pldm_platform.specs.Changes.{Changes, changed_or}
use Rattle.simulated_device.specs.EffecterAnswers.{outcome_answered}

some_is : {X : Type 0} (x y : X) → Some x ≡ Some y → x ≡ y
some_is x y e = cc

same_first : {X : Type 0} (test : ℕ → Bool) (b : Bool) (key : ℕ) (first thing : X) (rest : List (ℕ × X)) → (lookup test rest ≡ Some thing → set_value test rest thing ≡ rest) → cond b (Some first) (lookup test rest) ≡ Some thing → cond b ((key, thing) ∷ rest) ((key, first) ∷ set_value test rest thing) ≡ (key, first) ∷ rest
same_first test true key first thing rest below found = ap (λ x. (key, x) ∷ rest) (sym (some_is first thing found))
same_first test false key first thing rest below found = ap (λ xs. (key, first) ∷ xs) (below found)

-- the value that is there, written in its place, changes nothing
pub same_value : {X : Type 0} (test : ℕ → Bool) (things : List (ℕ × X)) (thing : X) → lookup test things ≡ Some thing → set_value test things thing ≡ things
same_value test [] thing found = refl
same_value test (first ∷ rest) thing found = same_first test (test first.0) first.0 first.1 thing rest (same_value test rest thing) found

replaced-written : {X E : Type 0} (id : ℕ) (things written : ById X) (old new : X) (outcome : Result X E) (result : Result Unit E) → with_id id things ≡ Some old → written ≡ replace id new things → Changes outcome old result new → Changes (replaced id things outcome) things result written
replaced-written id things written old new (Ok changed) result found is h = (h.0, is ∙ ap (λ x. replace id x things) h.1)
replaced-written id things written old new (Err refusal) result found is h = (h.0, is ∙ ap (λ x. replace id x things) h.1 ∙ same_value _ things old found)

pub change_at-written : {X E : Type 0} (missing : E) (change : X → Result X E) (id : ℕ) (things written : ById X) (old new : X) (result : Result Unit E) → with_id id things ≡ Some old → written ≡ replace id new things → Changes (change old) old result new → Changes (change_at missing change id things) things result written
change_at-written missing change id things written old new result found is h = rw found (replaced-written id things written old new (change old) result found is h)

pub answered-outcome : {A : Type 0} (done : Answer) (outcome : Result A ℕ) (old new : A) (result : Result Unit ℕ) → Changes outcome old result new → outcome_answered done result ≡ outcome_answered done outcome
answered-outcome done (Ok changed) old new result h = rw (h.0) refl
answered-outcome done (Err refusal) old new result h = rw (h.0) refl

pub changed-outcome : {A : Type 0} (outcome : Result A ℕ) (old new : A) (result : Result Unit ℕ) → Changes outcome old result new → new ≡ changed_or old outcome
changed-outcome (Ok changed) old new result h = h.1
changed-outcome (Err refusal) old new result h = h.1
