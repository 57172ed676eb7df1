-- Commands that were asked, and one more.
use Rattle.std.proofs.Common.{◌≡◌, ◌≤◌, ◌<◌, ℕ, ◌+◌, Bool, List, [], ◌∷◌, ◌++◌, get_or, length, take, refl, sym, subst, ap, ◌∙◌, ◌⊎◌, inl, inr}
use Rattle.std.proofs.lemmas.List.{take_all, take_more}
use Rattle.std.proofs.lemmas.Option.{slice_get_read}
use Rattle.std.specs.Prelude.{max}
use Rattle.mctpctl.specs.AskedTexts.{AskedSo, AsksCommand, AsksEach, IsOfPrinting, StopsEach}
use Rattle.mctpctl.specs.declared.commands.AskedCommand.{AskedCommand}
use Rattle.pldm_line.specs.Asked.{AskStops, Shown}
use Rattle.pldm_line.specs.declared.ask_fault.AskFault.{AskFault}

folds_append : (hex : Bool) (a : AskedSo) (commands : List AskedCommand) (mid : AskedSo) (more : List AskedCommand) (b : AskedSo)
    → AsksEach hex commands a mid → AsksEach hex more mid b → AsksEach hex (commands ++ more) a b
folds_append hex a [] mid more b before after = subst (λ (x : AskedSo). AsksEach hex more x b) (sym before) after
folds_append hex a (asked ∷ commands) mid more b before after =
    (before.0, before.1, folds_append hex before.0 commands mid more b before.2 after)

pub one_more : (hex : Bool) (commands : List AskedCommand) (place : ℕ) (asked : AskedCommand) (a mid b : AskedSo) (one : ℕ)
    → place < length commands → asked ≡ get_or commands place asked → AsksEach hex (take place commands) a mid
    → AsksCommand hex asked.command one mid.shown b.shown mid.out b.out → b.status ≡ max mid.status one
    → AsksEach hex (take (place + 1) commands) a b
one_more hex commands place asked a mid b one within is before asks greatest =
    let further : take place commands ++ asked ∷ [] ≡ take (place + 1) commands =
    ap (λ x. take place commands ++ x ∷ []) is ∙ sym (take_more commands place asked within) in
    subst (λ (l : List AskedCommand). AsksEach hex l a b) further
    (folds_append hex a (take place commands) mid (asked ∷ []) b before
    (b, record { one = one; asks = asks; greatest = greatest }, refl))

-- none is left
pub all_asked : (hex : Bool) (commands : List AskedCommand) (place : ℕ) (a b : AskedSo) → length commands ≤ place
    → AsksEach hex (take place commands) a b → AsksEach hex commands a b
all_asked hex commands place a b all asked =
    subst (λ (l : List AskedCommand). AsksEach hex l a b) (take_all place commands all) asked

-- the line stopped at the next one, or its answer was not printed
pub stopped_each : (hex : Bool) (commands : List AskedCommand) (place : ℕ) (next : AskedCommand) (fault : AskFault) (a last : AskedSo) (s1 : Shown)
    → place < length commands → next ≡ get_or commands place next → AsksEach hex (take place commands) a last
    → IsOfPrinting fault ⊎ AskStops next.command fault last.shown s1 → IsOfPrinting fault ⊎ StopsEach hex commands fault a s1
stopped_each hex commands place next fault a last s1 within is asked (inl printing) = inl printing
stopped_each hex commands place next fault a last s1 within is asked (inr stops) =
    inr (record {
      place = place;
      next = next;
      is_next = slice_get_read commands (length commands) place next refl within is;
      last = last;
      asked = asked;
      stops = stops;
    })
