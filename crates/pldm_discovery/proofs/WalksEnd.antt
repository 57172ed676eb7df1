-- A walk ends, and holds no more than it may.
use Rattle.std.proofs.Common.{◌≡◌, inl, ℕ, zero, suc, ◌-◌, ◌<◌, ◌≤◌, Bool, true, false, if◌then◌else◌, List, [], ◌∷◌, length, slice_get, Option, Some, None, option_map, refl, ap, subst, arith}
use Rattle.std.proofs.lemmas.List.Elements.{All-nil}
use Rattle.std.proofs.lemmas.Option.{slice_get_past, slice_get_within}
use Rattle.pldm_records.specs.Fetches.{Fetching, request_for, is_going}
use Rattle.pldm_records.specs.declared.fetch.Stage.TheVariants.{Going}
use Rattle.pldm_records.specs.declared.limits.TheConstants.{MAX_RECORD_BYTES}
use Rattle.pldm_wire.specs.declared.command.Command.{Command}
use Rattle.pldm_discovery.specs.Answered.{answer_to}
use Rattle.pldm_discovery.specs.Laws.{walked, WalksEnd, WalksAreBounded, WalksFind, WalksReadOnce}
use Rattle.pldm_discovery.specs.Steps.{after_asking}
use Rattle.pldm_discovery.specs.Subjects.{question}
use Rattle.pldm_discovery.specs.Walks.{Walking, next_command, command_at}
use Rattle.pldm_discovery.specs.declared.limits.TheConstants.{MAX_COMMANDS}
use Rattle.pldm_discovery.specs.declared.stage.Stage.{Stage}
use Rattle.pldm_discovery.specs.declared.stage.Stage.TheVariants.{Tid, Types, Versions, Commands, Repository, Records, Readings}
use Rattle.pldm_discovery.specs.declared.discovered.Discovered.{Discovered}
use Rattle.pldm_discovery.proofs.WalkSteps.{IsBounded, IsAt, left_at, AsksMore, answer_step}

-- a walk that is in order, with no more commands left than so many
record IsWalk (most : ℕ) (w : Walking) : Type 0 where
  bounded : IsBounded w.records w.fetch w.found
  is_at : IsAt w.stage w
  left : left_at w.stage w ≤ most

-- a fetch that goes on asks for something
goes_on : (f : Fetching) (asks : Bool) → is_going f.stage ≡ asks → f.stage ≡ Going → (if asks then Some (request_for f) else None) ≡ None → ⊥
goes_on f true e goes none = cc
goes_on f false e goes none = let is : is_going f.stage ≡ true = ap is_going goes in cc

-- there is none past the end alone
past_end : (found : List Discovered) (place : ℕ) → slice_get found place ≡ None → length found ≤ place
past_end [] place none = omega arith
past_end (f ∷ found) zero none = cc
past_end (f ∷ found) (suc place) none = let rest = past_end found place none in omega (arith, rest)

-- where nothing is asked, nothing is left
nothing_left : (w : Walking) (stage : Stage) → IsAt stage w → command_at stage w ≡ None → left_at stage w ≡ 0
nothing_left w Tid r none = cc
nothing_left w Types r none = cc
nothing_left w (Versions pldm_type) r none = cc
nothing_left w (Commands pldm_type version) r none = cc
nothing_left w Repository r none = cc
nothing_left w Records r none = absurd (goes_on w.fetch _ refl r.goes none)
nothing_left w Readings r none = past (slice_get w.found (length w.readings)) refl none where
  past : (next : Option Discovered) → slice_get w.found (length w.readings) ≡ next → option_map (λ (f : Discovered). question f.subject) next ≡ None → left_at Readings w ≡ 0
  past None e none = let end = past_end w.found (length w.readings) e in omega (arith, end)
  past (Some f) e none = cc

-- and where nothing is left, nothing is asked
nothing_asked : (w : Walking) (stage : Stage) → IsBounded w.records w.fetch w.found → IsAt stage w → left_at stage w ≤ 0 → command_at stage w ≡ None
nothing_asked w Tid b r none = absurd (omega (arith, none))
nothing_asked w Types b r none = absurd (omega (arith, none))
nothing_asked w (Versions pldm_type) b r none = absurd (omega (arith, none))
nothing_asked w (Commands pldm_type version) b r none = absurd (omega (arith, none))
nothing_asked w Repository b r none = absurd (omega (arith, none))
nothing_asked w Records b r none = absurd (omega (arith, none, b.part, r.room))
nothing_asked w Readings b r none = ap (option_map (λ (f : Discovered). question f.subject)) (slice_get_past w.found (length w.readings) (omega (arith, none)))

more_asked : (w : Walking) (stage : Stage) (command : Command) → command_at stage w ≡ Some command → AsksMore stage w
more_asked w Tid command e = tt
more_asked w Types command e = tt
more_asked w (Versions pldm_type) command e = tt
more_asked w (Commands pldm_type version) command e = tt
more_asked w Repository command e = tt
more_asked w Records command e = tt
more_asked w Readings command e = by (slice_get w.found (length w.readings)) refl e where
  by : (next : Option Discovered) → slice_get w.found (length w.readings) ≡ next → option_map (λ (f : Discovered). question f.subject) next ≡ Some command
      → length w.readings < length w.found
  by None s e = cc
  by (Some f) s e = slice_get_within w.found (length w.readings) f s

walk_by : (most : ℕ) (w : Walking) (message : Option (List ℕ)) (next : Option Command) → next_command w ≡ next → IsWalk most w
    → IsWalk (most - 1) (after_asking next w message)
walk_by most w message None e walk =
    let none : left_at w.stage w ≡ 0 = nothing_left w w.stage walk.is_at e in
    record { bounded = walk.bounded; is_at = walk.is_at; left = omega (arith, none) }
walk_by most w message (Some command) e walk =
    let goes = answer_step w w.stage (answer_to command message) message refl walk.bounded walk.is_at (more_asked w w.stage command e) in
    record { bounded = goes.bounded; is_at = goes.is_at; left = omega (arith, goes.less, walk.left) }

walks : (messages : List (Option (List ℕ))) → IsWalk (MAX_COMMANDS - length messages) (walked messages)
walks [] =
    record {
      bounded = record { few = omega arith; small = All-nil (λ pdr. length pdr ≤ MAX_RECORD_BYTES); part = omega arith; one_each = omega arith; distinct = λ i j d less within. absurd (omega arith) };
      is_at = record { has = record { room = omega arith; goes = refl; other = inl refl; every = refl }; none = refl };
      left = omega arith;
    }
walks (message ∷ before) =
    let walk = walk_by (MAX_COMMANDS - length before) (walked before) message (next_command (walked before)) refl (walks before) in
    record { bounded = walk.bounded; is_at = walk.is_at; left = omega (arith, walk.left) }

pub walks_end : WalksEnd
walks_end messages most =
    let walk = walks messages in
    nothing_asked (walked messages) (walked messages).stage walk.bounded walk.is_at (omega (arith, walk.left, most))

pub walks_are_bounded : WalksAreBounded
walks_are_bounded messages = let walk = walks messages in (walk.bounded.few, walk.bounded.small)

pub walks_find : WalksFind
walks_find messages at = subst (λ stage. IsAt stage (walked messages)) at (walks messages).is_at

pub walks_read_once : WalksReadOnce
walks_read_once messages = (walks messages).bounded.distinct
