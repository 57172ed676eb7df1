-- At each stage the device has said so of just the components before.
use Rattle.std.proofs.Common.{◌≡◌, ℕ, suc, ◌+◌, ◌<◌, Bool, true, false, List, [], ◌∷◌, Option, Some, None, is_some, refl, subst, ◌∙◌, arith}
use Rattle.std.specs.Prelude.{◌&&◌, nat_lt, nat_le}
use Rattle.std.proofs.lemmas.Bool.{ltb-true, ltb-false}
use Rattle.pldm_update.specs.declared.times.TheConstants.{MAX_ATTEMPTS, RETRY_TIME}
use Rattle.pldm_update.specs.declared.times.TheConstants.{SILENCE}
use Rattle.pldm_update.specs.declared.agent_stage.AgentRequest.TheVariants.{ActivateFirmware}
use Rattle.pldm_update.specs.declared.agent_stage.AgentStage.{AgentStage}
use Rattle.pldm_update.specs.declared.agent_stage.AgentStage.TheVariants.{Requesting, Passing, Offering, Serving, Verifying, Applying, Activating, Cancelling, Over}
use Rattle.pldm_update.specs.declared.agent_stage.DeviceReply.{DeviceReply}
use Rattle.pldm_update.specs.declared.agent_stage.DeviceReply.TheVariants.{Taken, NotYet, Refused}
use Rattle.pldm_update.specs.Agents.{Agent, after_reply, cancelled, is_some_number, stage_after, stage_failed, tried, wish, wish_at}
use Rattle.pldm_update.specs.DeviceRequests.{after_component, applied_at, expected, heard_at, is_applying, is_awaited, reported, transferred_at, verified_at}
use Rattle.pldm_update.specs.AgentCalls.{Call, Opened, Answered, GaveUp, Fetch, TransferComplete, VerifyComplete, ApplyComplete, Tick, agent, applied_count, happens, counted, counted_at, unless_refused}
use Rattle.pldm_update.proofs.DeedsInOrder.{by_test}
use Rattle.pldm_update.specs.AgentLaws.{ActivatesWhatWasApplied}

-- how many components were applied at a stage
abbrev At : AgentStage → ℕ → ℕ → Type 0
At Requesting total count = count ≡ 0
At (Passing component) total count = count ≡ 0
At (Offering component) total count = (count ≡ component) × (component < total)
At (Serving component) total count = (count ≡ component) × (component < total)
At (Verifying component) total count = (count ≡ component) × (component < total)
At (Applying component) total count = (count ≡ component) × (component < total)
At Activating total count = count ≡ total
At Cancelling total count = Unit {0}
At (Over true) total count = count ≡ total
At (Over false) total count = Unit {0}

failed_at : (stage : AgentStage) (total count : ℕ) → At stage total count → At (stage_failed stage) total count
failed_at Requesting total count h = tt
failed_at (Passing component) total count h = tt
failed_at (Offering component) total count h = tt
failed_at (Serving component) total count h = tt
failed_at (Verifying component) total count h = tt
failed_at (Applying component) total count h = tt
failed_at Activating total count h = tt
failed_at Cancelling total count h = tt
failed_at (Over true) total count h = h
failed_at (Over false) total count h = tt

after_at : (stage : AgentStage) (total count : ℕ) → 0 < total → At stage total count → At (stage_after total stage) total count
after_at Requesting total count some h = h
after_at (Passing component) total count some h =
    by_test (λ stage. At stage total count) (nat_lt (component + 1) total) (Passing (component + 1)) (Offering 0)
    (λ _. h) (λ _. (h, some))
after_at (Offering component) total count some h = h
after_at (Serving component) total count some h = h
after_at (Verifying component) total count some h = h
after_at (Applying component) total count some h = h
after_at Activating total count some h = h
after_at Cancelling total count some h = tt
after_at (Over well) total count some h = h

next_at : (total component count : ℕ) → (count ≡ component) × (component < total) → At (after_component total component) total (suc count)
next_at total component count h =
    by_test (λ stage. At stage total (suc count)) (nat_lt (component + 1) total) (Offering (component + 1)) Activating
    (λ t. let less = ltb-true (component + 1) total t in (omega (arith, h.0), less))
    (λ f. let least = ltb-false (component + 1) total f in omega (arith, h.0, h.1, least))

asks_at_the_end : (stage : AgentStage) (total count : ℕ) → At stage total count → wish_at stage ≡ Some ActivateFirmware → count ≡ total
asks_at_the_end Activating total count h e = h
asks_at_the_end Requesting total count h e = absurd (cc)
asks_at_the_end (Passing component) total count h e = absurd (cc)
asks_at_the_end (Offering component) total count h e = absurd (cc)
asks_at_the_end (Serving component) total count h e = absurd (cc)
asks_at_the_end (Verifying component) total count h e = absurd (cc)
asks_at_the_end (Applying component) total count h e = absurd (cc)
asks_at_the_end Cancelling total count h e = absurd (cc)
asks_at_the_end (Over well) total count h e = absurd (cc)

module _ (begun_with : ℕ) where
  record Holds (a : Agent) (count : ℕ) : Type 0 where
    at : At a.stage a.total count
    some : 0 < a.total
    same : a.total ≡ begun_with

  cancelled_holds : (a : Agent) (count : ℕ) → Holds a count → Holds (cancelled a) count
  cancelled_holds a count h = record { at = failed_at a.stage a.total count h.at; some = h.some; same = h.same }

  tried_holds : (a : Agent) (rest count : ℕ) → Holds a count → Holds (tried a rest) count
  tried_holds a rest count h =
      by_test (λ new. Holds new count) (nat_lt (a.attempts + 1) MAX_ATTEMPTS) (record a { attempts = a.attempts + 1; rest = rest }) (cancelled a)
      (λ _. record { at = h.at; some = h.some; same = h.same }) (λ _. cancelled_holds a count h)

  reply_holds : (reply : DeviceReply) (a : Agent) (count : ℕ) → Holds a count → Holds (after_reply reply a) count
  reply_holds Taken a count h = record { at = after_at a.stage a.total count h.some h.at; some = h.some; same = h.same }
  reply_holds NotYet a count h = tried_holds a (a.heard + RETRY_TIME) count h
  reply_holds Refused a count h = cancelled_holds a count h

  -- a report of the device
  reported_holds : (a : Agent) (now : ℕ) (well : Bool) (next : AgentStage) (count : ℕ) → Holds a count → (well ≡ true → At next a.total count) → Holds (reported a now well next) count
  reported_holds a now true next count h at = record { at = at refl; some = h.some; same = h.same }
  reported_holds a now false next count h at = cancelled_holds (heard_at a now) count (record { at = h.at; some = h.some; same = h.same })

  transferred_holds : (stage : AgentStage) (a : Agent) (now : ℕ) (well : Bool) (count : ℕ) → a.stage ≡ stage → Holds a count → Holds (transferred_at stage a now well) count
  transferred_holds (Serving component) a now well count e h =
      reported_holds a now well (Verifying component) count h (λ _. subst (λ s. At s a.total count) e h.at)
  transferred_holds Requesting a now well count e h = record { at = h.at; some = h.some; same = h.same }
  transferred_holds (Passing component) a now well count e h = record { at = h.at; some = h.some; same = h.same }
  transferred_holds (Offering component) a now well count e h = record { at = h.at; some = h.some; same = h.same }
  transferred_holds (Verifying component) a now well count e h = record { at = h.at; some = h.some; same = h.same }
  transferred_holds (Applying component) a now well count e h = record { at = h.at; some = h.some; same = h.same }
  transferred_holds Activating a now well count e h = record { at = h.at; some = h.some; same = h.same }
  transferred_holds Cancelling a now well count e h = record { at = h.at; some = h.some; same = h.same }
  transferred_holds (Over good) a now well count e h = record { at = h.at; some = h.some; same = h.same }

  verified_holds : (stage : AgentStage) (a : Agent) (now : ℕ) (well : Bool) (count : ℕ) → a.stage ≡ stage → Holds a count → Holds (verified_at stage a now well) count
  verified_holds (Verifying component) a now well count e h =
      reported_holds a now well (Applying component) count h (λ _. subst (λ s. At s a.total count) e h.at)
  verified_holds Requesting a now well count e h = record { at = h.at; some = h.some; same = h.same }
  verified_holds (Passing component) a now well count e h = record { at = h.at; some = h.some; same = h.same }
  verified_holds (Offering component) a now well count e h = record { at = h.at; some = h.some; same = h.same }
  verified_holds (Serving component) a now well count e h = record { at = h.at; some = h.some; same = h.same }
  verified_holds (Applying component) a now well count e h = record { at = h.at; some = h.some; same = h.same }
  verified_holds Activating a now well count e h = record { at = h.at; some = h.some; same = h.same }
  verified_holds Cancelling a now well count e h = record { at = h.at; some = h.some; same = h.same }
  verified_holds (Over good) a now well count e h = record { at = h.at; some = h.some; same = h.same }

  applied_holds : (stage : AgentStage) (a : Agent) (now : ℕ) (well : Bool) (count : ℕ) → a.stage ≡ stage → Holds a count → Holds (applied_at stage a now well) (counted_at stage well count)
  applied_holds (Applying component) a now true count e h =
      record { at = next_at a.total component count (subst (λ s. At s a.total count) e h.at); some = h.some; same = h.same }
  applied_holds (Applying component) a now false count e h = cancelled_holds (heard_at a now) count (record { at = h.at; some = h.some; same = h.same })
  applied_holds Requesting a now well count e h = record { at = h.at; some = h.some; same = h.same }
  applied_holds (Passing component) a now well count e h = record { at = h.at; some = h.some; same = h.same }
  applied_holds (Offering component) a now well count e h = record { at = h.at; some = h.some; same = h.same }
  applied_holds (Serving component) a now well count e h = record { at = h.at; some = h.some; same = h.same }
  applied_holds (Verifying component) a now well count e h = record { at = h.at; some = h.some; same = h.same }
  applied_holds Activating a now well count e h = record { at = h.at; some = h.some; same = h.same }
  applied_holds Cancelling a now well count e h = record { at = h.at; some = h.some; same = h.same }
  applied_holds (Over good) a now well count e h = record { at = h.at; some = h.some; same = h.same }

  unless_holds : (fault : Option ℕ) (a after : Agent) (count : ℕ) → Holds a count → Holds after count → Holds (unless_refused fault a after) count
  unless_holds None a after count h new = new
  unless_holds (Some code) a after count h new = h

  -- what is refused is no report of a stage at which a component is applied
  apply_holds : (stage : AgentStage) (a : Agent) (now : ℕ) (well : Bool) (count : ℕ) → a.stage ≡ stage → Holds a count → Holds (unless_refused (expected (is_applying stage)) a (applied_at stage a now well)) (counted_at stage well count)
  apply_holds (Applying component) a now well count e h = applied_holds (Applying component) a now well count e h
  apply_holds Requesting a now well count e h = h
  apply_holds (Passing component) a now well count e h = h
  apply_holds (Offering component) a now well count e h = unless_holds (expected (nat_lt 0 component)) a (heard_at a now) count h (record { at = h.at; some = h.some; same = h.same })
  apply_holds (Serving component) a now well count e h = h
  apply_holds (Verifying component) a now well count e h = h
  apply_holds Activating a now well count e h = record { at = h.at; some = h.some; same = h.same }
  apply_holds Cancelling a now well count e h = h
  apply_holds (Over good) a now well count e h = h

  call_holds : (a : Agent) (call : Call) (count : ℕ) → Holds a count → Holds (happens a call) (counted a call count)
  call_holds a (Opened number now) count h =
      by_test (λ new. Holds new count) (is_some (wish a now)) (record a { asked = Some number }) a
      (λ _. record { at = h.at; some = h.some; same = h.same }) (λ _. h)
  call_holds a (Answered number now reply) count h =
      by_test (λ new. Holds new count) (is_some_number a.asked number) (after_reply reply (record a { asked = None; heard = now })) a
      (λ _. reply_holds reply (record a { asked = None; heard = now }) count (record { at = h.at; some = h.some; same = h.same })) (λ _. h)
  call_holds a (GaveUp number) count h =
      by_test (λ new. Holds new count) (is_some_number a.asked number) (tried (record a { asked = None }) 0) a
      (λ _. tried_holds (record a { asked = None }) 0 count (record { at = h.at; some = h.some; same = h.same })) (λ _. h)
  call_holds a (Fetch now size most offset length) count h =
      unless_holds _ a (heard_at a now) count h (record { at = h.at; some = h.some; same = h.same })
  call_holds a (TransferComplete now well) count h =
      unless_holds _ a (transferred_at a.stage a now well) count h (transferred_holds a.stage a now well count refl h)
  call_holds a (VerifyComplete now well) count h =
      unless_holds _ a (verified_at a.stage a now well) count h (verified_holds a.stage a now well count refl h)
  call_holds a (ApplyComplete now well) count h = apply_holds a.stage a now well count refl h
  call_holds a (Tick now) count h =
      by_test (λ new. Holds new count) (is_awaited a.stage && nat_le (a.heard + SILENCE) now) (cancelled a) a
      (λ _. cancelled_holds a count h) (λ _. h)

  all_hold : (begin : ℕ) (calls : List Call) → 0 < begun_with → Holds (agent begin begun_with calls) (applied_count begin begun_with calls)
  all_hold begin [] some = record { at = refl; some = some; same = refl }
  all_hold begin (call ∷ past) some =
      call_holds (agent begin begun_with past) call (applied_count begin begun_with past) (all_hold begin past some)

pub activates_what_was_applied : ActivatesWhatWasApplied
activates_what_was_applied begin total calls some =
    let h = all_hold total begin calls some in
    record {
      asked = λ e. asks_at_the_end (agent begin total calls).stage _ _ h.at e ∙ h.same;
      over = λ e. subst (λ s. At s (agent begin total calls).total (applied_count begin total calls)) e h.at ∙ h.same;
    }
