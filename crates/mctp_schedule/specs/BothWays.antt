-- A link with an answering end and a requester at each of its two ends. A step belongs to one of two directions: that
-- of the requests which the near end performs, or that of those which the far end performs. The directions share the
-- clock and nothing else: the TO bit tells their packets apart, and each has its own requester, tags and instance IDs.
use Rattle.std.specs.Prelude.{◌≡◌, ℕ, ◌≤◌, List, [], ◌∷◌, Some}
use Rattle.mctp_schedule.specs.Logs.{Asked, asked_at, reached}
use Rattle.mctp_schedule.specs.OncePerformed.{once}
use Rattle.mctp_schedule.specs.RequesterHalf.{IsSound, WasPerformedOnce}
use Rattle.mctp_schedule.specs.Worlds.{BothEnds, IsTimely, NeverWentBack, requests_of, world}
use Rattle.pldm_requester.specs.Courses.{Answered}
use Rattle.pldm_responder.specs.Performing.{Rules, performed}
use Rattle.pldm_wire.specs.declared.restart_policy.RestartPolicy.TheVariants.{All}
use Rattle.mctp_schedule.specs.Actions.{Step}

-- a step about requests that the near end performs, or about such that the far end does
pub data TwoWayStep : Type 0 where
  ToNear : Step → TwoWayStep
  ToFar : Step → TwoWayStep

abbrev pub step_of : TwoWayStep → Step
step_of (ToNear step) = step
step_of (ToFar step) = step

-- the steps of one direction, and those of the other
abbrev pub to_near : List TwoWayStep → List Step
to_near [] = []
to_near (ToNear step ∷ past) = step ∷ to_near past
to_near (ToFar step ∷ past) = to_near past

abbrev pub to_far : List TwoWayStep → List Step
to_far [] = []
to_far (ToNear step ∷ past) = to_far past
to_far (ToFar step ∷ past) = step ∷ to_far past

-- moments never go back, whichever direction a step belongs to; the newest step is the first
abbrev pub last_moment : List TwoWayStep → ℕ
last_moment [] = 0
last_moment (step ∷ past) = (step_of step).moment

abbrev pub NeverGoesBack : List TwoWayStep → Type 0
NeverGoesBack [] = Unit {0}
NeverGoesBack (step ∷ past) = (last_moment past ≤ (step_of step).moment) × NeverGoesBack past

abbrev pub EachWayIsInOrder : Type 0
EachWayIsInOrder =
    (steps : List TwoWayStep) → NeverGoesBack steps → NeverWentBack (to_near steps) × NeverWentBack (to_far steps)

-- the steps of each direction are timely and sound, as those of a link with one direction
pub record AreTimelyBothWays {S T : Type 0} (near : BothEnds S) (far : BothEnds T) (steps : List TwoWayStep)
    : Type 0 where
  pub order : NeverGoesBack steps
  pub near_timely : IsTimely near (to_near steps)
  pub near_sound : IsSound near (to_near steps)
  pub far_timely : IsTimely far (to_far steps)
  pub far_sound : IsSound far (to_far steps)

-- in one direction: an answer that was taken is that of its own request, performed exactly once
abbrev pub AnswersAreOfOnce : {S : Type 0} → BothEnds S → List Step → Type 0
AnswersAreOfOnce setting steps =
    (k : ℕ) (r : Asked) (message : List ℕ)
    → asked_at (world setting steps).log k ≡ Some r
    → ((requests_of setting (world setting steps) r.source).each r.own).course.progress ≡ Answered message
    → WasPerformedOnce setting steps k r message

abbrev pub EachWayTakesTheOneReply : Type 0 → Type 0 → Type 0
EachWayTakesTheOneReply S T =
    (near : BothEnds S) (far : BothEnds T) (steps : List TwoWayStep)
    → AreTimelyBothWays near far steps
    → AnswersAreOfOnce near (to_near steps) × AnswersAreOfOnce far (to_far steps)

-- in one direction: the state is that of performing once each request that arrived
abbrev pub StateIsOfOnce : {S : Type 0} → BothEnds S → List Step → Type 0
StateIsOfOnce setting steps =
    performed setting.device All setting.window setting.keep setting.start (reached (world setting steps).log)
    ≡ once setting.device setting.keep setting.start (world setting steps).log

abbrev pub EachWayPerformsOnce : {S T : Type 0} → Rules S → Rules T → Type 0
EachWayPerformsOnce {S} {T} near_rules far_rules =
    (near : BothEnds S) (far : BothEnds T) (steps : List TwoWayStep)
    → near.device ≡ near_rules → far.device ≡ far_rules → AreTimelyBothWays near far steps
    → StateIsOfOnce near (to_near steps) × StateIsOfOnce far (to_far steps)
