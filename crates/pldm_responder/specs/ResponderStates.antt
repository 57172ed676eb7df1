-- What a responder holds between two calls.
use Rattle.std.specs.FinMap as map
use Rattle.std.specs.Prelude.{◌≡◌, ℕ, List, []}
use Rattle.mctp_assembly.specs.Steps as assembly
use Rattle.pldm_wire.specs.Headers.{id_at}
use Rattle.pldm_wire.specs.declared.restart_policy.RestartPolicy.{RestartPolicy}

-- a kept answer: when the fresh message came, its bytes, and the message that answered it, empty until there is one
pub record Entry : Type 0 where
  pub moment : ℕ
  pub bytes : List ℕ
  pub answer : List ℕ

-- the instance ID that it is for
abbrev pub id_in : Entry → ℕ
id_in entry = id_at entry.bytes

-- its endpoint ID, keeping time and window, what it refuses in the busy time, what is open on each key, the kept
-- answers of each source, one of each instance ID and no more than the window, the newest first, the state of the
-- platform, the moment from which it serves, and the last moment
pub record ResponderState (S : Type 0) : Type 0 where
  pub own : ℕ
  pub busy : RestartPolicy
  pub window : ℕ
  pub keep : ℕ
  pub open_messages : assembly.OpenMessages
  pub kept : ℕ → List Entry
  pub state : S
  pub serves_from : ℕ
  pub last : ℕ

-- the same is held
pub record IsHeld {S : Type 0} (new held : ResponderState S) : Type 0 where
  pub own : new.own ≡ held.own
  pub busy : new.busy ≡ held.busy
  pub window : new.window ≡ held.window
  pub keep : new.keep ≡ held.keep
  pub open_messages : new.open_messages ≡ held.open_messages
  pub kept : (source : ℕ) → new.kept source ≡ held.kept source
  pub state : new.state ≡ held.state
  pub serves_from : new.serves_from ≡ held.serves_from
  pub last : new.last ≡ held.last

-- what a new one holds
abbrev pub held_at_first : {S : Type 0} → ℕ → RestartPolicy → (window keep : ℕ) → S → ResponderState S
held_at_first own busy window keep state = record {
  own = own;
  busy = busy;
  window = window;
  keep = keep;
  open_messages = map.empty;
  kept = λ source. [];
  state = state;
  serves_from = 0;
  last = 0;
}
