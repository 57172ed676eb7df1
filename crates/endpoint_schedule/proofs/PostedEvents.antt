-- What a device posts, as steps of a run of events.
use Rattle.std.proofs.Common.{◌≡◌, ℕ, Bool, true, false, List, [], ◌∷◌, ◌++◌, refl, sym, ap, ◌∙◌, append_assoc}
use Rattle.std.specs.Prelude.{if◌then◌else◌}
use Rattle.std.proofs.lemmas.List.{append-nil}
use Rattle.event_queue.specs.Queues.{PlatformEvent, QueueView, has_room, new_event, one_refused, posted}
use Rattle.event_queue.specs.Runs.{EventStep, EventWorld, Posts, IsTimelyRun, event_world, with_post, with_refusal}
use Rattle.endpoint_schedule.specs.EventDevices.{Posting, made_of, made_of_one, with_posting, with_postings}

abbrev pub posting : List Posting → List EventStep → List EventStep
posting [] past = past
posting (p ∷ rest) past = posting rest (Posts p.class p.contents ∷ past)

-- all but the queue and what was posted and acknowledged is the same
pub record IsSame (a b : EventWorld) : Type 0 where
  pub count : b.count ≡ a.count
  pub asked : (n : ℕ) → b.asked n ≡ a.asked n
  pub given : (n : ℕ) → b.given n ≡ a.given n
  pub receiver : b.receiver ≡ a.receiver
  pub open_one : b.open_one ≡ a.open_one
  pub taken : b.taken ≡ a.taken

pub same_self : (a : EventWorld) → IsSame a a
same_self a = record {
  count = refl;
  asked = λ n. refl;
  given = λ n. refl;
  receiver = refl;
  open_one = refl;
  taken = refl;
}

both_same : (a b c : EventWorld) → IsSame a b → IsSame b c → IsSame a c
both_same a b c x y = record {
  count = y.count ∙ x.count;
  asked = λ n. y.asked n ∙ x.asked n;
  given = λ n. y.given n ∙ x.given n;
  receiver = y.receiver ∙ x.receiver;
  open_one = y.open_one ∙ x.open_one;
  taken = y.taken ∙ x.taken;
}

-- ---- one
abbrev after_one : EventWorld → Posting → Bool → EventWorld
after_one w p room = if room then with_post w p.class p.contents else with_refusal w

queue_of_one : (w : EventWorld) (p : Posting) (room : Bool) → (after_one w p room).queue ≡ (if room then posted w.queue p.class p.contents else one_refused w.queue)
queue_of_one w p true = refl
queue_of_one w p false = refl

posted_by_one : (w : EventWorld) (p : Posting) (room : Bool) → (after_one w p room).posted ≡ w.posted ++ (if room then new_event w.queue p.class p.contents ∷ [] else [])
posted_by_one w p true = refl
posted_by_one w p false = sym (append-nil w.posted)

same_by_one : (w : EventWorld) (p : Posting) (room : Bool) → IsSame w (after_one w p room)
same_by_one w p true = record {
  count = refl;
  asked = λ n. refl;
  given = λ n. refl;
  receiver = refl;
  open_one = refl;
  taken = refl;
}
same_by_one w p false = record {
  count = refl;
  asked = λ n. refl;
  given = λ n. refl;
  receiver = refl;
  open_one = refl;
  taken = refl;
}

-- ---- all
module _ (most first : ℕ) where
  pub record IsPosted (before after : List EventStep) (ps : List Posting) : Type 0 where
    pub timely : IsTimelyRun most first after
    pub queue : (event_world most first after).queue ≡ with_postings (event_world most first before).queue ps
    pub posted :
        (event_world most first after).posted
        ≡ (event_world most first before).posted ++ made_of (event_world most first before).queue ps
    pub same : IsSame (event_world most first before) (event_world most first after)

  pub is_posted : (ps : List Posting) (before : List EventStep) → IsTimelyRun most first before → IsPosted before (posting ps before) ps
  is_posted [] before t = record {
    timely = t;
    queue = refl;
    posted = sym (append-nil (event_world most first before).posted);
    same = same_self (event_world most first before);
  }
  is_posted (p ∷ rest) before t =
      let w = event_world most first before in
      let now = after_one w p (has_room w.queue) in
      let q = queue_of_one w p (has_room w.queue) in
      let one = made_of_one w.queue p in
      let more = is_posted rest (Posts p.class p.contents ∷ before) (tt, t) in
      record {
        timely = more.timely;
        queue = more.queue ∙ ap (λ (x : QueueView). with_postings x rest) q;
        posted =
            more.posted
            ∙ ap (λ (x : List PlatformEvent). x ++ made_of now.queue rest) (posted_by_one w p (has_room w.queue))
            ∙ ap (λ (x : QueueView). (w.posted ++ one) ++ made_of x rest) q
            ∙ append_assoc w.posted one (made_of (with_posting w.queue p) rest);
        same = both_same w now (event_world most first (posting (p ∷ rest) before)) (same_by_one w p (has_room w.queue)) more.same;
      }
