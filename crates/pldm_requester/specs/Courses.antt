-- The course of one request: it is open from its opening until it is answered or given up, and is sent again meanwhile.
-- The times are this profile's own.
use Rattle.std.specs.Prelude.{ℕ, ◌+◌, ◌*◌, List, [], Bool, true, false, ◌&&◌, not, nat_le, if◌then◌else◌}
use Rattle.pldm_requester.specs.declared.timing.Timing.{Timing}

-- open, answered by this message, or given up
pub data Progress : Type 0 where
  Waiting : Progress
  Answered : List ℕ → Progress
  GaveUp : Progress

pub record Course : Type 0 where
  pub opening : ℕ
  pub last_sent : ℕ
  pub progress : Progress

abbrev pub is_waiting : Progress → Bool
is_waiting Waiting = true
is_waiting (Answered message) = false
is_waiting GaveUp = false

abbrev pub is_open : Course → Bool
is_open course = is_waiting course.progress

abbrev pub has_answer : Progress → Bool
has_answer Waiting = false
has_answer (Answered message) = true
has_answer GaveUp = false

abbrev pub is_answered : Course → Bool
is_answered course = has_answer course.progress

-- what stands for a request that was not opened
abbrev pub no_course : Course
no_course = record { opening = 0; last_sent = 0; progress = GaveUp }

abbrev pub begun : ℕ → Course
begun moment = record { opening = moment; last_sent = moment; progress = Waiting }

-- all tries have had their time
abbrev pub is_over : Timing → ℕ → Course → Bool
is_over timing moment course = nat_le (course.opening + timing.tries * timing.timeout) moment

-- an open request is given up once all its tries have had their time
abbrev pub is_given_up : Timing → ℕ → Course → Bool
is_given_up timing moment course = is_open course && is_over timing moment course

-- else it is sent again once its last try has had its time
abbrev pub is_sent_again : Timing → ℕ → Course → Bool
is_sent_again timing moment course =
    is_open course && not (is_over timing moment course) && nat_le (course.last_sent + timing.timeout) moment

abbrev pub given_up : Course → Course
given_up course = record { opening = course.opening; last_sent = course.last_sent; progress = GaveUp }

abbrev pub sent_again : ℕ → Course → Course
sent_again moment course = record { opening = course.opening; last_sent = moment; progress = course.progress }

abbrev pub answered : List ℕ → Course → Course
answered message course =
    record { opening = course.opening; last_sent = course.last_sent; progress = Answered message }

-- without the message that answered it
abbrev pub emptied : Progress → Progress
emptied Waiting = Waiting
emptied (Answered message) = Answered []
emptied GaveUp = GaveUp

abbrev pub without_answer : Course → Course
without_answer course =
    record { opening = course.opening; last_sent = course.last_sent; progress = emptied course.progress }

-- what a tick makes of it
abbrev pub ticked : Timing → ℕ → Course → Course
ticked timing moment course =
    if is_given_up timing moment course then given_up course
    else (if is_sent_again timing moment course then sent_again moment course else course)
