-- A request that was opened, and how it stands.
use Rattle.std.specs.Prelude.{ℕ, List, refl}
use Rattle.std.specs.Coded.{Coded, code_by, coded×, coded_ℕ, coded_list}
use Rattle.pldm_requester.specs.Courses as courses
use Rattle.pldm_requester.specs.Slots.{coded_progress}
use Rattle.mctp_schedule.specs.Logs.{Asked}
use Rattle.mctp_schedule.specs.declared.opened_request.Progress.{Progress}
use Rattle.mctp_schedule.specs.declared.opened_request.Progress.TheVariants.{Waiting, AnsweredShort, AnsweredShared, GaveUp}

pub record Request : Type 0 where
  pub asked : Asked
  pub progress : courses.Progress

abbrev pub progress_of : Progress → courses.Progress
progress_of Waiting = courses.Waiting
progress_of (AnsweredShort message) = courses.Answered message
progress_of (AnsweredShared message) = courses.Answered message.now
progress_of GaveUp = courses.GaveUp

-- it is stored as its parts
abbrev pub coded_request : Coded Request
coded_request =
    code_by (ℕ × (ℕ × (ℕ × (List ℕ × courses.Progress))))
    (coded× coded_ℕ (coded× coded_ℕ (coded× coded_ℕ (coded× (coded_list coded_ℕ) coded_progress))))
    (λ r. (r.asked.source, (r.asked.own, (r.asked.opening, (r.asked.message, r.progress)))))
    (λ c. record {
      asked = record { source = c.0; own = c.1.0; opening = c.1.1.0; message = c.1.1.1.0 };
      progress = c.1.1.1.1;
    })
    (λ _. refl)

abbrev pub with_progress : courses.Progress → Request → Request
with_progress progress request = record { asked = request.asked; progress = progress }

abbrev pub with_message : List ℕ → Request → Request
with_message message request = record {
  asked = record {
    source = request.asked.source;
    own = request.asked.own;
    opening = request.asked.opening;
    message = message;
  };
  progress = request.progress;
}

-- a request that is open
abbrev pub begun : ℕ → ℕ → ℕ → List ℕ → Request
begun source own opening message = record {
  asked = record { source = source; own = own; opening = opening; message = message };
  progress = courses.Waiting;
}
