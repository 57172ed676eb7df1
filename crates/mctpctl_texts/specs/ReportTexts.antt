-- What `mctpctl run` writes after the entries: the requests, the order of performing, the device and whether the
-- schedule was timely.
use Rattle.std.specs.Prelude.{ℕ, ◌+◌, ℤ, Bool, true, false, List, [], ◌∷◌, ◌++◌, codes}
use Rattle.std.specs.Fmt.{decimal, signed_decimal}
use Rattle.std.specs.List.{flat_map}
use Rattle.hex.specs.Hex.{encode_lower}
use Rattle.mctp_schedule.specs.Requests.{Request}
use Rattle.mctp_schedule.specs.declared.entry.Entry.{Entry}
use Rattle.schedule_text.specs.declared.step.Step.{Step}
use Rattle.mctpctl_texts.specs.EntryTexts.{entries_text, numbers_text}
use Rattle.mctpctl_texts.specs.ShownLines.{spaced_line}
use Rattle.simulated_device.specs.Devices.{Device}
use Rattle.simulated_device.specs.Getters.{reading_of, states_of, value_of}
use Rattle.pldm_requester.specs.Courses.{Progress, Waiting, Answered, GaveUp}

-- how a request stands; an answered one stands with its response message
abbrev pub progress_text : Progress → List ℕ
progress_text Waiting = codes "open"
progress_text (Answered message) = codes "answered " ++ encode_lower message
progress_text GaveUp = codes "gave up"

abbrev pub request_line : ℕ → Request → List ℕ
request_line number request =
    spaced_line (codes "request" ∷ decimal number ∷ codes "from" ∷ decimal request.asked.source
    ∷ progress_text request.progress ∷ [])

-- a line for each of these requests, the first of them with this number
abbrev pub requests_text : ℕ → List Request → List ℕ
requests_text number [] = []
requests_text number (request ∷ more) = request_line number request ++ requests_text (number + 1) more

-- the numbers of the requests that were performed, in that order
abbrev pub order_line : List ℕ → List ℕ
order_line [] = codes "order -\n"
order_line (first ∷ more) = codes "order" ++ (numbers_text (first ∷ more) ++ 10 ∷ [])

-- a line of an ID and a value
abbrev pub value_line : List ℕ → ℕ × ℤ → List ℕ
value_line kind pair = spaced_line (kind ∷ decimal pair.0 ∷ signed_decimal pair.1 ∷ [])

abbrev pub states_line : ℕ × List ℕ → List ℕ
states_line pair = codes "state " ++ (decimal pair.0 ++ (numbers_text pair.1 ++ 10 ∷ []))

abbrev pub tid_line : ℕ → List ℕ
tid_line tid = spaced_line (codes "tid" ∷ decimal tid ∷ [])

abbrev pub sensors_text : Device → List ℕ
sensors_text device = flat_map (λ entry. value_line (codes "sensor") (reading_of entry)) device.numeric_sensors

abbrev pub numerics_text : Device → List ℕ
numerics_text device = flat_map (λ entry. value_line (codes "numeric") (value_of entry)) device.numeric_effecters

abbrev pub states_text : Device → List ℕ
states_text device = flat_map (λ entry. states_line (states_of entry)) device.state_effecters

-- the terminus ID, the readings and the values, each kind in ascending order of ID
abbrev pub device_text : Device → List ℕ
device_text device =
    tid_line device.tid ++ (sensors_text device ++ (numerics_text device ++ states_text device))

abbrev pub timely_line : Bool → List ℕ
timely_line true = codes "timely: yes\n"
timely_line false = codes "timely: no\n"

-- all that is written of a run; the lines of the device stand as they are
abbrev pub report_text : List Step → List Entry → List Request → List ℕ → (device : List ℕ) → Bool → List ℕ
report_text steps entries requests order device timely =
    entries_text steps entries ++ (requests_text 0 requests ++ (order_line order ++ (device ++ timely_line timely)))
