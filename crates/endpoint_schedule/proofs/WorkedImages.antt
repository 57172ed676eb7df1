-- The premises of the law are met by an update of an image in three pieces, over restarts and losses: the device asked for
-- the first piece once before it began anew, with another requester. Then the answer to the first piece is lost, and comes to
-- the retry; the agent's end restarts, its 'not ready' to the second is not taken, and that one is given up and asked for
-- anew; the answer to this comes twice. The newest step stands first.
use Rattle.std.proofs.Common.{◌≡◌, ℕ, zero, suc, ◌+◌, Bool, true, List, [], ◌∷◌, ◌++◌, length, Option, Some, Err, refl, sym, ap, ◌∙◌, subst, ⊎_elim, inr, arith, eqb-true}
use Rattle.std.specs.Prelude.{◌==◌, ◌&&◌, if◌then◌else◌}
use Rattle.std.proofs.lemmas.Bool.{and_parts}
use Rattle.byteorder.specs.Endian.{little_from, little_bytes}
use Rattle.byteorder.specs.Numbers.{little_number-reads_back}
use Rattle.mctp_packet.specs.Ids.{IsEid}
use Rattle.pldm_platform.specs.declared.platform.ReadingFault.TheVariants.{NoSuchSensor}
use Rattle.pldm_requester.specs.Asks.{ask_for}
use Rattle.pldm_requester.specs.Numbering.{message_with}
use Rattle.pldm_requester.specs.Pacing.{at_default}
use Rattle.pldm_responder.specs.Performing.{Response as Responded, Rules}
use Rattle.pldm_wire.specs.CommandReading.{command_of}
use Rattle.pldm_wire.specs.Kinds.{of_type}
use Rattle.pldm_wire.specs.Messages.{response_message}
use Rattle.pldm_wire.specs.Requests.{Request as WireRequest, request_of}
use Rattle.pldm_wire.specs.Responses.{response, response_of}
use Rattle.pldm_wire.specs.declared.answer.Answer.TheVariants.{Refused}
use Rattle.pldm_wire.specs.declared.assigned.TheConstants.{SUCCESS}
use Rattle.pldm_update.specs.Commands.{command_data}
use Rattle.pldm_update.specs.Deeds.{image, size_begun}
use Rattle.pldm_update.specs.DeviceCalls as devices
use Rattle.pldm_update.specs.DeviceCalls.{deeds, machine}
use Rattle.pldm_update.specs.ImagePieces.{piece}
use Rattle.pldm_update.specs.Machines.{wish}
use Rattle.pldm_update.specs.declared.command.UpdateCommand.TheVariants.{RequestFirmwareData, TransferComplete}
use Rattle.pldm_update.specs.declared.device_stage.DeviceRequest.{DeviceRequest}
use Rattle.pldm_update.specs.declared.device_stage.DeviceRequest.TheVariants.{Piece}
use Rattle.pldm_update.specs.declared.flash.FlashAction.TheVariants.{Verify}
use Rattle.mctp_schedule.specs.Actions.{Action, Open, Tick, Request, Reply, Busy, Restart, Step}
use Rattle.mctp_schedule.specs.Laws.{TimelyIsTested}
use Rattle.mctp_schedule.specs.Logs.{Asked, Happening, Opened, Delivered, Sensed, WentDown, asked_at, count_of, endpoint_of}
use Rattle.mctp_schedule.specs.RequesterHalf.{IsTimelySchedule}
use Rattle.mctp_schedule.specs.Worlds.{BothEnds, World, is_timely, world}
use Rattle.mctp_schedule.proofs.FirstPerformed.{request_opened}
use Rattle.mctp_schedule.proofs.PremiseTests.{all_fit, all_rest, are_of_kinds, are_rested, goes_on, never_went_back, replies_fit}
use Rattle.endpoint_schedule.specs.FirmwareDevices.{AtDevice, HasAnswer, HasAsked, IsUpdate, OnLink, UpdateStep as StepOf, device_calls, link_steps, piece_ask, piece_kind}
use Rattle.endpoint_schedule.specs.UpdatesOverSchedules.{GivesPieces, ImageOverSchedules, over_schedule}

-- so many bytes, each one more than the last
abbrev counted : ℕ → ℕ → List ℕ
counted zero next = []
counted (suc count) next = next ∷ counted count (next + 1)

abbrev file : List ℕ
file = counted 70 1

-- the agent's end gives the piece that is asked for
abbrev given_for : WireRequest → Responded
given_for r = record { code = SUCCESS; rest = if r.kind.command == 0x15 then piece file (little_from 0 4 r.rest) (little_from 4 4 r.rest) else [] }

abbrev agent : Rules (Unit {0})
agent = record {
  answer = λ state command. Refused 5;
  after = λ state command. state;
  sensed = λ state id value. Err NoSuchSensor;
  hands_on = λ kind. kind.pldm_type == 5;
  respond = λ state request. given_for request;
  after_response = λ state request. state;
}

abbrev setting : BothEnds (Unit {0})
setting = record {
  device = agent;
  start = tt;
  eid = 9;
  keep = 1000;
  window = 32;
  requesters = record { eid = 8; timeout = 200; tries = 3 } ∷ [];
  pace = at_default 1000;
}

abbrev at : ℕ → Action → Step
at moment action = record { moment = moment; action = action }

abbrev UpdateStep : Type 0
UpdateStep = StepOf Step

abbrev on : ℕ → Action → UpdateStep
on moment action = OnLink (at moment action)

-- ---- the run
-- what the device asked before it began anew
abbrev earlier : List Step
earlier = at 1 (Request 0) ∷ at 0 (Open 8 (piece_ask 0 32)) ∷ []

-- its requester since then, the second one at endpoint 8
abbrev second : ℕ
second = 264

-- the agent offers its one component, and the device makes room for it
abbrev offered : List UpdateStep
offered =
    AtDevice (devices.Done 1 true) ∷ AtDevice (devices.UpdateComponent 9 2000 70 (Some 4096))
    ∷ AtDevice (devices.PassComponent 9 2000 5) ∷ AtDevice (devices.RequestUpdate 9 2000 32 1) ∷ []

abbrev first_opened : List UpdateStep
first_opened = on 2000 (Open second (piece_ask 0 32)) ∷ offered

abbrev first_answered : List UpdateStep
first_answered =
    on 2202 (Reply 0 1) ∷ on 2201 (Request 1) ∷ on 2200 (Tick second) ∷ on 2001 (Request 1) ∷ AtDevice (devices.Opened 0 2000)
    ∷ first_opened

abbrev second_opened : List UpdateStep
second_opened =
    on 2210 (Open second (piece_ask 32 32)) ∷ AtDevice (devices.Done 2 true)
    ∷ AtDevice (devices.Answered 0 2202 SUCCESS (piece file 0 32)) ∷ first_answered

abbrev third_opened : List UpdateStep
third_opened =
    on 3220 (Open second (piece_ask 32 32)) ∷ AtDevice (devices.GaveUp 1) ∷ on 2810 (Tick second) ∷ on 2213 (Busy 2)
    ∷ on 2212 (Request 2) ∷ on 2211 Restart ∷ AtDevice (devices.Opened 1 2210) ∷ second_opened

abbrev third_answered : List UpdateStep
third_answered =
    on 3223 (Reply 0 3) ∷ on 3222 (Reply 0 3) ∷ on 3221 (Request 3) ∷ AtDevice (devices.Opened 2 3220) ∷ third_opened

abbrev fourth_opened : List UpdateStep
fourth_opened =
    on 3230 (Open second (piece_ask 64 6)) ∷ AtDevice (devices.Done 3 true)
    ∷ AtDevice (devices.Answered 2 3224 SUCCESS (piece file 32 32)) ∷ third_answered

abbrev fourth_answered : List UpdateStep
fourth_answered = on 3232 (Reply 0 4) ∷ on 3231 (Request 4) ∷ AtDevice (devices.Opened 3 3230) ∷ fourth_opened

-- all is stored, and the device says so
abbrev fifth_opened : List UpdateStep
fifth_opened =
    on 3240 (Open second (ask_for (of_type 5 0x16) (command_data (TransferComplete 0)))) ∷ AtDevice (devices.Done 4 true)
    ∷ AtDevice (devices.Answered 3 3233 SUCCESS (piece file 64 6)) ∷ fourth_answered

abbrev past : List UpdateStep
past = on 3242 (Reply 0 5) ∷ on 3241 (Request 5) ∷ AtDevice (devices.Opened 4 3240) ∷ fifth_opened

abbrev last_call : devices.Call
last_call = devices.Answered 4 3243 SUCCESS []

abbrev steps : List Step
steps = link_steps past ++ earlier

abbrev before : List UpdateStep → World
before past = over_schedule setting earlier past

-- ---- what was asked, and what was answered
asks_it : (w : World) (number place few : ℕ) → HasAsked second w number place few
    → (wished : Option DeviceRequest) → wished ≡ Some (Piece place few) → (offset count : ℕ) → wished ≡ Some (Piece offset count) → HasAsked second w number offset count
asks_it w number place few asked wished is offset count e =
    let both : Some (Piece place few) ≡ Some (Piece offset count) = sym is ∙ e in
    let there : place ≡ offset = cc in
    let many : few ≡ count = cc in
    subst (λ c. HasAsked second w number offset c) many (subst (λ o. HasAsked second w number o few) there asked)

abbrev asked_as : ℕ → ℕ → ℕ → ℕ → Asked
asked_as own opening offset count = record { source = second; own = own; opening = opening; message = message_with own (piece_ask offset count) }

first_asked : HasAsked second (before first_opened) 0 0 32
unfolding request_of command_of response_of
first_asked = record { k = 1; r = asked_as 0 2000 0 32; asked = refl; source = refl; own = refl; message = refl }

second_asked : HasAsked second (before second_opened) 1 32 32
unfolding request_of command_of response_of
second_asked = record { k = 2; r = asked_as 1 2210 32 32; asked = refl; source = refl; own = refl; message = refl }

third_asked : HasAsked second (before third_opened) 2 32 32
unfolding request_of command_of response_of
third_asked = record { k = 3; r = asked_as 2 3220 32 32; asked = refl; source = refl; own = refl; message = refl }

fourth_asked : HasAsked second (before fourth_opened) 3 64 6
unfolding request_of command_of response_of
fourth_asked = record { k = 4; r = asked_as 3 3230 64 6; asked = refl; source = refl; own = refl; message = refl }

abbrev Answers : List UpdateStep → ℕ → List ℕ → Type 0
Answers past number bytes = HasAnswer setting second (before past) number SUCCESS bytes

first_has : Answers first_answered 0 (piece file 0 32)
unfolding request_of command_of response_of
first_has = record { message = response_message 0 0 piece_kind SUCCESS (piece file 0 32); progress = refl; response = response 0 piece_kind SUCCESS (piece file 0 32); read = refl; code_is = refl; rest_is = refl }

third_has : Answers third_answered 2 (piece file 32 32)
unfolding request_of command_of response_of
third_has = record { message = response_message 0 2 piece_kind SUCCESS (piece file 32 32); progress = refl; response = response 2 piece_kind SUCCESS (piece file 32 32); read = refl; code_is = refl; rest_is = refl }

fourth_has : Answers fourth_answered 3 (piece file 64 6)
unfolding request_of command_of response_of
fourth_has = record { message = response_message 0 3 piece_kind SUCCESS (piece file 64 6); progress = refl; response = response 3 piece_kind SUCCESS (piece file 64 6); read = refl; code_is = refl; rest_is = refl }

-- the device wishes for pieces as they are asked for
wishes : List UpdateStep → ℕ → Option DeviceRequest
wishes past now = wish (machine 0 (device_calls past)) now

is_update : IsUpdate setting (over_schedule setting earlier) second 0 past
is_update = (
  tt,
  (
    tt,
    (
      λ offset count e. absurd (cc),
      (
        tt,
        (
          tt,
          (
            fourth_has,
            (
              tt,
              (
                tt,
                (
                  asks_it (before fourth_opened) 3 64 6 fourth_asked (wish (machine 0 (device_calls fourth_opened)) 3230) refl,
                  (tt, (tt, (third_has, (tt, (tt, (tt, (asks_it (before third_opened) 2 32 32 third_asked (wish (machine 0 (device_calls third_opened)) 3220) refl, to_third))))))),
                ),
              ),
            ),
          ),
        ),
      ),
    ),
  ),
)
  where
    to_second : IsUpdate setting (over_schedule setting earlier) second 0 second_opened
    to_second = (tt, (tt, (first_has, (tt, (tt, (tt, (tt, (asks_it (before first_opened) 0 0 32 first_asked (wish (machine 0 (device_calls first_opened)) 2000) refl, (tt, (tt, (tt, (tt, (tt, tt)))))))))))))

    to_third : IsUpdate setting (over_schedule setting earlier) second 0 third_opened
    to_third = (tt, (tt, (tt, (tt, (tt, (tt, (asks_it (before second_opened) 1 32 32 second_asked (wish (machine 0 (device_calls second_opened)) 2210) refl, to_second)))))))

-- ---- the schedule
goes : goes_on steps ≡ true
goes = refl

in_time : is_timely setting steps ≡ true
unfolding request_of command_of response_of
in_time = refl

fit : all_fit agent 32 1000 tt (world setting steps).log ≡ true
unfolding request_of command_of response_of
fit = refl

-- all ask from endpoint 8
abbrev from_eight : List Happening → Bool
from_eight [] = true
from_eight (Opened r ∷ past) = (endpoint_of r.source == 8) && from_eight past
from_eight (_ ∷ past) = from_eight past

each_from_eight : (log : List Happening) → from_eight log ≡ true → (k : ℕ) (r : Asked) → asked_at log k ≡ Some r → endpoint_of r.source ≡ 8
each_from_eight [] t k r is = absurd (cc)
each_from_eight (Opened q ∷ past) t k r is =
    let parts = and_parts (endpoint_of q.source == 8) (from_eight past) t in
    ⊎_elim
    (λ (x : (k ≡ count_of past) × (q ≡ r)). subst (λ (o : Asked). endpoint_of o.source ≡ 8) x.1 (eqb-true (endpoint_of q.source) 8 parts.0))
    (λ (x : (k ≡ count_of past → ⊥) × (asked_at past k ≡ Some r)). each_from_eight past parts.1 k r x.1)
    (request_opened q past k r is)
each_from_eight (Delivered moment n ∷ past) t k r is = each_from_eight past t k r is
each_from_eight (Sensed moment id value ∷ past) t k r is = each_from_eight past t k r is
each_from_eight (WentDown moment ∷ past) t k r is = each_from_eight past t k r is

all_from_eight : from_eight (world setting steps).log ≡ true
unfolding request_of command_of response_of
all_from_eight = refl

rested : all_rest 1000 (world setting steps).log ≡ true
unfolding request_of command_of response_of
rested = refl

is_schedule : TimelyIsTested setting → IsTimelySchedule setting steps
is_schedule tested = record {
  order = never_went_back steps goes;
  timely = (tested steps).0 in_time;
  sound = record {
    device = (omega arith, omega arith);
    sources = λ k r is.
        let eight = each_from_eight (world setting steps).log all_from_eight k r is in
        (subst IsEid (sym eight) (omega arith, omega arith), subst (λ d. d ≡ 9 → ⊥) (sym eight) (omega arith));
    fit = replies_fit agent 32 1000 tt (world setting steps).log fit;
    pace = record { within = omega arith; window = inr refl };
    asks = are_of_kinds steps refl;
    rested = are_rested 1000 (world setting steps).log rested;
  };
}

-- the agent's end gives the pieces of its file
gives : GivesPieces setting file (world setting steps)
gives k offset count r place given low few is message came given_is well =
    let rest = command_data (RequestFirmwareData offset count) in
    let there : little_from 0 4 rest ≡ offset = little_number-reads_back 4 offset (little_bytes 4 count ++ []) low in
    let many : little_from 4 4 rest ≡ count = little_number-reads_back 4 count [] few in
    let bytes : given.rest ≡ piece file (little_from 0 4 rest) (little_from 4 4 rest) = ap (λ (x : Responded). x.rest) given_is in
    bytes ∙ ap (λ o. piece file o (little_from 4 4 rest)) there ∙ ap (λ c. piece file offset c) many

-- ---- what follows
size_is : size_begun (deeds 0 (device_calls past)) ≡ Some (length file)
size_is = refl

is_to_verify : (devices.happens (machine 0 (device_calls past)) last_call).action ≡ Some Verify
is_to_verify = refl

is_the_file : ImageOverSchedules setting → TimelyIsTested setting → image (deeds 0 (device_calls past)) ≡ file
is_the_file law tested = law file earlier second 0 past last_call (is_schedule tested) refl gives is_update (omega arith) size_is is_to_verify

-- it is so by computation too
stored_is : image (deeds 0 (device_calls past)) ≡ file
stored_is = refl
