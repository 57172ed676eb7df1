-- The premises of the law over a link are met by an update of an image in one piece: the agent's end is an endpoint that
-- hands the device's requests on as bytes, the packet of one is repeated while it is pending, and each is answered later.
-- Steps have the newest first.
use Rattle.std.specs.FinMap as map
use Rattle.std.proofs.Common.{◌≡◌, ℕ, zero, suc, ◌+◌, ◌≤◌, ◌==◌, Bool, true, false, List, [], ◌∷◌, ◌++◌, length, Some, None, Ok, refl, sym, ap, ◌∙◌, subst, inl, arith}
use Rattle.std.specs.Prelude.{◌-◌, get_or, nat_le, slice_get, take, if◌then◌else◌}
use Rattle.byteorder.specs.Endian.{little_from, little_bytes}
use Rattle.byteorder.specs.Numbers.{little_number-reads_back}
use Rattle.mctp_packet.specs.Laws.{SpelledIsReadFor, WrittenSpells}
use Rattle.mctp_assembly.specs.Steps as assembly
use Rattle.pldm_endpoint.specs.Receiving.{HasReceived}
use Rattle.pldm_endpoint.specs.RequestKeys.{PendingCommands, pending_at, request_key, request_key_cmp}
use Rattle.pldm_endpoint.specs.TwoSteps.{EndpointView, command_at, entry_given}
use Rattle.pldm_endpoint.specs.declared.pending_commands.PendingCommand.{PendingCommand}
use Rattle.pldm_endpoint.specs.declared.step.CommandHandle.{CommandHandle}
use Rattle.pldm_endpoint.specs.declared.step.Step.TheVariants as taken
use Rattle.pldm_endpoint.proofs.KeyOrder.{request_keys_total}
use Rattle.pldm_endpoint.proofs.PendingGlue.{just_put}
use Rattle.pldm_requester.specs.Asks.{Ask, ask_for}
use Rattle.pldm_requester.specs.Numbering.{message_with}
use Rattle.pldm_responder.specs.Asked.{Given, Responded}
use Rattle.pldm_responder.specs.OutsideAnswers.{outcome_of_answer}
use Rattle.pldm_responder.specs.Performing.{Respond, tasks_of}
use Rattle.pldm_responder.specs.Recency.{renewed, replaced}
use Rattle.pldm_responder.specs.ResponderStates.{Entry, id_in}
use Rattle.pldm_responder.specs.Steps.{open_after}
use Rattle.pldm_responder.specs.declared.outcome.Outcome.{Outcome}
use Rattle.pldm_wire.specs.CommandReading.{command_of}
use Rattle.pldm_wire.specs.HandingOn.{hands_on}
use Rattle.pldm_wire.specs.Kinds.{of_type}
use Rattle.pldm_wire.specs.Messages.{response_message}
use Rattle.pldm_wire.specs.Requests.{Request, request, request_of}
use Rattle.pldm_wire.specs.Responses.{response, response_of}
use Rattle.pldm_wire.specs.declared.assigned.TheConstants.{SUCCESS}
use Rattle.pldm_update.specs.Commands.{command_data}
use Rattle.pldm_update.specs.Deeds.{image, size_begun}
use Rattle.pldm_update.specs.DeviceCalls as devices
use Rattle.pldm_update.specs.DeviceCalls.{deeds, machine}
use Rattle.pldm_update.specs.ImagePieces.{piece}
use Rattle.pldm_update.specs.Machines.{wish}
use Rattle.pldm_update.specs.declared.command.UpdateCommand.TheVariants.{RequestFirmwareData, TransferComplete}
use Rattle.pldm_update.specs.declared.device_stage.DeviceRequest.TheVariants.{Piece}
use Rattle.pldm_update.specs.declared.flash.FlashAction.TheVariants.{Verify}
use Rattle.mctp_schedule.specs.Askers.{packet_bytes}
use Rattle.mctp_schedule.specs.Logs.{Asked, asked_at, message_at}
use Rattle.mctp_schedule.specs.OncePerformed.{FitsPackets}
use Rattle.mctp_schedule.specs.Timely.{ComesInTime}
use Rattle.mctp_schedule.specs.Worlds.{World, requests_of}
use Rattle.mctp_schedule.proofs.DeliveryChanges.{packet_for}
use Rattle.mctp_schedule.proofs.PremiseTests.{all_from_requesters, all_rest, are_rested, sources_of}
use Rattle.endpoint_schedule.specs.FirmwareDevices.{AtDevice, HasAnswer, HasAsked, IsUpdate, OnLink, UpdateStep as StepOf, device_calls, link_steps, piece_ask, piece_kind}
use Rattle.endpoint_schedule.specs.Links.{Answers, AreInTime, Delivers, IsRun, IsShort, Link, LinkStep, NeverGoesBack, Opens, Receives, Refuses, link, over_time}
use Rattle.endpoint_schedule.specs.OverTime.{IsTimelyLink, reply_of}
use Rattle.endpoint_schedule.specs.UpdatesOverLinks.{GivesPieces, ImageOverLinks, over_link}
use Rattle.endpoint_schedule.proofs.WorkedLinks.{answered, asked_with, asks_bytes, below, first_end, handing, is_first, keeping, limits, more, none_anew, served, settings, unchanged, view}

abbrev file : List ℕ
file = 10 ∷ 20 ∷ 30 ∷ 40 ∷ 50 ∷ []

-- ---- what the agent's end gives, by number: the piece, and then that the transfer is complete
abbrev given_for : ℕ → Given
given_for n = Responded (record { code = SUCCESS; rest = if n == 0 then file else [] })

abbrev done_ask : Ask
done_ask = ask_for (of_type 5 0x16) (command_data (TransferComplete 0))

abbrev first_request : Request
first_request = request 0 piece_kind (command_data (RequestFirmwareData 0 5))

abbrev second_request : Request
second_request = request 1 (of_type 5 0x16) (command_data (TransferComplete 0))

abbrev first : Asked
first = asked_with 0 10 (message_with 0 (piece_ask 0 5))

abbrev second : Asked
second = asked_with 1 20 (message_with 1 done_ask)

abbrev handle : ℕ → CommandHandle
handle n = record { source = 8; id = n; number = n }

-- ---- the endpoint after each call
abbrev pends_first : PendingCommand
pends_first = command_at (message_at 11 first) 0 (Respond first_request)

abbrev pends_second : PendingCommand
pends_second = command_at (message_at 21 second) 1 (Respond second_request)

abbrev one_pending : PendingCommands
one_pending = map.insert map.empty (request_key 8 0) pends_first

abbrev none_left : PendingCommands
none_left = map.remove one_pending (request_key 8 0)

abbrev other_pending : PendingCommands
other_pending = map.insert none_left (request_key 8 1) pends_second

abbrev open_one : assembly.OpenMessages
open_one = open_after map.empty (Ok (packet_for 9 first))

abbrev open_two : assembly.OpenMessages
open_two = open_after open_one (Ok (packet_for 9 second))

abbrev kept_one : List Entry
kept_one = take 2 (renewed id_in (record { moment = 11; bytes = first.message; answer = [] }) [])

abbrev kept_two : List Entry
kept_two = replaced id_in (entry_given handing pends_first (given_for 0)) kept_one

abbrev kept_three : List Entry
kept_three = take 2 (renewed id_in (record { moment = 21; bytes = second.message; answer = [] }) kept_two)

abbrev kept_four : List Entry
kept_four = replaced id_in (entry_given handing pends_second (given_for 1)) kept_three

abbrev served_first : EndpointView
served_first = view (Some kept_one) one_pending open_one 1 0 11

abbrev answered_first : EndpointView
answered_first = view (Some kept_two) none_left open_one 1 0 11

abbrev served_second : EndpointView
served_second = view (Some kept_three) other_pending open_two 2 0 21

abbrev answered_second : EndpointView
answered_second = view (Some kept_four) (map.remove other_pending (request_key 8 1)) open_two 2 0 21

abbrev goes_out : PendingCommand → ℕ → Outcome
goes_out a n = outcome_of_answer (hands_on handing) 9 8 a.tag a.request (given_for n)

-- ---- the run
abbrev Step : Type 0
Step = StepOf LinkStep

-- the agent offers its one component, and the device makes room for it
abbrev offered : List Step
offered =
    AtDevice (devices.Done 1 true) ∷ AtDevice (devices.UpdateComponent 9 5 5 (Some 4096)) ∷ AtDevice (devices.PassComponent 9 5 5)
    ∷ AtDevice (devices.RequestUpdate 9 5 32 1) ∷ []

abbrev first_opened : List Step
first_opened = OnLink (Opens 10 8 (piece_ask 0 5)) ∷ offered

abbrev first_answered : List Step
first_answered =
    OnLink (Delivers 14 0 0) ∷ OnLink (Answers 13 (handle 0) answered_first (goes_out pends_first 0)) ∷ OnLink (Refuses 12 served_first)
    ∷ OnLink (Receives 11 0 served_first (taken.Respond (handle 0))) ∷ AtDevice (devices.Opened 0 10) ∷ first_opened

abbrev second_opened : List Step
second_opened =
    OnLink (Opens 20 8 done_ask) ∷ AtDevice (devices.Done 2 true) ∷ AtDevice (devices.Answered 0 14 SUCCESS file) ∷ first_answered

abbrev past : List Step
past =
    OnLink (Delivers 23 0 1) ∷ OnLink (Answers 22 (handle 1) answered_second (goes_out pends_second 1))
    ∷ OnLink (Receives 21 1 served_second (taken.Respond (handle 1))) ∷ AtDevice (devices.Opened 1 20) ∷ second_opened

abbrev last_call : devices.Call
last_call = devices.Answered 1 24 SUCCESS []

abbrev there : List Step → Link
there steps = link settings given_for first_end (link_steps steps)

abbrev at : List Step → World
at = over_link settings given_for first_end []

-- ---- each call
short : IsShort done_ask
short = record { kind = omega arith; few = omega arith }

short_piece : IsShort (piece_ask 0 5)
short_piece = record { kind = omega arith; few = omega arith }

reads_first : request_of first.message ≡ Ok first_request
unfolding request_of
reads_first = refl

reads_second : request_of second.message ≡ Ok second_request
unfolding request_of
reads_second = refl

asks_first : tasks_of (hands_on handing) first.message ≡ Respond first_request ∷ []
unfolding request_of command_of
asks_first = refl

asks_second : tasks_of (hands_on handing) second.message ≡ Respond second_request ∷ []
unfolding request_of command_of
asks_second = refl

len_none : map.len none_left ≤ 2
len_none =
    let l = map.len-empty request_key_cmp PendingCommand in
    let one = more map.empty (request_key 8 0) pends_first 0 (omega (arith, l)) in
    subst (λ n. n ≤ 2) (sym (map.len-remove request_keys_total one_pending (request_key 8 0))) (go (map.contains_key one_pending (request_key 8 0)) one)
  where
    go : (b : Bool) → map.len one_pending ≤ 1 → (if b then map.len one_pending - 1 else map.len one_pending) ≤ 2
    go true few = omega (arith, few)
    go false few = omega (arith, few)

free_second : map.get none_left (request_key 8 1) ≡ None
free_second =
    map.get-remove request_keys_total one_pending (request_key 8 0) (request_key 8 1)
    ∙ map.get-insert request_keys_total map.empty (request_key 8 0) pends_first (request_key 8 1)
    ∙ map.get-empty request_key_cmp (request_key 8 1)

found_first : pending_at one_pending (handle 0) ≡ Some pends_first
found_first = just_put map.empty (request_key 8 0) pends_first

found_second : pending_at other_pending (handle 1) ≡ Some pends_second
found_second = just_put none_left (request_key 8 1) pends_second

module _ (spells : WrittenSpells) (read_for : SpelledIsReadFor) where
  first_served : HasReceived first_end 11 (packet_bytes 8 9 0 first.message) served_first (taken.Respond (handle 0))
  first_served =
      served spells read_for None map.empty map.empty 0 0 0 10 11 first.message (omega arith) (omega arith) first_request reads_first (Respond first_request)
      (map.get-empty request_key_cmp (request_key 8 0)) (ap (nat_le 4) (map.len-empty request_key_cmp PendingCommand)) refl refl asks_first
      (asks_bytes map.empty (message_at 11 first) 0 first_request refl)

  second_served : HasReceived answered_first 21 (packet_bytes 8 9 1 second.message) served_second (taken.Respond (handle 1))
  second_served =
      served spells read_for (Some kept_two) none_left open_one 1 11 1 20 21 second.message (omega arith) (omega arith) second_request reads_second (Respond second_request)
      free_second (below (map.len none_left) (let l = len_none in omega (arith, l))) refl refl asks_second
      (asks_bytes none_left (message_at 21 second) 1 second_request refl)

  is_run : IsRun settings given_for first_end (link_steps past)
  unfolding request_of command_of response_of
  is_run = (
    tt,
    (
      answered kept_three other_pending open_two 2 21 (handle 1) refl pends_second found_second (given_for 1) refl,
      (
        (second, refl, refl, second_served),
        (
          short,
          (
            tt,
            (
              answered kept_one one_pending open_one 1 11 (handle 0) refl pends_first found_first (given_for 0) refl,
              (unchanged served_first, ((first, refl, refl, first_served), (short_piece, tt))),
            ),
          ),
        ),
      ),
    ),
  )

-- ---- in time
in_order : NeverGoesBack (link_steps past)
in_order = (omega arith, (omega arith, (omega arith, (omega arith, (omega arith, (omega arith, (omega arith, (omega arith, (omega arith, tt)))))))))

same : (P : Asked → Type 0) (q : Asked) → P q → (r : Asked) → Some q ≡ Some r → P r
same P q x r e = subst P (let y : q ≡ r = cc in y) x

abbrev before_first_answer : List LinkStep
before_first_answer =
    Answers 13 (handle 0) answered_first (goes_out pends_first 0) ∷ Refuses 12 served_first ∷ Receives 11 0 served_first (taken.Respond (handle 0))
    ∷ Opens 10 8 (piece_ask 0 5) ∷ []

abbrev before_second_answer : List LinkStep
before_second_answer =
    Answers 22 (handle 1) answered_second (goes_out pends_second 1) ∷ Receives 21 1 served_second (taken.Respond (handle 1)) ∷ Opens 20 8 done_ask
    ∷ Delivers 14 0 0 ∷ before_first_answer

abbrev after : List LinkStep → World
after steps = (link settings given_for first_end steps).world

are_in_time : AreInTime settings given_for first_end (link_steps past)
unfolding request_of command_of response_of
are_in_time = (
  λ bytes is. record { own = λ r e. same (λ q. (requests_of (over_time settings given_for) (after before_second_answer) q.source).count ≤ q.own + 8) second (omega arith) r e; anew = none_anew (after before_second_answer).log refl 1 },
  (
    tt,
    (
      λ r e. same (ComesInTime ℕ 2 1000 1000 (at second_opened).log 21 1) second (record { soon = omega arith; in_window = λ arrived. absurd (cc) }) r e,
      (
        tt,
        (
          λ bytes is. record { own = λ r e. same (λ q. (requests_of (over_time settings given_for) (after before_first_answer) q.source).count ≤ q.own + 8) first (omega arith) r e; anew = none_anew (after before_first_answer).log refl 0 },
          (
            tt,
            (
              tt,
              (
                λ r e. same (ComesInTime ℕ 2 1000 1000 (at first_opened).log 11 0) first (record { soon = omega arith; in_window = λ arrived. absurd (cc) }) r e,
                (tt, tt),
              ),
            ),
          ),
        ),
      ),
    ),
  ),
)

-- ---- what the device gives fits
fits_first : FitsPackets (reply_of handing (given_for 0) first.message)
unfolding request_of command_of
fits_first = record { some = omega arith; few = omega arith }

fits_second : FitsPackets (reply_of handing (given_for 1) second.message)
unfolding request_of command_of
fits_second = record { some = omega arith; few = omega arith }

all_fit : (n k : ℕ) (r : Asked) → slice_get (there past).handed_out n ≡ Some k → asked_at (at past).log k ≡ Some r → FitsPackets (reply_of handing (given_for n) r.message)
unfolding request_of command_of response_of
all_fit zero k r out e = same (λ q. FitsPackets (reply_of handing (given_for 0) q.message)) first fits_first r (let here : k ≡ 0 = cc in ap (asked_at (at past).log) (sym here) ∙ e)
all_fit (suc zero) k r out e = same (λ q. FitsPackets (reply_of handing (given_for 1) q.message)) second fits_second r (let here : k ≡ 1 = cc in ap (asked_at (at past).log) (sym here) ∙ e)
all_fit (suc (suc n)) k r out e = absurd (cc)

from_eight : all_from_requesters 9 (at past).log ≡ true
unfolding request_of command_of response_of
from_eight = refl

rested : all_rest 1000 (at past).log ≡ true
unfolding request_of command_of response_of
rested = refl

is_met : WrittenSpells → SpelledIsReadFor → IsTimelyLink settings given_for first_end (link_steps past)
is_met spells read_for = record {
  run = is_run spells read_for;
  order = in_order;
  in_time = are_in_time;
  sound = record {
    device = (omega arith, omega arith);
    sources = sources_of 9 (at past).log from_eight;
    fit = all_fit;
    pace = record { within = omega arith; window = inl (omega arith) };
    rested = are_rested 1000 (at past).log rested;
  };
}

-- ---- the device's part
first_asked : HasAsked 8 (at first_opened) 0 0 5
unfolding request_of command_of response_of
first_asked = record { k = 0; r = first; asked = refl; source = refl; own = refl; message = refl }

asks_it : (offset count : ℕ) → wish (machine 0 (device_calls first_opened)) 10 ≡ Some (Piece offset count) → HasAsked 8 (at first_opened) 0 offset count
asks_it offset count e =
    let both : Some (Piece 0 5) ≡ Some (Piece offset count) = e in
    let start : 0 ≡ offset = cc in
    let many : 5 ≡ count = cc in
    subst (λ c. HasAsked 8 (at first_opened) 0 offset c) many (subst (λ o. HasAsked 8 (at first_opened) 0 o 5) start first_asked)

first_has : HasAnswer (over_time settings given_for) 8 (at first_answered) 0 SUCCESS file
unfolding request_of command_of response_of
first_has = record { message = response_message 0 0 piece_kind SUCCESS file; progress = refl; response = response 0 piece_kind SUCCESS file; read = refl; code_is = refl; rest_is = refl }

is_update : IsUpdate (over_time settings given_for) at 8 0 past
is_update = (
  tt,
  (
    tt,
    (
      tt,
      (
        λ offset count e. absurd (cc),
        (tt, (tt, (first_has, (tt, (tt, (tt, (tt, (asks_it, (tt, (tt, (tt, (tt, (tt, tt))))))))))))),
      ),
    ),
  ),
)

-- the one request for a piece was answered with the file
gives : GivesPieces given_for file (there past)
unfolding request_of command_of response_of
gives zero k offset count r low few out e message well =
    let here : k ≡ 0 = cc in
    let both : Some first ≡ Some r = ap (asked_at (at past).log) (sym here) ∙ e in
    let one : first ≡ r = cc in
    let bytes : message_with r.own (piece_ask offset count) ≡ first.message = sym message ∙ ap (λ (q : Asked). q.message) (sym one) in
    let start : offset ≡ 0 = sym (little_number-reads_back 4 offset (little_bytes 4 count ++ []) low) ∙ ap (little_from 4 4) bytes in
    let many : count ≡ 5 = sym (little_number-reads_back 4 count [] few) ∙ ap (little_from 8 4) bytes in
    ap (λ o. piece file o 5) (sym start) ∙ ap (λ c. piece file offset c) (sym many)
gives (suc zero) k offset count r low few out e message well =
    let here : k ≡ 1 = cc in
    let both : Some second ≡ Some r = ap (asked_at (at past).log) (sym here) ∙ e in
    let other : second ≡ r = cc in
    let bytes : message_with r.own (piece_ask offset count) ≡ second.message = sym message ∙ ap (λ (q : Asked). q.message) (sym other) in
    let wrong : 21 ≡ 22 = ap (λ m. get_or m 3 0) bytes in
    absurd (omega (arith, wrong))
gives (suc (suc n)) k offset count r low few out e message well = absurd (cc)

-- ---- what follows
size_is : size_begun (deeds 0 (device_calls past)) ≡ Some (length file)
size_is = refl

is_to_verify : (devices.happens (machine 0 (device_calls past)) last_call).action ≡ Some Verify
is_to_verify = refl

is_the_file : ImageOverLinks → WrittenSpells → SpelledIsReadFor → image (deeds 0 (device_calls past)) ≡ file
is_the_file law spells read_for =
    law settings given_for keeping limits 4 first_end file [] 8 0 past last_call is_first (is_met spells read_for) refl gives is_update (omega arith) size_is is_to_verify

-- it is so by computation too
stored_is : image (deeds 0 (device_calls past)) ≡ file
stored_is = refl
