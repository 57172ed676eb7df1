-- What answers a query by place is a message that answers it, and there is one.
use Rattle.std.proofs.Common.{◌≡◌, ℕ, ◌+◌, ◌<◌, ◌&&◌, Bool, true, false, List, slice_index, Option, None, Some, Result, Ok, Err, IfOk, IfSome, option_map, refl, sym, ap, subst, ◌∙◌, arith}
use Rattle.std.proofs.lemmas.Bool.Decides.{nat_tests}
use Rattle.mctp_packet.specs.Laws.{OnePacket}
use Rattle.mctp_packet.specs.Packets.{Packet, Spells, packet}
use Rattle.mctp_packet.specs.Reading.{reading}
use Rattle.mctp_packet.specs.declared.reason.Reason.{Reason}
use Rattle.mctp_control.proofs.Cells.{by_test}
use Rattle.mctp_control.proofs.ReadMessages.{response_found, response_only}
use Rattle.mctp_control.specs.Laws.{AskAlike}
use Rattle.mctp_control.specs.Messages.{IsResponse, Response, response_of}
use Rattle.mctp_control.specs.Queries.{ControlQuery, IsAnswer, answer_by, answer_in, answer_route, comes_back, is_response_to}

-- what holds of what a value is seen as
pub mapped : {A B : Type 0} (f : A → B) (P : B → Type 0) (o : Option A) (seen : Option B) → option_map f o ≡ seen → IfSome seen P → IfSome o (λ x. P (f x))
mapped f P None seen same h = tt
mapped f P (Some x) seen same h = subst (λ o. IfSome o P) (sym same) h

both : (a b : Bool) → (a && b) ≡ true → (a ≡ true) × (b ≡ true)
both true b h = (refl, h)
both false b h = cc

-- a packet that comes back is that of an answer
back_is : (q : ControlQuery) (p : Packet) → comes_back q p ≡ true → p ≡ packet (answer_route q) true true p.seq p.payload
back_is q p h =
    let source : p.route.source ≡ q.device = grind (arith, nat_tests, h) in
    let destination : p.route.destination ≡ q.own = grind (arith, nat_tests, h) in
    let owner : p.route.owner ≡ false = grind (arith, nat_tests, h) in
    let tag : p.route.tag ≡ q.tag = grind (arith, nat_tests, h) in
    let start : p.start ≡ true = grind (arith, nat_tests, h) in
    let end : p.end ≡ true = grind (arith, nat_tests, h) in
    λ i. record {
      route = record { destination = destination i; source = source i; owner = owner i; tag = tag i };
      start = start i;
      end = end i;
      seq = p.seq;
      payload = p.payload;
    }

answers : (q : ControlQuery) (bytes : List ℕ) (p : Packet) (r : Option Response) → Spells p bytes → comes_back q p ≡ true
    → IfSome r (λ r. IsResponse p.payload r) → is_response_to q r ≡ true → IsAnswer q bytes p.payload
answers q bytes p None spelled back is_response to = cc
answers q bytes p (Some r) spelled back is_response to = record {
  seq = p.seq;
  spelled = subst (λ (p : Packet). Spells p bytes) (back_is q p back) spelled;
  response = r;
  is_response = is_response;
  id = grind (arith, nat_tests, to);
  command = grind (arith, nat_tests, to);
}

-- the bytes of a payload are bytes
small_payload : (p : Packet) (bytes : List ℕ) → Spells p bytes → ((i : ℕ) → slice_index bytes i < 256) → (i : ℕ) → slice_index p.payload i < 256
small_payload p bytes spelled small i =
    let here : slice_index bytes (i + 4) ≡ slice_index p.payload i = rw spelled.bytes_are search (arith) in
    omega (arith, small (i + 4))

found_by : (q : ControlQuery) (bytes : List ℕ) (read : Result Packet Reason) → IfOk read (λ p. Spells p bytes)
    → ((i : ℕ) → slice_index bytes i < 256) → IfSome (answer_by q read) (λ message. IsAnswer q bytes message)
found_by q bytes (Err reason) spelled small = tt
found_by q bytes (Ok p) spelled small =
    by_test (λ m. IfSome m (λ message. IsAnswer q bytes message)) (comes_back q p && is_response_to q (response_of p.payload)) _ _
    (λ t.
    let parts = both (comes_back q p) (is_response_to q (response_of p.payload)) t in
    answers q bytes p (response_of p.payload) spelled parts.0 (response_found p.payload (small_payload p bytes spelled small)) parts.1)
    (λ _. tt)

pub found : (q : ControlQuery) (bytes : List ℕ) → ((p : Packet) → reading None bytes ≡ Ok p → Spells p bytes)
    → ((i : ℕ) → slice_index bytes i < 256) → IfSome (answer_in q bytes) (λ message. IsAnswer q bytes message)
found q bytes spelled small = found_by q bytes (reading None bytes) (ok_is (reading None bytes) spelled) small where
  ok_is : (read : Result Packet Reason) → ((p : Packet) → read ≡ Ok p → Spells p bytes) → IfOk read (λ p. Spells p bytes)
  ok_is (Ok p) h = h p refl
  ok_is (Err reason) h = tt

same_back : (q : ControlQuery) (seq : ℕ) (message : List ℕ) → comes_back q (packet (answer_route q) true true seq message) ≡ true
same_back q seq message = grind (arith, nat_tests)

pub only : (q : ControlQuery) (bytes message : List ℕ) → ((p : Packet) → Spells p bytes → reading None bytes ≡ Ok p)
    → IsAnswer q bytes message → answer_in q bytes ≡ Some message
only q bytes message read h =
    let is_read = read (packet (answer_route q) true true h.seq message) h.spelled in
    let is_response = response_only message h.response h.is_response in
    let to : is_response_to q (Some h.response) ≡ true = grind (arith, nat_tests, h.id, h.command) in
    rw is_read (rw (same_back q h.seq message, is_response, to) refl)

-- two queries with one answer
abbrev response_of_some : Response → Option Response → Response
response_of_some r None = r
response_of_some r (Some other) = other

pub alike : OnePacket → (q other : ControlQuery) (bytes message again : List ℕ) → IsAnswer q bytes message → IsAnswer other bytes again → AskAlike q other
alike one q other bytes message again h k =
    let p : packet (answer_route q) true true h.seq message ≡ packet (answer_route other) true true k.seq again =
    one (packet (answer_route q) true true h.seq message) (packet (answer_route other) true true k.seq again) bytes h.spelled k.spelled in
    let messages : message ≡ again = ap (λ (p : Packet). p.payload) p in
    let responses : Some h.response ≡ Some k.response =
    sym (response_only message h.response h.is_response) ∙ ap response_of messages ∙ response_only again k.response k.is_response in
    record {
      own = ap (λ (p : Packet). p.route.destination) p;
      device = ap (λ (p : Packet). p.route.source) p;
      tag = ap (λ (p : Packet). p.route.tag) p;
      id = sym h.id ∙ ap (λ (o : Option Response). (response_of_some h.response o).id) responses ∙ k.id;
      command = sym h.command ∙ ap (λ (o : Option Response). (response_of_some h.response o).command) responses ∙ k.command;
    }

pub same_message : OnePacket → (q : ControlQuery) (bytes message again : List ℕ) → IsAnswer q bytes message → IsAnswer q bytes again → message ≡ again
same_message one q bytes message again h k =
    ap (λ (p : Packet). p.payload) (one (packet (answer_route q) true true h.seq message) (packet (answer_route q) true true k.seq again) bytes h.spelled k.spelled)
