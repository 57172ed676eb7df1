-- What is heard of bytes, and of more bytes.
use Rattle.std.proofs.Common.{Result, Ok, Err, OnErr, OnOk, ◌≡◌, ℕ, List, [], ◌∷◌, ◌++◌, length, Option, Some, None, IfSome, refl, sym, ap, subst, take, ◌∙◌, append_assoc, append-nil, length-append, arith}
use Rattle.std.specs.Io.KnownBytes.{Appends, Consumes, Keeps, IsAtEnd}
use Rattle.std.specs.List.{FoldsTo}
use Rattle.std.proofs.KnownBytes.{Appends-kept, Appends-trans, Appends-nil, Consumes-trans, Consumes-nil, Consumes-whole}
use Rattle.mctp_serial.specs.Readings.{Reading, Step, step, after, events_in, then_event}
use Rattle.mctp_serial.specs.declared.reader.FrameEvent.{FrameEvent}
use Rattle.mctp_serial.specs.declared.reader.FrameEvent.TheVariants.{Packet}
use Rattle.mctpctl_input.specs.CaptureLine.{TimedPacket}
use Rattle.pldm_line.proofs.EventsSeen.{frames_seen-append, folds-append}
use Rattle.pldm_line.proofs.LastMoments.{last_after}
use Rattle.pldm_line.proofs.FramesRead.{events-append, packets-append, after-append}
use Rattle.pldm_line.specs.Events.{Seen}
use Rattle.pldm_line.specs.Heard.{Shown, HearsPacket, Hears, HearsFront, Stops}
use Rattle.pldm_line.specs.Serving.{packets_of, packets_in, moment_after, timed, Answerers, packet_frames, packet_after, packets_after, answers, came, commands}
use Rattle.pldm_line.specs.Seen.{bytes_seen, frames_seen, packet_seen}
use Rattle.pldm_line.specs.declared.serve_fault.ServeFault.{ServeFault}
use Rattle.pldm_responder.specs.Performing.{Rules}
use Rattle.pldm_responder.specs.Steps.{received_commands}
use Rattle.pldm_responder.specs.declared.bounds.Bounds.{Bounds}
use Rattle.pldm_wire.specs.declared.command.Command.{Command}

module _ {S : Type 0} (device : Rules S) where
  timed-append : (a : Answerers S) (rs ss : List ℕ) (ps qs : List (List ℕ)) → length rs ≡ length ps
      → timed a.held.last (rs ++ ss) (ps ++ qs) ≡ timed a.held.last rs ps ++ timed (packets_after device a (timed a.held.last rs ps)).held.last ss qs
  timed-append a [] ss [] qs same = refl
  timed-append a [] ss (p ∷ ps) qs same = absurd (omega arith)
  timed-append a (r ∷ rs) ss [] qs same = absurd (omega arith)
  timed-append a (r ∷ rs) ss (p ∷ ps) qs same =
      let moment = moment_after a.held.last r in
      let next = packet_after device a moment p in
      ap (λ (l : List TimedPacket). record { moment = moment; bytes = p } ∷ l)
      (subst (λ last. timed last (rs ++ ss) (ps ++ qs) ≡ timed last rs ps ++ timed (packets_after device next (timed last rs ps)).held.last ss qs)
      (last_after device a moment p) (timed-append next rs ss ps qs (omega arith)))

  after-packets : (a : Answerers S) (xs ys : List TimedPacket) → packets_after device a (xs ++ ys) ≡ packets_after device (packets_after device a xs) ys
  after-packets a [] ys = refl
  after-packets a (x ∷ xs) ys = after-packets (packet_after device a x.moment x.bytes) xs ys

  answers-append : (a : Answerers S) (xs ys : List TimedPacket) → answers device a (xs ++ ys) ≡ answers device a xs ++ answers device (packets_after device a xs) ys
  answers-append a [] ys = refl
  answers-append a (x ∷ xs) ys =
      let first = packet_frames device a x.moment x.bytes in
      let next = packet_after device a x.moment x.bytes in
      ap (λ l. first ++ l) (answers-append next xs ys)
      ∙ sym (append_assoc first (answers device next xs) (answers device (packets_after device next xs) ys))

  commands-append : (a : Answerers S) (xs ys : List TimedPacket) → commands device a (xs ++ ys) ≡ commands device (packets_after device a xs) ys ++ commands device a xs
  commands-append a [] ys = sym (append-nil (commands device a ys))
  commands-append a (x ∷ xs) ys =
      let first = received_commands a.held x.moment x.bytes in
      let next = packet_after device a x.moment x.bytes in
      ap (λ (l : List Command). l ++ first) (commands-append next xs ys)
      ∙ append_assoc (commands device (packets_after device next xs) ys) (commands device next xs) first

-- commands that were performed in turn were performed together: the platform's law
abbrev pub PerformsInTurn : {P : Type 0} → (P → List Command → P → Type 0) → Type 0
PerformsInTurn {P} performing =
    (first second third : P) (before after : List Command)
    → performing first before second → performing second after third → performing first (after ++ before) third

module _ {P S L : Type 0} (performing : P → List Command → P → Type 0) (device : Rules S) (sees : L → Seen → L → Type 0) where
  pub hears_nothing : ((value : P) → performing value [] value) → (s : Shown P S L) → Hears performing device sees s [] s
  hears_nothing none s = record {
    readings = [];
    each = refl;
    ticked = Consumes-nil s.clock;
    reader = refl;
    answer = refl;
    wrote = Appends-nil s.written;
    seen = refl;
    performed = none s.platform;
    bounds = refl;
  }

  joined : PerformsInTurn performing → (s : Shown P S L) (xs ys rs : List ℕ) (p1 : P) (b1 : Bounds) (c1 w1 : Option (List ℕ)) (v1 : L) (s2 : Shown P S L)
      → length rs ≡ length (packets_in s.reading xs) → Consumes s.clock c1 rs
      → Appends s.written w1 (answers device s.answering (came device s.answering s.reading xs rs))
      → FoldsTo sees s.watch (bytes_seen device s.answering s.reading xs rs) v1
      → performing s.platform (commands device s.answering (came device s.answering s.reading xs rs)) p1 → b1 ≡ s.bounds
      → Hears performing device sees
      (record {
        answering = packets_after device s.answering (came device s.answering s.reading xs rs);
        platform = p1;
        bounds = b1;
        reading = after s.reading xs;
        clock = c1;
        written = w1;
        watch = v1;
      }) ys s2
      → Hears performing device sees s (xs ++ ys) s2
  joined in_turn s xs ys rs p1 b1 c1 w1 v1 s2 each ticked wrote seen performed bounds g =
      let a = s.answering in
      let r = s.reading in
      let first = came device a r xs rs in
      let middle = packets_after device a first in
      let second = came device middle (after r xs) ys g.readings in
      let all : came device a r (xs ++ ys) (rs ++ g.readings) ≡ first ++ second =
      ap (timed a.held.last (rs ++ g.readings)) (packets-append r xs ys)
      ∙ timed-append device a rs g.readings (packets_in r xs) (packets_in (after r xs) ys) each in
      let all_seen : bytes_seen device a r (xs ++ ys) (rs ++ g.readings) ≡ bytes_seen device a r xs rs ++ bytes_seen device middle (after r xs) ys g.readings =
      ap (λ (es : List FrameEvent). frames_seen device a es (rs ++ g.readings)) (events-append r xs ys)
      ∙ frames_seen-append device a (events_in r xs) (events_in (after r xs) ys) rs g.readings each in
      record {
        readings = rs ++ g.readings;
        each =
            length-append rs g.readings
            ∙ omega (arith, each, g.each, length-append (packets_in r xs) (packets_in (after r xs) ys))
            ∙ ap (λ (l : List (List ℕ)). length l) (sym (packets-append r xs ys));
        ticked = Consumes-trans s.clock c1 s2.clock rs g.readings ticked g.ticked;
        reader = g.reader ∙ sym (after-append r xs ys);
        answer = g.answer ∙ sym (after-packets device a first second) ∙ ap (packets_after device a) (sym all);
        wrote =
            subst (Appends s.written s2.written) (sym (ap (answers device a) all ∙ answers-append device a first second))
            (Appends-trans s.written w1 s2.written (answers device a first) (answers device middle second) wrote g.wrote);
        seen =
            subst (λ (l : List Seen). FoldsTo sees s.watch l s2.watch) (sym all_seen)
            (folds-append sees s.watch (bytes_seen device a r xs rs) v1 (bytes_seen device middle (after r xs) ys g.readings) s2.watch seen g.seen);
        performed =
            subst (λ (l : List Command). performing s.platform l s2.platform) (sym (ap (commands device a) all ∙ commands-append device a first second))
            (in_turn s.platform p1 s2.platform (commands device a first) (commands device middle second) performed g.performed);
        bounds = g.bounds ∙ bounds;
      }

  pub hears_after : PerformsInTurn performing → (s : Shown P S L) (xs ys : List ℕ) (s1 s2 : Shown P S L)
      → Hears performing device sees s xs s1 → Hears performing device sees s1 ys s2 → Hears performing device sees s (xs ++ ys) s2
  hears_after in_turn s xs ys s1 s2 f g =
      joined in_turn s xs ys f.readings s1.platform s1.bounds s1.clock s1.written s1.watch s2 f.each f.ticked f.wrote f.seen f.performed f.bounds
      (subst (λ (h : Answerers S). Hears performing device sees (record s1 { answering = h; reading = after s.reading xs }) ys s2) f.answer
      (subst (λ (r : Reading). Hears performing device sees (record s1 { reading = r }) ys s2) f.reader g))

  -- a byte that gives no packet
  pub hears_silent : ((value : P) → performing value [] value) → (s : Shown P S L) (byte : ℕ) (t : FrameEvent) (next : Reading) (watch1 : L)
      → step s.reading byte ≡ record { event = t; next = next } → packets_of (then_event t []) ≡ []
      → FoldsTo sees s.watch (frames_seen device s.answering (then_event t []) []) watch1
      → Hears performing device sees s (byte ∷ []) (record s { reading = next; watch = watch1 })
  hears_silent none s byte t next watch1 e silent seen = record {
    readings = [];
    each = ap (λ (l : List (List ℕ)). length l) (sym (ap (λ (st : Step). packets_of (then_event st.event [])) e ∙ silent));
    ticked = Consumes-nil s.clock;
    reader = sym (ap (λ (st : Step). st.next) e);
    answer = refl;
    wrote = Appends-nil s.written;
    seen = subst (λ (st : Step). FoldsTo sees s.watch (frames_seen device s.answering (then_event st.event []) []) watch1) (sym e) seen;
    performed = none s.platform;
    bounds = refl;
  }

  -- a byte that ends a packet's frame
  pub hears_packet : (s : Shown P S L) (byte : ℕ) (packet : List ℕ) (next : Reading) (s1 : Shown P S L)
      → step s.reading byte ≡ record { event = Packet (record { items = packet }); next = next } → s1.reading ≡ next
      → HearsPacket performing device sees (record s { reading = next }) packet s1 → Hears performing device sees s (byte ∷ []) s1
  hears_packet s byte packet next s1 e read h =
      let a = s.answering in
      let r = s.reading in
      let moment = moment_after a.held.last h.reading in
      let one : packets_in r (byte ∷ []) ≡ packet ∷ [] = ap (λ (st : Step). packets_of (then_event st.event [])) e in
      let timed_one : came device a r (byte ∷ []) (h.reading ∷ []) ≡ record { moment = moment; bytes = packet } ∷ [] = ap (timed a.held.last (h.reading ∷ [])) one in
      let text = packet_frames device a moment packet in
      let events = packet_seen device a moment packet in
      let one_seen : bytes_seen device a r (byte ∷ []) (h.reading ∷ []) ≡ events =
      ap (λ (st : Step). frames_seen device a (then_event st.event []) (h.reading ∷ [])) e ∙ append-nil events in
      record {
        readings = h.reading ∷ [];
        each = ap (λ (l : List (List ℕ)). length l) (sym one);
        ticked = h.ticked;
        reader = read ∙ sym (ap (λ (st : Step). st.next) e);
        answer = h.heard.answer ∙ ap (packets_after device a) (sym timed_one);
        wrote = subst (Appends s.written s1.written) (sym (append-nil text) ∙ ap (answers device a) (sym timed_one)) h.heard.wrote;
        seen = subst (λ (l : List Seen). FoldsTo sees s.watch l s1.watch) (sym one_seen) h.heard.seen;
        performed = subst (λ (l : List TimedPacket). performing s.platform (commands device a l) s1.platform) (sym timed_one) h.heard.performed;
        bounds = h.heard.bounds;
      }

  -- nothing was written after that, and no command performed
  hears_kept : PerformsInTurn performing → (s : Shown P S L) (xs : List ℕ) (s1 s2 : Shown P S L)
      → Hears performing device sees s xs s1 → Keeps s1.written s2.written → performing s1.platform [] s2.platform → s2.bounds ≡ s1.bounds
      → Hears performing device sees s xs (record s1 { platform = s2.platform; bounds = s2.bounds; written = s2.written })
  hears_kept in_turn s xs s1 s2 f kept none bounds = record {
    readings = f.readings;
    each = f.each;
    ticked = f.ticked;
    reader = f.reader;
    answer = f.answer;
    wrote = Appends-kept s.written s1.written s2.written (answers device s.answering (came device s.answering s.reading xs f.readings)) f.wrote kept;
    seen = f.seen;
    performed = in_turn s.platform s1.platform s2.platform (commands device s.answering (came device s.answering s.reading xs f.readings)) [] f.performed none;
    bounds = bounds ∙ f.bounds;
  }

  -- what was heard is a front of all
  pub front_heard : PerformsInTurn performing → (s : Shown P S L) (xs : List ℕ) (s1 : Shown P S L) (all back : Option (List ℕ)) (fault : ServeFault) (s2 : Shown P S L)
      → Consumes all back xs → Hears performing device sees s xs s1 → Stops performing sees fault s1 s2 → HearsFront performing device sees s all fault s2
  front_heard in_turn s xs s1 all back fault s2 are f stops = record {
    front = xs;
    back = back;
    all_are = are;
    answering1 = s1.answering;
    reading1 = s1.reading;
    clock1 = s1.clock;
    watch1 = s1.watch;
    hears = hears_kept in_turn s xs s1 s2 f stops.kept stops.none_performed stops.bounds;
    seen = stops.seen;
    reason = stops.reason;
  }

  -- so is what was heard of a piece, after what was heard before
  pub front_after : PerformsInTurn performing → (s : Shown P S L) (xs : List ℕ) (s1 : Shown P S L) (all now end : Option (List ℕ)) (piece : List ℕ) (fault : ServeFault) (s2 : Shown P S L)
      → Consumes all now xs → Consumes now end piece → Hears performing device sees s xs s1
      → HearsFront performing device sees s1 (Some piece) fault s2 → HearsFront performing device sees s all fault s2
  front_after in_turn s xs s1 all now end piece fault s2 before read f g =
      let rest = found all now end xs piece g.front g.back before read g.all_are in
      let middle : Shown P S L = record { answering = g.answering1; platform = s2.platform; bounds = s2.bounds; reading = g.reading1; clock = g.clock1; written = s2.written; watch = g.watch1 } in
      record {
        front = xs ++ g.front;
        back = rest.0;
        all_are = rest.1;
        answering1 = g.answering1;
        reading1 = g.reading1;
        clock1 = g.clock1;
        watch1 = g.watch1;
        hears = hears_after in_turn s xs g.front s1 middle f g.hears;
        seen = g.seen;
        reason = g.reason;
      } where
        found : (all now end : Option (List ℕ)) (taken piece front : List ℕ) (back : Option (List ℕ))
            → Consumes all now taken → Consumes now end piece → Consumes (Some piece) back front
            → (rest : Option (List ℕ)) × Consumes all rest (taken ++ front)
        found None now end taken piece front back a b c = (None, tt)
        found (Some l) None end taken piece front back a b c = absurd a
        found (Some l) (Some m) None taken piece front back a b c = absurd b
        found (Some l) (Some m) (Some n) taken piece front None a b c = absurd c
        found (Some l) (Some m) (Some n) taken piece front (Some k) a b c = (
          Some (k ++ n),
          a ∙ ap (λ x. taken ++ x) (b ∙ ap (λ x. x ++ n) c ∙ append_assoc front k n) ∙ sym (append_assoc taken front (k ++ n)),
        )

  -- at the end of the input all has been heard
  pub all_heard : (s : Shown P S L) (xs : List ℕ) (s1 : Shown P S L) (all now end : Option (List ℕ)) (got : List ℕ)
      → Consumes all now xs → Consumes now end got → got ≡ [] → IsAtEnd end → Hears performing device sees s xs s1
      → IfSome all (λ all. Hears performing device sees s all s1)
  all_heard s xs s1 all now end got before read none at_end f =
      let same : xs ++ got ≡ xs = ap (λ l. xs ++ l) none ∙ append-nil xs in
      Consumes-whole all end (xs ++ got) (λ all. Hears performing device sees s all s1) (Consumes-trans all now end xs got before read) at_end
      (subst (λ l. Hears performing device sees s l s1) (sym same) f)

-- of no bytes none are taken
pub no_bytes : (n : ℕ) (xs : List ℕ) → n ≡ 0 → take n xs ≡ []
no_bytes n xs e = rw e refl

-- a fact stands at `Err` too
pub on_err : {A E : Type 0} (r : Result A E) (P : Type 0) → P → OnErr r P
on_err (Ok value) P h = tt
on_err (Err fault) P h = h

-- a fact at `Ok` that follows from another
pub on_ok : {A E : Type 0} (r : Result A E) (P Q : Type 0) → (P → Q) → OnOk r P → OnOk r Q
on_ok (Ok value) P Q f h = f h
on_ok (Err fault) P Q f h = h
