-- What a requester answers to an opening, and what has gone out then.
use Rattle.std.proofs.Common.{◌≡◌, ℕ, Bool, true, false, ◌&&◌, not, List, Option, Result, Ok, Err, ◌⊎◌, inl, inr, refl, sym, ap, subst, ◌∙◌}
use Rattle.std.specs.Io.KnownBytes.{Appends}
use Rattle.pldm_line.proofs.Sending.{opened_frames}
use Rattle.pldm_line.specs.Asked as asked
use Rattle.pldm_line.specs.Turns.{Asking, memo_frames}
use Rattle.pldm_requester.specs.Calls.{open_answer}
use Rattle.pldm_requester.specs.Steps.{RequesterState, accepts, opened_held, opening_answer, is_tag_in_use, is_id_in_use, at_hand}
use Rattle.pldm_requester.specs.declared.results.Opened.{Opened}
use Rattle.pldm_requester.specs.declared.results.OpenFault.{OpenFault}
use Rattle.pldm_requester.specs.declared.results.OpenFault.TheVariants.{Memory}
use Rattle.mctp_packet.specs.Memories.{out_of_memory}
use Rattle.mctp_packet.specs.declared.memory.Memory.{Memory as MemoryFault}
use Rattle.pldm_wire.specs.declared.command.Command.{Command}

abbrev number_or : ℕ → Result Opened OpenFault → ℕ
number_or other (Ok opened) = opened.number
number_or other (Err fault) = other

accepted_by : (tag id : Bool) (number : ℕ) (opened : Opened) → open_answer tag id number ≡ Ok opened
    → ((not tag && not id) ≡ true) × (opened.number ≡ number)
accepted_by true id number opened e = cc
accepted_by false true number opened e = cc
accepted_by false false number opened e = (refl, sym (ap (number_or number) e))

pub refused_by : (tag id : Bool) (number : ℕ) (fault : OpenFault) → open_answer tag id number ≡ Err fault
    → (not tag && not id) ≡ false
refused_by true id number fault e = refl
refused_by false true number fault e = refl
refused_by false false number fault e = cc

opened_at : (a : Asking) (held1 : RequesterState) (command : Command) (opened : Opened) (written written1 : Option (List ℕ))
    → opening_answer a.held a.held.last ≡ Ok opened → held1 ≡ opened_held a.held a.held.last command
    → Appends written written1 (memo_frames (at_hand held1 opened.number))
    → asked.Opened command opened.number a (record a { held = held1 }) written written1
opened_at a held1 command opened written written1 answer held wrote =
    let by = accepted_by (is_tag_in_use a.held) (is_id_in_use a.held a.held.last) a.held.count opened answer in
    record {
      next = by.1;
      accepted = by.0;
      asking = ap (λ (h : RequesterState). record a { held = h }) held;
      wrote =
          subst (Appends written written1)
          (ap (λ (h : RequesterState). memo_frames (at_hand h opened.number)) held
          ∙ ap (λ n. memo_frames (at_hand (opened_held a.held a.held.last command) n)) by.1
          ∙ opened_frames a.held a.held.last command)
          wrote;
    }

-- it was opened at the last moment
pub opened_now : (a : Asking) (held1 : RequesterState) (command : Command) (opened : Opened) (written written1 : Option (List ℕ)) (now : ℕ)
    → now ≡ a.held.last → opening_answer a.held now ≡ Ok opened → held1 ≡ opened_held a.held now command
    → Appends written written1 (memo_frames (at_hand held1 opened.number))
    → asked.Opened command opened.number a (record a { held = held1 }) written written1
opened_now a held1 command opened written written1 now at answer held wrote =
    opened_at a held1 command opened written written1
    (subst (λ n. opening_answer a.held n ≡ Ok opened) at answer)
    (subst (λ n. held1 ≡ opened_held a.held n command) at held) wrote

-- neither the tag nor the instance ID is refused for want of memory
pub refused_for_memory : {A : Type 0} (tag id : Bool) (number : ℕ) (refused : MemoryFault) → open_answer tag id number ≡ Err (Memory refused) → A
refused_for_memory true id number refused e = cc
refused_for_memory false true number refused e = cc
refused_for_memory false false number refused e = cc

-- want of memory is answered only where a request may be opened
pub wants_room : (held : RequesterState) (now : ℕ) (fault : OpenFault) (refused : MemoryFault) → fault ≡ Memory refused
    → ((fault ≡ Memory out_of_memory) × (accepts held now ≡ true)) ⊎ (opening_answer held now ≡ Err fault)
    → accepts held now ≡ true
wants_room held now fault refused is (inl memory) = memory.1
wants_room held now fault refused is (inr answer) =
    refused_for_memory (is_tag_in_use held) (is_id_in_use held now) held.count refused (answer ∙ ap Err is)
