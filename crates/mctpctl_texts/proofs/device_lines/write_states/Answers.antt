-- Each place has an ID that is not below it, and the place past the last one ends the text.
use Rattle.std.proofs.Common.{◌<◌, option_map, refl, sym, ap, subst, ◌∙◌, arith, rules}
use Rattle.std.specs.Io.KnownBytes.{Appends}
use Rattle.std.specs.List.{slice_get}
use Rattle.std.proofs.lemmas.Option.{slice_get_within}
use Rattle.mctpctl_texts.specs.ReportTexts.{states_line}
use Rattle.mctpctl_texts.proofs.PlacesListed.{made_of, place_below, listed_to_end, written_further}
use Rattle.mctpctl_texts.proofs.device_lines.write_states.Goals as goal
use Rattle.simulated_device.specs.Getters.{shown, states_of}

pub overflow_add-place : goal.overflow_add-place
overflow_add-place g c =
    let found = made_of states_of (slice_get c.args.device.now.state_effecters c.loop-id.place) (c.in-Some.id, c.in-Some.states.now) (sym c.state.ensures.value ∙ ap (option_map shown) c.in-Some.is) in
    let below = place_below c.args.device.now.state_effecters c.loop-id.place found.thing c.state.ensures.ascending found.found_is in
    let fits : c.in-Some.id < 65536 = search rules in
    omega (arith, below, ap (λ pair. pair.0) found.made, fits)

pub loop-id-smaller : goal.loop-id-smaller
loop-id-smaller g c =
    let found = made_of states_of (slice_get c.args.device.now.state_effecters c.loop-id.place) (c.in-Some.id, c.in-Some.states.now) (sym c.state.ensures.value ∙ ap (option_map shown) c.in-Some.is) in
    omega (arith, slice_get_within c.args.device.now.state_effecters c.loop-id.place found.thing found.found_is)

pub loop-id-preserved : goal.loop-id-preserved
loop-id-preserved g c =
    let found = made_of states_of (slice_get c.args.device.now.state_effecters c.loop-id.place) (c.in-Some.id, c.in-Some.states.now) (sym c.state.ensures.value ∙ ap (option_map shown) c.in-Some.is) in
    let i = c.loop-id.invariant in
    record {
      written = written_further (λ entry. states_line (states_of entry)) c.args.device.now.state_effecters c.loop-id.place found.thing _ _ _ _ i.written c.in_ok-write_states_line.ensures.text
          (ap (λ pair. states_line pair) found.made) found.found_is;
      works = c.in_ok-write_states_line.ensures.ok ∙ i.works;
      within = omega (arith, slice_get_within c.args.device.now.state_effecters c.loop-id.place found.thing found.found_is);
    }

pub returns : goal.returns
returns g c =
    let i = c.loop-id.invariant in
    let all = listed_to_end (λ entry. states_line (states_of entry)) states_of c.args.device.now.state_effecters c.loop-id.place _ refl (sym c.state.ensures.value ∙ ap (option_map shown) c.in_default.is) in
    record {
      text = subst (Appends _ _) all i.written;
      ok = i.works;
      err = tt;
    }
