-- All moments have passed, and each is known, or counts as now.
use Rattle.std.proofs.Common.{◌∙◌, All, IfSome, Some, ◌≤◌, ap, map, refl, rules, subst, unwrap_or}
use Rattle.std.proofs.lemmas.List.{take_all}
use Rattle.mctpctl_state.proofs.KnownMoments.{has_passed}
use Rattle.mctpctl_state.proofs.kept.Kept.known.Goals as goal

pub returns-clause-known : goal.returns-clause-known
returns-clause-known c =
    let all = take_all c.loop-place.place c.args.self.now.moments.items (search rules) in
    record {
      same_boot = search rules;
      same_own = search rules;
      same_device = search rules;
      query_passed = has_passed c.args.self.now.queries.last c.args.now c.unwrap_or-last.result c.unwrap_or-last.ensures c.if-last-now.false;
      passed = subst (λ xs. All (λ moment. IfSome moment (λ m. m ≤ c.args.now)) xs) all c.loop-place.invariant.passed;
      queries = ap (λ last. record { next = c.args.self.now.queries.next; last = Some last }) c.unwrap_or-last.ensures;
      next = refl;
      moments = c.loop-place.invariant.moments ∙ ap (λ xs. map (λ moment. unwrap_or moment c.args.now) xs) all;
    }
