-- One step more at the moment of the last run.
use Rattle.std.proofs.Common.{◌≡◌, length, rules}
use Rattle.std.proofs.lemmas.Bool.Decides.{nat_tests}
use Rattle.schedule_text.proofs.MomentRuns.{last_longer_at}
use Rattle.schedule_text.proofs.moments.push_moment.Goals as goal

pub returns-in-Some-clause-moments : goal.returns-in-Some-clause-moments
returns-in-Some-clause-moments c =
    let runs = c.args.runs.now in
    let run = c.in-Some.run'.now in
    let long : runs.len ≡ length runs.items = search rules in
    let same : run.moment ≡ c.args.moment = search (rules, nat_tests) in
    last_longer_at runs.items runs.len c.args.moment run long c.in-Some.ensures.item.3.0 c.in-Some.ensures.value same
