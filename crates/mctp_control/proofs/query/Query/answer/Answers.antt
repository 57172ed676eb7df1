-- What is found by place answers the query, and whatever answers it is found.
use Rattle.std.proofs.Common.{◌<◌, List, ℕ, Bor, slice_index, arith}
use Rattle.mctp_control.proofs.Queried.{found, mapped, only}
use Rattle.mctp_control.specs.Queries.{IsAnswer, answer_in}
use Rattle.mctp_control.proofs.query.Query.answer.Goals as goal

pub returns-clause-found : goal.returns-clause-found
returns-clause-found c =
    let bytes = c.args.packet.now in
    let small : (i : ℕ) → slice_index bytes i < 256 = λ i. omega (arith, c.type_inv.packet i) in
    mapped (λ (message : Bor (List ℕ)). message.now) (IsAnswer c.args.self.now bytes) c.answer_in.result (answer_in c.args.self.now bytes)
    c.answer_in.ensures.exact
    (found c.args.self.now bytes (λ p. c.reading_is_spelling.ensures.spelled p bytes small) small)

pub returns-clause-only : goal.returns-clause-only
returns-clause-only c =
    λ message h.
    rw c.answer_in.ensures.exact
    (only c.args.self.now c.args.packet.now message (λ p. c.reading_is_spelling.ensures.read p c.args.packet.now) h)
