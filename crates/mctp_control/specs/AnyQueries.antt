-- A control request to a device by its endpoint ID, or to whatever endpoint is at the other end of a link.
use Rattle.std.specs.Prelude.{ℕ, List, Option}
use Rattle.mctp_control.specs.LinkQueries.{link_answer_in, link_packet}
use Rattle.mctp_control.specs.Queries.{answer_in, query_packet}
use Rattle.mctp_control.specs.declared.any_query.AnyQuery.{AnyQuery}
use Rattle.mctp_control.specs.declared.any_query.AnyQuery.TheVariants.{ToDevice, ToLink}

-- the packet that asks any query
abbrev pub any_packet : AnyQuery → List ℕ
any_packet (ToDevice q) = query_packet q
any_packet (ToLink q) = link_packet q

-- the message with which a packet answers any query, if it answers
abbrev pub any_answer_in : AnyQuery → List ℕ → Option (List ℕ)
any_answer_in (ToDevice q) bytes = answer_in q bytes
any_answer_in (ToLink q) bytes = link_answer_in q bytes
