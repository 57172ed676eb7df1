-- What `feed` returns, from what `feed_into` returns and the message that it put into its place.
use Rattle.std.specs.Prelude.{ℕ, List}
use Rattle.mctp_assembly.specs.declared.fed.Fed.{Fed}
use Rattle.mctp_assembly.specs.declared.fed.Fed.TheVariants as feds
use Rattle.mctp_assembly.specs.declared.fed.Assembled.{Assembled}
use Rattle.mctp_assembly.specs.declared.fed.Assembled.TheVariants.{Whole, Partial, Dropped}

-- with the bytes of the message
abbrev pub fed_with : List ℕ → Assembled → Fed
fed_with message Whole = feds.Whole (record { items = message })
fed_with message Partial = feds.Partial
fed_with message (Dropped reason) = feds.Dropped reason
