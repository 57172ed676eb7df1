-- The requests of the numbers so far are given up.
use Rattle.std.proofs.Common.{◌≡◌, ℕ, length, take, slice_get, option_map}
use Rattle.mctp_schedule.specs.Journals.{progress_after}
use Rattle.mctp_schedule.proofs.journal.Journal.give_up.Given as goal

abbrev pub invariant-loop-number : goal.invariant-loop-number
invariant-loop-number l = record {
  requests : (number : ℕ) → slice_get l.self.requests.items number
      ≡ option_map (progress_after (take l.number-index l.numbers) number) (slice_get l.initial.self.requests.items number);
  all : length l.self.requests.items ≡ length l.initial.self.requests.items;
  arena : l.self.arena ≡ l.initial.self.arena;
  entries : l.self.entries ≡ l.initial.self.entries;
  traffic : l.self.traffic ≡ l.initial.self.traffic;
  order : l.self.order ≡ l.initial.self.order;
  timely : l.self.timely ≡ l.initial.self.timely;
}
