-- What is read is what was spelled, with nothing after it.
use Rattle.std.proofs.Common.{[]}
use Rattle.std.proofs.lemmas.List.{append-nil}
use Rattle.mctpctl_decode.proofs.NamesRead.{each_read, sets_read}
use Rattle.mctpctl_decode.proofs.laws.names_are_read.Goals as goal

pub returns : goal.returns
returns c = record {
  names = λ names ok. rw append-nil at (each_read names [] ok.1);
  all = λ sets ok. rw append-nil at (sets_read sets [] ok.1);
}
