use Rattle.std.proofs.Common.{◌≡◌, ◌<◌, [], ◌∷◌, ◌++◌, None, length, arith}
use Rattle.std.proofs.lemmas.Grind.{common_steps}
use Rattle.pldm_records.proofs.RecordAdded.{indexed_push}
use Rattle.pldm_records.specs.Records.{handle_of, position_of}
use Rattle.pldm_records.specs.declared.limits.TheConstants.{MAX_RECORDS}
use Rattle.pldm_records.proofs.repository.Repository.push.Goals as goal

pub invariant_of-self-2 : goal.invariant_of-self-2
invariant_of-self-2 c =
    let items : c.push.new.self.items ≡ c.self.inside.records.items ++ c.args.pdr ∷ [] = grind (arith, common_steps) in
    let room : length c.self.inside.records.items < MAX_RECORDS = rw c.self.view_is c.requires.room in
    let fresh : position_of (handle_of c.args.pdr) c.self.inside.records.items ≡ None = rw c.self.view_is c.requires.fresh in
    let count : c.len.result ≡ length c.self.inside.records.items = grind (arith, common_steps) in
    let inserted = rw (c.handle.ensures, count) at c.in_ok-insert.ensures.updates.0 in
    let added = indexed_push c.self.inside.records.items c.args.pdr c.self.inside.positions.entries c.insert.new.self.entries c.self.inside.size c.self.inside.largest
    c.self.invariant room c.as_slice.ensures.most inserted fresh in
    rw (items, c.max-self-inside.ensures, c.as_slice.ensures.value) added
