-- At each record the search ends or goes on.
use Rattle.std.proofs.Common.{sym, ◌∙◌}
use Rattle.needleoat_wire_c.proofs.RecordsFound.{found, not_found, nowhere}
use Rattle.needleoat_wire_c.proofs.RecordsWalked.{records_end, records_more}
use Rattle.needleoat_wire_c.proofs.record_array.from_handle.Goals as goal

pub returns-then-handle_of-handle : goal.returns-then-handle_of-handle
returns-then-handle_of-handle c =
    let more = records_more c.records.rest.now c.in-Some.pdr.now c.in-Some.after.now (sym c.in-Some.ensures.first) in
    found c.args.handle c.in-Some.pdr.now _ _ _ (sym c.handle_of.ensures ∙ c.if-handle_of-handle.true) more c.records.invariant

pub records-preserved : goal.records-preserved
records-preserved c =
    let more = records_more c.records.rest.now c.in-Some.pdr.now c.in-Some.after.now (sym c.in-Some.ensures.first) in
    not_found c.args.handle c.in-Some.pdr.now _ _ _ (λ same. c.if-handle_of-handle.false (c.handle_of.ensures ∙ same)) more c.records.invariant

pub returns : goal.returns
returns c =
    nowhere c.args.handle _ _ (records_end c.records.rest.now (sym c.in_default.ensures.first)) c.records.invariant
