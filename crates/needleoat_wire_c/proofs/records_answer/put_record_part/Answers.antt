-- The record in front of the bytes that are asked for is the one that the repository would return.
use Rattle.std.proofs.Common.{ℕ, Some, None, ap, sym, ◌∙◌}
use Rattle.pldm_records.specs.RecordAnswers.{part_answered}
use Rattle.needleoat_wire_c.specs.RecordWalks.{records_in}
use Rattle.needleoat_wire_c.proofs.RecordsWalked.{no_record_asked, record_asked, records_end, records_more}
use Rattle.needleoat_wire_c.proofs.records_answer.put_record_part.Goals as goal

pub returns-in_default-clause-answer : goal.returns-in_default-clause-answer
returns-in_default-clause-answer c =
    let f = c.args.command.now in
    let none = records_end c.from_asked.result.now (sym c.in_default.ensures.first) in
    c.refused-in_default.ensures
    ∙ no_record_asked f.record_handle f.data_transfer_handle f.transfer_operation_flag f.request_count (records_in c.args.records.now) (records_in c.from_asked.result.now) c.if-command-eq0.false c.if-command-gt-GET_FIRST_PART.false c.from_asked.ensures none

pub returns-in-Some-offset_asked-clause-answer : goal.returns-in-Some-offset_asked-clause-answer
returns-in-Some-offset_asked-clause-answer c =
    let f = c.args.command.now in
    let more = records_more c.from_asked.result.now c.in-Some.pdr.now c.in-Some.after.now (sym c.in-Some.ensures.first) in
    c.put_part.ensures.answer
    ∙ ap (λ (next : ℕ). part_answered next f.request_count c.in-Some.pdr.now (Some c.in-Some-offset_asked.offset)) c.first_handle.ensures
    ∙ record_asked f.record_handle f.data_transfer_handle f.transfer_operation_flag f.request_count (records_in c.args.records.now) (records_in c.from_asked.result.now) c.in-Some.pdr.now (records_in c.in-Some.after.now) (Some c.in-Some-offset_asked.offset) c.if-command-eq0.false c.if-command-gt-GET_FIRST_PART.false c.from_asked.ensures more c.in-Some-offset_asked.ensures.offset

pub returns-in-None-clause-answer : goal.returns-in-None-clause-answer
returns-in-None-clause-answer c =
    let f = c.args.command.now in
    let more = records_more c.from_asked.result.now c.in-Some.pdr.now c.in-Some.after.now (sym c.in-Some.ensures.first) in
    c.refused-in-None.ensures
    ∙ record_asked f.record_handle f.data_transfer_handle f.transfer_operation_flag f.request_count (records_in c.args.records.now) (records_in c.from_asked.result.now) c.in-Some.pdr.now (records_in c.in-Some.after.now) None c.if-command-eq0.false c.if-command-gt-GET_FIRST_PART.false c.from_asked.ensures more c.in-None.ensures.offset
