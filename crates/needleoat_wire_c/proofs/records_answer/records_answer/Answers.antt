-- Where there is a summary, the bytes hold records, and these alone.
use Rattle.std.proofs.Common.{Some, ap, ◌∙◌, refl}
use Rattle.needleoat_wire_c.specs.RecordWalks.{records_in, summary}
use Rattle.needleoat_wire_c.proofs.RecordsHeld.{are_held, held_records, info_among, none_held, part_among}
use Rattle.needleoat_wire_c.proofs.records_answer.records_answer.Goals as goal
use Rattle.needleoat_wire_c.proofs.records_answer.records_answer.Goals.{then-command-eq-GET_PDR_REPOSITORY_INFO, else-command-eq-GET_PDR_REPOSITORY_INFO}

pub returns-in_default-clause-answered : goal.returns-in_default-clause-answered
returns-in_default-clause-answered c =
    λ held are is. absurd (none_held c.args.records.now held c.in_default.ensures are)

pub returns-clause-answered : goal.returns-clause-answered
returns-clause-answered c =
    λ held are is.
    let same = held_records c.args.records.now held are in
    let sums = (are_held c.args.records.now c.in-Some.summary c.in-Some.ensures).0 in
    record {
      answered = refl;
      instance_id = c.set.ensures.instance_id;
      kind = c.set.ensures.kind;
      answer_is = elim c.if-command-eq-GET_PDR_REPOSITORY_INFO.branch [
        | then-command-eq-GET_PDR_REPOSITORY_INFO w ↦
            c.set.ensures.answer ∙ ap Some (w.answer-is ∙ info_among c.args.update_time.now c.args.oem_update_time.now c.args.command.now c.in-Some.summary held w.if-command-eq-GET_PDR_REPOSITORY_INFO.true (sums ∙ ap summary same))
        | else-command-eq-GET_PDR_REPOSITORY_INFO w ↦
            c.set.ensures.answer ∙ ap Some (w.answer-is ∙ w.put_record_part.ensures.answer ∙ part_among c.args.update_time.now c.args.oem_update_time.now c.args.command.now (records_in c.args.records.now) held w.if-command-eq-GET_PDR_REPOSITORY_INFO.false same)
      ];
    }

pub returns-clause-no_records : goal.returns-clause-no_records
returns-clause-no_records c =
    λ none is. absurd (none (records_in c.args.records.now) (are_held c.args.records.now c.in-Some.summary c.in-Some.ensures).1)
