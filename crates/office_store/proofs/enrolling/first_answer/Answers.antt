use Rattle.std.proofs.Common.{true, false, not, sym, ◌∙◌, ap}
use Rattle.office_tables.specs.Tables.Batches.{batch_from}
use Rattle.office_store.proofs.KeptBatchLemmas.{answer_is, returned_same}
use Rattle.office_store.proofs.enrolling.first_answer.Goals as goal

pub returns-then-ne : goal.returns-then-ne
returns-then-ne c =
    sym (answer_is (batch_from c.args.row.now) c.args.text.now false
    (returned_same c.as_slice.result.now c.args.row.now.bytes.items c.args.text.now c.ne.result
    c.ne.ensures c.as_slice.ensures.value ∙ ap not c.if-ne.true))

pub returns : goal.returns
returns c =
    sym (answer_is (batch_from c.args.row.now) c.args.text.now true
    (returned_same c.as_slice.result.now c.args.row.now.bytes.items c.args.text.now c.ne.result
    c.ne.ensures c.as_slice.ensures.value ∙ ap not c.if-ne.false))
