use Rattle.office_batches.proofs.RecordLemmas.{IsAfterRecords}
use Rattle.office_batches.proofs.batch_reader.changes_in.Given as goal

abbrev pub invariant-records : goal.invariant-records
invariant-records l = IsAfterRecords l.text l.reader l.changes.items l.before
