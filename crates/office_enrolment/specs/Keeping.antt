-- The office after a batch that is new.
use Rattle.std.specs.Prelude.{ℕ, nat_lt, List, ◌∷◌, length, Some, Ok}
use Rattle.exam_terms.specs.Refusing.{◌>>=◌, unless}
use Rattle.exam_terms.specs.declared.limits.TheConstants.{MAX_BATCHES}
use Rattle.exam_model.specs.Enrolments.{Enrolled}
use Rattle.exam_model.specs.declared.change.Change.{Change}
use Rattle.office_model.specs.Commands.{CommandResult}
use Rattle.office_model.specs.Office.{Records}
use Rattle.office_model.specs.declared.counts.Counts.{Counts}
use Rattle.office_model.specs.declared.fault.StoreFault.TheVariants.{TooMany}
use Rattle.office_enrolment.specs.AfterBatch.{after_batch}

-- the records with other enrolments and one more batch, with its counts
abbrev pub records_with_batch : ℕ → List ℕ → Records → Counts × Enrolled → Records
records_with_batch number bytes r done = record r {
  enrolments = done.1;
  batches = record { no = number; bytes = bytes; counts = done.0 } ∷ r.batches;
}

-- refused if the number of kept batches is at its limit
abbrev pub batch_stored : ℕ → List ℕ → Records → Counts × Enrolled → CommandResult Counts
batch_stored number bytes r done = do
  _ ← unless (nat_lt (length r.batches) MAX_BATCHES) TooMany
  Ok (done.0, Some (records_with_batch number bytes r done))

-- a new batch is judged by its lines, and then kept
abbrev pub batch_judged : ℕ → List ℕ → List Change → Records → CommandResult Counts
batch_judged number bytes changes r = do
  done ← after_batch changes r.enrolments
  batch_stored number bytes r done
