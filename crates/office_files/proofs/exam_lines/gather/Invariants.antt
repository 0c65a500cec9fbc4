use Rattle.std.proofs.Common.{◌≡◌, ◌++◌, true, length}
use Rattle.office_files.specs.ExamStudents.{named_in, fault_in}
use Rattle.office_files.proofs.ExamLineLemmas.{IsUpTo}
use Rattle.office_files.proofs.exam_lines.gather.Given as goal

abbrev pub invariant-fields : goal.invariant-fields
invariant-fields l = record {
  names : l.named.items ++ named_in l.fields ≡ named_in l.initial.fields;
  fault : fault_in l.fields ≡ fault_in l.initial.fields;
  ascending : l.ascending ≡ true → IsUpTo l.named.items l.least;
}

abbrev pub decreases-fields : goal.decreases-fields
decreases-fields l = length l.fields
