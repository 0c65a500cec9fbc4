use Rattle.std.proofs.Common.{◌≤◌, length}
use Rattle.std.specs.Io.KnownBytes.{Consumes}
use Rattle.office_files.proofs.inputs.text_in.Given as goal

abbrev pub invariant-reads : goal.invariant-reads
invariant-reads g l = record {
  taken : Consumes (g.R.Read.remaining l.initial.reader) (g.R.Read.remaining l.reader) l.text.items;
  within : length l.text.items ≤ l.limit;
}

abbrev pub decreases-reads : goal.decreases-reads
decreases-reads g l = l.reads
