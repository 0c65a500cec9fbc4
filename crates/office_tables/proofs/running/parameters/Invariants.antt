use Rattle.std.proofs.Common.{◌≡◌, ◌≤◌, take, map, length}
use Rattle.sqlite_value.specs.declared.value.Value.TheVariants.{Int}
use Rattle.sqlite.specs.Values.{bound}
use Rattle.office_tables.proofs.running.parameters.Given as goal

abbrev pub invariant-loop-i : goal.invariant-loop-i
invariant-loop-i l = record {
  long : length l.params ≡ 80;
  below : l.i ≤ length l.numbers;
  filled : take l.i (bound l.params) ≡ map Int (take l.i l.numbers);
}
