use Rattle.std.proofs.Common.{◌≡◌, ◌-◌, take, drop, []}
use Rattle.office_files.specs.Reading.{items_of}
use Rattle.office_files.proofs.sections.items.Given as goal

abbrev pub invariant-lines : goal.invariant-lines
invariant-lines g l = record {
  left : l.lines ≡ drop l.counter l.fn.lines;
  read : items_of (g.T.LineItem.reading l.counts) l.items.items (take (l.count - l.counter) l.lines)
      ≡ items_of (g.T.LineItem.reading l.counts) [] (take l.count l.fn.lines);
}
