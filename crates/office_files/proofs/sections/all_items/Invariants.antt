use Rattle.std.proofs.Common.{◌≡◌, [], length}
use Rattle.office_files.specs.Reading.{items_of}
use Rattle.office_files.proofs.sections.all_items.Given as goal

abbrev pub invariant-lines : goal.invariant-lines
invariant-lines g l = items_of (g.T.LineItem.reading l.counts) l.items.items l.lines
    ≡ items_of (g.T.LineItem.reading l.counts) [] l.initial.lines

abbrev pub decreases-lines : goal.decreases-lines
decreases-lines g l = length l.lines
