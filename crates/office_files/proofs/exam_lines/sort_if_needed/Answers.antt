use Rattle.std.proofs.lemmas.List.Filters.{dedup_is}
use Rattle.office_files.proofs.ExamLineLemmas.{students-ascending, students-sorted}
use Rattle.office_files.proofs.exam_lines.sort_if_needed.Goals as goal

-- sorted and freed of repeats
pub returns-then-not-ascending-clause-all : goal.returns-then-not-ascending-clause-all
returns-then-not-ascending-clause-all c =
    (students-sorted c.args.named.now.items c.sort_unstable.new.self.items
    c.dedup.new.self.items c.sort_unstable.ensures.permutation c.sort_unstable.ensures.sorted
    (dedup_is _ _ _ c.dedup.ensures.filtered)).0

pub returns-then-not-ascending-clause-ascending : goal.returns-then-not-ascending-clause-ascending
returns-then-not-ascending-clause-ascending c =
    (students-sorted c.args.named.now.items c.sort_unstable.new.self.items
    c.dedup.new.self.items c.sort_unstable.ensures.permutation c.sort_unstable.ensures.sorted
    (dedup_is _ _ _ c.dedup.ensures.filtered)).1

-- the students keep their order
pub returns-else-not-ascending-clause-all : goal.returns-else-not-ascending-clause-all
returns-else-not-ascending-clause-all c =
    students-ascending c.args.named.now.items (c.requires c.if-not-ascending.false)
