use Rattle.std.proofs.Common.{◌≡◌, ℕ, ◌+◌, ◌-◌, ◌<◌, ◌≤◌, length, take, count_by}
use Rattle.std.specs.Prelude.{slice_index, slice_index_or}
use Rattle.exam_model.specs.Links.{is_link, slot_of}
use Rattle.exam_model.specs.declared.links.Link.{Link}
use Rattle.exam_model.proofs.links.Links.count_exams.Given as goal

-- each exam's count with the links that were read; those left are before the next one of the slot
abbrev pub invariant-loop-next : goal.invariant-loop-next
invariant-loop-next l = record {
  within : l.next ≤ length l.self.list.items;
  slot : (d : Link) → 0 < l.next
      → slot_of (length l.self.last.items)
      (slice_index_or l.self.list.items (l.next - 1) d).sitter.student
      ≡ slot_of (length l.self.last.items) l.student;
  counts : (e : ℕ) → e < length l.fn.counts
      → slice_index l.counts e + count_by (is_link l.student e) (take l.next l.self.list.items)
      ≡ slice_index l.fn.counts e + count_by (is_link l.student e) l.self.list.items;
  steps : l.steps + l.next ≤ l.last;
}

abbrev pub decreases-loop-next : goal.decreases-loop-next
decreases-loop-next l = l.next
