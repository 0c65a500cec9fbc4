-- Enrolments linked by slots of students: each leads to the one before it in its slot.
use Rattle.std.specs.Prelude.{◌≡◌, ◌≢◌, ℕ, ◌-◌, ◌%◌, ◌<◌, ◌≤◌, Bool, List, length, slice_index, slice_index_or}
use Rattle.exam_model.specs.Pairs.{Pair}
use Rattle.exam_model.specs.Sitters.{is_sitter, pair_of}
use Rattle.exam_model.specs.declared.links.Link.{Link}

-- the slot of a student, out of this many
abbrev pub slot_of : ℕ → ℕ → ℕ
slot_of slots student = student % slots

-- the pair of a student and an exam that they sit
abbrev pub pair_at : Link → Pair
pair_at x = pair_of x.sitter

-- whether it is student s in exam e
abbrev pub is_link : ℕ → ℕ → Link → Bool
is_link s e x = is_sitter s e x.sitter

-- the last of the first k links in a slot has index n - 1; there is none if n is 0
pub record IsLast (links : List Link) (slots slot n k : ℕ) : Type 0 where
  pub within : n ≤ k
  pub here : (d : Link) → 0 < n → slot_of slots (slice_index_or links (n - 1) d).sitter.student ≡ slot
  pub none : (j : ℕ) (d : Link) → n ≤ j → j < k
      → slot_of slots (slice_index_or links j d).sitter.student ≢ slot

-- of this many slots: each link leads to the one before it in its slot, and the last link of each
-- slot is known
pub record AreLinkedIn (links : List Link) (last : List ℕ) (slots : ℕ) : Type 0 where
  pub some : 0 < slots
  pub count : length last ≡ slots
  pub chain : (k : ℕ) (d : Link) → k < length links
      → IsLast links slots (slot_of slots (slice_index_or links k d).sitter.student)
      (slice_index_or links k d).before k
  pub lasts : (slot : ℕ) → slot < length last
      → IsLast links slots slot (slice_index last slot) (length links)

-- the same of as many slots as have a last link
abbrev pub AreLinked : List Link → List ℕ → Type 0
AreLinked links last = AreLinkedIn links last (length last)
