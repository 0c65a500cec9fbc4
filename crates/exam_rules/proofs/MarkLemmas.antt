-- Marks: none is lost.
use Rattle.std.proofs.lemmas.Grind.{common_steps}
use Rattle.std.specs.Int.{bit_at}
use Rattle.std.specs.Int.RustNames.{bit_or}
use Rattle.std.proofs.Common.{◌≡◌, ℕ, ◌+◌, ◌-◌, ◌*◌, ◌%◌, ◌^◌, ◌<◌, ◌⊎◌, inl, inr, Bool, true, ◌||◌, ◌==◌, w64, List, length, take, get_or, slice_set, sym, ◌∙◌, ap, arith, eqb-true, rules}
use Rattle.std.proofs.lemmas.Bool.{cases_eq}
use Rattle.std.proofs.lemmas.List.{length-set, get_or-set_same, get_or-set_other}
use Rattle.std.proofs.lemmas.List.Folds.{list_any_more}
use Rattle.std.proofs.lemmas.Nat.{and_le_r}
use Rattle.std.proofs.lemmas.Nat.Bits.{bit_at_or, bit_at-lt, bit_at_set_same}
use Rattle.exam_model.specs.Enrolments.{has_number}
use Rattle.exam_rules.specs.Marks.{marks_of, slot_of, Has}

-- a student among the first i + 1 is among the first i, or is the next one
pub before_or_here : (students : List ℕ) (i x s : ℕ) → i < length students → x ≡ get_or students i x
    → has_number (take (i + 1) students) s ≡ true
    → (has_number (take i students) s ≡ true) ⊎ (x ≡ s)
before_or_here students i x s within here h = grind (arith, common_steps, eqb-true, list_any_more)

more_left : (a b i : ℕ) → bit_at a i ≡ 1 → bit_at (bit_or a b) i ≡ 1
more_left a b i h = bit_at_or a b i ∙ omega (arith, h, bit_at-lt b i)

more_right : (a b i : ℕ) → bit_at b i ≡ 1 → bit_at (bit_or a b) i ≡ 1
more_right a b i h = bit_at_or a b i ∙ omega (arith, h, bit_at-lt a i)

-- a student's slot exists
pub slot_within : (slots s : ℕ) → 0 < slots → slot_of slots s < slots
slot_within slots s some = omega (arith, some, and_le_r s (slots - 1))

-- the first i students are marked, and no mark is lost
pub record AreMarked (old students : List ℕ) (exam i : ℕ) (slots : List ℕ) : Type 0 where
  pub some : 0 < length slots
  pub marked : (s : ℕ) → has_number (take i students) s ≡ true → Has (marks_of slots s) exam
  pub kept : (s e : ℕ) → Has (marks_of old s) e → Has (marks_of slots s) e

pub marked_more : {old students : List ℕ} {exam i : ℕ} {slots : List ℕ} (x : ℕ)
    → AreMarked old students exam i slots → i < length students → x ≡ get_or students i x
    → AreMarked old students exam (i + 1)
    (slice_set slots (slot_of (length slots) x)
    (bit_or (get_or slots (slot_of (length slots) x) 0) (1 * 2 ^ (exam % 64) % 2 ^ 64)))
marked_more {old} {students} {exam} {i} {slots} x so_far within here = record {
  some = rw long so_far.some;
  marked = λ s h. rw long (marked s (before_or_here students i x s within here h));
  kept = λ s e h. rw long (grows (slot_of (length slots) s) (e % 64) (so_far.kept s e h));
}
  where
    at : ℕ
    at = slot_of (length slots) x

    marks : ℕ
    marks = bit_or (get_or slots at 0) (1 * 2 ^ (exam % 64) % 2 ^ 64)

    long : length (slice_set slots at marks) ≡ length slots
    long = length-set slots at marks

    slot : at < length slots
    slot = slot_within (length slots) x so_far.some

    grows : (k b : ℕ) → bit_at (get_or slots k 0) b ≡ 1
        → bit_at (get_or (slice_set slots at marks) k 0) b ≡ 1
    grows k b h =
        search (rules, cases_eq, get_or-set_other, get_or-set_same, more_left, slice_set, slot)

    marked : (s : ℕ) → (has_number (take i students) s ≡ true) ⊎ (x ≡ s)
        → bit_at (get_or (slice_set slots at marks) (slot_of (length slots) s) 0) (exam % 64) ≡ 1
    marked s (inl before) =
        grows (slot_of (length slots) s) (exam % 64) (so_far.marked s before)
    marked s (inr same) =
        ap (λ t. bit_at (get_or (slice_set slots at marks) (slot_of (length slots) t) 0)
        (exam % 64)) (sym same)
        ∙ ap (λ m. bit_at m (exam % 64)) (get_or-set_same slots at marks 0 slot)
        ∙ bit_at_set_same w64 (get_or slots at 0) (exam % 64) (omega arith)

-- the first i students have no marks, nor does a student who had none before
pub record AreCleared (old students : List ℕ) (i : ℕ) (slots : List ℕ) : Type 0 where
  pub some : 0 < length slots
  pub cleared : (s : ℕ) → has_number (take i students) s ≡ true → marks_of slots s ≡ 0
  pub kept : (s : ℕ) → marks_of old s ≡ 0 → marks_of slots s ≡ 0

pub cleared_more : {old students : List ℕ} {i : ℕ} {slots : List ℕ} (x : ℕ)
    → AreCleared old students i slots → i < length students → x ≡ get_or students i x
    → AreCleared old students (i + 1) (slice_set slots (slot_of (length slots) x) 0)
cleared_more {old} {students} {i} {slots} x so_far within here = record {
  some = rw long so_far.some;
  cleared = λ s h. rw long (cleared s (before_or_here students i x s within here h));
  kept = λ s h. rw long (stays (slot_of (length slots) s) (so_far.kept s h));
}
  where
    at : ℕ
    at = slot_of (length slots) x

    after : List ℕ
    after = slice_set slots at 0

    long : length after ≡ length slots
    long = length-set slots at 0

    slot : at < length slots
    slot = slot_within (length slots) x so_far.some

    stays : (k : ℕ) → get_or slots k 0 ≡ 0 → get_or after k 0 ≡ 0
    stays k h = elim (cases_eq k at) as (λ _. get_or after k 0 ≡ 0) [
      | inl same ↦ ap (λ j. get_or after j 0) same ∙ get_or-set_same slots at 0 0 slot
      | inr other ↦ get_or-set_other slots at k 0 0 other ∙ h
    ]

    cleared : (s : ℕ) → (has_number (take i students) s ≡ true) ⊎ (x ≡ s)
        → get_or after (slot_of (length slots) s) 0 ≡ 0
    cleared s (inl before) = stays (slot_of (length slots) s) (so_far.cleared s before)
    cleared s (inr same) = grind (arith, common_steps, get_or-set_same, slot)

-- the exams that are marked for one of the first i students
pub record AreOf (slots students : List ℕ) (i all : ℕ) : Type 0 where
  pub each : (s e : ℕ) → has_number (take i students) s ≡ true
      → Has (marks_of slots s) e → Has all e

pub of_more : {slots students : List ℕ} {i all : ℕ} (x : ℕ) → AreOf slots students i all
    → i < length students
    → x ≡ get_or students i x
    → AreOf slots students (i + 1) (bit_or all (get_or slots (slot_of (length slots) x) 0))
of_more {slots} {students} {i} {all} x so_far within here =
    grind (arith, common_steps, before_or_here, more_left, more_right)
