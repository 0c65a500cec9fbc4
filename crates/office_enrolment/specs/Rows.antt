-- The effect of acting lines on rows, if each pair has one.
use Rattle.std.specs.Prelude.{◌≡◌, ℕ, Bool, not, if◌then◌else◌, List, [], ◌∷◌, filter, refl}
use Rattle.exam_model.specs.Pairs.{Pair, is_pair}
use Rattle.exam_model.specs.declared.change.Change.{Change}

-- a kind of rows: the row of a pair, and whether a row is that of a student and an exam
pub record RowKind (X : Type 0) : Type 0 where
  pub row : Pair → X
  pub is_of : ℕ → ℕ → X → Bool
  pub agrees : (s e : ℕ) (p : Pair) → is_of s e (row p) ≡ is_pair s e p

-- a pair is its own row
abbrev pub pair_rows : RowKind Pair
pair_rows = record { row = λ p. p; is_of = is_pair; agrees = λ s e p. refl }

-- the pair of a line
abbrev pub pair_of : Change → Pair
pair_of change = record { exam = change.exam; student = change.student }

-- the rows after an acting line: its row is added at the front, or removed
abbrev pub after_row : {X : Type 0} → RowKind X → Change → List X → List X
after_row kind change rows =
    if change.add then kind.row (pair_of change) ∷ rows
    else filter (λ r. not (kind.is_of change.student change.exam r)) rows

-- the rows after lines that act, one after another
abbrev pub after_rows : {X : Type 0} → RowKind X → List Change → List X → List X
after_rows kind [] rows = rows
after_rows kind (change ∷ changes) rows = after_rows kind changes (after_row kind change rows)
