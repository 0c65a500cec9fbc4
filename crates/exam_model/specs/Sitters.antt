-- A student with one of their exams.
use Rattle.std.specs.Prelude.{ℕ, Bool, ◌&&◌, ◌==◌}
use Rattle.exam_model.specs.Pairs.{Pair}
use Rattle.exam_model.specs.declared.sitter.Sitter.{Sitter}

-- the pair of a student and an exam that they sit
abbrev pub pair_of : Sitter → Pair
pair_of x = record { exam = x.exam; student = x.student }

-- whether it is student s in exam e
abbrev pub is_sitter : ℕ → ℕ → Sitter → Bool
is_sitter s e x = (x.exam == e) && (x.student == s)
