-- The results of dropping the end of a line, and the position of a line.
use Rattle.std.proofs.lemmas.Grind.{common_steps}
use Rattle.std.specs.Prelude.{◌==◌}
use Rattle.office_files.specs.Fields.{ended_parts}
use Rattle.office_files.specs.Lines.{section_size}
use Rattle.std.proofs.Common.{true, false, get_or, ◌≡◌, ◌≢◌, ℕ, ◌+◌, ◌<◌}
use Rattle.std.proofs.Common.{◌≤◌, List, [], ◌∷◌, ◌++◌, length, refl, ap, ◌∙◌, arith}
use Rattle.std.proofs.lemmas.Bool.{ne_eqb}
use Rattle.exam_lists.proofs.Parts.{length_onto_first-le}
use Rattle.office_files.specs.Lines.{without_return, Piece, Located, pieces_from, unless_blank}
use Rattle.office_files.specs.Lines.{lines_from, is_header}

return_some : (b c : ℕ) (xs : List ℕ) →
    without_return (b ∷ (xs ++ c ∷ [])) ≡ b ∷ without_return (xs ++ c ∷ [])
return_some b c [] = refl
return_some b c (x ∷ xs) = refl

pub without_return-cr : (xs : List ℕ) → without_return (xs ++ 13 ∷ []) ≡ xs
without_return-cr [] = refl
without_return-cr (x ∷ xs) = return_some x 13 xs
    ∙ ap (λ (ys : List ℕ). x ∷ ys) (without_return-cr xs)

pub without_return-other : (xs : List ℕ) (b : ℕ) → b ≢ 13 →
    without_return (xs ++ b ∷ []) ≡ xs ++ b ∷ []
without_return-other [] b other = rw (ne_eqb b 13 other) refl
without_return-other (x ∷ xs) b other = return_some x b xs
    ∙ ap (λ (ys : List ℕ). x ∷ ys) (without_return-other xs b other)

pub ruleset return_facts = (without_return-cr, without_return-other)

pub length-parts : (c : ℕ) (bs : List ℕ) → length (ended_parts c bs) ≤ length bs
length-parts c [] = omega arith
length-parts c (b ∷ bs) = grind (arith, common_steps, length-parts c bs, length_onto_first-le)

length-placed : (at : ℕ) (xs : List (List ℕ)) → length (pieces_from at xs) ≡ length xs
length-placed at [] = refl
length-placed at (x ∷ xs) = omega (arith, length-placed (at + length x + 1) xs)

length-unless_blank : (s : Located) (rows : List Located) →
    length (unless_blank s rows) ≤ length rows + 1
length-unless_blank s rows = grind (arith, common_steps)

length-rows : (line : ℕ) (ps : List Piece) → length (lines_from line ps) ≤ length ps
length-rows line [] = omega arith
length-rows line (p ∷ ps) =
    grind (arith, common_steps, length-rows (line + 1) ps, length-unless_blank)

-- there are no more rows than bytes
pub rows-le : (line at : ℕ) (bs : List ℕ) →
    length (lines_from line (pieces_from at (ended_parts 10 bs))) ≤ length bs
rows-le line at bs = grind (arith, common_steps, length-parts, length-placed, length-rows)

pub size_head : (r : Located) (rs : List Located) → is_header r.text ≡ true →
    section_size (r ∷ rs) ≡ 0
size_head r rs e = rw e refl

pub size_line : (r : Located) (rs : List Located) → is_header r.text ≡ false →
    section_size (r ∷ rs) ≡ section_size rs + 1
size_line r rs e = rw e refl

-- the first byte decides whether a line is a header
pub header_first : (bs : List ℕ) → 0 < length bs → is_header bs ≡ (get_or bs 0 0 == 91)
header_first [] some = absurd (omega arith)
header_first (b ∷ bs) some = refl

pub ruleset size_facts = (rows-le, size_head, size_line, header_first)
