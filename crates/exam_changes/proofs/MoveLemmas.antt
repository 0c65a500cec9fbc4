-- The exams whose place differs.
use Rattle.std.proofs.Common.{◌≡◌, ◌∙◌, ◌+◌, ◌<◌, ◌++◌, ◌∷◌, [], All, List, Option, ap, ap₂, arith, filter, map, refl, subst, sym, ℕ}
use Rattle.std.specs.List.{range_with_len}
use Rattle.std.proofs.lemmas.List.Elements.{All-filter}
use Rattle.std.proofs.lemmas.List.FromFn.{filter_of_map_range_with_len_more, get_or-map-range_with_len, length-map-range_with_len}
use Rattle.exam_terms.specs.declared.place.Place.{Place}
use Rattle.exam_model.specs.Timetable.{Placing, place_of}
use Rattle.exam_changes.specs.Moves.{is_move, move_of}
use Rattle.exam_changes.specs.declared.moved_exams.Move.{Move}

-- one more exam
pub moves_more : (A B : Placing) (n k : ℕ) (from to : Option Place) (before after : List Move)
    → k ≡ n → from ≡ place_of A k → to ≡ place_of B k
    → before ≡ filter is_move (map (move_of A B) (range_with_len 0 n))
    → after ≡ before ++ filter is_move (record { exam = k; from = from; to = to } ∷ [])
    → after ≡ filter is_move (map (move_of A B) (range_with_len 0 (n + 1)))
moves_more A B n k from to before after is one other so_far added =
    let same : move_of A B k ≡ record { exam = k; from = from; to = to } = rw (one, other) refl in
    added ∙ ap₂ (λ (ms : List Move) (m : Move). ms ++ filter is_move (m ∷ [])) so_far
    (sym same ∙ ap (move_of A B) is)
    ∙ sym (filter_of_map_range_with_len_more is_move (move_of A B) 0 n n (omega arith))

-- they exist
pub moves_exist : (A B : Placing) (n : ℕ)
    → All (λ (m : Move). m.exam < n) (filter is_move (map (move_of A B) (range_with_len 0 n)))
moves_exist A B n =
    All-filter is_move (λ (m : Move). m.exam < n) (map (move_of A B) (range_with_len 0 n))
    (λ k d lt. let within : k < n = (let same = length-map-range_with_len (move_of A B) 0 n in
    omega arith) in
    subst (λ (m : Move). m.exam < n)
    (sym (get_or-map-range_with_len (move_of A B) 0 n k k d within (omega arith))) within)
