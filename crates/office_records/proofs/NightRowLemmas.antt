-- An office whose weight of exams over night is 0 has no share with an amount over night.
use Rattle.std.proofs.Common.{◌≡◌, ℕ, ◌≤◌, ◌*◌, List, length, Option, Some, None, sym, ap, subst, ◌∙◌, arith, mul-zero, rules}
use Rattle.std.proofs.lemmas.List.Sorted.{IsPermutation-sym}
use Rattle.sqlite_trees.proofs.ListLemmas.{all-map, all-permutation, all_of}
use Rattle.exam_model.specs.Instance.{Session}
use Rattle.exam_model.specs.declared.parts.Period.{Period}
use Rattle.exam_model.specs.declared.parts.Weights.{Weights}
use Rattle.exam_model.proofs.SumLemmas.{sum_pairs-le}
use Rattle.exam_score.specs.Cost.{night_cost}
use Rattle.exam_score.specs.Regrouping.{candidate_cost}
use Rattle.exam_score.proofs.NightLemmas.{night_weightless}
use Rattle.office_tables.specs.Tables.ShareStudent.{HaveNoNight}
use Rattle.office_tables.specs.Tables.{Tables}
use Rattle.office_tables.specs.declared.tables.share_student.StudentShareRow.{StudentShareRow}
use Rattle.office_model.specs.Office.{OfficeState, Publication}
use Rattle.office_records.specs.Memory.{HasNoNightWeight, memory_of}
use Rattle.office_records.specs.Representation.{IsSound, TablesRepresentOffice}
use Rattle.office_records.specs.SharesStored.{student_share_rows}

-- all periods of a candidate
nights_free : (periods : List Period) (weights : Weights) (at : List ℕ) → weights.night ≡ 0
    → candidate_cost (night_cost periods weights) at ≡ 0
nights_free periods weights at none =
    let most = sum_pairs-le (night_cost periods weights) 0 no_more at in
    let nothing : length at * (length at * 0) ≡ 0 =
    ap (λ n. length at * n) (mul-zero (length at)) ∙ mul-zero (length at) in
    omega arith
  where
    no_more : (p q : ℕ) → night_cost periods weights p q ≤ 0
    no_more p q = let free = night_weightless periods weights none p q in omega arith

-- the shares of a publication
publication_free : (I : Session) (published : Option Publication) → I.weights.night ≡ 0
    → HaveNoNight (student_share_rows I published)
publication_free I None none = tt
publication_free I (Some p) none = search (rules, all-map, all_of, nights_free)

-- the rows of shares
pub no_night : (t : Tables) (o : OfficeState) → TablesRepresentOffice t o → IsSound t o
    → HasNoNightWeight (memory_of o) → HaveNoNight t.share_student
no_night t None represents sound none =
    subst (λ (t : Tables). HaveNoNight t.share_student) (sym represents) tt
no_night t (Some r) represents sound none =
    all-permutation (λ (row : StudentShareRow). row.night ≡ 0) _ t.share_student
    (IsPermutation-sym _ _ sound.shared.of_students) (publication_free r.session r.published none)
