use Rattle.std.proofs.Common.{◌≡◌, ◌<◌, ◌++◌, ◌∷◌, [], ℕ, Some, length, get_or, map, ap, sym, subst, ◌∙◌, arith}
use Rattle.std.specs.Prelude.{slice_get}
use Rattle.std.proofs.lemmas.List.{length-map}
use Rattle.std.proofs.lemmas.Option.{get_or_from_slice_get, slice_get_within}
use Rattle.exam_score.specs.Personal.{personal_of}
use Rattle.exam_publish.specs.declared.seat_row.SeatRow.{SeatRow}
use Rattle.exam_publish.specs.Changed.{rows_of}
use Rattle.exam_publish.proofs.StudentLemmas.{IsShared, own_is, few_rows, shared_more}
use Rattle.exam_publish.proofs.student_shares.student_shares.Goals as goal

pub personal-requires : goal.personal-requires
personal-requires c =
    let I = c.args.instance.now in
    let rows = c.args.rows.now in
    let T = c.args.timetable.now in
    let rest = c.students.rest.now in
    let r : SeatRow = c.in-Some.first.now in
    let s = r.student in
    let got : slice_get rest 0 ≡ Some r = sym c.in-Some.ensures.value in
    let is : r ≡ get_or rest 0 r = sym (get_or_from_slice_get rest 0 r r got) in
    let some : 0 < length rest = slice_get_within rest 0 r got in
    let own = own_is I rows rest c.students.shares.items r c.count_own.result c.students.invariant
    is some c.count_own.ensures in
    let period : SeatRow → ℕ = λ row. row.period in
    let periods : c.deref.result.now ≡ map period (rows_of s rows)
    = c.deref.ensures.value ∙ c.in_ok-periods.ensures
    ∙ ap (map period) (c.split_at.ensures.front ∙ own) in
    let few = few_rows I rows T s c.requires
    (omega (arith, c.lemma_limit.ensures, c.requires.exams)) in
    omega (arith, ap length periods, length-map (rows_of s rows) period, few)

pub students-preserved : goal.students-preserved
students-preserved c =
    let I = c.args.instance.now in
    let rows = c.args.rows.now in
    let rest = c.students.rest.now in
    let shares = c.students.shares.items in
    let more = c.push.new.self.items in
    let r : SeatRow = c.in-Some.first.now in
    let s = r.student in
    let n = c.count_own.result in
    let got : slice_get rest 0 ≡ Some r = sym c.in-Some.ensures.value in
    let is : r ≡ get_or rest 0 r = sym (get_or_from_slice_get rest 0 r r got) in
    let some : 0 < length rest = slice_get_within rest 0 r got in
    let own = own_is I rows rest shares r n c.students.invariant is some c.count_own.ensures in
    let period : SeatRow → ℕ = λ row. row.period in
    let periods : c.deref.result.now ≡ map period (rows_of s rows)
    = c.deref.ensures.value ∙ c.in_ok-periods.ensures
    ∙ ap (map period) (c.split_at.ensures.front ∙ own) in
    subst (IsShared I rows more) (sym c.split_at.ensures.back)
    (shared_more I rows rest shares more r n c.students.invariant is some c.count_own.ensures
    (c.in_ok-push.ensures.items
    ∙ ap (λ parts. shares ++ (s, parts) ∷ [])
    (c.personal.ensures ∙ ap (personal_of I.periods I.weights) periods)))
