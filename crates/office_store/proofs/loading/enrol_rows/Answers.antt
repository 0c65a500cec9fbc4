use Rattle.std.proofs.Common.{rules, ◌≡◌, ◌<◌, ◌≤◌, List, length, ◌++◌, map, take, ◌∙◌, ap, subst}
use Rattle.std.specs.Prelude.{IsPermutation}
use Rattle.std.proofs.lemmas.List.{take_all}
use Rattle.std.proofs.lemmas.List.Sorted.{IsPermutation-map, IsPermutation-sym}
use Rattle.exam_model.specs.Enrolments.{students}
use Rattle.exam_model.specs.Pairs.{pairs_at, pairs_of}
use Rattle.office_tables.specs.declared.tables.enrol.EnrolRow.{EnrolRow}
use Rattle.office_tables.specs.Tables.Enrol.{InsertEnrol}
use Rattle.office_records.specs.TableRows.{enrol_row}
use Rattle.office_store.proofs.LoadLemmas.{exam_added}
use Rattle.office_store.proofs.loading.enrol_rows.Goals as goal

pub loop-number-preserved : goal.loop-number-preserved
loop-number-preserved c =
    let E = c.args.enrolments.now in
    let e = c.loop-number.number in
    let within : e < length E = search rules in
    let are : c.students-students.result.now ≡ students E e = search rules in
    c.in_ok-add_rows.ensures
    ∙ ap (λ (l : List EnrolRow). l ++ map enrol_row (pairs_at e c.students-students.result.now))
    c.loop-number.invariant
    ∙ ap (λ l. map enrol_row (pairs_of (take e E)) ++ map enrol_row (pairs_at e l)) are
    ∙ exam_added E e within

pub returns : goal.returns
returns c =
    let E = c.args.enrolments.now in
    let made = c.loop-number.rows.items in
    let all_exams : length E ≤ c.loop-number.number = search rules in
    let all : map (λ (it : InsertEnrol). it.row) made ≡ map enrol_row (pairs_of E) =
    c.loop-number.invariant
    ∙ ap (λ l. map enrol_row (pairs_of l))
    (take_all c.loop-number.number E all_exams) in
    subst (IsPermutation (map (λ (it : InsertEnrol). it.row) c.sort_by_key.new.self.items)) all
    (IsPermutation-sym _ _ (IsPermutation-map (λ (it : InsertEnrol). it.row) _ _
    c.in_ok-sort_by_key.ensures.permutation))
