use Rattle.std.proofs.Common.{◌≡◌, ℕ, List, ◌++◌, ◌∷◌, map, take, get_or, sym, ◌∙◌, ap, []}
use Rattle.std.proofs.lemmas.List.{append-nil, get_or_default, map-append}
use Rattle.exam_model.specs.Pairs.{pairs_at}
use Rattle.office_tables.specs.Tables.Enrol.{InsertEnrol}
use Rattle.office_tables.specs.declared.tables.enrol.EnrolRow.{EnrolRow}
use Rattle.office_records.specs.TableRows.{enrol_row}
use Rattle.office_store.proofs.LoadLemmas.{added}
use Rattle.office_store.proofs.loading.add_rows.Goals as goal

pub loop-student-init : goal.loop-student-init
loop-student-init c =
    sym (append-nil (map (λ (it : InsertEnrol). it.row) c.args.rows.now.items))

pub loop-student-preserved : goal.loop-student-preserved
loop-student-preserved c =
    let e = c.args.exam in
    let xs = c.args.students.now in
    let i = c.loop-student.student-index in
    let row : InsertEnrol → EnrolRow = λ it. it.row in
    let before = map row c.args.rows.now.items in
    let item : (d : ℕ) → c.get.result ≡ get_or xs i d
    = λ d. c.get.ensures.number ∙ c.student-item.is
    ∙ get_or_default xs i _ d c.loop-student-test.true in
    ap (map row) c.in_ok-push.ensures.items
    ∙ map-append row c.loop-student.rows.items
    (record { row = record { student = c.get.result; exam = e } } ∷ [])
    ∙ ap (λ (l : List EnrolRow). l ++ record { student = c.get.result; exam = e } ∷ [])
    c.loop-student.invariant
    ∙ ap (λ s. (before ++ map enrol_row (pairs_at e (take i xs)))
    ++ record { student = s; exam = e } ∷ []) (item 0)
    ∙ added before e xs i 0 c.loop-student-test.true
