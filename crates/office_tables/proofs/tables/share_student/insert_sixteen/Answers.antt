use Rattle.std.proofs.Common.{◌≡◌, ◌∙◌, ap, flat_map, map, rules, subst, sym}
use Rattle.std.proofs.lemmas.List.{length-map}
use Rattle.sqlite_value.specs.declared.value.Value.TheVariants.{Int}
use Rattle.sqlite.specs.Held.{state}
use Rattle.office_tables.specs.Alterations.{IsWritten}
use Rattle.office_tables.specs.Tables.ShareStudent.{night_share_columns, share_student_columns}
use Rattle.office_tables.specs.declared.tables.share_student.InsertStudentShare.{InsertStudentShare}
use Rattle.office_tables.proofs.AlterationLemmas.{student_shares_put}
use Rattle.office_tables.proofs.InsertLemmas.{rows_valued}
use Rattle.office_tables.proofs.Inside.{changes_by_two}
use Rattle.office_tables.proofs.ShareLemmas.{sixteen_added}
use Rattle.office_tables.proofs.tables.share_student.insert_sixteen.Goals as goal

pub returns-clause-makes : goal.returns-clause-makes
returns-clause-makes g c =
    let its = c.args.rows.now in
    let old = state g.S.Store c.args.tx.now.conn.now in
    let mid = state g.S.Store c.run_with.new.tx.conn.now in
    let new = state g.S.Store c.run_with-2.new.tx.conn.now in
    let students : map Int c.as_flattened.result.now
    ≡ flat_map share_student_columns (map (λ (x : InsertStudentShare). x.row) its) =
    ap (map Int) c.as_flattened.ensures.value
    ∙ rows_valued _ _ (λ (x : InsertStudentShare). x.row) share_student_columns its
    c.from_fn-students.result 16 (λ i y q call. search rules) c.requires.count
    c.from_fn-students.ensures.items in
    let nights : map Int c.as_flattened-2.result.now
    ≡ flat_map night_share_columns (map (λ (x : InsertStudentShare). x.row) its) =
    ap (map Int) c.as_flattened-2.ensures.value
    ∙ rows_valued _ _ (λ (x : InsertStudentShare). x.row) night_share_columns its
    c.from_fn-nights.result 16 (λ i y q call. search rules) c.requires.count
    c.from_fn-nights.ensures.items in
    changes_by_two _ _ old mid new c.run_with-2.result
    (λ one two t represents h k. subst (λ all. IsWritten all old.now new.now)
    (sym (student_shares_put its t))
    (sixteen_added old mid new (map (λ (x : InsertStudentShare). x.row) its) one two t
    (length-map its (λ (x : InsertStudentShare). x.row) ∙ c.requires.count) represents h k))
    c.run_with-2.ensures.within (rw students at c.in_ok-run_with.ensures.ran)
    (rw nights at c.run_with-2.ensures.ran)
