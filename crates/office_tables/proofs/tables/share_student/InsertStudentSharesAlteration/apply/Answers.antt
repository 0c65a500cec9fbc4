use Rattle.std.proofs.lemmas.Grind.{common_steps}
use Rattle.std.proofs.Common.{rules, true, ◌∙◌, arith}
use Rattle.std.proofs.lemmas.Result.{on_ok_weaker}
use Rattle.sqlite.specs.Held.{state}
use Rattle.office_tables.specs.Tables.ShareStudent.{AreStudentAmounts}
use Rattle.office_tables.specs.Tables.{with_student_share}
use Rattle.office_tables.specs.declared.tables.share_student.InsertStudentShare.{InsertStudentShare}
use Rattle.office_tables.proofs.InsertLemmas.{continued, finished, parts_fit}
use Rattle.office_tables.proofs.Inside.{within_then, within_same, clean_before}
use Rattle.office_tables.proofs.tables.share_student.InsertStudentSharesAlteration.apply.Goals as goal

pub chunks-init : goal.chunks-init
chunks-init g c = grind (arith, common_steps, within_same)

pub chunks-preserved : goal.chunks-preserved
chunks-preserved g c =
    let old = state g.S.Store c.args.tx.now.conn.now in
    let mid = state g.S.Store c.chunks.tx.conn.now in
    let new = state g.S.Store c.insert_sixteen.new.tx.conn.now in
    record {
      same = c.insert_sixteen.ensures.same_reference ∙ c.chunks.invariant.same;
      makes = λ clean inside.
          let clean_mid = clean_before mid new c.insert_sixteen.ensures.within clean in
          let first = c.chunks.invariant.makes clean_mid inside in
          continued (λ (it : InsertStudentShare). with_student_share it.row) 16
          c.args.self.now.rows.now c.chunks.left.now c.in-Some.chunk.now c.in-Some.rest.now old mid
          new first (c.in_ok-insert_sixteen.ensures.makes clean first.0) c.in-Some.ensures.cases;
      within = within_then old mid new c.chunks.invariant.within c.insert_sixteen.ensures.within;
      fits = (parts_fit true AreStudentAmounts (λ (it : InsertStudentShare). it.row) 16
          c.chunks.left.now c.in-Some.chunk.now c.in-Some.rest.now c.in-Some.ensures.cases
          c.chunks.invariant.fits).1;
    }

pub insert_sixteen-requires : goal.insert_sixteen-requires
insert_sixteen-requires g c =
    let fits = (parts_fit true AreStudentAmounts (λ (it : InsertStudentShare). it.row) 16
    c.chunks.left.now c.in-Some.chunk.now c.in-Some.rest.now c.in-Some.ensures.cases
    c.chunks.invariant.fits).0 in
    search rules

pub apply-requires : goal.apply-requires
apply-requires g c = record { fits = c.chunks.invariant.fits }

pub returns-in_err-insert_sixteen-clause-same_reference
    : goal.returns-in_err-insert_sixteen-clause-same_reference
returns-in_err-insert_sixteen-clause-same_reference g c =
    c.insert_sixteen.ensures.same_reference ∙ c.chunks.invariant.same

pub returns-in_err-insert_sixteen-clause-within : goal.returns-in_err-insert_sixteen-clause-within
returns-in_err-insert_sixteen-clause-within g c =
    within_then _ _ _ c.chunks.invariant.within c.insert_sixteen.ensures.within

pub returns-clause-same_reference : goal.returns-clause-same_reference
returns-clause-same_reference g c = c.apply.ensures.same_reference ∙ c.chunks.invariant.same

pub returns-clause-makes : goal.returns-clause-makes
returns-clause-makes g c clean inside =
    let mid = state g.S.Store c.chunks.tx.conn.now in
    let new = state g.S.Store c.apply.new.tx.conn.now in
    let first =
    c.chunks.invariant.makes (clean_before mid new c.apply.ensures.within clean) inside in
    on_ok_weaker c.apply.result
    (finished (λ (it : InsertStudentShare). with_student_share it.row) c.args.self.now.rows.now
    c.chunks.left.now (state g.S.Store c.args.tx.now.conn.now) mid new first)
    (c.apply.ensures.makes clean first.0)

pub returns-clause-within : goal.returns-clause-within
returns-clause-within g c =
    within_then _ _ _ c.chunks.invariant.within c.apply.ensures.within
