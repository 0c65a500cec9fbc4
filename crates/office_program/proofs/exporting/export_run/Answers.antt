use Rattle.std.proofs.Common.{◌∙◌, inl, inr, subst, sym}
use Rattle.sqlite.specs.Held.{state}
use Rattle.sqlite.specs.State.{HasCleanDisk}
use Rattle.sqlite.proofs.StateLemmas.{survives_weaker}
use Rattle.office_program.specs.Export.{Exports}
use Rattle.office_store.specs.Opening.{HoldsOffice}
use Rattle.office_store.specs.Running.{Represents}
use Rattle.office_store.proofs.OpenLemmas.{kept_holds}
use Rattle.office_program.proofs.ForeignFacts.{if_read, unadopted_foreign}
use Rattle.office_program.proofs.LoadFacts.{export_survives}
use Rattle.office_program.proofs.exporting.export_run.Goals as goal

-- no office was found
pub returns-in-Err-clause-refused : goal.returns-in-Err-clause-refused
returns-in-Err-clause-refused g c = λ clean there holds. elim c.in-Err.ensures.fault [
  | inl is ↦ is
  | inr bad ↦ absurd (c.in-Err.ensures.no_office bad clean there holds)
]

-- the publication of the office that was found is written
pub returns-in-Ok-export_from-clause-done : goal.returns-in-Ok-export_from-clause-done
returns-in-Ok-export_from-clause-done g c = λ clean.
    let now = subst (λ held. HasCleanDisk (state g.S.Store held)) c.release.ensures clean in
    let found = c.in-Ok.ensures.adopted (c.export_from.ensures.ran.clean now) in
    record {
      there = found.office;
      stood = found.stood;
      of = λ there holds. subst (λ held. Exports there (state g.S.Store held)
          (g.W.Write.contents c.args.writer.now) (g.W.Write.contents c.export_from.new.writer))
          (sym c.release.ensures)
          (c.in-Ok-export_from.ensures.ran.runs now there
          (λ opened. found.represents there holds)).done;
    }

-- tables of others
pub returns-in-Err-clause-foreign : goal.returns-in-Err-clause-foreign
returns-in-Err-clause-foreign g c = unadopted_foreign g.S.Store c.args.conn
    (c.in-Err.fault, c.in-Err.conn) c.in-Err.ensures.fault c.in-Err.ensures.leaves

pub returns-in-Err-export_from-clause-foreign : goal.returns-in-Err-export_from-clause-foreign
returns-in-Err-export_from-clause-foreign g c =
    if_read c.in-Err-export_from.fault _ (λ of clean none.
    let now = subst (λ held. HasCleanDisk (state g.S.Store held))
    c.release-in-Err-export_from.ensures clean in
    let found = c.in-Ok.ensures.adopted (c.export_from.ensures.ran.clean now) in
    absurd (none found.office found.stood))

-- the office that was found refuses
pub returns-in-Err-export_from-clause-refused : goal.returns-in-Err-export_from-clause-refused
returns-in-Err-export_from-clause-refused g c = λ clean there holds.
    let now = subst (λ held. HasCleanDisk (state g.S.Store held))
    c.release-in-Err-export_from.ensures clean in
    let found = c.in-Ok.ensures.adopted (c.export_from.ensures.ran.clean now) in
    (c.in-Err-export_from.ensures.ran.runs now there
    (λ opened. found.represents there holds)).refused

-- no office was found, and the tables are unchanged
pub returns-in-Err-clause-stays : goal.returns-in-Err-clause-stays
returns-in-Err-clause-stays g c = λ clean kept there is opened. elim c.in-Err.ensures.leaves.undone [
  | inl same ↦ subst (λ held. HoldsOffice (state g.S.Store held).now there) (sym same) is
  | inr undone ↦ subst (λ db. HoldsOffice db there) (kept ∙ sym ((undone clean).now opened)) is
]

-- the office that was found refuses, and is unchanged
pub returns-in-Err-export_from-clause-stays : goal.returns-in-Err-export_from-clause-stays
returns-in-Err-export_from-clause-stays g c = λ clean kept there is opened.
    let released = c.release-in-Err-export_from.ensures in
    let now = subst (λ held. HasCleanDisk (state g.S.Store held)) released clean in
    let found = c.in-Ok.ensures.adopted (c.export_from.ensures.ran.clean now) in
    let after = subst (λ held. Represents (state g.S.Store held) there) (sym released)
    (c.export_from.ensures.ran.runs now there
    (λ opened. found.represents there is)).stays in
    kept_holds _ there (after opened)

-- what adopting makes of the tables
pub returns-in-Err-clause-survives : goal.returns-in-Err-clause-survives
returns-in-Err-clause-survives g c =
    survives_weaker (state g.S.Store c.args.conn) (state g.S.Store c.in-Err.conn) _ _
    (λ _ found may. (may.0, may.2, may.3)) c.in-Err.ensures.leaves.survives

pub returns-in-Ok-export_from-clause-survives : goal.returns-in-Ok-export_from-clause-survives
returns-in-Ok-export_from-clause-survives g c =
    export_survives g.S.Store c.args.conn c.in-Ok.office c.export_from.new.office c.release.result
    c.in-Ok.ensures.leaves.survives c.in-Ok-export_from.ensures.survives c.release.ensures

pub returns-in-Err-export_from-clause-survives : goal.returns-in-Err-export_from-clause-survives
returns-in-Err-export_from-clause-survives g c =
    export_survives g.S.Store c.args.conn c.in-Ok.office c.export_from.new.office
    c.release-in-Err-export_from.result c.in-Ok.ensures.leaves.survives
    c.in-Err-export_from.ensures.survives c.release-in-Err-export_from.ensures
