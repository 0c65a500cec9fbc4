use Rattle.std.proofs.Common.{inl, inr, refl, rules}
use Rattle.std.proofs.lemmas.Result.{IfOk-weaker}
use Rattle.exam_lists.proofs.Results.{IfErr_both}
use Rattle.office_program.proofs.loading.load.Goals as goal

-- the fault of an office is one of `load`
pub returns-in-Ok-clause-fault : goal.returns-in-Ok-clause-fault
returns-in-Ok-clause-fault g c =
    let of = c.load_text.ensures.fault in
    IfErr_both c.load_text.result _ _ _ (λ fault of again.
    inr (c.deref.result.now, search rules, of)) of of

-- the text of the file is loaded
pub returns-in-Ok-clause-loaded : goal.returns-in-Ok-clause-loaded
returns-in-Ok-clause-loaded g c =
    IfOk-weaker c.load_text.result _ _ (λ done loaded.
    (c.deref.result.now, search rules, loaded.0, loaded.1))
    c.load_text.ensures.loaded

-- a fault leaves of the database what it leaves if its text is loaded
pub returns-in-Ok-clause-leaves : goal.returns-in-Ok-clause-leaves
returns-in-Ok-clause-leaves g c =
    let leaves = c.load_text.ensures.leaves in
    IfErr_both c.load_text.result _ _ _ (λ shown left again.
    inr (c.deref.result.now, search rules, left)) leaves leaves

-- nor is a database opened if the text can't be taken
pub returns-in-Err-clause-leaves : goal.returns-in-Err-clause-leaves
returns-in-Err-clause-leaves g c = inl (record {
  of = c.in-Err.fault;
  cause = c.in-Err.ensures.refused;
  line = c.fault_of_input.ensures.line;
  kept = refl;
})
