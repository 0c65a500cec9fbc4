use Rattle.std.proofs.Common.{◌≡◌, eqb, sym, subst, Result, Ok, Err}
use Rattle.std.specs.List.{AllByRecursion}
use Rattle.std.specs.Prelude.{IfErr, OnErr}
use Rattle.std.proofs.lemmas.List.Elements.{recursion_from_All}
use Rattle.std.proofs.lemmas.Result.{on_ok_weaker}
use Rattle.exam_lists.proofs.Results.{OnOk_any}
use Rattle.sqlite_trees.proofs.ListLemmas.{all-filter}
use Rattle.office_tables.specs.Tables.Batches.{Batch}
use Rattle.office_model.specs.declared.fault.StoreFault.{StoreFault}
use Rattle.office_model.specs.declared.fault.StoreFault.TheVariants.{BadSchema}
use Rattle.office_records.specs.FoundBatches.{IsShort}
use Rattle.office_store.proofs.AdoptLemmas.{tables_as}
use Rattle.office_store.proofs.kept_bytes.check_batch.Goals as goal

-- a refusal for a property that doesn't hold
refused : {X P Q : Type 0} (r : Result X StoreFault) → (Q → P) → OnErr r (P → ⊥)
    → IfErr r (λ e. e ≡ BadSchema → Q → ⊥)
refused (Ok x) f not = tt
refused (Err e) f not = λ bad q. not (f q)

pub returns-clause-short : goal.returns-clause-short
returns-clause-short g c clean version t held =
    on_ok_weaker c.check_length.result
    (subst (AllByRecursion IsShort) (sym (c.in-Ok.ensures.row version clean t held)))
    c.check_length.ensures.short

pub returns-clause-long : goal.returns-clause-long
returns-clause-long g c clean version t held =
    refused c.check_length.result
    (λ all. subst (AllByRecursion IsShort) (c.in-Ok.ensures.row version clean t held)
    (all-filter IsShort (λ (b : Batch). eqb b.no c.args.no) t.batch
    (recursion_from_All IsShort t.batch all)))
    c.check_length.ensures.long

pub returns-in-Err-clause-leaves : goal.returns-in-Err-clause-leaves
returns-in-Err-clause-leaves g c version =
    tables_as (λ P none. tt) (c.batch_of.ensures.leaves version)

pub returns-clause-leaves : goal.returns-clause-leaves
returns-clause-leaves g c version =
    tables_as (λ P p. OnOk_any c.check_length.result p) (c.in-Ok.ensures.leaves version)
