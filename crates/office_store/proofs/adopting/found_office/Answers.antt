use Rattle.std.proofs.Common.{rules, ◌≡◌, Result, Ok, Err, length, refl, sym, ◌∙◌, ap, inl, inr, subst}
use Rattle.std.specs.Prelude.{IfErr}
use Rattle.std.specs.Result.{IsErrAnd}
use Rattle.std.proofs.lemmas.List.{length-map}
use Rattle.sqlite.specs.Held.{state}
use Rattle.office_tables.specs.Adopting.{IsAdopted}
use Rattle.office_tables.specs.Tables.{tables_of}
use Rattle.office_tables.specs.Tables.Batches.{counts_of}
use Rattle.office_tables.specs.declared.adopting.AdoptFault.TheVariants.{Foreign}
use Rattle.office_records.specs.declared.fault.RecordFault.{RecordFault}
use Rattle.office_records.specs.declared.fault.RecordFault.TheVariants.{NoMemory, BadRows}
use Rattle.office_records.proofs.ReadableLemmas.{not_foreign_in}
use Rattle.office_records.specs.Faults.{store_fault}
use Rattle.office_store.proofs.RunLemmas.{clean_before}
use Rattle.office_store.specs.Faults.{IsOfDatabase}
use Rattle.office_store.specs.Opening.{HasNoNightWeightIn}
use Rattle.office_model.specs.declared.fault.StoreFault.{StoreFault}
use Rattle.office_model.specs.declared.fault.StoreFault.TheVariants.{BadSchema}
use Rattle.office_store.proofs.AdoptLemmas.{file_as, found_batches, found_then, held_still, open_still, none_long, none_refused, none_weighed}
use Rattle.office_store.proofs.TogetherLemmas.{found_together}
use Rattle.office_store.proofs.InMemoryLemmas.{counted}
use Rattle.office_store.proofs.adopting.found_office.Goals as goal

-- only invalid rows are refused as a wrong schema
meaning : {X Q : Type 0} (r : Result X StoreFault) (fault : RecordFault)
    → IsErrAnd r (λ e. e ≡ store_fault fault) → (fault ≡ BadRows → Q)
    → IfErr r (λ e. e ≡ BadSchema → Q)
meaning (Ok x) fault is h = tt
meaning (Err e) fault is h = λ bad. h (named fault (sym is ∙ bad))
  where
    named : (fault : RecordFault) → store_fault fault ≡ BadSchema → fault ≡ BadRows
    named NoMemory e = absurd cc
    named BadRows e = refl

-- the tables are not those of an office
pub returns-in-Err-Foreign-clause-none : goal.returns-in-Err-Foreign-clause-none
returns-in-Err-Foreign-clause-none g c clean bad o there =
    let db = (state g.S.Store c.args.conn.now).now in
    let foreign : c.in-Err-Foreign.field-0 ≡ Foreign = search rules in
    not_foreign_in there.0 db o there.1
    (subst (λ e. IsAdopted db (Err e)) foreign (c.in-Err-Foreign.ensures.found clean))

pub returns-in_err-kept-clause-none : goal.returns-in_err-kept-clause-none
returns-in_err-kept-clause-none g c clean =
    let db = (state g.S.Store c.args.conn.now).now in
    let found = c.in-Ok.found in
    let adopted = c.in-Ok.ensures.found clean in
    meaning c.from_residual.result c.in_err-kept.field-0.0
    c.from_residual.ensures.1
    (λ bad o there. none_refused db found adopted.0 adopted.1 adopted.2 o there
    (c.in_err-kept.ensures.none bad adopted.0 adopted.1))

-- tables of version 1 have no weight for exams over night
pub returns-in_err-check_weight-clause-none : goal.returns-in_err-check_weight-clause-none
returns-in_err-check_weight-clause-none g c clean =
    let db = (state g.S.Store c.args.conn.now).now in
    let found = c.in-Ok.found in
    let adopted = c.in-Ok.ensures.found clean in
    let is : c.from_residual-in_err-check_weight.result ≡ Err c.in_err-check_weight.field-0.0
    = search rules in
    rw is (λ bad o there. c.in_err-check_weight.ensures.none
    (none_weighed db found adopted.0 adopted.1 adopted.2 o there c.in_ok-kept.kept.session
    (λ these. let are = c.in_ok-kept.ensures.are adopted.0 these in
    (are.0, are.1, are.2, are.3, are.4))))

-- no office has a batch that is too long
pub returns-in_err-check_bytes-clause-none : goal.returns-in_err-check_bytes-clause-none
returns-in_err-check_bytes-clause-none g c clean =
    let old = c.args.conn.now in
    let mid = c.adopt_tables.new.conn in
    let db = (state g.S.Store old).now in
    let found = c.in-Ok.found in
    let clean_mid = clean_before c.check_bytes.ensures.leaves.survives clean in
    let adopted = c.in-Ok.ensures.found clean_mid in
    let held = held_still g.S.Store old mid found.version (tables_of found adopted.0)
    (c.in-Ok.ensures.leaves.same clean_mid tt) adopted.2 in
    let long = c.in_err-check_bytes.ensures.long clean found.version (tables_of found adopted.0)
    held in
    let is : c.from_residual-in_err-check_bytes.result ≡ Err c.in_err-check_bytes.field-0.0
    = search rules in
    rw is (λ bad o there. long bad
    (none_long db found adopted.0 adopted.1 adopted.2 o there))

pub returns-clause-open : goal.returns-clause-open
returns-clause-open g c clean =
    let old = c.args.conn.now in
    let mid = c.adopt_tables.new.conn in
    let found = c.in-Ok.found in
    let clean_mid = clean_before c.check_bytes.ensures.leaves.survives clean in
    let adopted = c.in-Ok.ensures.found clean_mid in
    let same = c.in-Ok.ensures.leaves.same clean_mid tt in
    let held = held_still g.S.Store old mid found.version (tables_of found adopted.0) same
    adopted.2 in
    open_still g.S.Store mid c.check_bytes.new.conn
    (c.in_ok-check_bytes.ensures.leaves.same clean
    (found.version, tables_of found adopted.0, held))
    (c.in-Ok.ensures.open clean_mid)

pub returns-clause-kept : goal.returns-clause-kept
returns-clause-kept g c clean =
    let old = c.args.conn.now in
    let mid = c.adopt_tables.new.conn in
    let db = (state g.S.Store old).now in
    let found = c.in-Ok.found in
    let clean_mid = clean_before c.check_bytes.ensures.leaves.survives clean in
    let adopted = c.in-Ok.ensures.found clean_mid in
    let t = tables_of found adopted.0 in
    let held = held_still g.S.Store old mid found.version t
    (c.in-Ok.ensures.leaves.same clean_mid tt) adopted.2 in
    let short = c.in_ok-check_bytes.ensures.short clean found.version t held
    (adopted.1 ∙ sym c.deref.ensures.value) in
    let long : c.len.result ≡ length found.batches.items = search rules in
    let are = c.in_ok-kept.ensures.are adopted.0
    (found_batches db found adopted.0 adopted.1 adopted.2 short) in
    record {
      batches = adopted.0;
      counted = adopted.1;
      tables = adopted.2;
      office = are.0;
      kept = record {
        held = t;
        tables = adopted.2;
        represents = are.1;
        sound = are.2;
        office = are.3;
      };
      weighs = subst (HasNoNightWeightIn found.version) (sym are.4) c.in_ok-check_weight.ensures.are;
      in_memory = record {
        session = are.4;
        batches = sym (counted t are.0 are.1) ∙ sym (length-map adopted.0 counts_of)
            ∙ ap length adopted.1 ∙ sym long;
        drafts = are.6;
        published = are.5;
        priced = c.in_ok-priced.ensures.priced are.0 are.4 are.5;
      };
    }

pub returns-clause-together : goal.returns-clause-together
returns-clause-together g c =
    found_together c.in_ok-kept.ensures.together c.in_ok-kept.ensures.suited
    c.in_ok-kept.ensures.published c.no_breaches.ensures

of_database : {X : Type 0} (r : Result X StoreFault) (fault : RecordFault)
    → IsErrAnd r (λ e. e ≡ store_fault fault) → IfErr r IsOfDatabase
of_database (Ok x) fault is = tt
of_database (Err e) NoMemory is = inl is
of_database (Err e) BadRows is = inr is

pub returns-in_err-kept-clause-fault : goal.returns-in_err-kept-clause-fault
returns-in_err-kept-clause-fault g c =
    of_database c.from_residual.result c.in_err-kept.field-0.0
    c.from_residual.ensures.1

-- ---- what the readers leave

pub returns-in-Err-Failed-clause-leaves : goal.returns-in-Err-Failed-clause-leaves
returns-in-Err-Failed-clause-leaves g c =
    file_as (λ P none. tt) c.adopt_tables.ensures.leaves

pub returns-in-Err-Foreign-clause-leaves : goal.returns-in-Err-Foreign-clause-leaves
returns-in-Err-Foreign-clause-leaves g c =
    file_as (λ P none. tt) c.adopt_tables.ensures.leaves

pub returns-in_err-kept-clause-leaves : goal.returns-in_err-kept-clause-leaves
returns-in_err-kept-clause-leaves g c =
    file_as (λ P none. search rules) c.adopt_tables.ensures.leaves

pub returns-in_err-check_weight-clause-leaves : goal.returns-in_err-check_weight-clause-leaves
returns-in_err-check_weight-clause-leaves g c =
    file_as (λ P none. search rules) c.adopt_tables.ensures.leaves

pub returns-in_err-check_bytes-clause-leaves : goal.returns-in_err-check_bytes-clause-leaves
returns-in_err-check_bytes-clause-leaves g c =
    file_as (λ P none. search rules)
    (found_then c.in-Ok.ensures.found c.in-Ok.ensures.leaves c.check_bytes.ensures.leaves)

pub returns-in_err-priced-clause-leaves : goal.returns-in_err-priced-clause-leaves
returns-in_err-priced-clause-leaves g c =
    file_as (λ P none. search rules)
    (found_then c.in-Ok.ensures.found c.in-Ok.ensures.leaves c.check_bytes.ensures.leaves)

pub returns-clause-leaves : goal.returns-clause-leaves
returns-clause-leaves g c =
    file_as (λ P p. p)
    (found_then c.in-Ok.ensures.found c.in-Ok.ensures.leaves c.in_ok-check_bytes.ensures.leaves)
