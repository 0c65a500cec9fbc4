use Rattle.std.proofs.Common.{◌≡◌, All, Err, filter, eqb, rules, subst, arith}
use Rattle.std.specs.List.{AllByRecursion}
use Rattle.std.proofs.lemmas.List.{take_all}
use Rattle.std.proofs.lemmas.List.Elements.{All-more}
use Rattle.office_tables.specs.Tables.Batches.{Batch}
use Rattle.office_tables.specs.declared.tables.batch.BatchCountsRow.{BatchCountsRow}
use Rattle.office_records.specs.FoundBatches.{IsShort}
use Rattle.office_records.proofs.BatchRowLemmas.{no_row, short_by_rows}
use Rattle.office_store.proofs.RunLemmas.{clean_before}
use Rattle.office_store.proofs.AdoptLemmas.{file_as, file_itself, file_of, file_then, held_still, some_still}
use Rattle.office_store.proofs.kept_bytes.check_bytes.Goals as goal

pub batches-init : goal.batches-init
batches-init g c = record {
  leaves = file_itself _ g.S.Store c.args.conn.now;
  short = λ clean version t held k d none. absurd (omega (arith, none));
}

pub batches-preserved : goal.batches-preserved
batches-preserved g c =
    let before = c.batches.invariant in
    let old = c.args.conn.now in
    let mid = c.batches.conn in
    record {
      leaves = file_then before.leaves (file_of c.in_ok-check_batch.ensures.leaves)
          (λ _. some_still g.S.Store old mid);
      short = λ clean version t held.
          let clean_mid = clean_before (c.check_batch.ensures.leaves version).survives clean in
          All-more (λ (row : BatchCountsRow).
          AllByRecursion IsShort (filter (λ (b : Batch). eqb b.no row.no) t.batch))
          c.args.batches.now c.batches.row-index no_row c.batches-test.true
          (before.short clean_mid version t held)
          (c.in_ok-check_batch.ensures.short clean version t
          (held_still g.S.Store old mid version t
          (before.leaves.same clean_mid (version, t, held)) held));
    }

pub returns-in_err-check_batch-clause-long : goal.returns-in_err-check_batch-clause-long
returns-in_err-check_batch-clause-long g c clean version t held =
    let same = c.batches.invariant.leaves.same
    (clean_before (c.check_batch.ensures.leaves version).survives clean) (version, t, held) in
    let is : c.from_residual.result ≡ Err c.in_err-check_batch.field-0.0 = search rules in
    rw is (c.in_err-check_batch.ensures.long clean version t
    (held_still g.S.Store c.args.conn.now c.batches.conn version t same held))

pub returns-in_err-check_batch-clause-leaves : goal.returns-in_err-check_batch-clause-leaves
returns-in_err-check_batch-clause-leaves g c =
    file_as (λ P none. search rules)
    (file_then c.batches.invariant.leaves (file_of c.check_batch.ensures.leaves)
    (λ _. some_still g.S.Store c.args.conn.now c.batches.conn))

pub returns-clause-short : goal.returns-clause-short
returns-clause-short g c clean version t held rows =
    short_by_rows c.args.batches.now t.batch rows
    (subst (All (λ (row : BatchCountsRow).
    AllByRecursion IsShort (filter (λ (b : Batch). eqb b.no row.no) t.batch)))
    (take_all c.batches.row-index c.args.batches.now (omega arith))
    (c.batches.invariant.short clean version t held))

pub returns-clause-leaves : goal.returns-clause-leaves
returns-clause-leaves g c = c.batches.invariant.leaves
