use Rattle.std.proofs.Common.{rules, Ok, subst, ◌≡◌}
use Rattle.exam_lists.proofs.Results.{OnErr_any}
use Rattle.sqlite.specs.Effect.{Database}
use Rattle.office_tables.specs.Alterations.{IsWritten, TransactionRan}
use Rattle.office_tables.specs.Schema.{IsBlank, no_schema}
use Rattle.office_tables.specs.Tables.{empty_tables}
use Rattle.office_tables.proofs.TurnLemmas.{IsOfRows, done_by, survives_by, undone_by, written_in}
use Rattle.office_store.proofs.transactions.make_tables.Goals as goal

abbrev IsMade : Database → Database → Type 0
IsMade old new = IsBlank no_schema old → IsWritten empty_tables old new

made_rows : IsOfRows IsMade
made_rows old new found is made blank = written_in old new found empty_tables is (made blank)

pub returns : goal.returns
returns g c =
    let old = c.args.conn.now in
    let begun = c.transaction-tx.result.conn.now in
    let last = c.create_tables.new.tx.conn.now in
    let end = c.commit.new.self.0 in
    let same : end ≡ c.conn-2-1.given.0 = search rules in
    subst (λ h. TransactionRan {A = Unit {0}} g.S.Store IsMade old h (Ok tt)) same (record {
      done = done_by g.S.Store old begun last end c.transaction-tx.ensures.begun
          c.create_tables.ensures.within c.commit.ensures.survives IsMade
          c.in_ok-create_tables.ensures.makes (Ok tt) c.in_ok-commit.ensures.ok;
      undone = search rules;
      rests = search rules;
      clean = search rules;
      sound = λ _ opened. (c.schema.ensures.live opened).0;
      survives = survives_by g.S.Store old begun last end c.transaction-tx.ensures.begun
          c.create_tables.ensures.within c.commit.ensures.survives IsMade
          c.in_ok-create_tables.ensures.makes made_rows;
    })

pub returns-in_err-commit : goal.returns-in_err-commit
returns-in_err-commit g c =
    let old = c.args.conn.now in
    let begun = c.transaction-tx.result.conn.now in
    let last = c.create_tables.new.tx.conn.now in
    let end = c.commit.new.self.0 in
    let same : end ≡ c.conn-2-1.given.0 = search rules in
    subst (λ h. TransactionRan g.S.Store IsMade old h c.from_residual-in_err-commit.result) same (record {
      done = λ clean. search rules;
      undone = λ clean. OnErr_any c.from_residual-in_err-commit.result
          (undone_by g.S.Store old begun last end c.transaction-tx.ensures.begun
          c.create_tables.ensures.within c.commit.ensures.survives IsMade
          c.in_ok-create_tables.ensures.makes c.in_err-commit.field-0.0 (c.in_err-commit.ensures.err clean) clean);
      rests = search rules;
      clean = search rules;
      sound = λ _ opened. (c.schema.ensures.live opened).0;
      survives = survives_by g.S.Store old begun last end c.transaction-tx.ensures.begun
          c.create_tables.ensures.within c.commit.ensures.survives IsMade
          c.in_ok-create_tables.ensures.makes made_rows;
    })
