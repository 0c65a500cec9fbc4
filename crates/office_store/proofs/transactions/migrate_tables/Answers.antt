use Rattle.std.proofs.Common.{rules, Ok, refl, subst, ◌≡◌, IsTrue, ◌∷◌, []}
use Rattle.exam_lists.proofs.Results.{OnErr_any}
use Rattle.sqlite.specs.Effect.{Database}
use Rattle.sqlite.specs.Held.{state}
use Rattle.sqlite.specs.State.{State}
use Rattle.office_tables.specs.Alterations.{IsWritten, TransactionRan}
use Rattle.office_tables.specs.Steps.{Establishes}
use Rattle.office_tables.specs.TablesHeld.{HoldsTables, HoldsOldTables}
use Rattle.office_tables.specs.Tables.Metadata.{Meta}
use Rattle.office_tables.specs.Tables.{Tables, empty_tables}
use Rattle.office_tables.proofs.TurnLemmas.{IsOfRows, done_by, survives_by, undone_by, written_in}
use Rattle.office_store.proofs.transactions.migrate_tables.Goals as goal

abbrev AreMigrated : Meta → Database → Database → Type 0
AreMigrated row old new =
    (t : Tables) → t.meta ≡ row ∷ [] → HoldsOldTables old t → IsWritten t old new

migrated_rows : (row : Meta) → IsOfRows (AreMigrated row)
migrated_rows row old new found is made t has before =
    written_in old new found t is (made t has before)

-- one statement about all tables with this row
all_migrated : (row : Meta) (clean inside : Type 0) (old new : State) → ((t : Tables)
    → t.meta ≡ row ∷ [] → clean → inside
    → Establishes (λ db. HoldsOldTables db t) (λ db. HoldsTables db t) old new)
    → clean → inside → IsTrue new.in_transaction × AreMigrated row old.now new.now
all_migrated row clean inside old new makes is_clean is_inside = (
  (makes (record empty_tables { meta = row ∷ [] }) refl is_clean is_inside).0,
  λ t is. (makes t is is_clean is_inside).1,
)

pub returns : goal.returns
returns g c =
    let old = c.args.conn.now in
    let begun = c.transaction-tx.result.conn.now in
    let last = c.migrate.new.tx.conn.now in
    let end = c.commit.new.self.0 in
    let row : Meta = record { published = c.args.published; instance = c.args.instance.now } in
    let same : end ≡ c.conn-2-1.given.0 = search rules in
    subst (λ h. TransactionRan {A = Unit {0}} g.S.Store (AreMigrated row) old h (Ok tt)) same (record {
      done = done_by g.S.Store old begun last end c.transaction-tx.ensures.begun
          c.migrate.ensures.within c.commit.ensures.survives (AreMigrated row)
          (all_migrated row _ _ (state g.S.Store begun) (state g.S.Store last) c.in_ok-migrate.ensures.makes) (Ok tt) c.in_ok-commit.ensures.ok;
      undone = search rules;
      rests = search rules;
      clean = search rules;
      sound = λ _ opened. (c.schema.ensures.live opened).0;
      survives = survives_by g.S.Store old begun last end c.transaction-tx.ensures.begun
          c.migrate.ensures.within c.commit.ensures.survives (AreMigrated row)
          (all_migrated row _ _ (state g.S.Store begun) (state g.S.Store last) c.in_ok-migrate.ensures.makes) (migrated_rows row);
    })

pub returns-in_err-commit : goal.returns-in_err-commit
returns-in_err-commit g c =
    let old = c.args.conn.now in
    let begun = c.transaction-tx.result.conn.now in
    let last = c.migrate.new.tx.conn.now in
    let end = c.commit.new.self.0 in
    let row : Meta = record { published = c.args.published; instance = c.args.instance.now } in
    let same : end ≡ c.conn-2-1.given.0 = search rules in
    subst (λ h. TransactionRan g.S.Store (AreMigrated row) old h c.from_residual-in_err-commit.result) same (record {
      done = λ clean. search rules;
      undone = λ clean. OnErr_any c.from_residual-in_err-commit.result
          (undone_by g.S.Store old begun last end c.transaction-tx.ensures.begun
          c.migrate.ensures.within c.commit.ensures.survives (AreMigrated row)
          (all_migrated row _ _ (state g.S.Store begun) (state g.S.Store last) c.in_ok-migrate.ensures.makes) c.in_err-commit.field-0.0 (c.in_err-commit.ensures.err clean) clean);
      rests = search rules;
      clean = search rules;
      sound = λ _ opened. (c.schema.ensures.live opened).0;
      survives = survives_by g.S.Store old begun last end c.transaction-tx.ensures.begun
          c.migrate.ensures.within c.commit.ensures.survives (AreMigrated row)
          (all_migrated row _ _ (state g.S.Store begun) (state g.S.Store last) c.in_ok-migrate.ensures.makes) (migrated_rows row);
    })
