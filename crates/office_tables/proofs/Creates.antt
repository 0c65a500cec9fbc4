-- The effect of CREATE TABLE, one text after another.
use Rattle.std.proofs.Common.{◌≡◌, ℕ, List, [], ◌∷◌, refl, subst, IsTrue}
use Rattle.std.specs.Borrow.{Bor}
use Rattle.std.specs.Fmt.{digits}
use Rattle.sqlite.specs.Change.{created}
use Rattle.sqlite.specs.Command.TheVariants.{CreateTable}
use Rattle.sqlite.specs.Effect.{IsDatabase}
use Rattle.sqlite.specs.State.{State}
use Rattle.sqlite_schema.specs.declared.schema.Schema.{Schema}
use Rattle.sqlite_schema.specs.declared.schema.Table.{Table}
use Rattle.sqlite_trees.specs.Tree.{Trees}
use Rattle.office_tables.specs.Tables.{office_schema, schema_before}
use Rattle.office_tables.specs.Tables.Draft.{night_draft_table}
use Rattle.office_tables.specs.Tables.ShareStudent.{night_share_table}
use Rattle.office_tables.specs.Schema.{CreateAll, HasRows, created_all, no_schema}
use Rattle.office_tables.specs.Steps.{HasRun, Establishes}
use Rattle.office_tables.proofs.Statements.{creates, sound_after}

-- the transaction continues; the texts that are left create the tables that are left
abbrev pub Creating : (all left : List (Bor (List ℕ))) → State → State → Type 0
Creating all left old now =
    IsTrue now.in_transaction × ((schema : Schema) (tables : List Table) (trees : Trees)
    → CreateAll trees schema tables all → HasRows schema trees old.now
    → (mid : Schema) × (rest : List Table) × CreateAll trees mid rest left
    × (created_all mid rest ≡ created_all schema tables) × HasRows mid trees now.now
    × (IsDatabase old.now → IsDatabase now.now))

pub created_next : (all left : List (Bor (List ℕ))) (text : Bor (List ℕ)) (old mid new : State)
    → Creating all (text ∷ left) old mid → HasRun text.now [] mid new → Creating all left old new
created_next all left text old mid new before ran = (
  ran.inside,
  λ schema tables trees means has.
      let on = before.1 schema tables trees means has in
      next schema tables trees on.0 on.1 on.2 on.3 on.4,
)
  where
    next : (schema : Schema) (tables : List Table) (trees : Trees) (at : Schema)
        (rest : List Table) → CreateAll trees at rest (text ∷ left)
        → created_all at rest ≡ created_all schema tables → HasRows at trees mid.now
        → (mid : Schema) × (rest : List Table) × CreateAll trees mid rest left
        × (created_all mid rest ≡ created_all schema tables) × HasRows mid trees new.now
        × (IsDatabase old.now → IsDatabase new.now)
    next schema tables trees at [] means same has = absurd means
    next schema tables trees at (table ∷ rest) means same has =
        let it = means.0 in (
          created at table,
          rest,
          means.2,
          same,
          creates text.now mid new ran.count at (record table { tree = 0 }) trees means.1 it.plain
              it.command it.whole it.defined it.uncounted ran.executed has,
          λ _. sound_after at text.now [] mid new ran.count it.plain CreateTable it.command tt
              has.schema_is ran.executed,
        )

pub created_last : (all : List (Bor (List ℕ))) (old now : State) → Creating all [] old now
    → (schema : Schema) (tables : List Table) (trees : Trees) → CreateAll trees schema tables all
    → Establishes (HasRows schema trees) (HasRows (created_all schema tables) trees) old now
created_last all old now made schema tables trees means = (
  made.0,
  λ has.
      let on = made.1 schema tables trees means has in
      (last on.0 on.1 on.2 on.3 on.4, on.5),
)
  where
    last : (mid : Schema) (rest : List Table) → CreateAll trees mid rest []
        → created_all mid rest ≡ created_all schema tables → HasRows mid trees now.now
        → HasRows (created_all schema tables) trees now.now
    last mid [] means same has = subst (λ s. HasRows s trees now.now) same has
    last mid (table ∷ rest) means same has = absurd means

-- the tables of version 1, one after another
pub ten : created_all no_schema schema_before.tables ≡ schema_before
unfolding digits
ten = refl

-- those of version 2 after them
pub whole : created_all schema_before (night_draft_table ∷ night_share_table ∷ []) ≡ office_schema
unfolding digits
whole = refl
