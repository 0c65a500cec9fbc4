-- The query that a text means, and the records that a reader returns of its answer.
use Rattle.std.specs.Prelude.{◌≡◌, ℕ, negsuc, pos, map, false, List, [], None, Ok, Err, Result}
use Rattle.sqlite_resolve.specs.declared.compiled.Compiled.{Compiled}
use Rattle.sqlite_resolve.specs.declared.error.CompileError.{CompileError}
use Rattle.sqlite_schema.specs.declared.schema.Schema.{Schema}
use Rattle.sqlite_trees.specs.Tree.{Trees}
use Rattle.sqlite_value.specs.declared.keys.Key.{Key}
use Rattle.sqlite_value.specs.declared.value.Value.TheVariants.{Int}
use Rattle.sqlite_value.specs.Order.{Row}
use Rattle.sqlite.specs.Command.TheVariants.{Select}
use Rattle.sqlite.specs.Given.{IsPlain}
use Rattle.sqlite.specs.Listing.{understood, reads_listing}
use Rattle.sqlite.specs.Query.{Query, Join, IsAnswer}
use Rattle.sqlite.specs.Term.{Term, lit}
use Rattle.office_tables.specs.Records.{columns_from}

-- SELECT these FROM there WHERE all this holds ORDER BY those
abbrev pub select_query : Join → List Term → List Term → List (Term × Key) → Query
select_query from where_ shown order = record {
  from = from;
  filter = where_;
  group = None;
  project = shown;
  distinct = false;
  collations = [];
  order = order;
  limit = lit (Int (negsuc 0));
  offset = lit (Int (pos 0));
}

-- the compiled text is this query
abbrev pub Selects : Query → List (List ℕ) → Result Compiled CompileError → Type 0
Selects q names (Ok c) = c.command ≡ Select (record { lets = []; body = q }) names
Selects q names (Err e) = ⊥

-- under this schema the text means this query
pub record Means (schema : Schema) (q : Query) (sql : List ℕ) : Type 0 where
  pub names : List (List ℕ)
  pub selects : Selects q names (understood schema sql)
  pub unlisted : reads_listing schema sql ≡ false
  pub plain : IsPlain (understood schema sql)

-- the records show the rows of an answer, in its order: the first `width` columns of each
abbrev pub IsReadOf : {R : Type 0} → (R → Row) → ℕ → Row → Query → Trees → List R → Type 0
IsReadOf columns_of width params q trees records =
    (rows : List Row) × (map columns_of records ≡ map (columns_from 0 width) rows)
    × IsAnswer q trees params rows
