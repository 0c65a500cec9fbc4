-- The effect of a statement that inserts many rows, for any table.
use Rattle.std.proofs.lemmas.Grind.{common_steps}
use Rattle.std.proofs.Common.{◌≡◌, ◌+◌, ◌/◌, ◌≢◌, ℕ, List, [], ◌∷◌, ◌++◌, map, length, take, drop, reverse, flat_map, slice_get, Some, Bool, true, false, ◌&&◌, Ok, refl, sym, ap, ap₂, subst, ◌∙◌, arith, append_assoc, length-append}
use Rattle.std.proofs.lemmas.Bool.{and_parts}
use Rattle.std.specs.List.{AllByRecursion}
use Rattle.std.proofs.lemmas.List.{drop_at, take_at}
use Rattle.exam_lists.proofs.Parts.{reverse_cons_append}
use Rattle.sqlite_rules.specs.Action.{works}
use Rattle.sqlite_rules.specs.Cast.{cast_row}
use Rattle.sqlite_rules.specs.Edit.{numbered, put_all, with_rowid, edit_of, are_fresh, Applies}
use Rattle.sqlite_rules.specs.declared.error.Rowids.TheVariants.{Chosen}
use Rattle.sqlite_schema.specs.declared.schema.Keys.TheVariants.{Enforced}
use Rattle.office_tables.specs.Tables.{office_schema, Tables}
use Rattle.sqlite_schema.specs.declared.schema.Table.{Table}
use Rattle.sqlite_trees.specs.Tree.{put_row, rowid}
use Rattle.sqlite_trees.specs.View.{is_int}
use Rattle.sqlite_value.specs.Order.{Row}
use Rattle.sqlite.specs.Command.TheVariants.{Insert}
use Rattle.sqlite.specs.Effect.{value_rows}
use Rattle.sqlite.specs.Listing.{understood}
use Rattle.sqlite.specs.Source.TheVariants.{Values}
use Rattle.sqlite.specs.State.{State, Executes}
use Rattle.sqlite.specs.Term.{Term, eval_all}
use Rattle.sqlite.proofs.Callers.{IsPlain, command_of}
use Rattle.office_tables.specs.Alterations.{after_all}
pub use Rattle.office_tables.specs.Inserting.{next_params, terms_from}
use Rattle.office_tables.specs.Stored.{Holds}
use Rattle.office_tables.proofs.Statements.{inserts, simple_table}
use Rattle.office_tables.proofs.TableLemmas.{holds_more}

-- ---- the parameters

pub values_there : (pre cs post : Row)
    → eval_all (next_params (length cs) (length pre)) ((pre ++ (cs ++ post)) ∷ []) ≡ cs
values_there pre [] post = refl
values_there pre (c ∷ cs) post =
    grind (arith, common_steps, length-append, append_assoc, values_there (pre ++ c ∷ []) cs post)

-- ---- rows of a table

-- a statement of this text adds these rows to the table, whatever the table held
abbrev pub AddsRows : {X : Type 0} (columns source : X → Row) (show : Row → Row) (w v : ℕ)
    (terms : ℕ → List Term) → Type 1
AddsRows {X} columns source show w v terms =
    (text : List ℕ) (n at : ℕ) (base : Table)
    → slice_get office_schema.tables at ≡ Some (simple_table base)
    → IsPlain (understood office_schema text)
    → command_of (understood office_schema text) ≡ Insert at (Values (terms_from terms w 0 n) v)
    → length (terms_from terms w 0 n) / v ≡ n
    → ((taken news : List Row) → works office_schema Enforced 0 base.tree taken news ≡ [])
    → ((x : X) → cast_row (simple_table base) (source x) ≡ source x)
    → (old new : State) (rows held : List X) → length rows ≡ n
    → (count : ℕ) → old.now.schema ≡ office_schema
    → Holds show (map columns held) (old.now.trees base.tree)
    → Executes text (flat_map columns rows) old new (Ok count)
    → (new.now.schema ≡ office_schema)
    × AllByRecursion
    (λ t. t.tree ≢ base.tree → new.now.trees t.tree ≡ old.now.trees t.tree) office_schema.tables
    × Holds show (map columns (reverse rows ++ held)) (new.now.trees base.tree)

-- the facts about a table's rows: their columns, what a statement gives the table of each, and how
-- the table shows what it stores
module _ {X : Type 0} (columns source : X → Row) (show : Row → Row) (w v : ℕ)
    (terms : ℕ → List Term)
    (wide : (x : X) → length (columns x) ≡ w)
    (long : (at : ℕ) → length (terms at) ≡ v)
    (one : (pre post : Row) (x : X)
    → eval_all (terms (length pre)) ((pre ++ (columns x ++ post)) ∷ []) ≡ source x)
    (int : (stored : List Row) (x : X)
    → is_int (rowid (with_rowid Chosen stored (source x))) ≡ true)
    (shown : (stored : List Row) (x : X) → show (with_rowid Chosen stored (source x)) ≡ columns x)
  where
    -- the rows that the terms name
    values_are : (pre : Row) (rows : List X)
        → value_rows (pre ++ flat_map columns rows) v (length rows)
        (terms_from terms w (length pre) (length rows)) ≡ map source rows
    values_are pre [] = refl
    values_are pre (r ∷ rows) =
        let params : Row = pre ++ flat_map columns (r ∷ rows) in
        let n = length rows in
        let rest = terms_from terms w (w + length pre) n in
        let all : List Term = terms (length pre) ++ rest in
        let front : take v all ≡ terms (length pre) =
        take_at (terms (length pre)) rest v (long (length pre)) in
        let back : drop v all ≡ rest = drop_at (terms (length pre)) rest v (long (length pre)) in
        let on = length-append pre (columns r) in
        let width = wide r in
        let longer : w + length pre ≡ length (pre ++ columns r) = omega (arith, on, width) in
        let same : (pre ++ columns r) ++ flat_map columns rows ≡ params =
        append_assoc pre (columns r) (flat_map columns rows) in
        let first : eval_all (take v all) (params ∷ []) ≡ source r =
        ap (λ ts. eval_all ts (params ∷ [])) front ∙ one pre (flat_map columns rows) r in
        let more : value_rows params v n (drop v all) ≡ map source rows =
        ap (value_rows params v n) back
        ∙ ap (λ k. value_rows params v n (terms_from terms w k n)) longer
        ∙ ap (λ ps. value_rows ps v n (terms_from terms w (length (pre ++ columns r)) n)) (sym same)
        ∙ values_are (pre ++ columns r) rows in
        ap₂ (λ x xs. x ∷ xs) first more

    -- the table shows all of them
    holds_all : (rows held : List X) (stored : List Row)
        → are_fresh stored (numbered Chosen stored (map source rows)) ≡ true
        → Holds show (map columns held) stored
        → Holds show (map columns (reverse rows ++ held))
        (put_all stored (numbered Chosen stored (map source rows)))
    holds_all [] held stored fresh h = h
    holds_all (r ∷ rows) held stored fresh h =
        let new : Row = with_rowid Chosen stored (source r) in
        let parts = and_parts _ _ fresh in
        subst (λ l. Holds show (map columns l)
        (put_all stored (numbered Chosen stored (map source (r ∷ rows))))) (reverse_cons_append r rows held)
        (holds_all rows (r ∷ held) (put_row new stored) parts.1
        (holds_more show (map columns held) stored new (columns r) (shown stored r) (int stored r)
        (and_true _ parts.0) h))
      where
        and_true : (a : Bool) → a ≡ true → (a && true) ≡ true
        and_true true h = refl
        and_true false h = h

    pub added_rows : AddsRows columns source show w v terms
    added_rows text n at base found plain is many quiet cast old new rows held length_is count has
        holds h =
        let done = inserts text _ old new count office_schema has plain at base found
        (terms_from terms w 0 n) v is quiet h in
        let sources : value_rows (flat_map columns rows) v (length (terms_from terms w 0 n) / v)
        (terms_from terms w 0 n) ≡ map source rows =
        ap (λ k. value_rows (flat_map columns rows) v k (terms_from terms w 0 n)) (many ∙ sym length_is)
        ∙ ap (λ k. value_rows (flat_map columns rows) v (length rows) (terms_from terms w 0 k))
        (sym length_is)
        ∙ values_are [] rows in
        let stored = old.now.trees base.tree in
        let casts : map (λ s. cast_row (simple_table base) s) (map source rows) ≡ map source rows =
        kept rows in
        let applied = subst (λ xs. Applies office_schema Enforced old.now.trees
        (edit_of old.now.trees (simple_table base) [] Chosen 0 xs) new.now.trees) sources done.1 in
        let fresh = subst (λ l. are_fresh stored (numbered Chosen stored l) ≡ true) casts
        applied.fresh in
        let made : new.now.trees base.tree
        ≡ put_all stored (numbered Chosen stored (map source rows)) =
        applied.rows ∙ ap (λ l. put_all stored (numbered Chosen stored l)) casts in (
          done.0,
          applied.tables,
          subst (Holds show (map columns (reverse rows ++ held))) (sym made)
              (holds_all rows held stored fresh holds),
        )
      where
        kept : (xs : List X) → map (λ s. cast_row (simple_table base) s) (map source xs) ≡ map source xs
        kept [] = refl
        kept (x ∷ xs) = ap₂ (λ y ys. y ∷ ys) (cast x) (kept xs)

-- ---- rows one after another

pub after_append : {A : Type 0} (f : A → Tables → Tables) (xs ys : List A) (t : Tables)
    → after_all f ys (after_all f xs t) ≡ after_all f (xs ++ ys) t
after_append f [] ys t = refl
after_append f (x ∷ xs) ys t = after_append f xs ys (f x t)
