-- From version 1 to version 2: an amount of 0 for each row, and the row of the version.
use Rattle.std.proofs.lemmas.Grind.{common_steps}
use Rattle.std.proofs.Common.{◌≡◌, ℕ, pos, List, [], ◌∷◌, ◌++◌, map, filter, drop, ◌&&◌, codes, true, Ok, refl, sym, ap, ap₂, subst, subst₂, ◌∙◌, append-nil, arith, IsPermutation}
use Rattle.std.specs.List.{AllByRecursion}
use Rattle.std.specs.Prelude.{slice_set}
use Rattle.std.proofs.lemmas.Bool.{and_parts}
use Rattle.std.proofs.lemmas.List.Sorted.{IsPermutation-map, IsPermutation-middle, IsPermutation-sym, IsPermutation-trans, length_permutation}
use Rattle.sqlite_schema.specs.declared.schema.Table.{Table}
use Rattle.sqlite_rules.specs.Cast.{cast_row}
use Rattle.sqlite_rules.specs.Edit.{are_fresh, numbered, put_all}
use Rattle.sqlite_rules.specs.declared.error.Rowids.TheVariants.{Chosen}
use Rattle.sqlite_trees.specs.Tree.{put_row}
use Rattle.sqlite_trees.proofs.ListLemmas.{map-map, pull_back}
use Rattle.sqlite_value.specs.declared.keys.Collation.TheVariants.{Binary}
use Rattle.sqlite_value.specs.declared.value.Value.TheVariants.{Int, Null}
use Rattle.sqlite_value.specs.Order.{Row, column}
use Rattle.sqlite.specs.Command.TheVariants.{Insert}
use Rattle.sqlite.specs.Effect.{Database, IsDatabase}
use Rattle.sqlite.specs.Listing.{understood}
use Rattle.sqlite.specs.Query.{Query}
use Rattle.sqlite.specs.Source.TheVariants as source
use Rattle.sqlite.specs.State.{State, Executes}
use Rattle.sqlite.specs.Term.{Term, lit, col}
use Rattle.sqlite.proofs.Callers.{IsPlain, command_of}
use Rattle.sqlite_tied.specs.Compute.{everything}
use Rattle.std.specs.Fmt.{digits}
use Rattle.exam_lists.proofs.Filters.{filter_true}
use Rattle.exam_lists.proofs.Maps.{map_agree}
use Rattle.office_tables.specs.Tables.{office_schema, schema_before, all_columns, Tables}
use Rattle.office_schema.specs.Schema.{keyed_table, int}
use Rattle.office_tables.specs.declared.tables.draft.DraftRow.{DraftRow}
use Rattle.office_tables.specs.declared.tables.share_student.StudentShareRow.{StudentShareRow}
use Rattle.office_tables.specs.declared.version.Version.TheVariants.{One}
use Rattle.office_tables.specs.Tables.Draft.{draft_columns, night_draft_columns}
use Rattle.office_tables.specs.Tables.Metadata.{meta_columns}
use Rattle.office_tables.specs.Inserting.{IsTable}
use Rattle.office_tables.specs.Migrating.{IsWidened, without_nights}
use Rattle.office_tables.specs.Schema.{HasRows}
use Rattle.office_tables.specs.Tables.ShareStudent.{share_student_columns, night_share_columns}
use Rattle.office_tables.specs.TablesHeld.{HoldsTables, HoldsOldTables}
use Rattle.office_tables.specs.Stored.{Holds, keyed_columns}
use Rattle.office_tables.proofs.Casts.{cast_int, cast_null}
use Rattle.office_tables.proofs.Frames.{AllShown, OneShown, all_still, both_held, holds_none, night_tables, shown_next, tables_held}
use Rattle.office_tables.proofs.DeleteLemmas.{cleared}
use Rattle.office_tables.proofs.MetaLemmas.{delete_means}
use Rattle.office_tables.proofs.OrderLemmas.{passed}
use Rattle.office_tables.proofs.Queries.{answered_by, one_table, passes, shown_of}
use Rattle.office_tables.proofs.Rows.{draft_nights, meta_is, share_nights}
use Rattle.office_tables.proofs.Statements.{inserts_from, simple_table, sound_after}
use Rattle.office_tables.proofs.TableLemmas.{holds_more}
use Rattle.office_tables.proofs.WholeRows.{all_first}

-- ---- INSERT .. SELECT the number, 0 FROM a table

abbrev pub fill_terms : List Term
fill_terms = col 1 0 ∷ lit Null ∷ lit (Int (pos 0)) ∷ []

abbrev pub fill_query : ℕ → Query
fill_query from = record (one_table from [] fill_terms []) {
  collations = Binary ∷ Binary ∷ Binary ∷ [];
}

abbrev pub fills : ℕ → Row
fills n = Int (pos n) ∷ Null ∷ Int (pos 0) ∷ []

abbrev pub amounts : ℕ → Row
amounts n = Int (pos n) ∷ Int (pos 0) ∷ []

chosen_same : (stored : List Row) (ns : List ℕ)
    → numbered Chosen stored (map fills ns) ≡ map fills ns
chosen_same stored [] = refl
chosen_same stored (n ∷ ns) = ap (λ l. fills n ∷ l) (chosen_same (put_row (fills n) stored) ns)

put_holds : (ns : List ℕ) (rows stored : List Row) → are_fresh stored (map fills ns) ≡ true
    → Holds keyed_columns rows stored → Holds keyed_columns (map amounts ns ++ rows) (put_all stored (map fills ns))
put_holds [] rows stored fresh holds = holds
put_holds (n ∷ ns) rows stored fresh holds =
    let parts = and_parts _ _ fresh in
    let one = holds_more keyed_columns rows stored (fills n) (amounts n) refl refl
    (ap (λ b. b && true) parts.0) holds in
    let more = put_holds ns (amounts n ∷ rows) (put_row (fills n) stored) parts.1 one in
    record {
      rowids = more.rowids;
      same =
          IsPermutation-trans _ _ _ more.same
          (IsPermutation-middle (map amounts ns) (amounts n) rows);
    }

module _ (sql : List ℕ) (plain : IsPlain (understood office_schema sql)) (at tree from : ℕ)
    (name first second : List ℕ)
    (there : IsTable at (keyed_table name tree (int first ∷ int second ∷ [])))
    (is : command_of (understood office_schema sql)
    ≡ Insert at (source.Query (record { lets = []; body = fill_query from }))) where
  abbrev table : Table
  table = simple_table (keyed_table name tree (int first ∷ int second ∷ []))

  cast_same : (n : ℕ) → cast_row table (drop 0 (fills n)) ≡ fills n
  cast_same n = rw (cast_null, cast_int n, cast_int 0) refl

  pub filled : {X : Type 0} (columns_of : X → Row) (key : X → ℕ)
      → ((x : X) → column (columns_of x) 0 ≡ Int (pos (key x))) → (xs : List X) (count : ℕ)
      (old new : State) → old.now.schema ≡ office_schema
      → Holds keyed_columns (map columns_of xs) (old.now.trees from) → old.now.trees tree ≡ []
      → Executes sql [] old new (Ok count)
      → OneShown (keyed_table name tree (int first ∷ int second ∷ []))
      (map (λ x. amounts (key x)) xs) old.now new.now
  filled columns_of key firsts xs count old new schema holds none h =
      let done = inserts_from sql [] old new count office_schema schema plain at
      (keyed_table name tree (int first ∷ int second ∷ [])) there.found (fill_query from) is
      there.quiet h in
      let edit = done.3 in
      let front = λ (q : Row). column q 0 ∷ Null ∷ Int (pos 0) ∷ [] in
      let answer =
      answered_by (Binary ∷ Binary ∷ Binary ∷ []) from [] fill_terms [] old.now.trees []
      done.0 done.2 in
      let typed : IsPermutation (map (shown_of [] fill_terms) (filter (passes [] []) (old.now.trees from)))
      (map fills (map key xs)) =
      rw (map-map fills key xs) (subst
      (λ l. IsPermutation (map (shown_of [] fill_terms) (filter (passes [] []) (old.now.trees from)))
      (map (λ x. fills (key x)) l)) (filter_true xs)
      (passed columns_of keyed_columns (shown_of [] fill_terms) front (λ _. refl) (λ x. fills (key x))
      (λ x. ap (λ v. v ∷ Null ∷ Int (pos 0) ∷ []) (firsts x)) (passes [] []) (λ _. true) (λ _. refl)
      (λ _. true) (λ _. refl) (old.now.trees from) xs holds.same)) in
      let u = pull_back fills _ _
      (IsPermutation-trans _ _ _ (IsPermutation-sym _ _ typed) answer) (map key xs) refl in
      let cast : map (λ s. cast_row table (drop 0 s)) done.0 ≡ map fills u.0 =
      ap (map (λ s. cast_row table (drop 0 s))) u.2
      ∙ map-map (λ s. cast_row table (drop 0 s)) fills u.0
      ∙ map_agree (λ n. cast_row table (drop 0 (fills n))) fills cast_same u.0 in
      let news : numbered Chosen (old.now.trees tree) (map (λ s. cast_row table (drop 0 s)) done.0)
      ≡ map fills u.0 =
      ap (numbered Chosen (old.now.trees tree)) cast ∙ chosen_same (old.now.trees tree) u.0 in
      let fresh : are_fresh (old.now.trees tree) (map fills u.0) ≡ true =
      sym (ap (are_fresh (old.now.trees tree)) news) ∙ edit.fresh in
      let put =
      put_holds u.0 [] (old.now.trees tree) fresh (holds_none keyed_columns (old.now.trees tree) none)
      in
      let rows : new.now.trees tree ≡ put_all (old.now.trees tree) (map fills u.0) =
      edit.rows ∙ ap (put_all (old.now.trees tree)) news in
      let same : IsPermutation (map amounts u.0) (map (λ x. amounts (key x)) xs) =
      subst (IsPermutation (map amounts u.0)) (map-map amounts key xs)
      (IsPermutation-map amounts _ _ (IsPermutation-sym _ _ u.1)) in
      record {
        schema = done.1;
        others = edit.tables;
        holds = rw rows (record {
          rowids = put.rowids;
          same = IsPermutation-trans _ _ _
              (subst (IsPermutation _) (append-nil (map amounts u.0)) put.same) same;
        });
      }

-- ---- both tables

abbrev pub fill_drafts_text : List ℕ
fill_drafts_text = codes "INSERT INTO night_draft (no, night) SELECT no, 0 FROM draft"

fill_drafts_is : command_of (understood office_schema fill_drafts_text)
    ≡ Insert 10 (source.Query (record { lets = []; body = fill_query 4 }))
unfolding understood everything digits
fill_drafts_is = refl

fill_drafts_plain : IsPlain (understood office_schema fill_drafts_text)
unfolding understood everything digits
fill_drafts_plain = (refl, refl)

abbrev pub fill_shares_text : List ℕ
fill_shares_text =
    codes "INSERT INTO night_share (student, night) SELECT student, 0 FROM share_student"

fill_shares_is : command_of (understood office_schema fill_shares_text)
    ≡ Insert 11 (source.Query (record { lets = []; body = fill_query 11 }))
unfolding understood everything digits
fill_shares_is = refl

fill_shares_plain : IsPlain (understood office_schema fill_shares_text)
unfolding understood everything digits
fill_shares_plain = (refl, refl)

drafts_filled : (rows : List DraftRow) → AllByRecursion (λ r. r.night ≡ 0) rows
    → map (λ (r : DraftRow). amounts r.no) rows ≡ map night_draft_columns rows
drafts_filled [] all = refl
drafts_filled (r ∷ rows) all =
    ap₂ (λ x xs. x ∷ xs) (ap (λ n. Int (pos r.no) ∷ Int (pos n) ∷ []) (sym all.0))
    (drafts_filled rows all.1)

shares_filled : (rows : List StudentShareRow) → AllByRecursion (λ r. r.night ≡ 0) rows
    → map (λ (r : StudentShareRow). amounts r.student) rows ≡ map night_share_columns rows
shares_filled [] all = refl
shares_filled (r ∷ rows) all =
    ap₂ (λ x xs. x ∷ xs) (ap (λ n. Int (pos r.student) ∷ Int (pos n) ∷ []) (sym all.0))
    (shares_filled rows all.1)

-- a table that shows no row has none
still_none : (stored : List Row) → Holds keyed_columns [] stored → stored ≡ []
still_none [] holds = refl
still_none (r ∷ stored) holds =
    let long = length_permutation _ _ holds.same in absurd (omega (arith, long))

-- the tables in front of the three statements
begun : (t : Tables) (db : Database) → IsWidened t db
    → AllShown (slice_set (slice_set (slice_set (all_columns t) 0 (map (meta_columns One) t.meta))
    10 []) 11 []) db
begun t db wide = grind (arith, common_steps, all_first, night_tables, both_held, all_still, holds_none)

-- the three statements migrate all rows but the one about the office
pub nights_filled : (t : Tables) (a b c d : State) (first second third : ℕ) → IsWidened t a.now
    → Executes (codes "DELETE FROM meta") [] a b (Ok first)
    → Executes fill_drafts_text [] b c (Ok second) → Executes fill_shares_text [] c d (Ok third)
    → HoldsTables d.now (record t { meta = [] }) × IsDatabase d.now
nights_filled t a b c d first second third wide h k l =
    let before = wide.represents in
    let r = wide.widened.rows in
    let one = cleared meta_is _ delete_means a b _ first _ refl (begun t a.now wide) h in
    let two = shown_next draft_nights.is _ _ b.now c.now one
    (filled fill_drafts_text fill_drafts_plain 10 15 4 (codes "night_draft") (codes "no")
    (codes "night") draft_nights.is fill_drafts_is draft_columns (λ (r : DraftRow). r.no)
    (λ _. refl) t.draft second b c one.schema one.hold.1.1.1.0
    (still_none _ one.hold.1.1.1.1.1.1.1.1.1.1.0) k) in
    let three = shown_next share_nights.is _ _ c.now d.now two
    (filled fill_shares_text fill_shares_plain 11 16 11 (codes "night_share") (codes "student")
    (codes "night") share_nights.is fill_shares_is share_student_columns
    (λ (r : StudentShareRow). r.student) (λ _. refl) t.share_student third c d two.schema
    two.hold.1.1.1.1.1.1.1.0 (still_none _ two.hold.1.1.1.1.1.1.1.1.1.1.1.0) l) in (
      tables_held d.now (record t { meta = [] })
          (subst₂ (λ drafts shares. AllShown (slice_set (slice_set
          (all_columns (record t { meta = [] })) 10 drafts) 11 shares) d.now)
          (drafts_filled t.draft before.night_draft) (shares_filled t.share_student before.night_share)
          three),
      sound_after office_schema fill_shares_text [] c d third fill_shares_plain _
          fill_shares_is tt two.schema l,
    )

-- the state before the two CREATEs
pub begins : (db : Database) (t : Tables) → HoldsOldTables db t
    → HasRows schema_before (without_nights db.trees) db
begins db t before = grind (arith, common_steps)
