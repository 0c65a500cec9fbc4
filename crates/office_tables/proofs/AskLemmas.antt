-- The effect of a reader, and the answers of any query.
use Rattle.std.proofs.lemmas.Grind.{common_steps}
use Rattle.std.proofs.Common.{◌≡◌, ◌+◌, IsSorted, is_lt, subst₂, inl, inr, ℕ, List, [], ◌∷◌, map, false, None, Ok, Err, Result, arith, subst, refl, sym, ap, ◌∙◌, IsTrue}
use Rattle.std.specs.Prelude.{IfOk, IsPermutation, OnOk, Vec, nat_le, unwrap_or, ◌^◌}
use Rattle.std.specs.declared.alloc.Global.{Global}
use Rattle.std.proofs.lemmas.List.{get_or-map, length-map}
use Rattle.std.proofs.lemmas.Result.{IfOk-weaker}
use Rattle.exam_lists.proofs.Booleans.{cond_same}
use Rattle.sqlite_value.specs.Order.{Row}
use Rattle.sqlite_value.specs.declared.keys.Key.{Key}
use Rattle.sqlite_value.specs.declared.value.Value.TheVariants.{Null}
use Rattle.sqlite_trees.specs.Tree.{Trees}
use Rattle.sqlite_trees.proofs.ListLemmas.{map-map, pull_back}
use Rattle.sqlite_resolve.specs.declared.compiled.Compiled.{Compiled}
use Rattle.sqlite_resolve.specs.declared.error.CompileError.{CompileError}
use Rattle.sqlite.specs.declared.error.Error.{Error}
use Rattle.sqlite.specs.Command.TheVariants.{Select}
use Rattle.sqlite.specs.Effect.{Database}
use Rattle.sqlite.specs.Given.{HasBegun}
use Rattle.sqlite.specs.Held.{Held, state}
use Rattle.sqlite.specs.Listing.{understood}
use Rattle.sqlite.specs.Program.{overlay}
use Rattle.sqlite.specs.Query.{Query, Join, Output, IsAnswer, output, output_cmp, sort_cmp, matches}
use Rattle.sqlite.specs.State.{State, HasCleanDisk, Survives, IsUnchanged, Shown, CommitsShowing}
use Rattle.sqlite.specs.Store.{Ghosts}
use Rattle.sqlite.specs.Term.{Term, Env, eval_all}
use Rattle.sqlite.proofs.StateLemmas.{survives_weaker}
use Rattle.sqlite.proofs.Callers.{IsPlain, command_of, reads_as}
use Rattle.office_tables.specs.Tables.{office_schema, Tables}
use Rattle.office_tables.specs.Asking.{select_query, IsReadOf, Means, Selects}
use Rattle.office_tables.specs.Readers.{LeavesIfPlain, LeavesTables, LeavesTablesIn, Reads}
use Rattle.office_tables.specs.TablesHeld.{HoldsTables, HoldsTablesIn}
use Rattle.office_tables.specs.Versions.{schema_of}
use Rattle.office_tables.specs.declared.version.Version.{Version}
use Rattle.office_tables.specs.declared.version.Version.TheVariants.{Two}
use Rattle.office_tables.proofs.LookLemmas.{was_open}
use Rattle.office_tables.proofs.SilentLemmas.{commits_never}

-- ---- the effect of a reader

pub silent : (sql : List ℕ) (params : Row) (old new : State)
    → Survives old new (CommitsShowing sql params old)
    → Survives old new (λ _. IsPlain (understood office_schema sql) → ⊥)
silent sql params old new =
    survives_weaker old new _ _
    (λ _ db h plain. commits_never office_schema sql params old db plain h)

-- a query begins with an open store
pub begun_open : {S : Type 0} (g : Ghosts S) (sql : List ℕ) (params : Row) (old new : Held S)
    → HasBegun g sql params old new → IsTrue (state g old).is_open
begun_open g sql params old new (inl h) = h.1.0.was_open
begun_open g sql params old new (inr h) = was_open sql params _ _ _ h.1

-- under the office's schema
module _ (q : Query) (sql : List ℕ) (means : Means office_schema q sql) (old new : State) where
  pub plain_in : (t : Tables) → HoldsTables old.now t → IsPlain (understood old.now.schema sql)
  plain_in t represents = subst (λ s. IsPlain (understood s sql))
      (sym represents.schema) means.plain

  pub means_in : (t : Tables) → HoldsTables old.now t → Means old.now.schema q sql
  means_in t represents = subst (λ s. Means s q sql) (sym represents.schema) means

-- under the schema of a version
module _ (version : Version) (q : Query) (sql : List ℕ) (means : Means (schema_of version) q sql)
    (old : State) (t : Tables) (represents : HoldsTablesIn version old.now t) where
  pub means_at : Means old.now.schema q sql
  means_at = subst (λ s. Means s q sql) (sym represents.schema) means

-- a reader of both versions that makes one query and answers `Ok` only if the query did
pub leaves_in : {S X Y : Type 0} {asked : Result X Error} {result : Result Y Error}
    (version : Version) (g : Ghosts S) (q : Query) (sql : List ℕ)
    → Means (schema_of version) q sql → Means office_schema q sql → (old new : Held S)
    → LeavesIfPlain sql g old new asked → ((P : Type 0) → OnOk asked P → OnOk result P)
    → LeavesTablesIn version g old new result
leaves_in version g q sql means also old new h on_ok = grind (arith, common_steps, was_open)

-- the same of version 2
pub leaves_after : {S X Y : Type 0} {asked : Result X Error} {result : Result Y Error}
    (g : Ghosts S) (q : Query) (sql : List ℕ) → Means office_schema q sql → (old new : Held S)
    → LeavesIfPlain sql g old new asked → ((P : Type 0) → OnOk asked P → OnOk result P)
    → LeavesTables g old new result
leaves_after g q sql means = leaves_in Two g q sql means means

-- if the rows that a query gives have a property, a reader that returns them reads rows with it
pub reads_rows : {S R : Type 0} (g : Ghosts S) (q : Query) (sql : List ℕ)
    → Means office_schema q sql → (old new : Held S) (result : Result (Vec R Global) Error)
    → (columns_of : R → Row) (width : ℕ) (params : Row) (answers : Tables → List R → Type 0)
    → ((db : Database) (t : Tables) → HoldsTables db t → (found : List R)
    → IsReadOf columns_of width params q db.trees found → answers t found)
    → ((q : Query) → Means (state g old).now.schema q sql → HasCleanDisk (state g new)
    → IfOk result (λ found.
    IsReadOf columns_of width params q (state g old).now.trees found.items))
    → Reads g (λ t found. answers t found.items) old new result
reads_rows g q sql means old new result columns_of width params answers read shown clean t holds =
    IfOk-weaker result _ _ (λ found. read (state g old).now t holds found.items)
    (shown q (means_in q sql means (state g old) (state g new) t holds) clean)

-- one that returns what the query did
pub leaves_tables : {S X : Type 0} {result : Result X Error} (g : Ghosts S) (q : Query)
    (sql : List ℕ) → Means office_schema q sql → (old new : Held S)
    → LeavesIfPlain sql g old new result → LeavesTables g old new result
leaves_tables g q sql means old new h = leaves_after g q sql means old new h (λ _ p. p)

-- ---- answers

pub command_is : (q : Query) (names : List (List ℕ)) (r : Result Compiled CompileError)
    → Selects q names r → command_of r ≡ Select (record { lets = []; body = q }) names
command_is q names (Ok c) h = h
command_is q names (Err e) h = absurd h

-- no tree is replaced
pub overlay_none : (trees : Trees) → overlay trees [] ≡ trees
overlay_none trees =
    λ i t. ap (λ o. unwrap_or o (trees t)) (cond_same (nat_le (2 ^ 31) t) None) i

-- a text shows an answer of the query that it means
pub answers : (q : Query) (sql : List ℕ) (params : Row) (old mid new : State)
    → Means old.now.schema q sql → IsUnchanged old mid
    → (rows : List Row) → Shown sql params mid new rows → IsAnswer q old.now.trees params rows
answers q sql params old mid new means same rows h =
    let has = ap (λ d. d.schema) same.0.now_is in
    let command = command_is q means.names _ means.selects in
    let answer = (reads_as sql params mid new old.now.schema has
    (Select (record { lets = []; body = q }) means.names) command means.plain means.unlisted rows
    h).answer Null in
    let bare : overlay mid.now.trees [] ≡ old.now.trees =
    overlay_none mid.now.trees ∙ ap (λ d. d.trees) same.0.now_is in
    subst (λ trees. IsAnswer q trees params rows) bare answer

-- an answer shows all matches, in the order of the query
pub arranged : (from : Join) (where_ shown : List Term) (order : List (Term × Key)) (trees : Trees)
    (params : Row) (rows : List Row) → IsAnswer (select_query from where_ shown order) trees params rows
    → (found : List Env) × (rows ≡ map (eval_all shown) found)
    × IsPermutation (matches trees where_ from (params ∷ [])) found
    × IsSorted (sort_cmp order) found
arranged from where_ shown order trees params rows a =
    let q = select_query from where_ shown order in
    let kept : a.kept ≡ map (output q) (matches trees where_ from (params ∷ [])) =
    a.distinct ∙ ap (map (output q)) a.grouped in
    let all = matches trees where_ from (params ∷ []) in
    let u = pull_back (output q) _ _ (subst (λ k. IsPermutation k a.ordered) kept a.same) all refl in
    let up = subst (IsSorted (output_cmp q)) u.2 a.sorted in
    let long = length-map u.0 (output q) in (
      u.0,
      a.shown ∙ ap (map (λ (o : Output). o.1)) u.2 ∙ map-map (λ (o : Output). o.1) (output q) u.0,
      u.1,
      λ k d low within. subst₂ (λ x y. is_lt (output_cmp q x y) ≡ false)
          (get_or-map (output q) u.0 (k + 1) d (output q d) within)
          (get_or-map (output q) u.0 k d (output q d) (omega arith))
          (up k (output q d) low (omega arith)),
    )
