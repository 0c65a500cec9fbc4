-- The effect of the statements that insert rows of a table.
use Rattle.std.proofs.lemmas.Grind.{common_steps}
use Rattle.std.proofs.Common.{◌≡◌, ◌+◌, ◌<◌, ℕ, ℤ, zero, suc, List, [], ◌∷◌, ◌++◌, drop, map, length, reverse, flat_map, slice_index_or, Option, Some, None, Ok, refl, sym, ap, ap₂, subst, ◌∙◌, arith, append-nil, take-append-drop, IsTrue, Bool, true, false}
use Rattle.std.specs.Fn.{Called, Mut}
use Rattle.std.specs.Prelude.{slice_get, slice_set}
use Rattle.std.specs.List.{IsSplitAt}
use Rattle.std.specs.Array.{IsFromFnResult, IsFromFnResultFrom}
use Rattle.std.proofs.lemmas.List.{map-append}
use Rattle.std.proofs.lemmas.List.Elements.{All-drop, All-take}
use Rattle.exam_lists.proofs.Parts.{reverse_cons_append}
use Rattle.sqlite_value.specs.declared.value.Value.TheVariants.{Int, Null}
use Rattle.sqlite_schema.specs.declared.schema.Table.{Table}
use Rattle.sqlite_value.specs.Order.{Row, column}
use Rattle.sqlite.specs.Effect.{IsDatabase}
use Rattle.sqlite.specs.State.{State, Executes}
use Rattle.sqlite.specs.Term.{eval_all}
use Rattle.office_tables.specs.Tables.{office_schema, Tables, all_columns}
use Rattle.office_tables.specs.Alterations.{IsWritten, after_all}
use Rattle.office_tables.specs.Inserting.{Inserts, IsInsert, TableOf, Stores, given_row, next_params, row_terms, with_row, row_fits, rows_fit}
use Rattle.office_tables.specs.Stored.{shown_by}
use Rattle.office_tables.specs.Steps.{TablesBecome}
use Rattle.office_tables.specs.TablesHeld.{HoldsTables}
use Rattle.office_tables.proofs.Frames.{AllShown, all_shown, own_shown, shown_next, tables_held}
use Rattle.office_tables.proofs.ManyRows.{added_rows, after_append, values_there}
use Rattle.office_tables.proofs.Statements.{sound_after}

-- ---- the terms of a row

long_params : (w at : ℕ) → length (next_params w at) ≡ w
long_params zero at = refl
long_params (suc w) at = ap suc (long_params w (suc at))

long_terms : (key : Option ℕ) (rest at : ℕ) → length (row_terms key (suc rest) at) ≡ suc (suc rest)
long_terms None rest at = ap suc (long_params (suc rest) at)
long_terms (Some key) rest at = ap (λ n. suc (suc n)) (long_params rest (suc at))

terms_give : (key : Option ℕ) (rest : ℕ) (pre row post : Row) → length row ≡ suc rest
    → eval_all (row_terms key (suc rest) (length pre)) ((pre ++ (row ++ post)) ∷ [])
    ≡ given_row key row
terms_give None rest pre row post wide =
    ap (λ l. Null ∷ l) (subst (λ w. eval_all (next_params w (length pre))
    ((pre ++ (row ++ post)) ∷ []) ≡ row) wide (values_there pre row post))
terms_give (Some key) rest pre row post wide =
    ap (λ l. column l 0 ∷ Null ∷ drop 1 l) (subst (λ w. eval_all (next_params w (length pre))
    ((pre ++ (row ++ post)) ∷ []) ≡ row) wide (values_there pre row post))

-- ---- rows of a table

-- what an insert leaves lists its schema and obeys it
pub insert_sound : {at : ℕ} {key : Option ℕ} {w n : ℕ} {sql : List ℕ} → IsInsert at key w n sql
    → (params : Row) (old new : State) (count : ℕ) → old.now.schema ≡ office_schema
    → Executes sql params old new (Ok count) → IsDatabase new.now
insert_sound {sql} means params old new count has h =
    sound_after office_schema sql params old new count means.plain _ means.is tt has h

module _ {X : Type 0} {at : ℕ} {table : Table} {columns_of : X → Row} {w : ℕ}
    (about : Stores at table columns_of w) where
  pub rows_added : (k : ℕ) (sql : List ℕ) → IsInsert at table.key w k sql → (old new : State)
      (rows held : List X) → length rows ≡ k → (count : ℕ) (all : List (List Row))
      → slice_get all at ≡ Some (map columns_of held) → AllShown all old.now
      → Executes sql (flat_map columns_of rows) old new (Ok count)
      → AllShown (slice_set all at (map columns_of (reverse rows ++ held))) new.now
  rows_added k sql means old new rows held long count all there shown h =
      let key = table.key in
      let done = added_rows columns_of (λ x. given_row key (columns_of x)) (shown_by key) w
      (suc w) (row_terms key w) about.wide
      (λ at. subst (λ v. length (row_terms key v at) ≡ suc v) (sym about.filled.1)
      (long_terms key about.filled.0 at))
      (λ pre post x. subst (λ v. eval_all (row_terms key v (length pre))
      ((pre ++ (columns_of x ++ post)) ∷ []) ≡ given_row key (columns_of x))
      (sym about.filled.1)
      (terms_give key about.filled.0 pre (columns_of x) post (about.wide x ∙ about.filled.1)))
      about.int about.shown sql k at table about.is.found means.plain means.is means.many
      about.is.quiet about.cast old new rows held long count shown.schema
      (own_shown about.is all (map columns_of held) old.now there shown) h in
      shown_next about.is all _ old.now new.now shown
      (record { schema = done.0; others = done.1; holds = done.2 })

  pub row_added : (sql : List ℕ) → IsInsert at table.key w 1 sql → (old new : State) (row : X)
      (held : List X) (count : ℕ) (all : List (List Row))
      → slice_get all at ≡ Some (map columns_of held) → AllShown all old.now
      → Executes sql (columns_of row) old new (Ok count)
      → AllShown (slice_set all at (map columns_of (row ∷ held))) new.now
  row_added sql means old new row held count all there shown h =
      rows_added 1 sql means old new (row ∷ []) held refl count all there shown
      (subst (λ ps. Executes sql ps old new (Ok count)) (sym (append-nil (columns_of row))) h)

module _ {R : Type 0} (it : TableOf R) (w n : ℕ) (one several : List ℕ)
    (about : Inserts it w n one several) where
  pub added : (k : ℕ) (sql : List ℕ) → IsInsert it.at it.table.key w k sql → (old new : State)
      (rows : List R) → length rows ≡ k → (count : ℕ) (t : Tables) → HoldsTables old.now t
      → Executes sql (flat_map it.columns_of rows) old new (Ok count)
      → IsWritten (it.with_rows (reverse rows ++ it.rows t) t) old.now new.now
  added k sql means old new rows long count t represents h = (
    tables_held new.now _ (subst (λ all. AllShown all new.now)
        (sym (about.changed (reverse rows ++ it.rows t) t))
        (rows_added about.stores k sql means old new rows (it.rows t) long count (all_columns t)
        (about.listed t) (all_shown old.now t represents) h)),
    λ _. insert_sound means _ old new count represents.schema h,
  )

  pub added_one : (old new : State) (row : R) (count : ℕ) (t : Tables) → HoldsTables old.now t
      → Executes one (it.columns_of row) old new (Ok count)
      → IsWritten (with_row it row t) old.now new.now
  added_one old new row count t represents h =
      added 1 one about.one old new (row ∷ []) refl count t represents
      (subst (λ ps. Executes one ps old new (Ok count)) (sym (append-nil (it.columns_of row))) h)

  -- rows that are added one after another
  pub rows_put : {X : Type 0} (row_of : X → R) (its : List X) (t : Tables)
      → after_all (λ x. with_row it (row_of x)) its t
      ≡ it.with_rows (reverse (map row_of its) ++ it.rows t) t
  rows_put row_of [] t = sym (about.same t)
  rows_put row_of (x ∷ rest) t =
      grind (arith, common_steps, reverse, reverse_cons_append, rows_put row_of rest (with_row it (row_of x) t))

-- ---- the parameters of an array of rows, which a function gives at each index

module _ {A F : Type 0} (g : Mut F (ℕ × Unit {0}) (List ℤ)) (f : F) (columns : A → Row)
    (xs : List A) (ys : List (List ℤ))
    (one : (i : ℕ) (y : List ℤ) (q : F) → Called g f (i, tt) y q
    → (q ≡ f) × ((d : A) → map Int y ≡ columns (slice_index_or xs i d))) where
  each_is : (p : F) → p ≡ f → (i m : ℕ) → IsFromFnResultFrom g p ys i m → (j : ℕ) → j < m
      → (d : A) (e : List ℤ)
      → map Int (slice_index_or ys (i + j) e) ≡ columns (slice_index_or xs (i + j) d)
  each_is p same i zero is j below d e = absurd (omega (arith, below))
  each_is p same i (suc m) (q, y, here, call, later) zero below d e =
      let fact = one i y q (subst (λ r. Called g r (i, tt) y q) same call) in
      let there : i + zero ≡ i = omega arith in
      rw there (ap (map Int) (here.1 e) ∙ fact.1 d)
  each_is p same i (suc m) (q, y, here, call, later) (suc j) below d e =
      let fact = one i y q (subst (λ r. Called g r (i, tt) y q) same call) in
      let there : i + suc j ≡ (i + 1) + j = omega arith in
      rw there (each_is q fact.0 (i + 1) m later j (omega (arith, below)) d e)

pub rows_valued : {A B F : Type 0} (g : Mut F (ℕ × Unit {0}) (List ℤ)) (f : F)
    (row_of : A → B) (columns : B → Row) (xs : List A) (ys : List (List ℤ)) (n : ℕ)
    → ((i : ℕ) (y : List ℤ) (q : F) → Called g f (i, tt) y q
    → (q ≡ f) × ((d : A) → map Int y ≡ columns (row_of (slice_index_or xs i d))))
    → length xs ≡ n → IsFromFnResult g f ys n
    → map Int (flat_map (λ y. y) ys) ≡ flat_map columns (map row_of xs)
rows_valued {A} g f row_of columns xs ys n one long is =
    go xs ys (long ∙ sym is.long) (λ i d e below.
    let there : 0 + i ≡ i = omega arith in
    subst (λ k. map Int (slice_index_or ys k e) ≡ columns (row_of (slice_index_or xs k d))) there
    (each_is g f (λ x. columns (row_of x)) xs ys one f refl 0 n is.each i (omega (arith, below, long)) d e))
  where
    go : (xs : List A) (ys : List (List ℤ)) → length xs ≡ length ys
        → ((i : ℕ) (d : A) (e : List ℤ) → i < length xs
        → map Int (slice_index_or ys i e) ≡ columns (row_of (slice_index_or xs i d)))
        → map Int (flat_map (λ y. y) ys) ≡ flat_map columns (map row_of xs)
    go [] [] same at = refl
    go [] (y ∷ ys) same at = absurd (omega (arith, same))
    go (x ∷ xs) [] same at = absurd (omega (arith, same))
    go (x ∷ xs) (y ∷ ys) same at =
        map-append _ y (flat_map (λ y. y) ys)
        ∙ ap₂ (λ a b. a ++ b) (at 0 x y (omega arith))
        (go xs ys (omega (arith, same)) (λ i d e lt. at (suc i) d e (omega (arith, lt))))

-- ---- some rows after others

-- the transaction continues, and inserting the rows that are left gives the tables after all rows
abbrev pub Continues : {A : Type 0} → (List A → Tables → Tables) → List A → List A
    → State → State → Type 0
Continues f all left old now =
    IsTrue now.in_transaction × ((t : Tables) → HoldsTables old.now t
    → (reached : Tables) × HoldsTables now.now reached × (f left reached ≡ f all t)
    × (IsDatabase old.now → IsDatabase now.now))

pub continued : {A : Type 0} (f : A → Tables → Tables) (n : ℕ) (all left chunk rest : List A)
    (old mid new : State) → Continues (after_all f) all left old mid
    → TablesBecome (after_all f chunk) mid new → IsSplitAt left n chunk rest
    → Continues (after_all f) all rest old new
continued f n all left chunk rest old mid new before makes split =
    grind (arith, common_steps, after_append, take-append-drop)

pub finished : {A : Type 0} (f : A → Tables → Tables) (all left : List A) (old mid new : State)
    → Continues (after_all f) all left old mid → TablesBecome (after_all f left) mid new
    → TablesBecome (after_all f all) old new
finished f all left old mid new before makes = (
  makes.0,
  λ t h.
      let reached = before.1 t h in
      let more = makes.1 reached.0 reached.1 in
      (subst (HoldsTables new.now) reached.2 more.0, λ was. more.1 (reached.3 was)),
)

-- ---- rows that fit

pub one_fits : {R X : Type 0} (limited : Bool) (P : R → Type 0) (row_of : X → R) (xs : List X)
    → rows_fit limited P row_of xs → (i : ℕ) (d : X) → i < length xs
    → row_fits limited P (row_of (slice_index_or xs i d))
one_fits false P row_of xs all i d below = tt
one_fits true P row_of xs all i d below = all i d below

pub parts_fit : {R X : Type 0} (limited : Bool) (P : R → Type 0) (row_of : X → R) (n : ℕ)
    (xs chunk rest : List X) → IsSplitAt xs n chunk rest → rows_fit limited P row_of xs
    → rows_fit limited P row_of chunk × rows_fit limited P row_of rest
parts_fit false P row_of n xs chunk rest split all = (tt, tt)
parts_fit true P row_of n xs chunk rest split all =
    rw (split.1, split.2) (All-take (λ x. P (row_of x)) n xs all, All-drop (λ x. P (row_of x)) n xs all)
