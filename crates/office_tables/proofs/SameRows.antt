-- Tables that one database holds have the same drafts and the same shares of students.
use Rattle.std.proofs.Common.{◌≡◌, ◌≢◌, ℕ, pos, List, [], ◌∷◌, map, filter, flat_map, Bool, true, false, ◌&&◌, ◌==◌, refl, sym, ap, ap₂, subst, ◌∙◌, IsPermutation}
use Rattle.std.specs.List.{AllByRecursion}
use Rattle.std.proofs.lemmas.List.Sorted.{IsPermutation-map, IsPermutation-sym, IsPermutation-trans}
use Rattle.exam_lists.proofs.Filters.{filter_every}
use Rattle.exam_lists.proofs.Maps.{map_agree, map_back}
use Rattle.sqlite_trees.specs.Tree.{IsAscending}
use Rattle.sqlite_trees.proofs.ListLemmas.{map-map, filter-map, flat_map-map, flat_map_same_on, IsPermutation-filter, IsPermutation-flat_map, IsPermutation-flat_map_each}
use Rattle.sqlite_value.specs.declared.value.Value.{Value}
use Rattle.sqlite_value.specs.declared.value.Value.TheVariants.{Int}
use Rattle.sqlite_value.specs.Order.{Row, column}
use Rattle.sqlite.specs.Effect.{Database}
use Rattle.office_tables.specs.declared.tables.draft.DraftRow.{DraftRow}
use Rattle.office_tables.specs.declared.tables.share_student.StudentShareRow.{StudentShareRow}
use Rattle.office_tables.specs.declared.version.Version.{Version}
use Rattle.office_tables.specs.declared.version.Version.TheVariants.{One, Two}
use Rattle.office_tables.specs.Tables.Draft.{draft_columns, night_draft_columns}
use Rattle.office_tables.specs.Tables.ShareStudent.{night_share_columns, share_shown, share_student_columns}
use Rattle.office_tables.specs.TablesHeld.{HoldsTablesIn}
use Rattle.office_tables.specs.Stored.{Holds, keyed_columns}
use Rattle.office_tables.specs.Tables.{Tables}
use Rattle.office_tables.proofs.NightTexts.{paired}
use Rattle.office_tables.proofs.RecordsBack.{draft_of, student_share_of}
use Rattle.office_tables.proofs.TableLemmas.{keys_once}
use Rattle.office_tables.proofs.Frames.{held_at}

-- ---- the rows of two tables in one list

abbrev is_same : Value → Value → Bool
is_same (Int (pos m)) (Int (pos n)) = m == n
is_same _ _ = false

-- a row with the amounts of its number in front of it
abbrev with_amounts : List Row → Row → List Row
with_amounts nights r =
    map (λ s. column s 1 ∷ r) (filter (λ s. is_same (column s 0) (column r 0)) nights)

-- all rows with their amounts
abbrev paired_rows : List Row → List Row → List Row
paired_rows nights rows = flat_map (with_amounts nights) rows

paired_moved : (nights others rows same_rows : List Row) → IsPermutation nights others
    → IsPermutation rows same_rows
    → IsPermutation (paired_rows nights rows) (paired_rows others same_rows)
paired_moved nights others rows same_rows moved same =
    IsPermutation-trans _ _ _ (IsPermutation-flat_map (with_amounts nights) _ _ same)
    (IsPermutation-flat_map_each (with_amounts nights) (with_amounts others)
    (λ r. IsPermutation-map _ _ _ (IsPermutation-filter _ _ _ moved)) same_rows)

-- ---- the same rows from the same columns

module _ {X : Type 0} (record_of : Row → X) (shown : X → Row)
    (back : (x : X) → record_of (shown x) ≡ x) where
  -- rows that show the same columns are the same
  alike : (xs ys : List X) → IsPermutation (map shown xs) (map shown ys) → IsPermutation xs ys
  alike xs ys same =
      subst (λ l. IsPermutation l ys) (map_back shown record_of back xs)
      (subst (IsPermutation _) (map_back shown record_of back ys) (IsPermutation-map record_of _ _ same))

  -- the same if each amount over night is 0
  alike_before : (columns_of : X → Row) (night : X → ℕ)
      → ((x : X) → shown x ≡ Int (pos (night x)) ∷ columns_of x) → (xs ys : List X)
      → AllByRecursion (λ x. night x ≡ 0) xs → AllByRecursion (λ x. night x ≡ 0) ys
      → IsPermutation (map columns_of xs) (map columns_of ys) → IsPermutation xs ys
  alike_before columns_of night is xs ys none no_other same =
      let front = λ (r : Row). Int (pos 0) ∷ r in
      alike xs ys (rw (sym (each xs none), sym (each ys no_other))
      (IsPermutation-map front _ _ same))
    where
      each : (zs : List X) → AllByRecursion (λ x. night x ≡ 0) zs
          → map (λ (r : Row). Int (pos 0) ∷ r) (map columns_of zs) ≡ map shown zs
      each [] all = refl
      each (z ∷ zs) all =
          ap₂ (λ r rs. r ∷ rs) (ap (λ n. Int (pos n) ∷ columns_of z) (sym all.0) ∙ sym (is z))
          (each zs all.1)

  -- the same if the second table has the amounts
  module _ (columns_of nights_of : X → Row) (key : X → ℕ)
      (first : (x : X) → column (columns_of x) 0 ≡ Int (pos (key x)))
      (tested : (x y : X) → is_same (column (nights_of y) 0) (column (columns_of x) 0)
      ≡ (key y == key x))
      (whole : (x : X) → column (nights_of x) 1 ∷ columns_of x ≡ shown x) where
    one_paired : (xs : List X) (x : X) → with_amounts (map nights_of xs) (columns_of x)
        ≡ map (λ y. column (nights_of y) 1 ∷ columns_of x)
        (filter (λ y. true && (key y == key x)) xs)
    one_paired xs x =
        let front = λ (s : Row). column s 1 ∷ columns_of x in
        ap (map front)
        (filter-map (λ s. is_same (column s 0) (column (columns_of x) 0)) nights_of xs)
        ∙ map-map front nights_of _
        ∙ ap (λ p. map (λ y. column (nights_of y) 1 ∷ columns_of x) (filter p xs))
        (λ i y. tested x y i)

    all_paired : (xs : List X) → IsAscending (λ a b. key a ≢ key b) xs
        → paired_rows (map nights_of xs) (map columns_of xs) ≡ map shown xs
    all_paired xs once =
        flat_map-map (with_amounts (map nights_of xs)) columns_of xs
        ∙ flat_map_same_on _ _ (one_paired xs) xs
        ∙ paired key (λ _. true) (λ x y. column (nights_of y) 1 ∷ columns_of x) xs once
        ∙ ap (map (λ x. column (nights_of x) 1 ∷ columns_of x)) (filter_every (λ _. true) xs (λ x. refl))
        ∙ map_agree (λ x. column (nights_of x) 1 ∷ columns_of x) shown whole xs

    pub alike_now : (stored nights_stored : List Row) (xs ys : List X)
        → Holds keyed_columns (map columns_of xs) stored → Holds keyed_columns (map columns_of ys) stored
        → Holds keyed_columns (map nights_of xs) nights_stored
        → Holds keyed_columns (map nights_of ys) nights_stored
        → IsPermutation xs ys
    alike_now stored nights_stored xs ys p q p_nights q_nights =
        let moved = paired_moved _ _ _ _
        (IsPermutation-trans _ _ _ (IsPermutation-sym _ _ p_nights.same) q_nights.same)
        (IsPermutation-trans _ _ _ (IsPermutation-sym _ _ p.same) q.same) in
        alike xs ys
        (subst (λ l. IsPermutation l (map shown ys))
        (all_paired xs (keys_once columns_of key first xs stored p))
        (subst (IsPermutation _)
        (all_paired ys (keys_once columns_of key first ys stored q)) moved))

stored_alike : (one two : List Row) (stored : List Row) → Holds keyed_columns one stored
    → Holds keyed_columns two stored → IsPermutation one two
stored_alike one two stored p q =
    IsPermutation-trans _ _ _ (IsPermutation-sym _ _ p.same) q.same

-- ---- drafts, and shares of students

-- all columns of a draft
abbrev draft_shown : DraftRow → Row
draft_shown r = Int (pos r.night) ∷ draft_columns r

pub same_drafts : (version : Version) (db : Database) (t u : Tables) → HoldsTablesIn version db t
    → HoldsTablesIn version db u → IsPermutation t.draft u.draft
same_drafts One db t u p q =
    alike_before draft_of draft_shown (λ x. refl) draft_columns (λ (r : DraftRow). r.night)
    (λ x. refl) t.draft u.draft p.night_draft q.night_draft
    (stored_alike _ _ (db.trees 4) (held_at 3 p) (held_at 3 q))
same_drafts Two db t u p q =
    alike_now draft_of draft_shown (λ x. refl) draft_columns night_draft_columns
    (λ (r : DraftRow). r.no) (λ x. refl) (λ x y. refl) (λ x. refl) (db.trees 4) (db.trees 15)
    t.draft u.draft (held_at 3 p) (held_at 3 q) p.night_draft q.night_draft

pub same_student_shares : (version : Version) (db : Database) (t u : Tables)
    → HoldsTablesIn version db t → HoldsTablesIn version db u → IsPermutation t.share_student u.share_student
same_student_shares One db t u p q =
    alike_before student_share_of share_shown (λ x. refl) share_student_columns
    (λ (r : StudentShareRow). r.night)
    (λ x. refl) t.share_student u.share_student p.night_share q.night_share
    (stored_alike _ _ (db.trees 11) (held_at 7 p) (held_at 7 q))
same_student_shares Two db t u p q =
    alike_now student_share_of share_shown (λ x. refl) share_student_columns night_share_columns
    (λ (r : StudentShareRow). r.student) (λ x. refl) (λ x y. refl) (λ x. refl) (db.trees 11)
    (db.trees 16) t.share_student u.share_student (held_at 7 p) (held_at 7 q) p.night_share
    q.night_share
