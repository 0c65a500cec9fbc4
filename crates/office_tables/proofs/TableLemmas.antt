-- The rows that a table shows after rows are inserted or deleted.
use Rattle.std.proofs.Common.{◌≡◌, ◌≢◌, inl, inr, ℕ, pos, List, [], ◌∷◌, map, filter, Bool, true, false, ◌||◌, Ordering, Less, Equal, Greater, is_eq, sym, ap, ◌∙◌, IsTrue}
use Rattle.std.specs.List.{AllByRecursion}
use Rattle.std.specs.Prelude.{IsPermutation}
use Rattle.std.specs.Ordering.{match_ordering}
use Rattle.std.proofs.lemmas.List.Sorted.{IsPermutation-refl, IsPermutation-cons, IsPermutation-trans, IsPermutation-sym, IsPermutation-middle, IsPermutation-map}
use Rattle.sqlite_value.specs.declared.value.Value.TheVariants.{Int}
use Rattle.sqlite_value.specs.Order.{Row, column, value_cmp}
use Rattle.sqlite_trees.specs.Tree.{IsAscending, rowid, put_row}
use Rattle.sqlite_trees.specs.View.{is_int}
use Rattle.sqlite_trees.proofs.ListLemmas.{along_permutation, all-permutation, all-filter, all-map, ascending-filter, ascending-map, ascending_from_map, ascending_weaker}
use Rattle.sqlite_rules.specs.Edit.{is_taken, are_fresh}
use Rattle.office_tables.specs.Stored.{HasRowids, Holds, keyed_columns}
use Rattle.std.proofs.lemmas.Bool.{and_parts, not-true, or_parts}
use Rattle.std.proofs.lemmas.Cmp.{tied_itself}
use Rattle.sqlite_value.specs.declared.value.Value.{Value}
use Rattle.sqlite_value.proofs.OrderLemmas.{value_cmp_total}
use Rattle.sqlite_rules.specs.Lists.{Has}
use Rattle.sqlite_rules.proofs.ListLemmas.{all_has}

-- a row with a free rowid is added to the others
pub put_free : (new : Row) (rows : List Row) → is_taken rows new ≡ false
    → IsPermutation (put_row new rows) (new ∷ rows)
put_free new [] free = IsPermutation-refl _
put_free new (r ∷ rows) free = go (value_cmp (rowid r) (rowid new)) free (put_free new rows)
  where
    go : (o : Ordering) → (is_eq o || is_taken rows new) ≡ false
        → (is_taken rows new ≡ false → IsPermutation (put_row new rows) (new ∷ rows))
        → IsPermutation (match_ordering o (r ∷ put_row new rows) (new ∷ rows) (new ∷ r ∷ rows))
        (new ∷ r ∷ rows)
    go Less f more =
        IsPermutation-trans _ _ _ (IsPermutation-cons r _ _ (more f))
        (IsPermutation-middle (r ∷ []) new rows)
    go Equal f more = absurd (cc)
    go Greater f more = IsPermutation-refl _

-- ---- distinct rowids

abbrev Apart : List Row → Type 0
Apart = IsAscending (λ a b. rowid a ≢ rowid b)

abbrev Misses : Value → List Row → Type 0
Misses v = AllByRecursion (λ r. v ≢ rowid r)

abbrev Moved : List Row → List Row → Type 0
Moved xs ys = ((v : Value) → Misses v xs → Misses v ys) × (Apart xs → Apart ys)

moved : (xs ys : List Row) → IsPermutation xs ys → Moved xs ys
moved = along_permutation Moved (λ xs. (λ v h. h, λ h. h))
    (λ x xs ys h. (λ v k. (k.0, h.0 v k.1), λ k. (h.0 (rowid x) k.0, h.1 k.1)))
    (λ x y xs. (λ v k. (k.1.0, (k.0, k.1.1)), λ k. ((λ e. k.0.0 (sym e), k.1.0), (k.0.1, k.1.1))))
    (λ xs ys zs a b. (λ v h. b.0 v (a.0 v h), λ h. b.1 (a.1 h)))

pub rowids_moved : (xs ys : List Row) → IsPermutation xs ys → HasRowids xs → HasRowids ys
rowids_moved xs ys same h = record {
  ints = all-permutation (λ r. IsTrue (is_int (rowid r))) xs ys same h.ints;
  apart = (moved xs ys same).1 h.apart;
}

misses : (new : Row) (rows : List Row) → is_taken rows new ≡ false → Misses (rowid new) rows
misses new [] free = tt
misses new (r ∷ rows) free =
    let parts = or_parts _ _ free in
    (λ e. let tie = ap is_eq (ap (value_cmp (rowid r)) e ∙ tied_itself value_cmp_total (rowid r)) in absurd (let both = sym parts.0 ∙ tie in cc), misses new rows parts.1)

pub rowids_put : (new : Row) (rows : List Row) → IsTrue (is_int (rowid new))
    → is_taken rows new ≡ false → HasRowids rows → HasRowids (put_row new rows)
rowids_put new rows int free h =
    rowids_moved (new ∷ rows) (put_row new rows) (IsPermutation-sym _ _ (put_free new rows free))
    (record { ints = (int, h.ints); apart = (misses new rows free, h.apart) })

pub rowids_filter : (p : Row → Bool) (rows : List Row) → HasRowids rows → HasRowids (filter p rows)
rowids_filter p rows h =
    record { ints = all-filter _ p rows h.ints; apart = ascending-filter _ p rows h.apart }

pub rowid_once : (rows : List Row) (a b : Row) → HasRowids rows → Has rows a → Has rows b
    → rowid a ≡ rowid b → a ≡ b
rowid_once rows a b h = go rows h.apart
  where
    go : (rs : List Row) → Apart rs → Has rs a → Has rs b → rowid a ≡ rowid b → a ≡ b
    go [] up x y e = absurd x
    go (r ∷ rs) up (inl x) (inl y) e = x ∙ sym y
    go (r ∷ rs) up (inl x) (inr y) e = absurd (all_has _ rs b up.0 y (ap rowid (sym x) ∙ e))
    go (r ∷ rs) up (inr x) (inl y) e = absurd (all_has _ rs a up.0 x (ap rowid (sym y) ∙ sym e))
    go (r ∷ rs) up (inr x) (inr y) e = go rs up.1 x y e

-- the table shows one more row
pub holds_more : (show : Row → Row) (rows stored : List Row) (new row : Row) → show new ≡ row
    → IsTrue (is_int (rowid new)) → are_fresh stored (new ∷ []) ≡ true
    → Holds show rows stored → Holds show (row ∷ rows) (put_row new stored)
holds_more show rows stored new row is int fresh h =
    let free = not-true _ (and_parts _ _ fresh).0 in
    record {
      rowids = rowids_put new stored int free h.rowids;
      same = IsPermutation-trans _ _ _ (IsPermutation-map show _ _ (put_free new stored free))
          (rw is (IsPermutation-cons row _ _ h.same));
    }

-- the table shows the same rows in any other order
pub holds_moved : (show : Row → Row) (rows others stored : List Row) → IsPermutation rows others
    → Holds show rows stored → Holds show others stored
holds_moved show rows others stored same h =
    record { rowids = h.rowids; same = IsPermutation-trans _ _ _ h.same same }

-- the keys of a table's rows are distinct, if they are the rows' numbers
pub keys_once : {X : Type 0} (row_of : X → Row) (key : X → ℕ)
    → ((x : X) → column (row_of x) 0 ≡ Int (pos (key x))) → (xs : List X) (stored : List Row)
    → Holds keyed_columns (map row_of xs) stored → IsAscending (λ a b. key a ≢ key b) xs
keys_once row_of key first xs stored holds =
    let shown : HasRowids (map keyed_columns stored) = record {
      ints = all-map (λ r. IsTrue (is_int (rowid r))) keyed_columns stored holds.rowids.ints;
      apart = ascending-map (λ a b. rowid a ≢ rowid b) keyed_columns stored holds.rowids.apart;
    } in
    let typed = rowids_moved _ _ holds.same shown in
    ascending_weaker (λ a b. rowid (row_of a) ≢ rowid (row_of b)) (λ a b. key a ≢ key b)
    (λ a b apart same. apart (first a ∙ ap (λ n. Int (pos n)) same ∙ sym (first b))) xs
    (ascending_from_map (λ a b. rowid a ≢ rowid b) row_of xs typed.apart)
