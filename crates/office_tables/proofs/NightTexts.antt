-- The rows that queries read from two tables, if the rows of both have the same numbers.
use Rattle.std.proofs.lemmas.Grind.{common_steps}
use Rattle.std.proofs.Common.{◌≡◌, ◌≢◌, inl, inr, ℕ, pos, List, [], ◌∷◌, map, filter, flat_map, Bool, true, cond, ◌&&◌, ◌==◌, sym, ap, subst, ◌∙◌, arith, IsPermutation}
use Rattle.std.proofs.lemmas.Bool.Decides.{nat_tests}
use Rattle.exam_lists.proofs.Keys.{each_with_itself, no_partner}
use Rattle.exam_lists.proofs.Maps.{map_agree}
use Rattle.sqlite_sql.specs.declared.ops.BinaryOp.TheVariants.{Compare}
use Rattle.sqlite_sql.specs.declared.ops.CompareOp.TheVariants.{Eq}
use Rattle.sqlite_rules.specs.Lists.{Has}
use Rattle.sqlite_rules.proofs.ListLemmas.{all_from, all_has}
use Rattle.sqlite_trees.specs.Tree.{Trees, IsAscending}
use Rattle.sqlite_value.specs.declared.keys.Collation.TheVariants.{Binary}
use Rattle.sqlite_value.specs.declared.value.Value.TheVariants.{Int}
use Rattle.sqlite_value.specs.Order.{Row, column}
use Rattle.sqlite.specs.Query.{inner, end, matches}
use Rattle.sqlite.specs.Term.{Term, col, op2, eval_all}
use Rattle.office_tables.specs.Stored.{Holds, keyed_columns}
use Rattle.office_tables.proofs.JoinedTexts.{both_pass, pairs_shown}
use Rattle.office_tables.proofs.TableLemmas.{keys_once}

-- the two rows have the same number
abbrev pub same_number : Term
same_number = op2 (Compare Eq Binary) (col 2 0) (col 1 0)

-- ---- each row has one partner

module _ {X : Type 0} (key : X → ℕ) where
  itself : (n : ℕ) → (n == n) ≡ true
  itself n = grind (arith, nat_tests)

  one_partner : (xs : List X) → IsAscending (λ a b. key a ≢ key b) xs → (x : X) → Has xs x
      → filter (λ y. key y == key x) xs ≡ x ∷ []
  one_partner [] once x h = absurd h
  one_partner (y ∷ ys) once x (inl same) =
      subst (λ z. filter (λ w. key w == key z) (y ∷ ys) ≡ z ∷ []) (sym same)
      (ap (λ b. cond b (y ∷ filter (λ z. key z == key y) ys) (filter (λ z. key z == key y) ys))
      (itself (key y))
      ∙ ap (λ l. y ∷ l) (no_partner key y ys once.0))
  one_partner (y ∷ ys) once x (inr later) = grind (arith, common_steps, all_has, one_partner ys once.1 x later)

  module _ {Y : Type 0} (t : X → Bool) (f : X → X → Y) (xs : List X) where
    pub paired : IsAscending (λ a b. key a ≢ key b) xs
        → flat_map (λ x. map (f x) (filter (λ y. t x && (key y == key x)) xs)) xs
        ≡ map (λ x. f x x) (filter t xs)
    paired once = each_with_itself key t f xs xs (all_from _ xs (one_partner xs once))

-- ---- the matches of a join

module _ {X : Type 0} (key : X → ℕ) (columns_of nights_of shown_of : X → Row)
    (first : (x : X) → column (columns_of x) 0 ≡ Int (pos (key x)))
    (params : Row) (one two : ℕ) (tests terms : List Term) (picked : Row → Row → Row)
    -- the tests and the shown columns of two stored rows depend only on their columns
    (same_test : (r s : Row)
    → both_pass params tests r s ≡ both_pass params tests (keyed_columns r) (keyed_columns s))
    (same_shown : (r s : Row) → eval_all terms (params ∷ r ∷ s ∷ []) ≡ picked (keyed_columns r) (keyed_columns s))
    (t : X → Bool)
    (tested : (x y : X) → both_pass params tests (columns_of x) (nights_of y)
    ≡ (t x && (key y == key x)))
    (whole : (x : X) → picked (columns_of x) (nights_of x) ≡ shown_of x) where
  -- a SELECT from both tables shows the rows that pass
  pub joined_shown : (trees : Trees) (xs : List X) → Holds keyed_columns (map columns_of xs) (trees one)
      → Holds keyed_columns (map nights_of xs) (trees two)
      → IsPermutation
      (map (eval_all terms) (matches trees tests (inner one (inner two end)) (params ∷ [])))
      (map shown_of (filter t xs))
  joined_shown trees xs holds nights =
      let once = keys_once columns_of key first xs (trees one) holds in
      let rows : flat_map (λ x. map (λ y. picked (columns_of x) (nights_of y))
      (filter (λ y. t x && (key y == key x)) xs)) xs ≡ map shown_of (filter t xs) =
      paired key t (λ x y. picked (columns_of x) (nights_of y)) xs once
      ∙ map_agree (λ x. picked (columns_of x) (nights_of x)) shown_of whole (filter t xs) in
      subst (IsPermutation _) rows
      (pairs_shown columns_of nights_of keyed_columns keyed_columns params one two tests terms
      (both_pass params tests) picked same_test same_shown (λ x y. t x && (key y == key x)) tested trees xs xs
      holds.same nights.same)
