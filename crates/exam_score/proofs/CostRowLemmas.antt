-- The table of costs, cost row by cost row, and periods beyond it.
use Rattle.std.proofs.Common.{◌≡◌, ℕ, ◌<◌, ◌≤◌, List, [], ◌∷◌, ◌++◌, length, Some, sym, ◌∙◌, ap, arith, get_or, inl, inr, le-ltb, length-append, subst}
use Rattle.std.specs.Prelude.{slice_get, ◌&&◌, ◌==◌}
use Rattle.std.proofs.lemmas.Bool.{cases_lt}
use Rattle.std.proofs.lemmas.Option.{slice_get-get_or, slice_get_past, slice_get_within}
use Rattle.exam_lists.proofs.Searches.{slice_get_kept, slice_get_push}
use Rattle.exam_model.specs.Instance.{Session}
use Rattle.exam_model.specs.declared.parts.Period.{Period}
use Rattle.exam_model.specs.declared.parts.Weights.{Weights}
use Rattle.exam_score.specs.CostOrder.{kind_cost-swap}
use Rattle.exam_score.specs.Kinds.{TableKind, in_row, in_day, in_spread, in_table, kind_cost, table_cost, table_amount, by_table}
use Rattle.exam_score.specs.CostRows.{costs_of}
use Rattle.exam_score.specs.declared.amounts.Amounts.{Amounts}
use Rattle.exam_score.specs.declared.cost_rows.CostRow.{CostRow}
use Rattle.exam_score.proofs.KindLemmas.{at_table}

-- ---- one more

pub cost_row_more : (I : Session) (p : ℕ) (cost_row : List (Amounts ℕ))
    → ((q : ℕ) → q < length cost_row → slice_get cost_row q ≡ Some (costs_of I p q))
    → (q : ℕ) → q < length (cost_row ++ costs_of I p (length cost_row) ∷ [])
    → slice_get (cost_row ++ costs_of I p (length cost_row) ∷ []) q ≡ Some (costs_of I p q)
cost_row_more I p cost_row each q lt =
    elim (cases_lt q (length cost_row))
    as (λ _. slice_get (cost_row ++ costs_of I p (length cost_row) ∷ []) q ≡ Some (costs_of I p q)) [
      | inl before ↦ slice_get_kept cost_row (costs_of I p (length cost_row)) q before ∙ each q before
      | inr after ↦
          (let last : q
          ≡ length cost_row = omega (arith, length-append cost_row (costs_of I p (length cost_row) ∷ [])) in
          slice_get_push cost_row (costs_of I p (length cost_row)) q last
          ∙ ap (λ n. Some (costs_of I p n)) (sym last))
    ]

pub table_more : (P : ℕ → CostRow → Type 0) (cost_rows : List CostRow) (new : CostRow) → P (length cost_rows) new
    → ((p : ℕ) (cost_row : CostRow) → slice_get cost_rows p ≡ Some cost_row → P p cost_row)
    → (p : ℕ) (cost_row : CostRow) → slice_get (cost_rows ++ new ∷ []) p ≡ Some cost_row → P p cost_row
table_more P cost_rows new is each p cost_row found = elim (cases_lt p (length cost_rows)) as (λ _. P p cost_row) [
  | inl before ↦ each p cost_row (sym (slice_get_kept cost_rows new p before) ∙ found)
  | inr after ↦
      (let within = slice_get_within (cost_rows ++ new ∷ []) p cost_row found in
      let last : p ≡ length cost_rows = omega (arith, length-append cost_rows (new ∷ [])) in
      let same : Some new ≡ Some cost_row = sym (slice_get_push cost_rows new p last) ∙ found in
      let one : new ≡ cost_row = cc in
      subst (λ v. P p v) one (subst (λ n. P n new) (sym last) is))
]

-- ---- one cost row

-- the cost row that was found at an index
pub cost_row_found : (cost_rows : List CostRow) (n p : ℕ) (cost_row : CostRow) → n ≡ p → n < length cost_rows
    → cost_row ≡ get_or cost_rows n cost_row → slice_get cost_rows p ≡ Some cost_row
cost_row_found cost_rows n p cost_row same within is = grind (arith, slice_get-get_or)

pub cost_at : (I : Session) (p q : ℕ) (a : Amounts ℕ) → a ≡ costs_of I p q → (k : TableKind)
    → table_amount a k ≡ table_cost I k q p
cost_at I p q a is k = ap (λ z. table_amount z k) is ∙ at_table (λ k. table_cost I k q p) k

pub free_at : (I : Session) (p q : ℕ) → costs_of I p q ≡ by_table (λ k. 0) → (k : TableKind)
    → table_cost I k q p ≡ 0
free_at I p q free in_row = ap (λ a. a.row) free
free_at I p q free in_day = ap (λ a. a.day) free
free_at I p q free in_spread = ap (λ a. a.spread) free

-- ---- beyond the periods

none_beyond : (periods : List Period) (weights : Weights) (k : TableKind) (p q : ℕ)
    → length periods ≤ q → kind_cost periods weights (in_table k) q p ≡ 0
none_beyond periods weights in_row p q h = grind (arith, slice_get_past)
none_beyond periods weights in_day p q h = grind (arith, slice_get_past)
none_beyond periods weights in_spread p q h = grind (arith, le-ltb)

-- no period costs anything with one beyond them
pub table_beyond : (I : Session) (k : TableKind) (p q : ℕ) → length I.periods ≤ p
    → table_cost I k q p ≡ 0
table_beyond I k p q past =
    kind_cost-swap I.periods I.weights (in_table k) q p
    ∙ none_beyond I.periods I.weights k q p past
