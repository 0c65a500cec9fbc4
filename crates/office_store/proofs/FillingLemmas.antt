-- Drafts that are made number by number, and their rows.
use Rattle.std.proofs.Common.{◌≡◌, ℕ, ◌+◌, ◌<◌, ◌≤◌, ◌≢◌, inl, inr, true, false, eqb, cond, List, ◌∷◌, ◌++◌, length, map, set, Option, Some, None, refl, sym, ◌∙◌, ap, subst, arith, []}
use Rattle.std.specs.List.{AllByRecursion}
use Rattle.std.specs.Prelude.{IfSome, is_some}
use Rattle.std.proofs.lemmas.Bool.{cases_eq, cases_lt}
use Rattle.std.proofs.lemmas.Bool.Decides.{nat_tests}
use Rattle.std.proofs.lemmas.List.{append-nil, get_or-set_same, get_or-set_other, length-set, map-append}
use Rattle.std.proofs.lemmas.List.Elements.{filter-append}
use Rattle.std.proofs.lemmas.Option.{same_Some}
use Rattle.sqlite.proofs.StateLemmas.{at_each}
use Rattle.sqlite_trees.proofs.ListLemmas.{all-append}
use Rattle.exam_model.specs.Enrolments.{Enrolled}
use Rattle.exam_model.specs.Instance.{Session}
use Rattle.exam_score.specs.Track.{track}
use Rattle.office_tables.specs.Tables.Draft.{AreAmounts}
use Rattle.office_tables.specs.declared.tables.draft.DraftRow.{DraftRow}
use Rattle.office_tables.specs.declared.tables.draft.InsertDraft.{InsertDraft}
use Rattle.office_records.specs.Representation.{parts_of}
use Rattle.office_records.specs.TableRows.{drafts_at, number_if}
use Rattle.office_records.specs.Memory.{draft_at}
use Rattle.office_records.specs.declared.drafts.Draft.{Draft}
use Rattle.office_store.specs.Memory.{AreDraftRows, AreScored}

-- ---- drafts of the first numbers

-- these are the drafts of the smaller numbers; the other numbers have none
pub record AreMade (made : List (Option Draft)) (n : ℕ) (drafts : ℕ → Option Draft) : Type 0 where
  pub done : (d : ℕ) → d < n → draft_at made d ≡ drafts d
  pub rest : (d : ℕ) → n ≤ d → draft_at made d ≡ None
  pub size : length made ≡ 9

pub none_made : (made : List (Option Draft)) (drafts : ℕ → Option Draft)
    → ((d : ℕ) → draft_at made d ≡ None) → length made ≡ 9 → AreMade made 0 drafts
none_made made drafts none size = record {
  done = λ d low. absurd (omega (arith, low));
  rest = λ d _. none d;
  size = size;
}

-- one more
pub one_made : (made : List (Option Draft)) (n : ℕ) (drafts : ℕ → Option Draft) (x : Option Draft)
    → AreMade made n drafts → n < 9 → x ≡ drafts n
    → AreMade (set made n x) (n + 1) drafts
one_made made n drafts x are n_low is = record {
  done = λ d low. elim (cases_eq d n) [
    | inl here ↦ ap (draft_at (set made n x)) here
        ∙ get_or-set_same made n x None (let size = are.size in omega (arith, n_low, size)) ∙ is
        ∙ ap drafts (sym here)
    | inr other ↦ get_or-set_other made n d x None other ∙ are.done d (omega (arith, low, other))
  ];
  rest = λ d high. get_or-set_other made n d x None (λ same. omega (arith, high, same))
      ∙ are.rest d (omega (arith, high));
  size = length-set made n x ∙ are.size;
}

-- all of them
pub all_made : (made : List (Option Draft)) (n : ℕ) (drafts : ℕ → Option Draft)
    → AreMade made n drafts → ((d : ℕ) → n ≤ d → drafts d ≡ None)
    → (d : ℕ) → draft_at made d ≡ drafts d
all_made made n drafts are none d = elim (cases_lt d n) [
  | inl low ↦ are.done d low
  | inr high ↦ are.rest d high ∙ sym (none d high)
]

-- a draft of scored ones, if there is one
pub draft_scored : (I : Session) (E : Enrolled) (drafts : List (Option Draft)) (d : ℕ)
    → AreScored I E drafts
    → IfSome (draft_at drafts d) (λ draft. draft.parts ≡ track I E draft.timetable)
draft_scored I E drafts d scored = at_each (draft_at drafts d) _ (scored d)

-- ---- rows of the drafts of the first numbers

abbrev IsPricedBy : List (Option Draft) → DraftRow → Type 0
IsPricedBy drafts row =
    (draft : Draft) → draft_at drafts row.no ≡ Some draft → parts_of row ≡ draft.parts

pub record AreFirstRows (drafts : List (Option Draft)) (n : ℕ) (rows : List DraftRow) : Type 0 where
  pub below : (d : ℕ) → d < n
      → map (λ (row : DraftRow). row.no) (drafts_at d rows) ≡ number_if (is_some (draft_at drafts d)) d
  pub beyond : (d : ℕ) → n ≤ d → drafts_at d rows ≡ []
  pub scored : AllByRecursion (IsPricedBy drafts) rows

pub no_rows : (drafts : List (Option Draft)) → AreFirstRows drafts 0 []
no_rows drafts = record {
  below = λ d low. absurd (omega (arith, low));
  beyond = λ d _. refl;
  scored = tt;
}

-- a number without a draft
pub none_more : (drafts : List (Option Draft)) (n : ℕ) (rows : List DraftRow)
    → AreFirstRows drafts n rows → draft_at drafts n ≡ None → AreFirstRows drafts (n + 1) rows
none_more drafts n rows are none = record {
  below = λ d low. elim (cases_eq d n) [
    | inl here ↦ ap (map (λ (row : DraftRow). row.no)) (are.beyond d (omega (arith, here)))
        ∙ sym (ap (λ x. number_if (is_some x) d) (ap (draft_at drafts) here ∙ none))
    | inr other ↦ are.below d (omega (arith, low, other))
  ];
  beyond = λ d high. are.beyond d (omega (arith, high));
  scored = are.scored;
}

-- a draft's row
pub row_more : (drafts : List (Option Draft)) (n : ℕ) (rows : List DraftRow) (draft : Draft)
    (row : DraftRow) → AreFirstRows drafts n rows → draft_at drafts n ≡ Some draft → row.no ≡ n
    → parts_of row ≡ draft.parts → AreFirstRows drafts (n + 1) (rows ++ row ∷ [])
row_more drafts n rows draft row are some number parts = record {
  below = λ d low. elim (cases_eq d n) [ inl here ↦ own d here | inr other ↦ others d other low ];
  beyond = λ d high. at_end d ∙ ap (λ l. l ++ cond (eqb row.no d) (row ∷ []) []) (are.beyond d
      (omega (arith, high)))
      ∙ not_here d (grind (arith, nat_tests, high, number));
  scored = all-append (IsPricedBy drafts) rows (row ∷ []) are.scored (priced, tt);
}
  where
    at_end : (d : ℕ) → drafts_at d (rows ++ row ∷ [])
        ≡ drafts_at d rows ++ cond (eqb row.no d) (row ∷ []) []
    at_end d = filter-append (λ (r : DraftRow). eqb r.no d) rows (row ∷ [])

    not_here : (d : ℕ) → eqb row.no d ≡ false → cond (eqb row.no d) (row ∷ []) [] ≡ []
    not_here d other = ap (λ b. cond {A = List DraftRow} b (row ∷ []) []) other

    priced : IsPricedBy drafts row
    priced other at =
        parts ∙ ap (λ (x : Draft). x.parts)
        (same_Some _ _ (sym some ∙ ap (draft_at drafts) (sym number) ∙ at))

    own : (d : ℕ) → d ≡ n → map (λ (row : DraftRow). row.no) (drafts_at d (rows ++ row ∷ []))
        ≡ number_if (is_some (draft_at drafts d)) d
    own d here =
        let passes : eqb row.no d ≡ true = grind (arith, nat_tests, here, number) in
        ap (map (λ (row : DraftRow). row.no)) (at_end d
        ∙ ap (λ l. l ++ cond (eqb row.no d) (row ∷ []) []) (are.beyond d (omega (arith, here)))
        ∙ ap (λ b. cond {A = List DraftRow} b (row ∷ []) []) passes)
        ∙ ap (λ k. k ∷ []) (number ∙ sym here)
        ∙ sym (ap (λ x. number_if (is_some x) d) (ap (draft_at drafts) here ∙ some))

    others : (d : ℕ) → d ≢ n → d < n + 1
        → map (λ (row : DraftRow). row.no) (drafts_at d (rows ++ row ∷ []))
        ≡ number_if (is_some (draft_at drafts d)) d
    others d other low =
        ap (map (λ (row : DraftRow). row.no)) (at_end d
        ∙ ap (λ l. drafts_at d rows ++ l) (not_here d (grind (arith, nat_tests, other, number)))
        ∙ append-nil (drafts_at d rows))
        ∙ are.below d (omega (arith, low, other))

-- all of them
pub all_rows : (drafts : List (Option Draft)) (n : ℕ) (rows : List DraftRow)
    → AreFirstRows drafts n rows → ((d : ℕ) → n ≤ d → draft_at drafts d ≡ None)
    → AreDraftRows drafts rows
all_rows drafts n rows are none = record {
  numbers = λ d. elim (cases_lt d n) [
    | inl low ↦ are.below d low
    | inr high ↦ ap (map (λ (row : DraftRow). row.no)) (are.beyond d high)
        ∙ sym (ap (λ x. number_if (is_some x) d) (none d high))
  ];
  scored = are.scored;
}

-- the rows of one number more, as parts of a transaction
module _ (drafts : List (Option Draft)) (n : ℕ) (old new : List InsertDraft)
    (are : AreFirstRows drafts n (map (λ (it : InsertDraft). it.row) old))
    (small : AllByRecursion (λ (it : InsertDraft). AreAmounts it.row) old) where
  pub record AreMore : Type 0 where
    pub rows : AreFirstRows drafts (n + 1) (map (λ (it : InsertDraft). it.row) new)
    pub amounts : AllByRecursion (λ (it : InsertDraft). AreAmounts it.row) new

  pub more_rows : (x : Option Draft) → draft_at drafts n ≡ x → (x ≡ None → new ≡ old)
      → ((y : Draft) → x ≡ Some y → (row : DraftRow) × (new ≡ old ++ (record { row = row } ∷ []))
      × (row.no ≡ n) × (parts_of row ≡ y.parts) × AreAmounts row)
      → AreMore
  more_rows None at same adds =
      let is = same refl in
      record {
        rows = subst (λ l. AreFirstRows drafts (n + 1) (map (λ (it : InsertDraft). it.row) l))
            (sym is) (none_more drafts n (map (λ (it : InsertDraft). it.row) old) are at);
        amounts = subst (AllByRecursion (λ (it : InsertDraft). AreAmounts it.row)) (sym is) small;
      }
  more_rows (Some y) at same adds =
      let added = adds y refl in
      let one : InsertDraft = record { row = added.0 } in
      let rows = map-append (λ (it : InsertDraft). it.row) old (one ∷ []) in
      record {
        rows = subst (λ l. AreFirstRows drafts (n + 1) (map (λ (it : InsertDraft). it.row) l))
            (sym added.1)
            (subst (AreFirstRows drafts (n + 1)) (sym rows)
            (row_more drafts n (map (λ (it : InsertDraft). it.row) old) y added.0 are at added.2
            added.3));
        amounts = subst (AllByRecursion (λ (it : InsertDraft). AreAmounts it.row)) (sym added.1)
            (all-append (λ (it : InsertDraft). AreAmounts it.row) old (one ∷ []) small
            (added.4, tt));
      }
