-- Rows of drafts, one after another.
use Rattle.std.proofs.lemmas.Grind.{common_steps}
use Rattle.std.proofs.Common.{◌≡◌, ◌≢◌, ℕ, ◌+◌, ◌<◌, ◌≤◌, Bool, true, cond, eqb, List, [], ◌∷◌, ◌++◌, map, length, get_or, set, take, option_map, refl, sym, ◌∙◌, ap, ap₂, arith, subst}
use Rattle.std.proofs.lemmas.Bool.{eq-eqb, eqb-true, false_from_ne_true, ne_eqb}
use Rattle.std.proofs.lemmas.Bool.Decides.{nat_tests}
use Rattle.std.proofs.lemmas.List.{length-map, length-take, append-nil, get_or-set_other, get_or-set_same, get_or-take, get_or_default, take_more}
use Rattle.std.proofs.lemmas.List.Elements.{All-push, filter-append, recursion_from_All, All-from_recursion}
use Rattle.std.proofs.lemmas.List.Sorted.{length_permutation}
use Rattle.std.specs.List.{list_all, list_any}
use Rattle.std.specs.Prelude.{All, IsSome, IsPermutation, Option, Some, None, is_some}
use Rattle.std.proofs.lemmas.Option.{same_Some}
use Rattle.exam_lists.proofs.Passing.{all_pass, each_passes, found_one, none_pass, one_passes, passes_at, two_pass}
use Rattle.sqlite_trees.proofs.ListLemmas.{IsPermutation-same}
use Rattle.exam_model.specs.Enrolments.{Enrolled}
use Rattle.exam_model.specs.Instance.{Session}
use Rattle.exam_model.specs.Timetable.{Placing}
use Rattle.exam_score.specs.Track.{track}
use Rattle.office_tables.specs.declared.tables.draft.DraftRow.{DraftRow}
use Rattle.office_tables.specs.declared.tables.slot.SlotRow.{SlotRow}
use Rattle.office_records.specs.Found.{AreDrafts, AreSlots}
use Rattle.office_records.specs.Memory.{AreScoredDrafts, AreSuited, draft_at, with_penalty}
use Rattle.office_records.specs.declared.drafts.Draft.{Draft}
use Rattle.office_model.specs.Office.{set_at}
use Rattle.office_records.specs.Representation.{parts_of}
use Rattle.office_records.specs.TableRows.{drafts_at, slots_at, slot_rows, number_if}

abbrev no_of : DraftRow → ℕ
no_of row = row.no

-- whether a row is of this draft
abbrev is_of : ℕ → DraftRow → Bool
is_of d row = eqb row.no d

abbrev is_slot_of : ℕ → SlotRow → Bool
is_slot_of d slot = eqb slot.draft d

-- whether a slot's draft has a row
abbrev has_row : List DraftRow → SlotRow → Bool
has_row found slot = list_any (is_of slot.draft) found

-- ---- one number

-- a fact of the value that is put at a number, and of all others
set_each : {X : Type 0} (P : ℕ → X → Type 0) (n : ℕ) (x : X) (f : ℕ → X) → P n x
    → ((d : ℕ) → d ≢ n → P d (f d)) → (d : ℕ) → P d (set_at n x f d)
set_each P n x f here others d = grind (arith, common_steps)

-- ---- the first rows

-- these rows are drafts, with their places and their penalties; more may follow
pub record Begun (I : Session) (E : Enrolled) (found : List DraftRow) (places : List SlotRow)
    (draft : ℕ → Option Placing) : Type 0 where
  pub numbered : (d : ℕ) → IsSome (draft d) → (1 ≤ d) × (d ≤ 8)
  pub rows : (d : ℕ) → map no_of (drafts_at d found) ≡ number_if (is_some (draft d)) d
  pub slots : (d : ℕ) (T : Placing) → draft d ≡ Some T → AreSlots I d places T
  pub scored : All
      (λ row. (T : Placing) → draft row.no ≡ Some T → parts_of row ≡ track I E T) found

-- no rows means no drafts
pub begun_none : (I : Session) (E : Enrolled) (places : List SlotRow)
    → Begun I E [] places (λ d. None)
begun_none I E places = grind (arith, common_steps)

module _ (I : Session) (E : Enrolled) (found : List DraftRow) (places : List SlotRow)
    (draft : ℕ → Option Placing) (h : Begun I E found places draft)
    (row : DraftRow) (T : Placing)
    (within : (1 ≤ row.no) × (row.no ≤ 8)) (new : All (λ (r : DraftRow). r.no ≢ row.no) found)
    (slots : AreSlots I row.no places T) (parts : parts_of row ≡ track I E T) where
  abbrev pub drafted : ℕ → Option Placing
  drafted = set_at row.no (Some T) draft

  -- one more row, with a number that none of these has
  pub begun_more : Begun I E (found ++ row ∷ []) places drafted
  begun_more = record {
    numbered = set_each (λ d o. IsSome o → (1 ≤ d) × (d ≤ 8)) row.no (Some T) draft (λ _. within)
        (λ d other. h.numbered d);
    rows = λ d. ap (map no_of) (filter-append (is_of d) found (row ∷ []))
        ∙ set_each (λ d o. map no_of (drafts_at d found ++ cond (eqb row.no d) (row ∷ []) [])
        ≡ number_if (is_some o) d) row.no (Some T) draft
        (ap₂ (λ l b. map no_of (l ++ cond b (row ∷ []) []))
        (none_pass (is_of row.no) found (λ k r lt. ne_eqb _ _ (new k r lt)))
        (eq-eqb row.no row.no refl))
        (λ d other.
        ap (λ b. map no_of (drafts_at d found ++ cond b (row ∷ []) []))
        (ne_eqb row.no d (λ same. other (sym same)))
        ∙ ap (map no_of) (append-nil (drafts_at d found)) ∙ h.rows d) d;
    slots = set_each (λ d o. (U : Placing) → o ≡ Some U → AreSlots I d places U) row.no (Some T)
        draft (λ U is. subst (AreSlots I row.no places) (same_Some T U is) slots)
        (λ d other. h.slots d);
    scored = All-push (λ r. (U : Placing) → drafted r.no ≡ Some U → parts_of r ≡ track I E U)
        found row
        (λ k r lt U is. h.scored k r lt U
        (sym (ap (λ b. cond b (Some T) (draft (get_or found k r).no)) (ne_eqb _ _ (new k r lt)))
        ∙ is))
        (λ U is. parts ∙ ap (track I E) (same_Some T U
        (sym (ap (λ b. cond b (Some T) (draft row.no)) (eq-eqb row.no row.no refl)) ∙ is)));
  }

-- the next row of a list, and its draft
pub begun_next : (I : Session) (E : Enrolled) (found : List DraftRow) (places : List SlotRow)
    (i : ℕ) (z : DraftRow) → i < length found → (drafts : List (Option Draft)) (new : Draft)
    → ((draft : ℕ → Option Placing) × Begun I E (take i found) places draft
    × AreScoredDrafts I E draft drafts)
    → length drafts ≡ 9
    → (1 ≤ (get_or found i z).no) × ((get_or found i z).no ≤ 8)
    × All (λ (r : DraftRow). r.no ≢ (get_or found i z).no) (take i found)
    → AreSlots I (get_or found i z).no places new.timetable
    × (parts_of (get_or found i z) ≡ track I E new.timetable)
    → new ≡ with_penalty I E new.timetable
    → (draft : ℕ → Option Placing) × Begun I E (take (i + 1) found) places draft
    × AreScoredDrafts I E draft (set drafts (get_or found i z).no (Some new))
begun_next I E found places i z lt drafts new old size next placed scored =
    let row = get_or found i z in
    let below = next.1 in (
      set_at row.no (Some new.timetable) old.0,
      subst (λ l. Begun I E l places (set_at row.no (Some new.timetable) old.0))
          (sym (take_more found i z lt))
          (begun_more I E (take i found) places old.0 old.1 row new.timetable (next.0, next.1)
          next.2 placed.0 placed.1),
      set_each (λ d o. draft_at (set drafts row.no (Some new)) d ≡ option_map (with_penalty I E) o)
          row.no (Some new.timetable) old.0
          (get_or-set_same drafts row.no (Some new) None (omega (arith, size, below))
          ∙ ap Some scored)
          (λ d other. get_or-set_other drafts row.no d (Some new) None other ∙ old.2 d),
    )

-- the drafts suit the session
pub drafts_suited : (I : Session) (E : Enrolled) (found : List DraftRow) (places : List SlotRow)
    (draft : ℕ → Option Placing) (drafts : List (Option Draft)) → AreDrafts I E found places draft
    → AreScoredDrafts I E draft drafts → AreSuited I drafts
drafts_suited I E found places draft drafts are scored d new at = grind (arith, common_steps)

-- all of them, if each slot is of a draft that has a row
module _ (I : Session) (E : Enrolled) (found : List DraftRow) (places : List SlotRow)
    (draft : ℕ → Option Placing) (h : Begun I E found places draft)
    (each : list_all (has_row found) places ≡ true) where
  -- a draft without a row has no slot
  places_of : (d : ℕ) (o : Option Placing) → draft d ≡ o
      → IsPermutation (slots_at d places) (slot_rows d o)
  places_of d (Some T) f = (h.slots d T f).rows
  places_of d None f =
      IsPermutation-same _ _ (none_pass (is_slot_of d) places (λ k slot lt.
      let own = get_or places k slot in
      false_from_ne_true (is_slot_of d own) (λ same.
      let one = one_passes (is_of d) found
      (subst (λ n. list_any (is_of n) found ≡ true) (eqb-true own.draft d same)
      (each_passes (has_row found) places each k slot lt)) in
      let long = ap length (h.rows d ∙ ap (λ o. number_if (is_some o) d) f) in
      omega (arith, long, length-map (drafts_at d found) no_of, one))))

  pub begun_all : length E ≡ length I.exams → AreDrafts I E found places draft
  begun_all exams = record {
    numbered = h.numbered;
    fits = λ d T is. record {
      enrolments = exams;
      timetable = (h.slots d T is).exams;
      places = (h.slots d T is).places;
    };
    rows = h.rows;
    slots = λ d. places_of d (draft d) refl;
    scored = recursion_from_All
        (λ row. (T : Placing) → draft row.no ≡ Some T → parts_of row ≡ track I E T) found h.scored;
  }

-- ---- facts about drafts

module _ (I : Session) (E : Enrolled) (found : List DraftRow) (places : List SlotRow)
    (draft : ℕ → Option Placing) (h : AreDrafts I E found places draft) where
  -- how many rows a draft has
  count : (d : ℕ) (o : Option Placing) → draft d ≡ o
      → length (drafts_at d found) ≡ cond (is_some o) 1 0
  count d o f = grind (arith, common_steps)

  -- a row is of a draft
  drafted_at : (d : ℕ) → 1 ≤ length (drafts_at d found) → (o : Option Placing) → draft d ≡ o
      → (T : Placing) × (o ≡ Some T)
  drafted_at d one (Some T) f = (T, refl)
  drafted_at d one None f = absurd (omega (arith, one, count d None f))

  -- a draft with a slot has a row
  row_at : (d : ℕ) → 1 ≤ length (slots_at d places) → (o : Option Placing) → draft d ≡ o
      → list_any (is_of d) found ≡ true
  row_at d one (Some T) f = found_one (is_of d) found (omega (arith, count d (Some T) f))
  row_at d one None f = grind (arith, common_steps, length_permutation)

  -- each slot is of a draft that has a row
  pub each_slot : list_all (has_row found) places ≡ true
  each_slot =
      all_pass (has_row found) places
      (λ k slot lt. let d = (get_or places k slot).draft in
      let here : is_slot_of d (get_or places k slot) ≡ true = grind (arith, nat_tests) in
      row_at d (passes_at (is_slot_of d) places k slot lt here) (draft d) refl)

  module _ (i : ℕ) (z : DraftRow) (lt : i < length found) where
    abbrev row : DraftRow
    row = get_or found i z

    -- the row's number, with any default past the end
    number_is : (d : DraftRow) → eqb (get_or found i d).no row.no ≡ true
    number_is d =
        let same : (get_or found i d).no ≡ row.no = ap no_of (get_or_default found i d z lt) in
        grind (arith, nat_tests, same)

    placing : (T : Placing) × (draft row.no ≡ Some T)
    placing = drafted_at row.no (passes_at (is_of row.no) found i z lt (number_is z))
        (draft row.no) refl

    -- a row has a number that no earlier row has
    pub next_row : (1 ≤ row.no) × (row.no ≤ 8)
        × All (λ (r : DraftRow). r.no ≢ row.no) (take i found)
    next_row =
        let within = h.numbered row.no (ap is_some placing.1) in (
          within.0,
          within.1,
          λ j r below same.
              let before : j < i = omega (arith, below, length-take {A = DraftRow}) in
              let there : (get_or found j r).no ≡ row.no =
              ap no_of (sym (get_or-take i found j r before)) ∙ same in
              let two = two_pass (is_of row.no) found j i r before lt
              (grind (arith, nat_tests, there)) (number_is r) in
              omega (arith, two, count row.no (Some placing.0) placing.1),
        )

    -- the row's draft has a timetable, and the row stores its penalty
    pub scored_row : (T : Placing) × AreSlots I row.no places T × (parts_of row ≡ track I E T)
    scored_row = (
      placing.0,
      record {
        exams = (h.fits row.no placing.0 placing.1).timetable;
        places = (h.fits row.no placing.0 placing.1).places;
        rows = subst (λ o. IsPermutation (slots_at row.no places) (slot_rows row.no o)) placing.1
            (h.slots row.no);
      },
      All-from_recursion
          (λ row. (T : Placing) → draft row.no ≡ Some T → parts_of row ≡ track I E T) found h.scored
          i z lt placing.0 placing.1,
    )
