-- The places of a timetable, row by row.
use Rattle.std.proofs.lemmas.Grind.{common_steps}
use Rattle.std.proofs.Common.{◌≡◌, ◌≢◌, ℕ, zero, suc, ◌+◌, ◌<◌, List, [], ◌∷◌, ◌++◌, length, take, drop, get_or, set, option_map, Option, Some, None, refl, sym, ◌∙◌, ap, subst, arith}
use Rattle.std.specs.Prelude.{IfSome, IsPermutation, replicate}
use Rattle.std.specs.List.{AllByRecursion}
use Rattle.std.proofs.Math.Seq.{split_at}
use Rattle.std.proofs.lemmas.List.{take_more, ext_get_or, length-set, length-replicate, get_or-replicate}
use Rattle.std.proofs.lemmas.List.Elements.{All-set}
use Rattle.std.proofs.lemmas.List.Sorted.{IsPermutation-cons, IsPermutation-sym, IsPermutation-trans, IsPermutation-middle, IsPermutation-push_more}
use Rattle.exam_lists.proofs.Chains.{IsChain, chain_before, chain_weaker}
use Rattle.exam_lists.proofs.Each.{each_at_middle}
use Rattle.exam_lists.proofs.Permutations.{chain_permutation}
use Rattle.sqlite_trees.proofs.ListLemmas.{IsPermutation-same, all-permutation}
use Rattle.exam_model.specs.Fits.{PlaceExists}
use Rattle.exam_model.specs.Instance.{Session}
use Rattle.exam_model.specs.Timetable.{Placing}
use Rattle.exam_terms.specs.declared.place.Place.{Place}
use Rattle.office_tables.specs.declared.tables.slot.SlotRow.{SlotRow}
use Rattle.office_records.specs.Found.{AreSlots}
use Rattle.office_records.specs.NextRow.{IsFree, IsSlotPlaced}
use Rattle.office_records.specs.TableRows.{slots_at, slots_from, slot_row}
use Rattle.exam_lists.proofs.Numbered.{AreRowsOf, each_numbered, numbered_each, rows_rise}

-- ---- the rows of a timetable

pub slots_are : (d : ℕ) → AreRowsOf (slots_from d) (λ e o. option_map (slot_row d e) o)
slots_are d = grind (arith, common_steps)

-- a free exam gets a place: one more row
slots_set : (d k n e : ℕ) (at : Place) (T : Placing) → n ≡ k + e → e < length T
    → get_or T e None ≡ None
    → IsPermutation (slots_from d k (set T e (Some at))) (slot_row d n at ∷ slots_from d k T)
slots_set d k n e at [] is within free = absurd (omega arith)
slots_set d k n zero at (None ∷ T) is within free =
    IsPermutation-same _ _ (ap (λ m. slot_row d m at ∷ slots_from d (k + 1) T) (omega arith))
slots_set d k n zero at (Some x ∷ T) is within free = absurd cc
slots_set d k n (suc e) at (None ∷ T) is within free =
    slots_set d (k + 1) n e at T (omega arith) (omega arith) free
slots_set d k n (suc e) at (Some x ∷ T) is within free =
    IsPermutation-trans _ _ _
    (IsPermutation-cons (slot_row d k x) _ _
    (slots_set d (k + 1) n e at T (omega arith) (omega arith) free))
    (IsPermutation-middle (slot_row d k x ∷ []) (slot_row d n at) (slots_from d (k + 1) T))

-- a fact about each placed exam's row holds for the rows
pub rows_each : (P : SlotRow → Type 0) (d k : ℕ) (T : Placing)
    → ((e n : ℕ) (at : Place) → e < length T → n ≡ k + e → get_or T e None ≡ Some at
    → P (slot_row d n at)) → AllByRecursion P (slots_from d k T)
rows_each P d k T h =
    each_numbered (slots_are d) P None k T
    (λ e n within is. one e n (get_or T e None) refl within is)
  where
    one : (e n : ℕ) (o : Option Place) → get_or T e None ≡ o → e < length T → n ≡ k + e
        → IfSome (option_map (slot_row d n) o) P
    one e n None there within is = tt
    one e n (Some at) there within is = h e n at within is there

-- a placed exam exists
placed_within : (T : Placing) (e : ℕ) (at : Place) → get_or T e None ≡ Some at → e < length T
placed_within [] e at is = absurd cc
placed_within (x ∷ T) zero at is = omega arith
placed_within (x ∷ T) (suc e) at is = let more = placed_within T e at is in omega (arith, more)

-- a fact about the rows holds for each placed exam's row
each_row : (P : SlotRow → Type 0) (d e : ℕ) (at : Place) (T : Placing)
    → AllByRecursion P (slots_from d 0 T) → get_or T e None ≡ Some at → P (slot_row d e at)
each_row P d e at T all is =
    subst (λ o. IfSome (option_map (slot_row d e) o) P) is
    (numbered_each (slots_are d) P None 0 e e T (placed_within T e at is) (omega arith) all)

-- the place of a row's exam
abbrev pub place_in : SlotRow → Place
place_in row = record { period = row.period; room = row.room }

abbrev HasPlaceIn : Placing → SlotRow → Type 0
HasPlaceIn T row = get_or T row.exam None ≡ Some (place_in row)

-- each row has its exam's place
rows_placed : (d : ℕ) (T : Placing) → AllByRecursion (HasPlaceIn T) (slots_from d 0 T)
rows_placed d T =
    rows_each (HasPlaceIn T) d 0 T
    (λ e n at within is there. ap (λ m. get_or T m None)
    (let same : n ≡ e = omega arith in same) ∙ there)

abbrev AreOfOthers : SlotRow → SlotRow → Type 0
AreOfOthers x y = x.exam ≢ y.exam

-- no two rows are of one exam
rows_apart : (d : ℕ) (T : Placing) → IsChain AreOfOthers (slots_from d 0 T)
rows_apart d T =
    chain_weaker (λ x y. x.exam < y.exam) AreOfOthers (λ x y less same. omega (arith, less, same)) _
    (rows_rise (slots_are d) (λ (row : SlotRow). row.exam) keyed 0 T)
  where
    keyed : (e : ℕ) (o : Option Place)
        → IfSome (option_map (slot_row d e) o) (λ (row : SlotRow). row.exam ≡ e)
    keyed e None = tt
    keyed e (Some at) = refl

-- ---- the rows determine the timetable

-- an exam placed in the one is placed in the other
placed_too : (I : Session) (d : ℕ) (found : List SlotRow) (T U : Placing) → AreSlots I d found T
    → AreSlots I d found U → (e : ℕ) (at : Place) → get_or T e None ≡ Some at
    → get_or U e None ≡ Some at
placed_too I d found T U t u e at =
    each_row (HasPlaceIn U) d e at T
    (all-permutation (HasPlaceIn U) (slots_from d 0 U) (slots_from d 0 T)
    (IsPermutation-trans _ _ _ (IsPermutation-sym _ _ u.rows) t.rows) (rows_placed d U))

same_at : (x y : Option Place) → ((at : Place) → x ≡ Some at → y ≡ Some at)
    → ((at : Place) → y ≡ Some at → x ≡ Some at) → x ≡ y
same_at (Some at) y there back = sym (there at refl)
same_at None (Some at) there back = back at refl
same_at None None there back = refl

-- rows are the places of one timetable at most
pub same_timetable : (I : Session) (d : ℕ) (found : List SlotRow) (T U : Placing)
    → AreSlots I d found T → AreSlots I d found U → T ≡ U
same_timetable I d found T U t u =
    ext_get_or None T U (t.exams ∙ sym u.exams)
    (λ e within. same_at _ _ (placed_too I d found T U t u e) (placed_too I d found U T u t e))

-- ---- row by row

none_placed : (d k n : ℕ) → slots_from d k (replicate n None) ≡ []
none_placed d k zero = refl
none_placed d k (suc n) = none_placed d (k + 1) n

-- no rows are the places of a timetable without any
pub no_slots : (I : Session) (d : ℕ) → AreSlots I d [] (replicate (length I.exams) None)
no_slots I d = grind (arith, common_steps, length-replicate, get_or-replicate, none_placed)

module _ (I : Session) (d i : ℕ) (found : List SlotRow) (o : SlotRow) (within : i < length found)
    (T : Placing) (are : AreSlots I d (take i found) T) where
  abbrev row : SlotRow
  row = get_or found i o

  abbrev done : List SlotRow
  done = take i found

  -- the next row is of another draft
  pub next_other : (row.draft ≡ d → ⊥) → AreSlots I d (take (i + 1) found) T
  next_other other = grind (arith, common_steps)

  module _ (own : row.draft ≡ d) where
    parted : (rest : List SlotRow)
        → slots_at d (done ++ row ∷ rest) ≡ slots_at d done ++ row ∷ slots_at d rest
    parted rest = grind (arith, common_steps)

    -- the next row is of a free exam
    pub next_put : (U : Placing) → IsSlotPlaced I row T U → AreSlots I d (take (i + 1) found) U
    next_put U put =
        subst (λ l. AreSlots I d l U) (sym (take_more found i o within))
        (subst (AreSlots I d (done ++ row ∷ [])) (sym put.set) (record {
          exams = length-set T row.exam (Some (place_in row)) ∙ are.exams;
          places = All-set (PlaceExists I) T row.exam (Some (place_in row))
              (put.free.period, put.free.room) are.places;
          rows = subst (λ l. IsPermutation l
              (slots_from d 0 (set T row.exam (Some (place_in row))))) (sym (parted []))
              (IsPermutation-push_more (slots_at d done) (slots_from d 0 T) _ row are.rows
              (IsPermutation-sym _ _
              (subst (λ r. IsPermutation (slots_from d 0 (set T row.exam (Some (place_in row))))
              (r ∷ slots_from d 0 T)) (ap (λ n. slot_row n row.exam (place_in row)) (sym own))
              (slots_set d 0 row.exam row.exam (place_in row) T (omega arith)
              (let long = are.exams in let exists = put.free.exam in omega (arith, long, exists))
              put.free.nowhere))));
        }))

    -- the next row excludes every timetable
    pub next_bad : (IsFree I row T → ⊥) → (U : Placing) → AreSlots I d found U → ⊥
    next_bad not_free U all =
        not_free (record {
          exam = let long = all.exams in omega (arith, long, exists);
          period = place.0;
          room = place.1;
          nowhere = free (get_or T row.exam None) refl;
        })
      where
        rest : List SlotRow
        rest = slots_at d (drop (suc i) found)

        back : IsPermutation (slots_from d 0 U) (slots_at d done ++ row ∷ rest)
        back = subst (IsPermutation (slots_from d 0 U))
            (ap (slots_at d) (split_at found i o within) ∙ parted (drop (suc i) found))
            (IsPermutation-sym _ _ all.rows)

        placed_there : HasPlaceIn U row
        placed_there =
            each_at_middle (HasPlaceIn U) (slots_at d done) row rest
            (all-permutation (HasPlaceIn U) _ _ back (rows_placed d U))

        exists : row.exam < length U
        exists = placed_within U row.exam (place_in row) placed_there

        place : (row.period < length I.periods) × (row.room < length I.rooms)
        place = subst (PlaceExists I) placed_there (all.places row.exam None exists)

        -- it would have two rows
        others : AllByRecursion (λ x. AreOfOthers x row) (slots_from d 0 T)
        others =
            all-permutation (λ x. AreOfOthers x row) _ _ are.rows
            (chain_before AreOfOthers (slots_at d done) row rest
            (chain_permutation AreOfOthers (λ x y other same. other (sym same)) _ _ back (rows_apart d U)))

        free : (o : Option Place) → get_or T row.exam None ≡ o → get_or T row.exam None ≡ None
        free None is = is
        free (Some at) is =
            absurd (each_row (λ x. AreOfOthers x row) d row.exam at T others is refl)
