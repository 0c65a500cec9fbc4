-- A draft that is edited, and the rows of exams whose places the edit changes.
use Rattle.std.proofs.Common.{◌≡◌, ◌≢◌, ℕ, zero, suc, ◌+◌, ◌<◌, Bool, true, false, cond, not, eqb, ◌&&◌, ◌||◌, List, ◌∷◌, filter, map, set, Option, Some, None, refl, sym, ◌∙◌, ap, subst, arith, length, [], Result, Ok, eqb-true}
use Rattle.std.specs.Prelude.{IsPermutation, IsSome, is_some}
use Rattle.std.specs.List.{AllByRecursion}
use Rattle.std.proofs.lemmas.Bool.{and_parts}
use Rattle.std.proofs.lemmas.Bool.Decides.{nat_tests}
use Rattle.std.proofs.lemmas.Grind.{get_or-set_at}
use Rattle.std.proofs.lemmas.List.{ext_get_or, get_or-set_other}
use Rattle.std.proofs.Math.ListN.{length-set}
use Rattle.std.proofs.lemmas.List.Sorted.{IsPermutation-refl, IsPermutation-sym, IsPermutation-trans, IsPermutation-cons, IsPermutation-middle}
use Rattle.exam_lists.proofs.Filters.{filter_swap}
use Rattle.sqlite_trees.proofs.ListLemmas.{IsPermutation-filter, filter-filter}
use Rattle.exam_model.specs.Timetable.{Placing, place_of}
use Rattle.exam_terms.specs.declared.place.Place.{Place}
use Rattle.exam_model.specs.Enrolments.{has_number, Enrolled}
use Rattle.exam_score.specs.Changes.{DiffersAtMost}
use Rattle.office_tables.specs.Tables.{with_slot, without_slot, Tables, with_draft, without_draft}
use Rattle.office_tables.specs.Alterations.{after_all, after_some}
use Rattle.office_tables.specs.declared.altering.Both.{Both}
use Rattle.office_tables.specs.declared.tables.slot.SlotRow.{SlotRow}
use Rattle.office_tables.specs.declared.tables.slot.DeleteSlot.{DeleteSlot}
use Rattle.office_tables.specs.Tables.Slot.{InsertSlot}
use Rattle.office_store.specs.Changes.{move_writes, new_place, slot_put, slots_put, edit_put}
use Rattle.office_records.specs.TableRows.{slots_at, slots_from, slot_row, drafts_at, slot_rows, number_if}
use Rattle.exam_lists.proofs.Keys.{each_left, key_replaced}
use Rattle.sqlite.specs.Effect.{Database}
use Rattle.exam_model.specs.Fits.{Fits}
use Rattle.exam_model.specs.Instance.{Session}
use Rattle.exam_terms.specs.Refusing.{◌>>=◌, unless}
use Rattle.exam_rules.specs.declared.breach.Breach.{Breach}
use Rattle.exam_rules.specs.Breaches.{least_breach_of}
use Rattle.exam_score.specs.Track.{track}
use Rattle.exam_draft.specs.Edits.{exam_exists, place_exists, is_placed, unless_broken, edit_result}
use Rattle.office_tables.specs.TablesHeld.{HoldsTables}
use Rattle.office_tables.specs.declared.tables.draft.DraftRow.{DraftRow}
use Rattle.exam_draft.specs.Judged.{edited_exams}
use Rattle.exam_draft.specs.declared.edit.Edit.{Edit}
use Rattle.office_model.specs.Office.{Records, set_at}
use Rattle.office_records.specs.Representation.{TablesRepresentRecords, IsSound, IsScoredRow, RepresentsOffice, parts_of}
use Rattle.office_model.proofs.RecordLemmas.{made_records}
use Rattle.exam_draft.specs.declared.edit.Edit.TheVariants as edit

-- ---- the places of a timetable except one

abbrev is_slot : ℕ → ℕ → SlotRow → Bool
is_slot d e s = eqb s.draft d && eqb s.exam e

abbrev but_slot : ℕ → ℕ → List SlotRow → List SlotRow
but_slot d e rows = filter (λ s. not (is_slot d e s)) rows

-- a row of another draft or exam, or the exam's own row, in front of others
stays : (d e : ℕ) (s : SlotRow) (rows : List SlotRow) → is_slot d e s ≡ false
    → but_slot d e (s ∷ rows) ≡ s ∷ but_slot d e rows
stays d e s rows f =
    ap (λ b. cond (not b) (s ∷ but_slot d e rows) (but_slot d e rows)) f

goes : (d e : ℕ) (s : SlotRow) (rows : List SlotRow) → is_slot d e s ≡ true
    → but_slot d e (s ∷ rows) ≡ but_slot d e rows
goes d e s rows f =
    ap (λ b. cond (not b) (s ∷ but_slot d e rows) (but_slot d e rows)) f

not_of_exam : (d e k : ℕ) → k ≢ e → (eqb d d && eqb k e) ≡ false
not_of_exam d e k differ = grind (arith, nat_tests, differ)

of_exam : (d e k : ℕ) → k ≡ e → (eqb d d && eqb k e) ≡ true
of_exam d e k same = grind (arith, nat_tests, same)

-- a smaller exam has no place among them
none_below : (d e k : ℕ) (T : Placing) → e < k → but_slot d e (slots_from d k T) ≡ slots_from d k T
none_below d e k [] below = refl
none_below d e k (None ∷ T) below = none_below d e (k + 1) T (omega arith)
none_below d e k (Some at ∷ T) below =
    stays d e (slot_row d k at) _ (not_of_exam d e k (omega arith))
    ∙ ap (λ l. slot_row d k at ∷ l) (none_below d e (k + 1) T (omega arith))

-- the rest is the timetable without the exam's place
left_places : (d e k i : ℕ) (T : Placing) → k + i ≡ e
    → but_slot d e (slots_from d k T) ≡ slots_from d k (set T i None)
left_places d e k i [] is = refl
left_places d e k zero (None ∷ T) is = none_below d e (k + 1) T (omega arith)
left_places d e k zero (Some at ∷ T) is =
    goes d e (slot_row d k at) _ (of_exam d e k (omega arith))
    ∙ none_below d e (k + 1) T (omega arith)
left_places d e k (suc i) (None ∷ T) is = left_places d e (k + 1) i T (omega arith)
left_places d e k (suc i) (Some at ∷ T) is =
    stays d e (slot_row d k at) _ (not_of_exam d e k (omega arith))
    ∙ ap (λ l. slot_row d k at ∷ l) (left_places d e (k + 1) i T (omega arith))

-- one place more
one_place : (d e k i : ℕ) (at : Place) (T : Placing) → k + i ≡ e → i < length T
    → IsPermutation (slot_row d e at ∷ slots_from d k (set T i None))
    (slots_from d k (set T i (Some at)))
one_place d e k i at [] is lt = absurd (omega arith)
one_place d e k zero at (o ∷ T) is lt =
    subst (λ n. IsPermutation (slot_row d n at ∷ slots_from d (k + 1) T)
    (slot_row d k at ∷ slots_from d (k + 1) T)) (let same : k ≡ e = omega arith in same)
    (IsPermutation-refl _)
one_place d e k (suc i) at (None ∷ T) is lt =
    one_place d e (k + 1) i at T (omega arith) (omega arith)
one_place d e k (suc i) at (Some b ∷ T) is lt =
    IsPermutation-trans _ _ _
    (IsPermutation-sym _ _ (IsPermutation-middle (slot_row d k b ∷ []) (slot_row d e at)
    (slots_from d (k + 1) (set T i None))))
    (IsPermutation-cons (slot_row d k b) _ _
    (one_place d e (k + 1) i at T (omega arith) (omega arith)))

-- ---- one exam has another place

module _ (d e : ℕ) where
  other_draft : (n : ℕ) → eqb n d ≡ false → (s : SlotRow) → eqb s.draft n ≡ true
      → not (is_slot d e s) ≡ true
  other_draft n f s is =
      let differs : eqb s.draft d ≡ false = grind (arith, nat_tests, f, is) in
      ap (λ b. not (b && eqb s.exam e)) differs

  others_left : (n : ℕ) → eqb n d ≡ false → (t : Tables)
      → slots_at n (but_slot d e t.slot) ≡ slots_at n t.slot
  others_left n f t =
      filter-filter (λ (s : SlotRow). eqb s.draft n) (λ s. not (is_slot d e s)) (other_draft n f)
      t.slot

  -- the places of other drafts are as they were
  others_put : (n : ℕ) → eqb n d ≡ false → (o : Option Place) (t : Tables)
      → slots_at n (slot_put d e o t).slot ≡ slots_at n t.slot
  others_put n f None t = others_left n f t
  others_put n f (Some at) t =
      let fails : eqb d n ≡ false = grind (arith, nat_tests, f) in
      ap (λ b. cond b (slot_row d e at ∷ slots_at n (but_slot d e t.slot))
      (slots_at n (but_slot d e t.slot))) fails
      ∙ others_left n f t

  module _ (T : Placing) (t : Tables)
      (represents : IsPermutation (slots_at d t.slot) (slots_from d 0 T)) where
    left_there : IsPermutation (slots_at d (but_slot d e t.slot)) (slots_from d 0 (set T e None))
    left_there =
        subst (λ l. IsPermutation l (slots_from d 0 (set T e None)))
        (sym (filter_swap (λ (s : SlotRow). eqb s.draft d) (λ s. not (is_slot d e s)) t.slot))
        (subst (λ l. IsPermutation (but_slot d e (slots_at d t.slot)) l)
        (left_places d e 0 e T (omega arith))
        (IsPermutation-filter (λ s. not (is_slot d e s)) _ _ represents))

    -- the draft's places are those of the timetable with the exam's new place
    pub own_put : (o : Option Place) → e < length T
        → IsPermutation (slots_at d (slot_put d e o t).slot) (slots_from d 0 (set T e o))
    own_put None lt = left_there
    own_put (Some at) lt =
        let passes : eqb d d ≡ true = grind (arith, nat_tests) in
        subst (λ b. IsPermutation (cond b (slot_row d e at ∷ slots_at d (but_slot d e t.slot))
        (slots_at d (but_slot d e t.slot))) (slots_from d 0 (set T e (Some at)))) (sym passes)
        (IsPermutation-trans _ _ _
        (IsPermutation-cons (slot_row d e at) _ _ left_there)
        (one_place d e 0 e at T (omega arith) lt))

-- only the table of places has changed
only_slot : (d e : ℕ) (o : Option Place) (t : Tables)
    → slot_put d e o t ≡ record t { slot = (slot_put d e o t).slot }
only_slot d e None t = refl
only_slot d e (Some at) t = refl

-- ---- some exams have other places

module _ (d : ℕ) (new : Placing) where
  pub only_slots : (exams : List ℕ) (t : Tables)
      → slots_put d new exams t ≡ record t { slot = (slots_put d new exams t).slot }
  only_slots [] t = refl
  only_slots (e ∷ exams) t =
      only_slots exams (slot_put d e (place_of new e) t)
      ∙ ap (λ (u : Tables). record u { slot = (slots_put d new (e ∷ exams) t).slot })
      (only_slot d e (place_of new e) t)

  pub others_as_before : (n : ℕ) → eqb n d ≡ false → (exams : List ℕ) (t : Tables)
      → slots_at n (slots_put d new exams t).slot ≡ slots_at n t.slot
  others_as_before n f [] t = refl
  others_as_before n f (e ∷ exams) t =
      others_as_before n f exams (slot_put d e (place_of new e) t)
      ∙ others_put d e n f (place_of new e) t

  -- after one exam is moved, only the rest of the exams can differ from the new timetable
  fewer : (e : ℕ) (exams : List ℕ) (T : Placing) → e < length T → DiffersAtMost (e ∷ exams) T new
      → DiffersAtMost exams (set T e (place_of new e)) new
  fewer e exams T lt differs x none = go (eqb e x) refl
    where
      go : (b : Bool) → eqb e x ≡ b → place_of new x ≡ place_of (set T e (place_of new e)) x
      go true f =
          let same : x ≡ e = grind (arith, nat_tests, f) in
          ap (place_of new) same ∙ sym (get_or-set_at T e x (place_of new e) None same lt)
      go false f =
          differs x (ap (λ b. b || has_number exams x) f ∙ none)
          ∙ sym (get_or-set_other T e x (place_of new e) None (grind (arith, nat_tests, f)))

  pub places_put : (exams : List ℕ) (T : Placing) (t : Tables) → length T ≡ length new
      → AllByRecursion (λ e. e < length T) exams → DiffersAtMost exams T new
      → IsPermutation (slots_at d t.slot) (slots_from d 0 T)
      → IsPermutation (slots_at d (slots_put d new exams t).slot) (slots_from d 0 new)
  places_put [] T t long exist differs represents =
      subst (λ X. IsPermutation (slots_at d t.slot) (slots_from d 0 X))
      (sym (ext_get_or None new T (sym long) (λ x lt. differs x refl))) represents
  places_put (e ∷ exams) T t long exist differs represents =
      let o = place_of new e in
      let same : length (set T e o) ≡ length T = length-set T e o in
      places_put exams (set T e o) (slot_put d e o t) (same ∙ long)
      (subst (λ n. AllByRecursion (λ x. x < n) exams) (sym same) exist.1)
      (fewer e exams T exist.0 differs) (own_put d e T t represents o exist.0)

-- ---- what a transaction writes

-- what one exam's part of the transaction makes of the tables
abbrev pub move_made : Both DeleteSlot (Option InsertSlot) → Tables → Tables
move_made it t =
    after_some (λ (new : InsertSlot). with_slot new.row) it.second
    (without_slot it.first.draft it.first.exam t)

one_moved : (d e : ℕ) (o : Option Place) (t : Tables) → move_made (move_writes d e o) t ≡ slot_put d e o t
one_moved d e None t = refl
one_moved d e (Some at) t = refl

pub all_moved : (d : ℕ) (new : Placing) (exams : List ℕ) (t : Tables)
    → after_all move_made (map (new_place d new) exams) t ≡ slots_put d new exams t
all_moved d new [] t = refl
all_moved d new (e ∷ exams) t =
    ap (after_all move_made (map (new_place d new) exams)) (one_moved d e (place_of new e) t)
    ∙ all_moved d new exams (slot_put d e (place_of new e) t)

-- ---- what an edit changes

-- the exams exist, and all others keep their places
pub record Touches (exams : List ℕ) (old new : Placing) (count : ℕ) : Type 0 where
  pub exist : AllByRecursion (λ e. e < count) exams
  pub others : DiffersAtMost exams old new

-- a sequence that went on was not refused
goes_on : {B F : Type 0} (b : Bool) (f : F) (x : Result B F) (y : B)
    → (unless b f >>= (λ _. x)) ≡ Ok y → (b ≡ true) × (x ≡ Ok y)
goes_on true f x y h = (refl, h)
goes_on false f x y h = absurd cc

unbroken : (o : Option Breach) (S new : Placing) → unless_broken o S ≡ Ok new → S ≡ new
unbroken None S new h = cc
unbroken (Some b) S new h = absurd cc

one_differs : (T : Placing) (e : ℕ) (o : _) → DiffersAtMost (e ∷ []) T (set T e o)
one_differs T e o x none = get_or-set_other T e x o None (grind (arith, nat_tests, none))

two_differ : (T : Placing) (a b : ℕ) (p q : _)
    → DiffersAtMost (a ∷ (b ∷ [])) T (set (set T a p) b q)
two_differ T a b p q x none =
    get_or-set_other (set T a p) b x q None (grind (arith, nat_tests, none))
    ∙ get_or-set_other T a x p None (grind (arith, nat_tests, none))

-- one exam gets another place, or none
one_touched : (I : Session) (E : Enrolled) (T new : Placing) (e : ℕ) (o : _)
    → exam_exists I e ≡ true → set T e o ≡ new → Touches (e ∷ []) T new (length I.exams)
one_touched I E T new e o known is = record {
  exist = (grind (arith, nat_tests, known), tt);
  others = subst (DiffersAtMost (e ∷ []) T) is (one_differs T e o);
}

pub touched : (I : Session) (E : Enrolled) (T new : Placing) (change : Edit)
    → edit_result I E T change ≡ Ok new → Touches (edited_exams change) T new (length I.exams)
touched I E T new (edit.Place e at) h =
    let known = goes_on (exam_exists I e && place_exists I at) _ _ _ h in
    let free = goes_on (not (is_placed T e)) _ _ _ known.1 in
    one_touched I E T new e (Some at) (and_parts (exam_exists I e) _ known.0).0
    (unbroken (least_breach_of I E (set T e (Some at)) (e ∷ [])) _ new free.1)
touched I E T new (edit.Move e at) h =
    let known = goes_on (exam_exists I e && place_exists I at) _ _ _ h in
    let placed = goes_on (is_placed T e) _ _ _ known.1 in
    one_touched I E T new e (Some at) (and_parts (exam_exists I e) _ known.0).0
    (unbroken (least_breach_of I E (set T e (Some at)) (e ∷ [])) _ new placed.1)
touched I E T new (edit.Swap a b) h =
    let known = goes_on (exam_exists I a && exam_exists I b) _ _ _ h in
    let placed = goes_on (is_placed T a && is_placed T b) _ _ _ known.1 in
    let two = goes_on (not (eqb a b)) _ _ _ placed.1 in
    let swapped = set (set T a (place_of T b)) b (place_of T a) in
    let is = unbroken (least_breach_of I E swapped (a ∷ (b ∷ []))) swapped new two.1 in
    record {
      exist = (grind (arith, nat_tests, known.0), (grind (arith, nat_tests, known.0), tt));
      others = subst (DiffersAtMost (a ∷ (b ∷ [])) T) is
          (two_differ T a b (place_of T b) (place_of T a));
    }
touched I E T new (edit.Clear e) h =
    let known = goes_on (exam_exists I e) _ _ _ h in
    let placed = goes_on (is_placed T e) _ _ _ known.1 in
    one_touched I E T new e None known.0 (let ok = placed.1 in cc)

-- ---- the tables after the edit

module _ (t : Tables) (r : Records) (T new : Placing) (row : DraftRow) (exams : List ℕ)
    (h : TablesRepresentRecords t r) (there : r.draft row.no ≡ Some T) where
  abbrev replaced : Tables
  replaced = with_draft row (without_draft row.no t)

  abbrev after : Records
  after = record r { draft = set_at row.no (Some new) r.draft }

  only : edit_put row new exams t ≡ record replaced { slot = (edit_put row new exams t).slot }
  only = only_slots row.no new exams replaced

  edit_draft : (n : ℕ) (b : Bool) → eqb n row.no ≡ b
      → map (λ (x : DraftRow). x.no) (drafts_at n replaced.draft)
      ≡ number_if (is_some (cond b (Some new) (r.draft n))) n
  edit_draft n true e =
      key_replaced (λ (x : DraftRow). x.no) (λ x. x.no) row n true e t.draft
      ∙ ap (λ m. m ∷ []) (sym (eqb-true n row.no e))
  edit_draft n false e =
      key_replaced (λ (x : DraftRow). x.no) (λ x. x.no) row n false e t.draft ∙ h.draft n

  module _ (long : length T ≡ length new) (touches : Touches exams T new (length T)) where
    edit_slot : (n : ℕ) (b : Bool) → eqb n row.no ≡ b
        → IsPermutation (slots_at n (edit_put row new exams t).slot)
        (slot_rows n (cond b (Some new) (r.draft n)))
    edit_slot n true e =
        let same : row.no ≡ n = grind (arith, nat_tests, e) in
        let own : IsPermutation (slots_at row.no t.slot) (slots_from row.no 0 T)
        = subst (λ o. IsPermutation (slots_at row.no t.slot) (slot_rows row.no o)) there
        (h.slot row.no) in
        subst (λ m. IsPermutation (slots_at m (edit_put row new exams t).slot) (slots_from m 0 new))
        same (places_put row.no new exams T replaced long touches.exist touches.others own)
    edit_slot n false e =
        subst (λ l. IsPermutation l (slot_rows n (r.draft n)))
        (sym (others_as_before row.no new n e exams replaced)) (h.slot n)

    edit_represents : TablesRepresentRecords (edit_put row new exams t) after
    edit_represents =
        subst (λ u. TablesRepresentRecords u after) (sym only) (record {
          meta = h.meta;
          owner = h.owner;
          enrol = h.enrol;
          draft = λ n. edit_draft n (eqb n row.no) refl;
          slot = λ n. edit_slot n (eqb n row.no) refl;
          published = h.published;
          batches = h.batches;
        })

  edit_sound : parts_of row ≡ track r.session r.enrolments new → IsSound t (Some r)
      → IsSound (edit_put row new exams t) (Some after)
  edit_sound scored sound =
      subst (λ u. IsSound u (Some after)) (sym only) (record {
        scored = (
          own,
          each_left (λ (x : DraftRow). x.no) row.no
              (IsScoredRow r) (IsScoredRow after) other t.draft sound.scored,
        );
        shared = sound.shared;
      })
    where
      own : (S : Placing) → cond (eqb row.no row.no) (Some new) (r.draft row.no) ≡ Some S
          → parts_of row ≡ track r.session r.enrolments S
      own S e =
          let same : eqb row.no row.no ≡ true = grind (arith, nat_tests) in
          let put : Some new ≡ Some S
          = sym (ap (λ b. cond b (Some new) (r.draft row.no)) same) ∙ e in
          scored ∙ ap (track r.session r.enrolments) (let is : new ≡ S = cc in is)

      other : (x : DraftRow) → IsScoredRow r x → eqb x.no row.no ≡ false → IsScoredRow after x
      other x k e S f = k S (sym (ap (λ b. cond b (Some new) (r.draft x.no)) e) ∙ f)

-- the database represents the office with the edited draft
pub edit_kept : (a b : Database) (r : Records) (T new : Placing) (row : DraftRow) (change : Edit)
    → r.draft row.no ≡ Some T → edit_result r.session r.enrolments T change ≡ Ok new
    → parts_of row ≡ track r.session r.enrolments new → Fits r.session r.enrolments new
    → RepresentsOffice a (Some r)
    → ((t : Tables) → HoldsTables a t → HoldsTables b (edit_put row new (edited_exams change) t))
    → RepresentsOffice b (Some (record r { draft = set_at row.no (Some new) r.draft }))
edit_kept a b r T new row change there made scored fits kept makes =
    let before = kept.office.drafts row.no T there in
    let long : length T ≡ length new = before.timetable ∙ sym fits.timetable in
    let all : Touches (edited_exams change) T new (length T)
    = subst (Touches (edited_exams change) T new) (sym before.timetable)
    (touched r.session r.enrolments T new change made) in
    let number = kept.office.numbered row.no (subst (λ o. IsSome o) (sym there) refl) in
    record {
      held = edit_put row new (edited_exams change) kept.held;
      tables = makes kept.held kept.tables;
      represents = edit_represents kept.held r T new row
          (edited_exams change) kept.represents there long all;
      sound = edit_sound kept.held r T new row (edited_exams change) kept.represents there scored
          kept.sound;
      office = made_records r row.no new number.0 number.1 fits kept.office;
    }
