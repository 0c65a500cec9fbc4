-- A draft that is made or deleted: what the commands return, and what they make of the tables.
use Rattle.std.proofs.Common.{◌≡◌, ℕ, ◌+◌, ◌≤◌, Bool, true, false, cond, not, eqb, List, ◌∷◌, ◌++◌, map, filter, reverse, Option, Some, None, refl, sym, ◌∙◌, ap, subst, arith, length, take, get_or, ◌<◌, eqb-true, [], ◌⊎◌, inl, inr, Result, Ok, Err}
use Rattle.std.specs.Prelude.{IsPermutation, is_some}
use Rattle.std.proofs.lemmas.Bool.Decides.{nat_tests}
use Rattle.std.proofs.lemmas.List.{append-nil, take_more, length-take}
use Rattle.std.proofs.lemmas.List.Elements.{filter-append}
use Rattle.std.proofs.lemmas.List.Sorted.{IsPermutation-refl, IsPermutation-sym, IsPermutation-trans, IsPermutation-append, IsPermutation-reverse}
use Rattle.std.proofs.lemmas.Option.{same_Some}
use Rattle.exam_lists.proofs.Each.{each_none_pass}
use Rattle.exam_lists.proofs.Keys.{all_of_other, each_left, none_of, key_removed}
use Rattle.exam_lists.proofs.Maps.{map_to_nil}
use Rattle.exam_lists.proofs.Permutations.{IsPermutation-nil}
use Rattle.sqlite_trees.proofs.ListLemmas.{IsPermutation-filter}
use Rattle.sqlite.specs.Effect.{Database}
use Rattle.exam_model.specs.Fits.{Fits}
use Rattle.exam_model.specs.Timetable.{Placing}
use Rattle.exam_terms.specs.declared.place.Place.{Place}
use Rattle.exam_score.specs.Track.{track}
use Rattle.office_tables.specs.Tables.{Tables, with_draft, with_slot}
use Rattle.office_tables.specs.TablesHeld.{HoldsTables}
use Rattle.office_tables.specs.declared.tables.draft.DraftRow.{DraftRow}
use Rattle.office_tables.specs.declared.tables.slot.SlotRow.{SlotRow}
use Rattle.office_store.specs.Changes.{draft_put, draft_removed}
use Rattle.office_model.specs.Office.{Records, set_at, OfficeState}
use Rattle.office_model.proofs.RecordLemmas.{left_records, made_records}
use Rattle.office_records.specs.Representation.{TablesRepresentRecords, IsSound, IsScoredRow, RepresentsOffice, parts_of}
use Rattle.office_records.specs.TableRows.{drafts_at, slots_at, slots_from, slot_rows, slot_row, number_if}
use Rattle.exam_lists.proofs.Options.{none_from_test, is_some-map}
use Rattle.exam_model.specs.Enrolments.{Enrolled}
use Rattle.exam_model.specs.Instance.{Session}
use Rattle.exam_terms.specs.Refusing.{◌>>=◌, else_err}
use Rattle.exam_score.specs.Penalty.{total_of}
use Rattle.office_files.specs.SolutionText.{solution_in}
use Rattle.office_tables.specs.Alterations.{after_all}
use Rattle.office_tables.specs.Tables.Slot.{InsertSlot}
use Rattle.office_tables.proofs.AlterationLemmas.{slots_put}
use Rattle.office_records.specs.Memory.{draft_at, with_penalty, scored_draft}
use Rattle.office_records.specs.declared.drafts.Draft.{Draft}
use Rattle.office_store.specs.Memory.{HasPut, IsMemoryOf}
use Rattle.office_store.specs.declared.memory.OfficeMemory.{OfficeMemory}
use Rattle.office_store.specs.NewDraft.{Begins}
use Rattle.office_model.specs.Commands.{CommandResult}
use Rattle.office_model.specs.DraftCommands.{draft_dropped, draft_made, first_timetable, is_draft_number, live_penalty}
use Rattle.office_store.specs.Running.{IsFault}
use Rattle.office_model.specs.declared.fault.Refusal.TheVariants.{File}
use Rattle.office_model.specs.declared.fault.StoreFault.{StoreFault}
use Rattle.office_model.specs.declared.fault.StoreFault.TheVariants.{NoDraft, DraftTaken, Store}
use Rattle.office_store.proofs.CommandLemmas.{fault_of, Denies, MovesBy, Remembers, RowsChanged}
use Rattle.office_store.proofs.RememberingLemmas.{next_is, one_changed}
use Rattle.office_store.proofs.RunLemmas.{IsKeptOf, remembered_of}

-- ---- rows by a number of each, its key

-- ---- the rows of one draft

-- the rows of a draft's places have its number
pub slots_are : (d n k : ℕ) (b : Bool) → eqb d n ≡ b → (T : Placing)
    → slots_at n (slots_from d k T) ≡ cond b (slots_from d k T) []
slots_are d n k true e [] = refl
slots_are d n k false e [] = refl
slots_are d n k b e (None ∷ T) = slots_are d n (k + 1) b e T
slots_are d n k true e (Some at ∷ T) =
    ap (λ c. cond c (slot_row d k at ∷ slots_at n (slots_from d (k + 1) T))
    (slots_at n (slots_from d (k + 1) T))) e
    ∙ ap (λ l. slot_row d k at ∷ l) (slots_are d n (k + 1) true e T)
slots_are d n k false e (Some at ∷ T) =
    ap (λ c. cond c (slot_row d k at ∷ slots_at n (slots_from d (k + 1) T))
    (slots_at n (slots_from d (k + 1) T))) e
    ∙ slots_are d n (k + 1) false e T

-- ---- a draft is inserted

module _ (t : Tables) (r : Records) (d : ℕ) (T : Placing) (row : DraftRow) (slots : List SlotRow)
    (number_is : row.no ≡ d) (are : slots ≡ slots_from d 0 T) (h : TablesRepresentRecords t r)
    (free : r.draft d ≡ None) where
  free_at : (n : ℕ) → eqb n d ≡ true → r.draft n ≡ None
  free_at n e = ap r.draft (let same : n ≡ d = grind (arith, nat_tests, e) in same) ∙ free

  made_draft : (n : ℕ) (b : Bool) → eqb n d ≡ b
      → map (λ (x : DraftRow). x.no) (drafts_at n (row ∷ t.draft))
      ≡ number_if (is_some (cond b (Some T) (r.draft n))) n
  made_draft n true e =
      let same : row.no ≡ n = grind (arith, nat_tests, e, number_is) in
      let passes : eqb row.no n ≡ true = grind (arith, nat_tests, same) in
      ap (λ c. map (λ (x : DraftRow). x.no)
      (cond c (row ∷ drafts_at n t.draft) (drafts_at n t.draft)))
      passes
      ∙ ap (λ l. row.no ∷ l) (h.draft n ∙ ap (λ o. number_if (is_some o) n) (free_at n e))
      ∙ ap (λ m. m ∷ []) same
  made_draft n false e =
      let fails : eqb row.no n ≡ false = grind (arith, nat_tests, e, number_is) in
      ap (λ c. map (λ (x : DraftRow). x.no)
      (cond c (row ∷ drafts_at n t.draft) (drafts_at n t.draft)))
      fails
      ∙ h.draft n

  -- the slots of a draft, in any order, in front of the slots before
  made_rows : (n : ℕ) → IsPermutation (slots_at n (reverse slots ++ t.slot))
      (slots_at n (slots_from d 0 T) ++ slots_at n t.slot)
  made_rows n =
      let turned : IsPermutation (reverse slots ++ t.slot) (slots_from d 0 T ++ t.slot) =
      subst (λ l. IsPermutation (reverse slots ++ t.slot) (l ++ t.slot)) are
      (IsPermutation-append (reverse slots) slots t.slot t.slot
      (IsPermutation-sym _ _ (IsPermutation-reverse slots)) (IsPermutation-refl t.slot)) in
      subst (λ l. IsPermutation (slots_at n (reverse slots ++ t.slot)) l)
      (filter-append (λ (s : SlotRow). eqb s.draft n) (slots_from d 0 T) t.slot)
      (IsPermutation-filter (λ (s : SlotRow). eqb s.draft n) _ _ turned)

  made_slot : (n : ℕ) (b : Bool) → eqb n d ≡ b
      → IsPermutation (slots_at n (reverse slots ++ t.slot))
      (slot_rows n (cond b (Some T) (r.draft n)))
  made_slot n true e =
      let same : d ≡ n = grind (arith, nat_tests, e) in
      let passes : eqb d n ≡ true = grind (arith, nat_tests, e) in
      let empty : slots_at n t.slot ≡ [] =
      IsPermutation-nil _ (subst (λ o. IsPermutation (slots_at n t.slot) (slot_rows n o)) (free_at n e)
      (h.slot n)) in
      let is : slots_at n (slots_from d 0 T) ++ slots_at n t.slot ≡ slot_rows n (Some T) =
      ap (λ l. l ++ slots_at n t.slot) (slots_are d n 0 true passes T)
      ∙ ap (λ l. slots_from d 0 T ++ l) empty
      ∙ append-nil (slots_from d 0 T) ∙ ap (λ m. slots_from m 0 T) same in
      subst (λ l. IsPermutation (slots_at n (reverse slots ++ t.slot)) l) is (made_rows n)
  made_slot n false e =
      let fails : eqb d n ≡ false = grind (arith, nat_tests, e) in
      let is : slots_at n (slots_from d 0 T) ++ slots_at n t.slot ≡ slots_at n t.slot =
      ap (λ l. l ++ slots_at n t.slot) (slots_are d n 0 false fails T) in
      IsPermutation-trans _ _ _
      (subst (λ l. IsPermutation (slots_at n (reverse slots ++ t.slot)) l) is (made_rows n))
      (h.slot n)

  made_represents : TablesRepresentRecords (draft_put row slots t)
      (record r { draft = set_at d (Some T) r.draft })
  made_represents = record {
    meta = h.meta;
    owner = h.owner;
    enrol = h.enrol;
    draft = λ n. made_draft n (eqb n d) refl;
    slot = λ n. made_slot n (eqb n d) refl;
    published = h.published;
    batches = h.batches;
  }

  none_there : drafts_at d t.draft ≡ []
  none_there = map_to_nil (λ (x : DraftRow). x.no) _ (h.draft d ∙ ap (λ o. number_if (is_some o) d) free)

  made_sound : parts_of row ≡ track r.session r.enrolments T → IsSound t (Some r)
      → IsSound (draft_put row slots t) (Some (record r { draft = set_at d (Some T) r.draft }))
  made_sound scored sound = record {
    scored = (
      own,
      each_none_pass (λ (x : DraftRow). eqb x.no d) (IsScoredRow r)
          (IsScoredRow (record r { draft = set_at d (Some T) r.draft })) other t.draft none_there
          sound.scored,
    );
    shared = sound.shared;
  }
    where
      own : (S : Placing) → cond (eqb row.no d) (Some T) (r.draft row.no) ≡ Some S
          → parts_of row ≡ track r.session r.enrolments S
      own S e =
          let same : eqb row.no d ≡ true = grind (arith, nat_tests, number_is) in
          scored ∙ ap (track r.session r.enrolments)
          (same_Some T S (sym (ap (λ b. cond b (Some T) (r.draft row.no)) same) ∙ e))

      other : (x : DraftRow) → IsScoredRow r x → eqb x.no d ≡ false
          → IsScoredRow (record r { draft = set_at d (Some T) r.draft }) x
      other x k e S f = k S (sym (ap (λ b. cond b (Some T) (r.draft x.no)) e) ∙ f)

pub made_kept : (a b : Database) (r : Records) (d : ℕ) (T : Placing) (row : DraftRow)
    (slots : List SlotRow) → row.no ≡ d → slots ≡ slots_from d 0 T
    → parts_of row ≡ track r.session r.enrolments T
    → r.draft d ≡ None → 1 ≤ d → d ≤ 8 → Fits r.session r.enrolments T → RepresentsOffice a (Some r)
    → ((t : Tables) → HoldsTables a t → HoldsTables b (draft_put row slots t))
    → RepresentsOffice b (Some (record r { draft = set_at d (Some T) r.draft }))
made_kept a b r d T row slots number_is are scored free low high fits kept makes = record {
  held = draft_put row slots kept.held;
  tables = makes kept.held kept.tables;
  represents = made_represents kept.held r d T row slots number_is are kept.represents free;
  sound = made_sound kept.held r d T row slots number_is are kept.represents free scored kept.sound;
  office = made_records r d T low high fits kept.office;
}

-- ---- a draft is deleted

module _ (t : Tables) (r : Records) (d : ℕ) (h : TablesRepresentRecords t r) where
  left_draft : (n : ℕ) (b : Bool) → eqb n d ≡ b
      → map (λ (x : DraftRow). x.no) (drafts_at n (filter (λ x. not (eqb x.no d)) t.draft))
      ≡ number_if (is_some (cond b None (r.draft n))) n
  left_draft n true e = key_removed (λ (x : DraftRow). x.no) (λ x. x.no) d n true e t.draft
  left_draft n false e = key_removed (λ (x : DraftRow). x.no) (λ x. x.no) d n false e t.draft ∙ h.draft n

  left_slot : (n : ℕ) (b : Bool) → eqb n d ≡ b
      → IsPermutation (slots_at n (filter (λ s. not (eqb s.draft d)) t.slot))
      (slot_rows n (cond b None (r.draft n)))
  left_slot n true e =
      subst (λ l. IsPermutation l [])
      (sym (none_of (λ (s : SlotRow). s.draft) d n (eqb-true n d e) t.slot))
      (IsPermutation-refl [])
  left_slot n false e =
      subst (λ l. IsPermutation l (slot_rows n (r.draft n)))
      (sym (all_of_other (λ (s : SlotRow). s.draft) d n e t.slot)) (h.slot n)

  left_represents : TablesRepresentRecords (draft_removed d t)
      (record r { draft = set_at d None r.draft })
  left_represents = record {
    meta = h.meta;
    owner = h.owner;
    enrol = h.enrol;
    draft = λ n. left_draft n (eqb n d) refl;
    slot = λ n. left_slot n (eqb n d) refl;
    published = h.published;
    batches = h.batches;
  }

left_sound : (t : Tables) (r : Records) (d : ℕ) → IsSound t (Some r)
    → IsSound (draft_removed d t) (Some (record r { draft = set_at d None r.draft }))
left_sound t r d sound = record {
  scored = each_left (λ (x : DraftRow). x.no) d (IsScoredRow r)
      (IsScoredRow (record r { draft = set_at d None r.draft })) other t.draft sound.scored;
  shared = sound.shared;
}
  where
    other : (x : DraftRow) → IsScoredRow r x → eqb x.no d ≡ false
        → IsScoredRow (record r { draft = set_at d None r.draft }) x
    other x k e S f = k S (sym (ap (λ b. cond b None (r.draft x.no)) e) ∙ f)

pub left_kept : (a b : Database) (r : Records) (d : ℕ) → RepresentsOffice a (Some r)
    → ((t : Tables) → HoldsTables a t → HoldsTables b (draft_removed d t))
    → RepresentsOffice b (Some (record r { draft = set_at d None r.draft }))
left_kept a b r d kept makes = record {
  held = draft_removed d kept.held;
  tables = makes kept.held kept.tables;
  represents = left_represents kept.held r d kept.represents;
  sound = left_sound kept.held r d kept.sound;
  office = left_records r d kept.office;
}

-- ---- the rows that are inserted

slots-push : (d k : ℕ) (T : Placing) (o : Option Place)
    → slots_from d k (T ++ o ∷ []) ≡ slots_from d k T ++ slots_from d (k + length T) (o ∷ [])
slots-push d k [] o = ap (λ n. slots_from d n (o ∷ [])) (omega arith)
slots-push d k (None ∷ T) o =
    slots-push d (k + 1) T o
    ∙ ap (λ n. slots_from d (k + 1) T ++ slots_from d n (o ∷ [])) (omega arith)
slots-push d k (Some at ∷ T) o =
    ap (λ l. slot_row d k at ∷ l) (slots-push d (k + 1) T o
    ∙ ap (λ n. slots_from d (k + 1) T ++ slots_from d n (o ∷ [])) (omega arith))

pub slots_more : (d e : ℕ) (T : Placing) (o : Option Place) → e < length T → get_or T e None ≡ o
    → slots_from d 0 (take (e + 1) T) ≡ slots_from d 0 (take e T) ++ slots_from d e (o ∷ [])
slots_more d e T o lt is =
    ap (slots_from d 0) (take_more T e None lt) ∙ slots-push d 0 (take e T) (get_or T e None)
    ∙ ap (λ n. slots_from d 0 (take e T) ++ slots_from d n (get_or T e None ∷ []))
    (let l = length-take e T in omega arith)
    ∙ ap (λ x. slots_from d 0 (take e T) ++ slots_from d e (x ∷ [])) is

-- the row of a place's two numbers
pub same_row : (d e : ℕ) (at : Place) (period room : ℕ) → period ≡ at.period → room ≡ at.room
    → slot_row d e (record { period = period; room = room }) ≡ slot_row d e at
same_row d e at period room p r =
    ap (λ n. slot_row d e (record { period = n; room = room })) p
    ∙ ap (λ n. slot_row d e (record { period = at.period; room = n })) r

-- ---- what is in memory

-- the records, if something is in memory
pub record HasRecords (o : OfficeState) : Type 0 where
  pub records : Records
  pub is : o ≡ Some records

pub has_records : (o : OfficeState) (m : OfficeMemory) → IsMemoryOf o m → is_some m.kept ≡ true
    → HasRecords o
has_records None m e some =
    absurd (let is : is_some m.kept ≡ false = ap is_some (sym e.session) in cc)
has_records (Some r) m e some = record { records = r; is = refl }

-- ---- what a command needs is there, or not

pub goes_on : {A B F : Type 0} (f : F) (o : Option A) (x : Result B F) → is_some o ≡ true
    → (else_err f o >>= λ _. x) ≡ x
goes_on f None x h = absurd cc
goes_on f (Some y) x h = refl

-- ---- a draft is deleted

pub dropped_none : (r : Records) (d : ℕ) → is_some (r.draft d) ≡ false
    → draft_dropped d (Some r) ≡ Err NoDraft
dropped_none r d h = rw (none_from_test (r.draft d) h) refl

pub dropped_one : (r : Records) (d : ℕ) → is_some (r.draft d) ≡ true
    → draft_dropped d (Some r) ≡ Ok (tt, Some (record r { draft = set_at d None r.draft }))
dropped_one r d h = goes_on NoDraft (r.draft d) _ h

-- ---- a draft is made

module _ (r : Records) (d : ℕ) (bytes : List ℕ) where
  pub made_nowhere : false ≡ is_draft_number d → draft_made d bytes (Some r) ≡ Err NoDraft
  made_nowhere beyond = rw (sym beyond) refl

  pub made_taken : true ≡ is_draft_number d → is_some (r.draft d) ≡ true
      → draft_made d bytes (Some r) ≡ Err DraftTaken
  made_taken in_range there = rw (sym in_range, there) refl

  pub made_refused : true ≡ is_draft_number d → is_some (r.draft d) ≡ false → (e : StoreFault)
      → first_timetable bytes r.session ≡ Err e → draft_made d bytes (Some r) ≡ Err e
  made_refused in_range free e none = rw (sym in_range, free, none) refl

  made : true ≡ is_draft_number d → is_some (r.draft d) ≡ false → (T : Placing)
      → first_timetable bytes r.session ≡ Ok T
      → draft_made d bytes (Some r)
      ≡ Ok (live_penalty r T, Some (record r { draft = set_at d (Some T) r.draft }))
  made in_range free T first = rw (sym in_range, free, first) refl

-- the command's own refusal, or out of memory
made_fault : (gives : CommandResult ℕ) (bytes : List ℕ) (I : Session) (e : StoreFault)
    → (first_timetable bytes I ≡ Err e → gives ≡ Err e)
    → (e ≡ Store) ⊎ (first_timetable bytes I ≡ Err e) → IsFault gives e
made_fault gives [] I e refuses (inl is) = subst (IsFault gives) (sym is) tt
made_fault gives [] I e refuses (inr is) = absurd cc
made_fault gives (b ∷ bytes) I e refuses fault =
    fault_of File (solution_in I (b ∷ bytes)) gives e fault refuses

in_range : (d : ℕ) → true ≡ is_draft_number d → (1 ≤ d) × (d ≤ 8)
in_range d e = (grind (arith, nat_tests, e), grind (arith, nat_tests, e))

-- the office after the command, and the result
pub begun_kept : (a b : Database) (r : Records) (d : ℕ) (bytes : List ℕ) (begun : Draft)
    (row : DraftRow) (slots : List SlotRow)
    (begins : Begins d bytes r.session r.enrolments begun slots) → row.no ≡ d
    → parts_of row ≡ begun.parts → true ≡ is_draft_number d → is_some (r.draft d) ≡ false
    → RepresentsOffice a (Some r) → ((t : Tables) → HoldsTables a t → HoldsTables b (draft_put row slots t))
    → RepresentsOffice b (Some (record r { draft = set_at d (Some begun.timetable) r.draft }))
begun_kept a b r d bytes begun row slots begins number parts numbered free kept makes =
    let within = in_range d numbered in
    made_kept a b r d begun.timetable row slots number begins.rows (parts ∙ begins.scored)
    (none_from_test (r.draft d) free) within.0 within.1 begins.fits kept makes

pub begun_made : (r : Records) (d : ℕ) (bytes : List ℕ) (begun : Draft) (slots : List SlotRow)
    (begins : Begins d bytes r.session r.enrolments begun slots) → true ≡ is_draft_number d
    → is_some (r.draft d) ≡ false → (total : ℕ) → total ≡ total_of begun.parts
    → draft_made d bytes (Some r)
    ≡ Ok (total, Some (record r { draft = set_at d (Some begun.timetable) r.draft }))
begun_made r d bytes begun slots begins numbered free total is =
    made r d bytes numbered free begun.timetable begins.first
    ∙ ap (λ n. Ok (n, Some (record r { draft = set_at d (Some begun.timetable) r.draft })))
    (ap total_of (sym begins.scored) ∙ sym is)

-- ---- the commands, by what is in memory

-- whether a draft exists, by what is in memory
there : (d : ℕ) (m : OfficeMemory) (b : Bool) → b ≡ is_some (draft_at m.drafts d) → (o : OfficeState)
    → IsMemoryOf o m → (r : Records) → o ≡ Some r → is_some (r.draft d) ≡ b
there d m b is_there o is r same =
    sym (is_there ∙ ap is_some (is.drafts d ∙ ap (scored_draft d) same)
    ∙ is_some-map (with_penalty r.session r.enrolments) (r.draft d))

module _ (d : ℕ) {a : Database} {m : OfficeMemory} (loaded : is_some m.kept ≡ true) where
  pub drop_denied : false ≡ is_some (draft_at m.drafts d) → Denies (draft_dropped d) NoDraft a m
  drop_denied empty o kept is =
      let of = has_records o m is loaded in
      ap (draft_dropped d) of.is
      ∙ dropped_none of.records d (there d m false empty o is of.records of.is)

  pub drop_moves : true ≡ is_some (draft_at m.drafts d)
      → MovesBy (draft_removed d) (draft_dropped d) tt a m
  drop_moves some b makes o kept is =
      let of = has_records o m is loaded in (
        _,
        ap (draft_dropped d) of.is
            ∙ dropped_one of.records d (there d m true some o is of.records of.is),
        left_kept a b of.records d (subst (RepresentsOffice a) of.is kept) makes,
      )

  pub drop_remembers : {after : OfficeMemory} → true ≡ is_some (draft_at m.drafts d)
      → (d ≤ 8 → HasPut d None m after) → Remembers (draft_dropped d) tt a m after
  drop_remembers {after = after} some puts o kept is new gives =
      let of = has_records o m is loaded in
      let r = of.records in
      let here : RepresentsOffice a (Some r) = subst (RepresentsOffice a) of.is kept in
      let stored = there d m true some o is r of.is in
      let within = here.office.numbered d stored in
      subst (λ o. IsMemoryOf o after)
      (next_is (ap (draft_dropped d) (sym of.is) ∙ gives) (dropped_one r d stored))
      (one_changed r m after d None (subst (λ o. IsMemoryOf o m) of.is is) (puts within.1))

-- the rows of inserted places
abbrev rows_of : List InsertSlot → List SlotRow
rows_of its = map (λ (it : InsertSlot). it.row) its

-- the draft begins so in the office with this memory
begun_office : {o : OfficeState} {I : Session} {E : Enrolled} {d : ℕ} {text : List ℕ} {begun : Draft}
    {slots placed : List InsertSlot} (of : IsKeptOf o I E) → placed ≡ slots
    → Begins d text I E begun (rows_of slots)
    → Begins d text of.records.session of.records.enrolments begun (rows_of placed)
begun_office {d = d} {text = text} {begun = begun} of same =
    subst (λ (p : Session × Enrolled × List InsertSlot). Begins d text p.0 p.1 begun (rows_of p.2))
    (λ i. (sym of.session i, sym of.enrolments i, sym same i))

module _ (d : ℕ) (text : List ℕ) {a : Database} {m : OfficeMemory} {I : Session} {E : Enrolled}
    (at_hand : m.kept ≡ Some (I, E)) where
  pub number_denied : false ≡ is_draft_number d → Denies (draft_made d text) NoDraft a m
  number_denied beyond o kept is =
      let of = remembered_of o I E (is.session ∙ at_hand) in
      ap (draft_made d text) of.is ∙ made_nowhere of.records d text beyond

  module _ (numbered : true ≡ is_draft_number d) where
    pub taken_denied : true ≡ is_some (draft_at m.drafts d) → Denies (draft_made d text) DraftTaken a m
    taken_denied some o kept is =
        let of = remembered_of o I E (is.session ∙ at_hand) in
        ap (draft_made d text) of.is
        ∙ made_taken of.records d text numbered (there d m true some o is of.records of.is)

    module _ (empty : false ≡ is_some (draft_at m.drafts d)) where
      pub text_denied : (e : StoreFault) → (e ≡ Store) ⊎ (first_timetable text I ≡ Err e)
          → Denies (draft_made d text) e a m
      text_denied e fault o kept is =
          let of = remembered_of o I E (is.session ∙ at_hand) in
          made_fault (draft_made d text o) text I e
          (λ none. ap (draft_made d text) of.is
          ∙ made_refused of.records d text numbered (there d m false empty o is of.records of.is) e
          (ap (first_timetable text) of.session ∙ none)) fault

      module _ {begun : Draft} {slots placed : List InsertSlot} (same : placed ≡ slots)
          (begins : Begins d text I E begun (rows_of slots)) {total : ℕ}
          (is_total : total ≡ total_of begun.parts) where
        pub made_moves : (row : DraftRow) → row.no ≡ d → parts_of row ≡ begun.parts
            → MovesBy (λ t. after_all (λ (it : InsertSlot). with_slot it.row) placed (with_draft row t))
            (draft_made d text) total a m
        made_moves row number parts b comes o kept is =
            let makes : RowsChanged (draft_put row (rows_of placed)) a b
            = λ t h. subst (HoldsTables b) (slots_put placed (with_draft row t)) (comes t h) in
            let of = remembered_of o I E (is.session ∙ at_hand) in
            let free = there d m false empty o is of.records of.is in (
              _,
              ap (draft_made d text) of.is
                  ∙ begun_made of.records d text begun (rows_of placed)
                  (begun_office of same begins) numbered free total is_total,
              begun_kept a b of.records d text begun row (rows_of placed)
                  (begun_office of same begins) number parts numbered free
                  (subst (RepresentsOffice a) of.is kept) makes,
            )

        pub made_remembers : {after : OfficeMemory} → (d ≤ 8 → HasPut d (Some begun) m after)
            → Remembers (draft_made d text) total a m after
        made_remembers {after = after} puts o kept is new gives =
            let of = remembered_of o I E (is.session ∙ at_hand) in
            let r = of.records in
            let free = there d m false empty o is r of.is in
            let starts = begun_office of same begins in
            let scored : Some begun ≡ Some (with_penalty r.session r.enrolments begun.timetable)
            = ap (λ P. Some (record { timetable = begun.timetable; parts = P })) starts.scored in
            subst (λ o. IsMemoryOf o after)
            (next_is (ap (draft_made d text) (sym of.is) ∙ gives)
            (begun_made r d text begun (rows_of placed) starts numbered free total is_total))
            (one_changed r m after d (Some begun.timetable) (subst (λ o. IsMemoryOf o m) of.is is)
            (subst (λ x. HasPut d x m after) scored (puts (in_range d numbered).1)))
