-- A session that is loaded.
use Rattle.std.proofs.Common.{◌≡◌, ℕ, ◌+◌, ◌<◌, List, ◌∷◌, ◌++◌, map, length, take, get_or, Some, None, refl, sym, ◌∙◌, ap, arith, subst, reverse, true, false, []}
use Rattle.std.specs.Prelude.{IsPermutation, is_some, is_none, Ok, Err}
use Rattle.std.proofs.lemmas.List.{append-nil, append_assoc, map-append, take_more, length-take, length-map}
use Rattle.std.proofs.lemmas.List.Sorted.{IsPermutation-sym, IsPermutation-reverse, IsPermutation-refl, IsPermutation-trans}
use Rattle.exam_model.specs.Enrolments.{Enrolled, students, no_pairs}
use Rattle.exam_model.specs.Instance.{Session, IsInstance}
use Rattle.exam_model.specs.Pairs.{pairs_at, pairs_from, pairs_of}
use Rattle.sqlite.specs.Effect.{Database}
use Rattle.office_files.specs.CanonicalText.{canonical_instance}
use Rattle.office_files.specs.ExamLines.{ExamLine}
use Rattle.office_files.specs.Spelled.{session_of}
use Rattle.office_files.specs.InstanceText.{InstanceText, instance_in}
use Rattle.office_tables.specs.Alterations.{after_all}
use Rattle.office_tables.specs.Tables.{no_meta, with_meta, with_enrol, Tables, empty_tables}
use Rattle.office_tables.specs.TablesHeld.{HoldsTables}
use Rattle.office_tables.specs.Tables.Enrol.{InsertEnrol}
use Rattle.office_tables.specs.declared.tables.enrol.EnrolRow.{EnrolRow}
use Rattle.office_tables.proofs.AlterationLemmas.{enrols_put}
use Rattle.office_records.specs.Memory.{draft_at}
use Rattle.office_store.specs.Changes.{session_put}
use Rattle.office_model.specs.Loading.{new_records, session_counts, load_session}
use Rattle.office_model.specs.Office.{OfficeState, AreEnrolled}
use Rattle.office_model.specs.declared.fault.StoreFault.TheVariants.{Loaded}
use Rattle.office_model.specs.declared.counts.Loaded as loading
use Rattle.office_model.proofs.RecordLemmas.{fresh_records}
use Rattle.office_store.specs.Memory.{IsMemoryOf}
use Rattle.office_store.specs.declared.memory.OfficeMemory.{OfficeMemory}
use Rattle.office_store.proofs.CommandLemmas.{Denies, MovesBy, Remembers, RowsChanged}
use Rattle.office_store.proofs.RememberingLemmas.{next_is}
use Rattle.office_records.specs.FoundPublications.{publication_from}
use Rattle.office_records.specs.Representation.{TablesRepresentRecords, RepresentsOffice}
use Rattle.office_records.specs.TableRows.{enrol_row}

-- ---- the rows of pairs

one_more_at : (e : ℕ) (xs : List ℕ) (i : ℕ) (d : ℕ) → i < length xs
    → map enrol_row (pairs_at e (take (i + 1) xs))
    ≡ map enrol_row (pairs_at e (take i xs)) ++ record { student = get_or xs i d; exam = e } ∷ []
one_more_at e xs i d lt =
    ap (λ l. map enrol_row (pairs_at e l)) (take_more xs i d lt)
    ∙ ap (map enrol_row) (map-append _ (take i xs) (get_or xs i d ∷ []))
    ∙ map-append enrol_row (pairs_at e (take i xs))
    (record { exam = e; student = get_or xs i d } ∷ [])

-- one student more
pub added : (rows : List EnrolRow) (e : ℕ) (xs : List ℕ) (i : ℕ) (d : ℕ) → i < length xs
    → (rows ++ map enrol_row (pairs_at e (take i xs)))
    ++ record { student = get_or xs i d; exam = e } ∷ []
    ≡ rows ++ map enrol_row (pairs_at e (take (i + 1) xs))
added rows e xs i d lt =
    append_assoc rows (map enrol_row (pairs_at e (take i xs))) _
    ∙ ap (λ l. rows ++ l) (sym (one_more_at e xs i d lt))

pairs_from-push : (k : ℕ) (E : Enrolled) (xs : List ℕ)
    → pairs_from k (E ++ xs ∷ []) ≡ pairs_from k E ++ pairs_at (k + length E) xs
pairs_from-push k [] xs = append-nil (pairs_at k xs) ∙ ap (λ n. pairs_at n xs) (omega arith)
pairs_from-push k (ys ∷ E) xs =
    ap (λ ps. pairs_at k ys ++ ps)
    (pairs_from-push (k + 1) E xs ∙ ap (λ n. pairs_from (k + 1) E ++ pairs_at n xs) (omega arith))
    ∙ sym (append_assoc (pairs_at k ys) (pairs_from (k + 1) E) (pairs_at (k + length (ys ∷ E)) xs))

-- one exam more
pub exam_added : (E : Enrolled) (e : ℕ) → e < length E
    → map enrol_row (pairs_of (take e E)) ++ map enrol_row (pairs_at e (students E e))
    ≡ map enrol_row (pairs_of (take (e + 1) E))
exam_added E e lt =
    sym (ap (map enrol_row)
    (ap (pairs_from 0) (take_more E e [] lt) ∙ pairs_from-push 0 (take e E) (students E e)
    ∙ ap (λ n. pairs_of (take e E) ++ pairs_at n (students E e))
    (let l = length-take e E in omega arith))
    ∙ map-append enrol_row (pairs_of (take e E)) (pairs_at e (students E e)))

-- ---- the tables

module _ (I : Session) (E : Enrolled) (text : List ℕ) (rows : List EnrolRow)
    (is_text : text ≡ canonical_instance I (no_pairs (length I.exams)))
    (are_rows : IsPermutation rows (map enrol_row (pairs_of E))) where
  session_represents : TablesRepresentRecords (session_put text rows empty_tables) (new_records (I, E))
  session_represents = record {
    meta = ap (λ b. record { published = false; instance = b } ∷ []) is_text;
    owner = λ e. refl;
    enrol = subst (λ l. IsPermutation l (map enrol_row (pairs_of E)))
        (sym (append-nil (reverse rows)))
        (IsPermutation-trans _ _ _ (IsPermutation-sym _ _ (IsPermutation-reverse rows)) are_rows);
    draft = λ d. refl;
    slot = λ d. IsPermutation-refl [];
    published = record { placed = IsPermutation-refl []; seat = IsPermutation-refl [] };
    batches = record { same = IsPermutation-refl []; fit = tt };
  }

  -- the database represents the office with only that session
  session_kept : (a b : Database) → RepresentsOffice a None
      → ((t : Tables) → HoldsTables a t → HoldsTables b (session_put text rows t))
      → IsInstance I → AreEnrolled I E → RepresentsOffice b (Some (new_records (I, E)))
  session_kept a b kept makes is are = record {
    held = session_put text rows empty_tables;
    tables = makes empty_tables (subst (HoldsTables a) kept.represents kept.tables);
    represents = session_represents;
    sound = record {
      scored = tt;
      shared = record { of_students = IsPermutation-refl []; of_parts = IsPermutation-refl [] };
    };
    office = fresh_records I E is are;
  }

-- ---- the command

-- a text that is read has a list of students for each exam
pub as_many : (b : List ℕ) (I : Session) (E : Enrolled) → InstanceText b I E
    → length E ≡ length I.exams
as_many b I E text =
    let exams = ap (λ (I : Session). length I.exams) text.session in
    let lists = ap length text.enrolled in
    let one : length (map (λ (l : ExamLine). l.students) text.said.exams) ≡ length text.said.exams
    = length-map text.said.exams _ in
    let other : length (session_of text.said).exams ≡ length text.said.exams
    = length-map text.said.exams _ in
    omega (arith, exams, lists, one, other)

loaded_first : (b : List ℕ) (s : Session × Enrolled) → instance_in b ≡ Ok s
    → load_session b None ≡ Ok (session_counts s, Some (new_records s))
loaded_first b s is = rw is refl

loaded_again : (b : List ℕ) (s : Session × Enrolled) (o : OfficeState) → instance_in b ≡ Ok s
    → is_none o ≡ false → load_session b o ≡ Err Loaded
loaded_again b s o is some = rw (is, some) refl

some_kept : (m : OfficeMemory) (o : OfficeState) → IsMemoryOf o m → is_some m.kept ≡ true
    → is_none o ≡ false
some_kept m None e is = absurd (let no = ap is_some e.session ∙ is in cc)
some_kept m (Some r) e is = refl

none_kept : (m : OfficeMemory) (o : OfficeState) → IsMemoryOf o m → is_some m.kept ≡ false
    → o ≡ None
none_kept m None e is = refl
none_kept m (Some r) e is = absurd (let no = ap is_some e.session ∙ is in cc)

-- ---- the command, by what is in memory

pub load_denied : (text : List ℕ) {s : Session × Enrolled} {a : Database} {m : OfficeMemory}
    → instance_in text ≡ Ok s → is_some m.kept ≡ true → Denies (load_session text) Loaded a m
load_denied text read some o kept is = loaded_again text _ o read (some_kept _ o is some)

module _ (text : List ℕ) (I : Session) (E : Enrolled) {counts : loading.Loaded} {a : Database}
    {m : OfficeMemory} (read : instance_in text ≡ Ok (I, E)) (counted : counts ≡ session_counts (I, E))
    (empty : is_some m.kept ≡ false) where
  pub load_moves : {stored : List ℕ} {its made : List InsertEnrol}
      → stored ≡ canonical_instance I (no_pairs (length I.exams)) → its ≡ made
      → IsPermutation (map (λ (it : InsertEnrol). it.row) made) (map enrol_row (pairs_of E))
      → IsInstance I → AreEnrolled I E
      → MovesBy (λ t. after_all (λ (it : InsertEnrol). with_enrol it.row) its
      (with_meta false stored (no_meta t))) (load_session text) counts a m
  load_moves {stored = stored} {its = its} is_text same made is are b comes o kept held =
      let none = none_kept m o held empty in
      let rows = map (λ (it : InsertEnrol). it.row) its in
      let makes : RowsChanged (session_put stored rows) a b
      = λ t h. subst (HoldsTables b) (enrols_put its (with_meta false stored (no_meta t))) (comes t h) in (
        Some (new_records (I, E)),
        ap (load_session text) none ∙ loaded_first text (I, E) read
            ∙ ap (λ k. Ok (k, Some (new_records (I, E)))) (sym counted),
        session_kept I E stored rows is_text
            (subst (λ l. IsPermutation (map (λ (it : InsertEnrol). it.row) l)
            (map enrol_row (pairs_of E))) (sym same) made) a b
            (subst (RepresentsOffice a) none kept) makes is are,
      )

  pub load_remembers : {n : OfficeMemory} → n.kept ≡ Some (I, E) → n.batches ≡ 0
      → ((d : ℕ) → draft_at n.drafts d ≡ None) → n.published ≡ None → n.priced ≡ None
      → Remembers (load_session text) counts a m n
  load_remembers {n = n} kept batches drafts published priced o here is new gives =
      subst (λ o. IsMemoryOf o n)
      (next_is (ap (load_session text) (sym (none_kept m o is empty)) ∙ gives)
      (loaded_first text (I, E) read))
      (record {
        session = sym kept;
        batches = sym batches;
        drafts = drafts;
        published = sym (ap publication_from published);
        priced = sym priced;
      })
