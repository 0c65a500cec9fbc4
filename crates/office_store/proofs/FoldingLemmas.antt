-- The pairs of the students of an edited exam, and the fold of these students' rows.
use Rattle.std.specs.List.{AllByRecursion, flat_map, IsAllAdjacentAnswer}
use Rattle.std.proofs.Common.{◌≡◌, ℕ, ◌+◌, ◌<◌, ◌≤◌, inl, inr, true, false, ◌||◌, eqb, List, ◌∷◌, ◌++◌, length, take, filter, get_or, All, Some, IsPermutation, refl, sym, ◌∙◌, ap, ap₂, subst, arith, append_assoc, length-append, length-take, [], Vec, Bool, true≢false, IsTrue, map, Option, None}
use Rattle.std.proofs.lemmas.Bool.Decides.{nat_tests}
use Rattle.std.proofs.lemmas.List.{get_or-take, get_or_default, length-map, take_more, map_push}
use Rattle.std.proofs.lemmas.List.Elements.{All-from_recursion, filter_agree, recursion_from_All}
use Rattle.std.proofs.lemmas.List.Folds.{list_any-append}
use Rattle.std.proofs.lemmas.List.Sorted.{IsPermutation-append_right, IsPermutation-refl, IsPermutation-trans, length_permutation}
use Rattle.std.specs.Prelude.{◌↔◌, nat_lt, ok_or}
use Rattle.std.specs.declared.alloc.Global.{Global}
use Rattle.exam_lists.proofs.Chains.{IsChain, chain_from_next, chain_map, chain_unmap, index_from_chain}
use Rattle.exam_lists.proofs.Each.{each_weaker, each_append, each_append_right, each_all, each_map}
use Rattle.exam_lists.proofs.Booleans.{eqb_swap}
use Rattle.exam_lists.proofs.Filters.{filter_false, length_filter-le}
use Rattle.exam_lists.proofs.Permutations.{IsPermutation-filter_or}
use Rattle.exam_model.specs.Changes.{exams_sat}
use Rattle.exam_model.specs.Enrolments.{AreEnrolments, Enrolled, IsAscending, has, has_number, students}
use Rattle.exam_model.specs.Pairs.{Pair, pairs_of}
use Rattle.exam_model.proofs.PairLemmas.{are_pairs}
use Rattle.exam_publish.proofs.ListLemmas.{chain_from_ascending, has_ascending, ascending_from_chain, ascends}
use Rattle.exam_score.specs.Exchanges.{pairs_concerned, sits_among, IsOfEdit}
use Rattle.exam_score.specs.Folds.{CanFollow, ComesEarlier, Folded, RepresentsPairs, pairs_sat, IsFoldOf}
use Rattle.office_store.specs.Folding.{pairs_of_students, students_of_exams, CanTake, HasTaken, IsEditOf}
use Rattle.sqlite.specs.Held.{Held, state}
use Rattle.sqlite.specs.State.{HasCleanDisk, IsUnchanged}
use Rattle.sqlite.specs.Store.{Ghosts}
use Rattle.exam_model.specs.Instance.{Session}
use Rattle.exam_model.specs.Timetable.{Placing}
use Rattle.sqlite_trees.proofs.ListLemmas.{all-filter}
use Rattle.exam_score.specs.Front.{AreSizes}
use Rattle.exam_score.specs.Penalty.{Penalty}
use Rattle.exam_score.specs.Track.{track}
use Rattle.exam_score.proofs.ConcernedLemmas.{edit_is, track_is}
use Rattle.office_model.specs.declared.fault.StoreFault.TheVariants.{BadSchema}
use Rattle.office_records.specs.Representation.{RepresentsOffice}
use Rattle.office_records.proofs.ReadableLemmas.{are_readable}
use Rattle.office_tables.specs.Tables.Enrol.{FitsEnrol, StudentEnrolsRise}
use Rattle.office_tables.specs.Selections.{AreListed, AreListedIfFit}
use Rattle.office_tables.specs.Tables.{Tables}
use Rattle.office_tables.specs.TablesHeld.{HoldsTables}
use Rattle.office_tables.specs.declared.tables.enrol.EnrolRow.{EnrolRow}
use Rattle.office_store.specs.FoldReads.{HadEnrolments, HasRead, RowsUnchanged}
use Rattle.office_store.specs.Running.{ReturnsValue}
use Rattle.office_store.specs.declared.editing.EditedTimetable.{EditedTimetable}
use Rattle.office_store.specs.Viewing.{candidate_enrol_row}
use Rattle.office_store.proofs.LeavingLemmas.{survives_on}
use Rattle.office_store.proofs.ViewLemmas.{exams_back, own_pairs, rows_read, sat_rise}

-- ---- tests on lists

-- a number below all numbers of a list is not in it
not_above : (c s : ℕ) (ss : List ℕ) → AllByRecursion (λ t. c < t) ss → eqb c s ≡ true
    → has_number ss s ≡ false
not_above c s [] above is = refl
not_above c s (t ∷ ss) above is =
    let other : eqb t s ≡ false = let h = above.0 in grind (arith, nat_tests, h, is) in
    ap (λ b. b || has_number ss s) other ∙ not_above c s ss above.1 is

-- ---- the pairs of students

-- the pairs of one student among others
abbrev pub pairs_of_student : List Pair → ℕ → List Pair
pairs_of_student pairs s = filter (λ p. eqb p.student s) pairs

-- whatever their order, the pairs of some students are the pairs of each student
pub gathered : (pairs : List Pair) (ss : List ℕ) → IsChain (λ x y. x < y) ss
    → IsPermutation (filter (λ p. has_number ss p.student) pairs)
    (flat_map (pairs_of_student pairs) ss)
gathered pairs [] h =
    subst (λ l. IsPermutation l []) (sym (filter_false pairs)) (IsPermutation-refl [])
gathered pairs (s ∷ ss) h =
    subst (λ l. IsPermutation (filter (λ p. has_number (s ∷ ss) p.student) pairs)
    (l ++ flat_map (pairs_of_student pairs) ss))
    (filter_agree (λ (p : Pair). eqb s p.student) (λ p. eqb p.student s)
    (λ p. eqb_swap s p.student) pairs)
    (IsPermutation-trans _ _ _
    (IsPermutation-filter_or (λ p. eqb s p.student) (λ p. has_number ss p.student) pairs
    (λ p is. not_above s p.student ss h.0 is))
    (IsPermutation-append_right (filter (λ p. eqb s p.student) pairs) _ _ (gathered pairs ss h.1)))

module _ (E : Enrolled) (known : AreEnrolments E)
    (own : (s : ℕ) → pairs_of_student (pairs_of E) s ≡ pairs_sat (Some s) (exams_sat E s)) where
  each_own : (ss : List ℕ) → flat_map (pairs_of_student (pairs_of E)) ss ≡ pairs_of_students E ss
  each_own [] = refl
  each_own (s ∷ ss) = ap₂ (λ a b. a ++ b) (own s) (each_own ss)

  of_students : (ss : List ℕ) → IsChain (λ x y. x < y) ss
      → IsPermutation (filter (λ p. has_number ss p.student) (pairs_of E)) (pairs_of_students E ss)
  of_students ss h =
      subst (IsPermutation (filter (λ p. has_number ss p.student) (pairs_of E))) (each_own ss)
      (gathered (pairs_of E) ss h)

  -- they are no more than all pairs
  pub students_few : (ss : List ℕ) → IsAscending ss → length (pairs_of_students E ss) ≤ 200000
  students_few ss h =
      let moved = length_permutation _ _ (of_students ss (chain_from_ascending ss h)) in
      let few = length_filter-le (λ (p : Pair). has_number ss p.student) (pairs_of E) in
      let all = (are_pairs E known).count in
      let most = known.pairs in
      omega (arith, moved, few, all, most)

  -- the students of an edited exam
  who_sits : (exams : List ℕ) (s : ℕ)
      → sits_among E exams s ≡ has_number (flat_map (students E) exams) s
  who_sits [] s = refl
  who_sits (e ∷ exams) s =
      ap (λ b. has E s e || b) (who_sits exams s)
      ∙ sym (list_any-append (λ t. eqb t s) (students E e) (flat_map (students E) exams))

  pub concerned : (exams : List ℕ) → IsAscending (students_of_exams E exams)
      → IsPermutation (pairs_concerned E exams) (pairs_of_students E (students_of_exams E exams))
  concerned exams h =
      subst (λ l. IsPermutation l (pairs_of_students E (students_of_exams E exams)))
      (sym (filter_agree (λ (p : Pair). sits_among E exams p.student)
      (λ p. has_number (students_of_exams E exams) p.student)
      (λ p. who_sits exams p.student ∙ sym (has_ascending (flat_map (students E) exams) p.student))
      (pairs_of E)))
      (of_students (students_of_exams E exams) (chain_from_ascending _ h))

-- ---- the fold takes a student's exams

each_sat : (P : Pair → Type 0) (s : ℕ) (exams : List ℕ)
    → AllByRecursion (λ e. P (record { exam = e; student = s })) exams
    → AllByRecursion P (pairs_sat (Some s) exams)
each_sat P s [] h = tt
each_sat P s (e ∷ exams) h = (h.0, each_sat P s exams h.1)

each_earlier : (exams : List ℕ) (i : ℕ) (d : ℕ) → i < length exams → IsAscending exams
    → AllByRecursion (λ e. e < get_or exams i d) (take i exams)
each_earlier exams i d lt up =
    recursion_from_All (λ e. e < get_or exams i d) (take i exams)
    (λ k c m. (let within : k < i = (let l = length-take i exams in omega (arith, l, m)) in
    subst (λ e. e < get_or exams i d) (sym (taken k c within))
    (subst (λ f. get_or exams k 0 < f) (get_or_default exams i 0 d lt) (up k i within lt))))
  where
    taken : (k c : ℕ) → k < i → get_or (take i exams) k c ≡ get_or exams k 0
    taken k c within =
        get_or-take i exams k c within ∙ get_or_default exams k c 0 (omega (arith, within, lt))

-- after the pairs so far and some of the current student's exams, the next exam can follow
pub can_follow : (fold : Folded) (pairs : List Pair) (s : ℕ) (exams : List ℕ) (i d : ℕ)
    → i < length exams → IsAscending exams → All (λ p. p.student < s) pairs
    → RepresentsPairs fold (pairs ++ pairs_sat (Some s) (take i exams))
    → CanFollow fold (record { exam = get_or exams i d; student = s })
can_follow fold pairs s exams i d lt up below h =
    let pair : Pair = record { exam = get_or exams i d; student = s } in
    All-from_recursion (λ p. ComesEarlier p pair) fold.current
    (each_append_right (λ p. ComesEarlier p pair) h.closed fold.current
    (subst (AllByRecursion (λ p. ComesEarlier p pair)) h.parts
    (each_append (λ p. ComesEarlier p pair) pairs (pairs_sat (Some s) (take i exams))
    (each_weaker (λ p. p.student < s) (λ p. ComesEarlier p pair) (λ p l. inl l) pairs
    (recursion_from_All (λ p. p.student < s) pairs below))
    (each_sat (λ p. ComesEarlier p pair) s (take i exams)
    (each_weaker (λ e. e < get_or exams i d)
    (λ e. ComesEarlier (record { exam = e; student = s }) pair) (λ e l. inr (refl, l))
    (take i exams) (each_earlier exams i d lt up))))))

pub length_sat : (s : ℕ) (exams : List ℕ) → length (pairs_sat (Some s) exams) ≡ length exams
length_sat s exams =
    let pair : ℕ → Pair = λ e. record { exam = e; student = s } in length-map exams pair

pub has_room : {fold : Folded} (pairs : List Pair) (s : ℕ) (exams : List ℕ) (i : ℕ)
    → i < length exams → length pairs + length exams ≤ 200000
    → RepresentsPairs fold (pairs ++ pairs_sat (Some s) (take i exams)) → fold.count < 200000
has_room pairs s exams i lt few h =
    omega (
      arith,
      h.count,
      length-append pairs (pairs_sat (Some s) (take i exams)),
      length_sat s (take i exams),
      length-take i exams,
      lt,
      few,
    )

-- the fold takes one more
pub one_more : (fold : Folded) (pairs : List Pair) (s : ℕ) (exams : List ℕ) (i d : ℕ)
    → i < length exams
    → RepresentsPairs fold ((pairs ++ pairs_sat (Some s) (take i exams))
    ++ record { exam = get_or exams i d; student = s } ∷ [])
    → RepresentsPairs fold (pairs ++ pairs_sat (Some s) (take (i + 1) exams))
one_more fold pairs s exams i d lt h =
    subst (RepresentsPairs fold)
    (append_assoc pairs (pairs_sat (Some s) (take i exams)) _
    ∙ ap (λ l. pairs ++ l)
    (sym (ap (pairs_sat (Some s)) (take_more exams i d lt)
    ∙ map_push (λ (e : ℕ). record { exam = e; student = s }) (take i exams) (get_or exams i d)))) h

-- ---- a connection that reads once more

module _ {S : Type 0} {store : Ghosts S} where
  module _ {a b c : Held S} (first : HasRead store a b) (same : RowsUnchanged store a b)
      (next : HasRead store b c) where
    -- the tables are still there
    tables_on : HasCleanDisk (state store c) → (t : Tables) → HoldsTables (state store a).now t
        → IsTrue (state store a).is_open
        → IsUnchanged (state store a) (state store b) × HoldsTables (state store b).now t
    tables_on clean t represents is =
        let mid = same (next.clean clean) t represents is in
        (mid, subst (λ db. HoldsTables db t) (sym mid.0.now_is) represents)

    opened : HasCleanDisk (state store c) → IsTrue (state store c).is_open
        → IsTrue (state store a).is_open
    opened clean o = first.was_open (next.clean clean) (next.was_open clean o)

    pub read_on : HasRead store a c
    read_on = record {
      clean = λ k. first.clean (next.clean k);
      survives = survives_on (state store a) (state store b) (state store c) first.survives
          next.survives;
      was_open = opened;
      kept = λ clean t represents. record {
        was_open = opened clean;
        now = λ o.
            let mid = tables_on clean t represents (opened clean o) in
            elim ((next.kept clean t mid.1).now o) [
              | inl is ↦ inl (is ∙ mid.0.0.now_is)
              | inr is ↦ inr (is ∙ mid.0.0.committed_is)
            ];
        committed = λ o.
            let mid = tables_on clean t represents (opened clean o) in
            (next.kept clean t mid.1).committed o ∙ mid.0.0.committed_is;
        mode = λ m. next.mode (first.mode m);
      };
      mode = λ m. next.mode (first.mode m);
    }

    pub same_on : RowsUnchanged store b c → RowsUnchanged store a c
    same_on more clean t represents is =
        let mid = tables_on clean t represents is in
        let last = more clean t mid.1 mid.0.0.is_open in (
          record {
            was_open = is;
            is_open = last.0.is_open;
            now_is = last.0.now_is ∙ mid.0.0.now_is;
            committed_is = last.0.committed_is ∙ mid.0.0.committed_is;
            mode = last.0.mode ∙ mid.0.0.mode;
          },
          record {
            changes = last.1.changes ∙ mid.0.1.changes;
            last_rowid = last.1.last_rowid ∙ mid.0.1.last_rowid;
          },
          last.2 ∙ mid.0.2,
        )

    -- the office is still represented before the next call
    pub had_on : (E : Enrolled) → HadEnrolments store a c E → HadEnrolments store b c E
    had_on E had =
        let mid = tables_on had.clean had.kept.held had.kept.tables had.opened in
        record {
          clean = had.clean;
          opened = mid.0.0.is_open;
          records = had.records;
          kept = subst (λ db. RepresentsOffice db (Some had.records)) (sym mid.0.0.now_is) had.kept;
          enrolments = had.enrolments;
        }

    -- and was represented before the first
    pub had_before : (E : Enrolled) → HadEnrolments store a c E → HadEnrolments store a b E
    had_before E had = record {
      clean = next.clean had.clean;
      opened = had.opened;
      records = had.records;
      kept = had.kept;
      enrolments = had.enrolments;
    }

  are_known : {a b : Held S} {E : Enrolled} → HadEnrolments store a b E → AreEnrolments E
  are_known had = subst AreEnrolments had.enrolments had.kept.office.enrolled.set

-- ---- students, one after another

module _ {S : Type 0} {store : Ghosts S} {all : List ℕ} where
  -- there is room for the next student's exams
  pub next_taken : {a b : Held S} {fold : Folded} {count : ℕ} {rest : List ℕ} {s : ℕ}
      {others : List ℕ} (exams : List ℕ) → HasTaken store a b fold count all rest → rest ≡ s ∷ others
      → count + length exams ≤ 200000 → CanTake fold s (length exams)
  next_taken {s = s} {others = others} exams taken is few = record {
    pairs = taken.pairs;
    represents = taken.represents;
    few = omega (arith, few, taken.counted);
    below = (recursion_from_All (λ s. All (λ p. p.student < s) taken.pairs) (s ∷ others)
        (subst (All (λ s. All (λ p. p.student < s) taken.pairs)) is taken.below)).0;
  }

  -- the exams that were read, as they were counted and as they were folded
  pub read_taken : {a b c : Held S} {fold next : Folded} {count more : ℕ} {rest : List ℕ} {s : ℕ}
      {others read counted exams : List ℕ} → HasTaken store a b fold count all rest
      → rest ≡ s ∷ others → IsAscending rest → counted ≡ read → exams ≡ read
      → more ≡ count + length counted → more ≤ 200000
      → ((pairs : List Pair) → RepresentsPairs fold pairs
      → RepresentsPairs next (pairs ++ pairs_sat (Some s) exams))
      → ((E : Enrolled) → HadEnrolments store a c E → HadEnrolments store a b E)
      → ((E : Enrolled) → HadEnrolments store a c E → read ≡ exams_sat E s)
      → HasTaken store a c next more all others
  read_taken {s = s} {others = others} {exams = exams} taken is up one other adds few represents before
      are =
      record {
        pairs = taken.pairs ++ pairs_sat (Some s) exams;
        represents = represents taken.pairs taken.represents;
        counted =
            let same = ap length (one ∙ sym other) in
            omega (
              arith,
              adds,
              same,
              taken.counted,
              length-append taken.pairs (pairs_sat (Some s) exams),
              length_sat s exams,
            );
        few = few;
        below = All-from_recursion
            (λ n. All (λ p. p.student < n) (taken.pairs ++ pairs_sat (Some s) exams)) others
            (each others
            (recursion_from_All (λ n. All (λ p. p.student < n) taken.pairs) (s ∷ others)
            (subst (All (λ n. All (λ p. p.student < n) taken.pairs)) is taken.below)).1
            (chain_from_ascending (s ∷ others) (subst IsAscending is up)).0);
        are = λ E had.
            append_assoc taken.pairs (pairs_sat (Some s) exams) (pairs_of_students E others)
            ∙ ap (λ l. taken.pairs ++ (pairs_sat (Some s) l ++ pairs_of_students E others))
            (other ∙ are E had)
            ∙ ap (λ l. taken.pairs ++ pairs_of_students E l) (sym is)
            ∙ taken.are E (before E had);
      }
    where
      own : (n : ℕ) (es : List ℕ) → s < n
          → AllByRecursion (λ p. p.student < n) (pairs_sat (Some s) es)
      own n [] l = tt
      own n (e ∷ es) l = (l, own n es l)

      each : (ns : List ℕ) → AllByRecursion (λ n. All (λ p. p.student < n) taken.pairs) ns
          → AllByRecursion (λ n. s < n) ns
          → AllByRecursion
          (λ n. All (λ p. p.student < n) (taken.pairs ++ pairs_sat (Some s) exams)) ns
      each [] h k = tt
      each (n ∷ ns) h k = (
        All-from_recursion (λ p. p.student < n) (taken.pairs ++ pairs_sat (Some s) exams)
            (each_append (λ p. p.student < n) taken.pairs (pairs_sat (Some s) exams)
            (recursion_from_All (λ p. p.student < n) taken.pairs h.0) (own n exams k.0)),
        each ns h.1 k.1,
      )

  -- over a clean disk there are no more pairs than an office can have
  pub not_more : {a b c : Held S} {fold : Folded} {count : ℕ} {rest : List ℕ} {s : ℕ}
      {others exams : List ℕ} {E : Enrolled} → HasTaken store a b fold count all rest
      → rest ≡ s ∷ others → IsAscending all → HadEnrolments store a c E
      → HadEnrolments store a b E → exams ≡ exams_sat E s → count + length exams ≤ 200000
  not_more {s = s} {others = others} {exams = exams} {E = E} taken is up had before are =
      let known = are_known had in
      let few = students_few E known (λ n. own_pairs E n known) all up in
      let whole = ap length (sym (taken.are E before)
      ∙ ap (λ l. taken.pairs ++ pairs_of_students E l) is
      ∙ ap (λ l. taken.pairs ++ (pairs_sat (Some s) l ++ pairs_of_students E others)) (sym are)) in
      omega (
        arith,
        few,
        whole,
        taken.counted,
        length-append taken.pairs (pairs_sat (Some s) exams ++ pairs_of_students E others),
        length-append (pairs_sat (Some s) exams) (pairs_of_students E others),
        length_sat s exams,
      )

-- the rest ascends too
pub rise_on : {rest : List ℕ} {s : ℕ} {others : List ℕ} → rest ≡ s ∷ others → IsAscending rest
    → IsAscending others
rise_on {s = s} {others = others} is up =
    ascending_from_chain others (chain_from_ascending (s ∷ others) (subst IsAscending is up)).1

-- ---- rows in order

-- rows of smaller exams
abbrev IsSooner : EnrolRow → EnrolRow → Type 0
IsSooner x y = x.exam < y.exam

pub in_order_is : (rows : List EnrolRow) (r : Bool)
    → IsAllAdjacentAnswer (λ (x y : EnrolRow) b. b ≡ nat_lt x.exam y.exam) rows r
    → IsTrue r ↔ IsAscending (map (λ (row : EnrolRow). row.exam) rows)
in_order_is rows true all = (
  λ _. ascending_from_chain _ (chain_map (λ x y. x < y) (λ (row : EnrolRow). row.exam) rows
      (chain_from_next IsSooner (λ x y z h k. omega (arith, h, k)) rows
      (λ k d within. let test = all k d within in grind (arith, nat_tests, test)))),
  λ _. refl,
)
in_order_is rows false some = (
  λ no. absurd (true≢false (sym no)),
  λ up.
      let d : EnrolRow = record { student = 0; exam = 0 } in
      let k : ℕ = some.0 in
      let less : (get_or rows k d).exam < (get_or rows (k + 1) d).exam
      = index_from_chain IsSooner rows (chain_unmap (λ x y. x < y) (λ (row : EnrolRow). row.exam) rows
      (chain_from_ascending _ up)) k (k + 1) d (omega arith) some.1 in
      let test = some.2 d in
      absurd (not_less _ _ less test),
)
  where
    not_less : (m n : ℕ) → m < n → false ≡ nat_lt m n → ⊥
    not_less m n l test = grind (arith, nat_tests, l, test)

-- ---- a student's rows

pub candidate_are_of : (s : ℕ) (rows : List EnrolRow) (exams : List ℕ) → rows
    ≡ map (candidate_enrol_row s) exams
    → All (λ (row : EnrolRow). row.student ≡ s) rows
candidate_are_of s rows exams is =
    subst (All (λ (row : EnrolRow). row.student ≡ s)) (sym is)
    (All-from_recursion (λ (row : EnrolRow). row.student ≡ s) (map (candidate_enrol_row s) exams)
    (each_map (λ (row : EnrolRow). row.student ≡ s) (candidate_enrol_row s) exams
    (each_all (λ e. s ≡ s) (λ e. refl) exams)))

-- the student's rows are those of their exams
pub candidate_back : (s : ℕ) (rows : List EnrolRow) → All (λ (row : EnrolRow). row.student ≡ s) rows
    → rows ≡ map (candidate_enrol_row s) (map (λ (row : EnrolRow). row.exam) rows)
candidate_back s rows all = each rows (recursion_from_All
    (λ (row : EnrolRow). row.student ≡ s) rows all)
  where
    each : (qs : List EnrolRow) → AllByRecursion (λ (row : EnrolRow). row.student ≡ s) qs
        → qs ≡ map (candidate_enrol_row s) (map (λ (row : EnrolRow). row.exam) qs)
    each [] h = refl
    each (q ∷ qs) h = ap₂ (λ (n : ℕ) (l : List EnrolRow). candidate_enrol_row n q.exam ∷ l) h.0
        (each qs h.1)

pub exams_are : (s : ℕ) (rows : List EnrolRow) (exams : List ℕ) → rows
    ≡ map (candidate_enrol_row s) exams
    → map (λ (row : EnrolRow). row.exam) rows ≡ exams
exams_are s rows exams is =
    ap (map (λ (row : EnrolRow). row.exam)) is ∙ exams_back s exams

pub up_of : (s : ℕ) (rows : List EnrolRow) (exams : List ℕ) → rows
    ≡ map (candidate_enrol_row s) exams
    → IsAscending exams → IsAscending (map (λ (row : EnrolRow). row.exam) rows)
up_of s rows exams is up = subst IsAscending (sym (exams_are s rows exams is)) up

-- the rows that are read of a student are those of the student's exams
pub rows_had : {S : Type 0} {store : Ghosts S} {a b : Held S} {E : Enrolled} {s n : ℕ}
    {found : Option (Vec EnrolRow Global)} {rows : Vec EnrolRow Global} → HadEnrolments store a b E
    → n ≡ s → found ≡ Some rows
    → (HasCleanDisk (state store b) → (t : Tables) → HoldsTables (state store a).now t
    → AreListedIfFit FitsEnrol StudentEnrolsRise (filter (λ (x : EnrolRow). eqb x.student n) t.enrol)
    found)
    → rows.items ≡ map (candidate_enrol_row s) (exams_sat E s)
rows_had {s = s} {n = n} {rows = rows} had is some reads =
    let t = had.kept.held in
    let listed : AreListed StudentEnrolsRise (filter (λ (x : EnrolRow). eqb x.student n) t.enrol)
    rows.items = subst (AreListedIfFit FitsEnrol StudentEnrolsRise
    (filter (λ (x : EnrolRow). eqb x.student n) t.enrol)) some
    (reads had.clean t had.kept.tables) in
    subst (λ E. rows.items ≡ map (candidate_enrol_row s) (exams_sat E s)) had.enrolments
    (subst (λ k. rows.items ≡ map (candidate_enrol_row k) (exams_sat had.records.enrolments k)) is
    (rows_read t had.records n rows.items had.kept.represents had.kept.office listed.in_order))

-- the student's rows are valid
pub rows_fit : {S : Type 0} {store : Ghosts S} {a b : Held S} {E : Enrolled} (n : ℕ)
    {found : Option (Vec EnrolRow Global)} → HadEnrolments store a b E → found ≡ None
    → (HasCleanDisk (state store b) → (t : Tables) → HoldsTables (state store a).now t
    → AreListedIfFit FitsEnrol StudentEnrolsRise (filter (λ (x : EnrolRow). eqb x.student n) t.enrol)
    found) → ⊥
rows_fit n had none reads =
    let t = had.kept.held in
    let unfit : AllByRecursion FitsEnrol (filter (λ (x : EnrolRow). eqb x.student n) t.enrol) → ⊥ =
    subst (AreListedIfFit FitsEnrol StudentEnrolsRise
    (filter (λ (x : EnrolRow). eqb x.student n) t.enrol)) none
    (reads had.clean t had.kept.tables) in
    unfit (all-filter FitsEnrol (λ (x : EnrolRow). eqb x.student n) t.enrol
    (are_readable t (Some had.records) had.kept.represents had.kept.sound had.kept.office).enrol)

pub sat_up : (E : Enrolled) (s : ℕ) → IsAscending (exams_sat E s)
sat_up E s = ascending_from_chain (exams_sat E s) (sat_rise E s)

-- ---- the result of the fold

pub returned_after : {S : Type 0} {store : Ghosts S} {a b : Held S} {fold : Folded} {I : Session}
    {E : Enrolled} {judged : EditedTimetable} {edited sizes : List ℕ} {r : Option Penalty}
    {pairs : List Pair} → HadEnrolments store a b E → IsEditOf I E judged
    → IsFoldOf fold I judged.draft.now.timetable judged.new edited → edited ≡ judged.exams.items
    → AreSizes E sizes → RepresentsPairs fold pairs
    → pairs ≡ pairs_of_students E (students_of_exams E judged.exams.items)
    → (IsOfEdit fold E pairs sizes judged.draft.now.parts → r ≡ Some (track fold.instance E
    fold.later))
    → ReturnsValue (track I E judged.new) (ok_or r BadSchema)
returned_after {fold = fold} {I = I} {E = E} {judged = judged} {sizes = sizes} {r = r} {pairs = pairs}
    had of is same sized represents are scored =
    let known = are_known had in
    let exams = judged.exams.items in
    let moved : IsPermutation (pairs_concerned E exams) pairs
    = subst (IsPermutation (pairs_concerned E exams)) (sym are)
    (concerned E known (λ s. own_pairs E s known) exams (ascends (flat_map (students E) exams))) in
    let on : IsFoldOf fold I judged.draft.now.timetable judged.new exams
    = subst (IsFoldOf fold I judged.draft.now.timetable judged.new) same is in
    let some = track_is fold I E judged.draft.now.timetable judged.new exams r on
    (scored (edit_is fold I E judged.draft.now.timetable judged.new exams pairs sizes
    judged.draft.now.parts on known of.fits
    moved sized of.others of.scored)) in
    subst (λ o. ReturnsValue (track I E judged.new) (ok_or o BadSchema)) (sym some) refl

pub fold_of : {fold empty : Folded} {I : Session} {old new : Placing} {edited : List ℕ}
    → IsFoldOf fold empty.instance empty.earlier empty.later empty.edited
    → IsFoldOf empty I old new edited → IsFoldOf fold I old new edited
fold_of on is = record {
  session = on.session ∙ is.session;
  before = on.before ∙ is.before;
  after = on.after ∙ is.after;
  exams = on.exams ∙ is.exams;
}
