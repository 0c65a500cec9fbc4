-- What the rows of a candidate are.
use Rattle.std.proofs.Common.{◌≡◌, ℕ, suc, ◌||◌, ◌+◌, ◌<◌, ◌≤◌, Bool, true, false, cond, eqb, List, ◌∷◌, ◌++◌, [], map, filter, length, length-append, eqb-true, Option, Some, None, refl, sym, ◌∙◌, ap, ap₂, subst, arith, inl, inr}
use Rattle.std.specs.Prelude.{IsErrAnd, IsPermutation, Vec, option_map, Result, Ok, Err, ◌^◌, All}
use Rattle.std.specs.declared.alloc.Global.{Global}
use Rattle.std.specs.List.{AllByRecursion, cons_option, flat_map, list_any, range_with_len}
use Rattle.std.proofs.lemmas.Bool.Decides.{nat_tests}
use Rattle.std.proofs.lemmas.Bool.{or_parts}
use Rattle.std.proofs.lemmas.List.{append_assoc, map-append}
use Rattle.std.proofs.lemmas.List.FromFn.{get_or-range_with_len, length-range_with_len}
use Rattle.std.proofs.lemmas.Option.{same_Some}
use Rattle.std.proofs.lemmas.List.Elements.{filter-append, All-from_recursion, recursion_from_All}
use Rattle.std.proofs.lemmas.List.Sorted.{IsPermutation-refl, IsPermutation-sym, IsPermutation-trans}
use Rattle.sqlite_trees.specs.Tree.{IsAscending}
use Rattle.sqlite_trees.proofs.ListLemmas.{IsPermutation-filter, IsPermutation-flat_map, IsPermutation-flat_map_each, flat_map-map, all-filter, all_from_map, filter-map, map-map}
use Rattle.exam_terms.specs.declared.place.Place.{Place}
use Rattle.exam_model.specs.Changes.{exams_sat}
use Rattle.exam_model.specs.Enrolments.{AreEnrolments, Enrolled, has, has_number, students}
use Rattle.exam_model.specs.Enrolments as rising
use Rattle.exam_model.specs.Pairs.{Pair, pairs_at, pairs_from, pairs_of}
use Rattle.exam_publish.proofs.ListLemmas.{chain_from_ascending, chain_ascending, has_ascending}
use Rattle.office_tables.specs.Tables.Enrol.{StudentEnrolsRise}
use Rattle.office_tables.specs.Selections.{IsInOrder}
use Rattle.office_tables.specs.Tables.Placed.{PlacementsRise}
use Rattle.office_tables.specs.Tables.{placed_of, Tables}
use Rattle.office_tables.specs.declared.tables.enrol.EnrolRow.{EnrolRow}
use Rattle.office_tables.specs.declared.tables.placed.PlacedRow.{PlacedRow}
use Rattle.office_model.specs.Office.{AreRecords, IsOffice, OfficeState, Publication, Records}
use Rattle.office_model.specs.Views.{published_place, no_view, view_from, view_of}
use Rattle.office_model.specs.ViewRows.{AreOfPublication, places_in}
use Rattle.office_records.specs.Publications.{placed_row, placed_rows, stored_seat}
use Rattle.office_records.specs.Representation.{TablesRepresentOffice, IsSound}
use Rattle.office_records.specs.TableRows.{enrol_row, number_if}
use Rattle.office_records.specs.Memory.{published_in, Memory, memory_of}
use Rattle.office_store.specs.Viewing.{exams_in, candidate_enrol_row, place_in_row, AreCandidateRows, no_share, share_in_row}
use Rattle.exam_lists.proofs.Chains.{IsChain, chain_filter, chain_from_index, chain_map, chain_weaker, chain_with_each}
use Rattle.exam_lists.proofs.Each.{each_filter_passes, each_weaker}
use Rattle.exam_lists.proofs.Maps.{map_back}
use Rattle.exam_lists.proofs.Filters.{filter_eqb_above}
use Rattle.exam_lists.proofs.Permutations.{same_few}
use Rattle.exam_lists.proofs.Tests.{any_map}
use Rattle.exam_model.specs.Instance.{Session}
use Rattle.exam_score.specs.Folds.{pairs_sat}
use Rattle.exam_score.specs.Penalty.{PersonalPenalty, personal_total}
use Rattle.exam_publish.specs.AddUp.{AreSmall}
use Rattle.exam_publish.specs.Changed.{rows_of, students_of}
use Rattle.exam_publish.specs.Rows.{AreNumbered, IsAtExam, RowBefore, row_place}
use Rattle.exam_publish.specs.Shares.{share_of, shares_of, student_shares}
use Rattle.exam_publish.specs.declared.seat_row.SeatRow as publish
use Rattle.exam_publish.proofs.AddUpLemmas.{adds_up}
use Rattle.exam_publish.proofs.ShareLemmas.{published_small}
use Rattle.office_tables.specs.Tables.Seat.{StudentSeatsRise}
use Rattle.office_tables.specs.declared.tables.seat.SeatRow.{SeatRow}
use Rattle.office_tables.specs.declared.tables.share_student.StudentShareRow.{StudentShareRow}
use Rattle.office_model.specs.Publishing.{publication_rows}
use Rattle.office_model.specs.Shown.{shown_exams, shown_penalty}
use Rattle.office_model.specs.declared.views.ViewRow.{ViewRow}
use Rattle.office_records.specs.SharesStored.{student_share_row, student_share_rows}
use Rattle.office_records.proofs.ReadableLemmas.{are_numbered}
use Rattle.office_store.specs.OfficeRows.{student_rows_in}
use Rattle.office_store.specs.Judging.{plain_list}
use Rattle.office_store.specs.Running.{ReturnsValue}
use Rattle.office_model.specs.declared.fault.StoreFault.{StoreFault}
use Rattle.office_store.proofs.ChangedPlacementLemmas.{one_or_none, rows_at}
use Rattle.office_store.proofs.RunLemmas.{by_publication, nothing_kept}

-- ---- a number among ascending numbers

-- the number is there once, or not at all
pub found_once : (c : ℕ) (ss : List ℕ) → IsChain (λ x y. x < y) ss
    → filter (λ s. eqb s c) ss ≡ number_if (has_number ss c) c
found_once c [] h = refl
found_once c (s ∷ ss) h = go (eqb s c) refl (found_once c ss h.1)
  where
    go : (b : Bool) → eqb s c ≡ b → filter (λ s. eqb s c) ss ≡ number_if (has_number ss c) c
        → cond b (s ∷ filter (λ s. eqb s c) ss) (filter (λ s. eqb s c) ss)
        ≡ number_if (b || has_number ss c) c
    go true e more =
        let same : s ≡ c = grind (arith, nat_tests, e) in
        ap (λ l. s ∷ l) (filter_eqb_above c ss (subst (λ n. AllByRecursion (λ t. n < t) ss) same h.0))
        ∙ ap (λ n. n ∷ []) same
    go false e more = more

-- ---- a candidate's exams

-- the exams from k on in which a candidate is enrolled
abbrev exams_from : ℕ → Enrolled → ℕ → List ℕ
exams_from k [] c = []
exams_from k (ss ∷ E) c = number_if (has_number ss c) k ++ exams_from (k + 1) E c

once_before : (b : Bool) (k : ℕ) (xs : List ℕ) → cond b (k ∷ xs) xs ≡ number_if b k ++ xs
once_before true k xs = refl
once_before false k xs = refl

students_at : (D : Enrolled) (ss : List ℕ) (E : Enrolled)
    → students (D ++ (ss ∷ E)) (length D) ≡ ss
students_at [] ss E = refl
students_at (ts ∷ D) ss E = students_at D ss E

sat_from : (D E : Enrolled) (c : ℕ)
    → filter (λ e. has (D ++ E) c e) (range_with_len (length D) (length E))
    ≡ exams_from (length D) E c
sat_from D [] c = refl
sat_from D (ss ∷ E) c =
    let more : filter (λ e. has (D ++ (ss ∷ E)) c e) (range_with_len (length D + 1) (length E))
    ≡ exams_from (length D + 1) E c
    = subst (λ k. filter (λ e. has (D ++ (ss ∷ E)) c e) (range_with_len k (length E))
    ≡ exams_from k E c) (length-append D (ss ∷ []))
    (subst (λ (F : Enrolled). filter (λ e. has F c e)
    (range_with_len (length (D ++ ss ∷ [])) (length E)) ≡ exams_from (length (D ++ ss ∷ [])) E c)
    (append_assoc D (ss ∷ []) E) (sat_from (D ++ ss ∷ []) E c)) in
    let rest = filter (λ e. has (D ++ (ss ∷ E)) c e) (range_with_len (length D + 1) (length E)) in
    ap (λ l. cond (has_number l c) (length D ∷ rest) rest) (students_at D ss E)
    ∙ once_before (has_number ss c) (length D) rest
    ∙ ap (λ l. number_if (has_number ss c) (length D) ++ l) more

sat_is : (E : Enrolled) (c : ℕ) → exams_sat E c ≡ exams_from 0 E c
sat_is E c = sat_from [] E c

-- they ascend
pub sat_rise : (E : Enrolled) (c : ℕ) → IsChain (λ x y. x < y) (exams_sat E c)
sat_rise E c =
    chain_filter (λ x y. x < y) (λ e. has E c e) (range_with_len 0 (length E))
    (chain_from_index (λ x y. x < y) (range_with_len 0 (length E)) (λ i j d before within.
    let long = length-range_with_len 0 (length E) in
    let one = get_or-range_with_len 0 (length E) i d (omega (arith, before, within, long)) in
    let other = get_or-range_with_len 0 (length E) j d (omega (arith, within, long)) in
    omega (arith, one, other, before)))

-- a chain ascends
rise : {X : Type 0} (R : X → X → Type 0) (xs : List X) → IsChain R xs → IsAscending R xs
rise R [] h = tt
rise R (x ∷ xs) h = (h.0, rise R xs h.1)

-- ---- the rows of a candidate's enrolments

one_exam : (c k : ℕ) (ss : List ℕ)
    → filter (λ (r : EnrolRow). eqb r.student c) (map enrol_row (pairs_at k ss))
    ≡ map (λ s. candidate_enrol_row s k) (filter (λ s. eqb s c) ss)
one_exam c k ss =
    let pair : ℕ → Pair = λ s. record { exam = k; student = s } in
    ap (filter (λ (r : EnrolRow). eqb r.student c)) (map-map enrol_row pair ss)
    ∙ filter-map (λ (r : EnrolRow). eqb r.student c) (λ s. candidate_enrol_row s k) ss

once_row : (b : Bool) (c k : ℕ) → map (λ s. candidate_enrol_row s k) (number_if b c)
    ≡ map (candidate_enrol_row c) (number_if b k)
once_row true c k = refl
once_row false c k = refl

candidate_pairs : (k : ℕ) (E : Enrolled) (c : ℕ) → AllByRecursion (IsChain (λ x y. x < y)) E
    → filter (λ (r : EnrolRow). eqb r.student c) (map enrol_row (pairs_from k E))
    ≡ map (candidate_enrol_row c) (exams_from k E c)
candidate_pairs k [] c h = refl
candidate_pairs k (ss ∷ E) c h =
    let own_rows = filter (λ (r : EnrolRow). eqb r.student c) in
    ap own_rows (map-append enrol_row (pairs_at k ss) (pairs_from (k + 1) E))
    ∙ filter-append (λ (r : EnrolRow). eqb r.student c) (map enrol_row (pairs_at k ss))
    (map enrol_row (pairs_from (k + 1) E))
    ∙ ap₂ (λ a b. a ++ b)
    (one_exam c k ss ∙ ap (map (λ s. candidate_enrol_row s k)) (found_once c ss h.0)
    ∙ once_row (has_number ss c) c k)
    (candidate_pairs (k + 1) E c h.1)
    ∙ sym (map-append (candidate_enrol_row c) (number_if (has_number ss c) k) (exams_from (k + 1) E c))

each_chain : (E : Enrolled) → ((e : ℕ) → e < length E → rising.IsAscending (students E e))
    → AllByRecursion (IsChain (λ x y. x < y)) E
each_chain [] h = tt
each_chain (ss ∷ E) h = (
  chain_from_ascending ss (h 0 (omega arith)),
  each_chain E (λ e lt. h (suc e) (omega arith)),
)

rows_rise : (c : ℕ) (es : List ℕ) → IsChain (λ x y. x < y) es
    → StudentEnrolsRise (map (candidate_enrol_row c) es)
rows_rise c es h =
    rise (λ (a b : EnrolRow). a.exam < b.exam) _
    (chain_map (λ (a b : EnrolRow). a.exam < b.exam) (candidate_enrol_row c) es h)

pub exams_back : (c : ℕ) (es : List ℕ) → map (λ (r : EnrolRow). r.exam)
    (map (candidate_enrol_row c) es) ≡ es
exams_back c es = map_back (candidate_enrol_row c) (λ (r : EnrolRow). r.exam) (λ e. refl) es

-- the pair of a row
abbrev row_pair : EnrolRow → Pair
row_pair r = record { exam = r.exam; student = r.student }

-- the stored enrolments of a candidate are those of the candidate's exams
candidate_enrolments : (t : Tables) (r : Records) (c : ℕ) → TablesRepresentOffice t (Some r)
    → AreRecords r
    → IsPermutation (filter (λ (x : EnrolRow). eqb x.student c) t.enrol)
    (map (candidate_enrol_row c) (exams_sat r.enrolments c))
candidate_enrolments t r c represents is =
    subst (IsPermutation (filter (λ (x : EnrolRow). eqb x.student c) t.enrol))
    (candidate_pairs 0 r.enrolments c (each_chain r.enrolments is.enrolled.set.ascending)
    ∙ ap (map (candidate_enrol_row c)) (sym (sat_is r.enrolments c)))
    (IsPermutation-filter (λ (x : EnrolRow). eqb x.student c) _ _ represents.enrol)

pub rows_read : (t : Tables) (r : Records) (c : ℕ) (found : List EnrolRow)
    → TablesRepresentOffice t (Some r)
    → AreRecords r
    → IsInOrder StudentEnrolsRise (filter (λ (x : EnrolRow). eqb x.student c) t.enrol) found
    → found ≡ map (candidate_enrol_row c) (exams_sat r.enrolments c)
rows_read t r c found represents is order =
    order (map (candidate_enrol_row c) (exams_sat r.enrolments c))
    (candidate_enrolments t r c represents is)
    (rows_rise c (exams_sat r.enrolments c) (sat_rise r.enrolments c))

pub enrols_read : (t : Tables) (o : OfficeState) (c : ℕ) (found : List EnrolRow)
    → TablesRepresentOffice t o
    → IsOffice o
    → IsInOrder StudentEnrolsRise (filter (λ (x : EnrolRow). eqb x.student c) t.enrol) found
    → map (λ (r : EnrolRow). r.exam) found ≡ exams_in c o
enrols_read t None c found represents is order =
    ap (map (λ (r : EnrolRow). r.exam))
    (order [] (subst (λ (t : Tables).
    IsPermutation (filter (λ (x : EnrolRow). eqb x.student c) t.enrol) []) (sym represents)
    (IsPermutation-refl [])) tt)
enrols_read t (Some r) c found represents is order =
    ap (map (λ (r : EnrolRow). r.exam)) (rows_read t r c found represents is order)
    ∙ exams_back c (exams_sat r.enrolments c)

-- the pairs of a candidate are those of the candidate's exams
pub own_pairs : (E : Enrolled) (c : ℕ) → AreEnrolments E
    → filter (λ (p : Pair). eqb p.student c) (pairs_of E) ≡ pairs_sat (Some c) (exams_sat E c)
own_pairs E c known =
    sym (map_back enrol_row row_pair (λ p. refl) (filter (λ (p : Pair). eqb p.student c) (pairs_of E)))
    ∙ ap (map row_pair)
    (sym (filter-map (λ (x : EnrolRow). eqb x.student c) enrol_row (pairs_of E))
    ∙ candidate_pairs 0 E c (each_chain E known.ascending)
    ∙ ap (map (candidate_enrol_row c)) (sym (sat_is E c)))
    ∙ map-map row_pair (candidate_enrol_row c) (exams_sat E c)

-- ---- the rows of the places of exams

-- the row of an exam, if it has a published place
abbrev row_for : Option Publication → ℕ → Option PlacedRow
row_for published e = option_map (placed_row e) (published_place published e)

rows_of_exam : (published : Option Publication) (e : ℕ)
    → filter (λ (p : PlacedRow). eqb p.exam e) (placed_rows published)
    ≡ one_or_none (row_for published e)
rows_of_exam None e = refl
rows_of_exam (Some p) e = rows_at e p.timetable

-- the rows of these exams, in their order
abbrev rows_for : Option Publication → List ℕ → List PlacedRow
rows_for published es = flat_map (λ e. one_or_none (row_for published e)) es

candidate_places : (t : Tables) (r : Records) (c : ℕ) → TablesRepresentOffice t (Some r)
    → AreRecords r
    → IsPermutation (placed_of c t) (rows_for r.published (exams_sat r.enrolments c))
candidate_places t r c represents is =
    let by : EnrolRow → List PlacedRow =
    λ x. filter (λ (p : PlacedRow). eqb p.exam x.exam) t.placed in
    IsPermutation-trans _ _ _
    (IsPermutation-flat_map by _ _ (candidate_enrolments t r c represents is))
    (subst (λ l. IsPermutation l (rows_for r.published (exams_sat r.enrolments c)))
    (sym (flat_map-map by (candidate_enrol_row c) (exams_sat r.enrolments c)))
    (IsPermutation-flat_map_each (λ e. by (candidate_enrol_row c e))
    (λ e. one_or_none (row_for r.published e))
    (λ e. subst (IsPermutation (by (candidate_enrol_row c e))) (rows_of_exam r.published e)
    (IsPermutation-filter (λ (p : PlacedRow). eqb p.exam e) _ _ represents.published.placed))
    (exams_sat r.enrolments c)))

places_rise : (published : Option Publication) (es : List ℕ) → IsChain (λ x y. x < y) es
    → PlacementsRise (rows_for published es)
places_rise published [] h = tt
places_rise published (e ∷ es) h =
    go (published_place published e) (each es h.0) (places_rise published es h.1)
  where
    put : (x : ℕ) (o : Option Place) (rest : List PlacedRow) → e < x
        → AllByRecursion (λ (b : PlacedRow). e < b.exam) rest
        → AllByRecursion (λ (b : PlacedRow). e < b.exam)
        (one_or_none (option_map (placed_row x) o) ++ rest)
    put x None rest less more = more
    put x (Some at) rest less more = (less, more)

    each : (xs : List ℕ) → AllByRecursion (λ y. e < y) xs
        → AllByRecursion (λ (b : PlacedRow). e < b.exam) (rows_for published xs)
    each [] a = tt
    each (x ∷ xs) a = put x (published_place published x) (rows_for published xs) a.0 (each xs a.1)

    go : (o : Option Place)
        → AllByRecursion (λ (b : PlacedRow). e < b.exam) (rows_for published es)
        → PlacementsRise (rows_for published es)
        → PlacementsRise (one_or_none (option_map (placed_row e) o) ++ rows_for published es)
    go None above more = more
    go (Some at) above more = (above, more)

places_back : (published : Option Publication) (es : List ℕ)
    → map place_in_row (rows_for published es) ≡ places_in published es
places_back published [] = refl
places_back published (e ∷ es) = go (published_place published e) (places_back published es)
  where
    go : (o : Option Place) → map place_in_row (rows_for published es) ≡ places_in published es
        → map place_in_row (one_or_none (option_map (placed_row e) o) ++ rows_for published es)
        ≡ cons_option (option_map (λ at. (e, at)) o) (places_in published es)
    go None more = more
    go (Some at) more = ap (λ l. (e, at) ∷ l) more

pub places_read : (t : Tables) (o : OfficeState) (c : ℕ) (found : List PlacedRow)
    → TablesRepresentOffice t o
    → IsOffice o → IsInOrder PlacementsRise (placed_of c t) found
    → map place_in_row found ≡ places_in (published_in o) (exams_in c o)
places_read t None c found represents is order =
    ap (map place_in_row)
    (order [] (subst (λ (t : Tables). IsPermutation (placed_of c t) []) (sym represents)
    (IsPermutation-refl [])) tt)
places_read t (Some r) c found represents is order =
    ap (map place_in_row)
    (order (rows_for r.published (exams_sat r.enrolments c)) (candidate_places t r c represents is)
    (places_rise r.published (exams_sat r.enrolments c) (sat_rise r.enrolments c)))
    ∙ places_back r.published (exams_sat r.enrolments c)

-- ---- a candidate's seats

own_rows : (c : ℕ) (rows : List publish.SeatRow)
    → AllByRecursion (λ (row : publish.SeatRow). row.student ≡ c) (rows_of c rows)
own_rows c rows =
    each_weaker (λ (row : publish.SeatRow). eqb row.student c ≡ true) _
    (λ row e. eqb-true row.student c e) (rows_of c rows)
    (each_filter_passes (λ (row : publish.SeatRow). eqb row.student c) rows)

candidate_rise : (c : ℕ) (rows : List publish.SeatRow) → IsChain RowBefore rows
    → AllByRecursion (λ (row : publish.SeatRow). row.student ≡ c) rows
    → StudentSeatsRise (map stored_seat rows)
candidate_rise c rows order own =
    rise (λ (a b : SeatRow). a.exam < b.exam) _
    (chain_map (λ (a b : SeatRow). a.exam < b.exam) stored_seat rows
    (chain_weaker _ (λ (a b : publish.SeatRow). a.exam < b.exam) (λ a b h. go a b h.0 h.1.0 h.1.1) rows
    (chain_with_each (λ (row : publish.SeatRow). row.student ≡ c) RowBefore rows own order)))
  where
    go : (a b : publish.SeatRow) → a.student ≡ c → b.student ≡ c → RowBefore a b → a.exam < b.exam
    go a b one other (inl less) = less
    go a b one other (inr same) = absurd (let before = same.1 in omega (arith, before, one, other))

candidate_seats_rise : (r : Records) (c : ℕ) → AreRecords r
    → StudentSeatsRise (map stored_seat (rows_of c (publication_rows r.published)))
candidate_seats_rise r c is =
    by_publication is
    (λ published. StudentSeatsRise (map stored_seat (rows_of c (publication_rows published)))) tt
    (λ p known. candidate_rise c (rows_of c p.rows)
    (chain_filter RowBefore (λ (row : publish.SeatRow). eqb row.student c) p.rows
    (chain_from_index RowBefore p.rows known.rows.in_order)) (own_rows c p.rows))

pub candidate_seats_read : (t : Tables) (o : OfficeState) (c : ℕ) (found : List SeatRow)
    → TablesRepresentOffice t o
    → IsOffice o
    → IsInOrder StudentSeatsRise (filter (λ (x : SeatRow). eqb x.student c) t.seat) found
    → found ≡ map stored_seat (rows_of c (publication_rows (published_in o)))
candidate_seats_read t None c found represents is order =
    order [] (subst (λ (t : Tables).
    IsPermutation (filter (λ (x : SeatRow). eqb x.student c) t.seat) []) (sym represents)
    (IsPermutation-refl [])) tt
candidate_seats_read t (Some r) c found represents is order =
    order (map stored_seat (rows_of c (publication_rows r.published)))
    (subst (IsPermutation (filter (λ (x : SeatRow). eqb x.student c) t.seat))
    (filter-map (λ (x : SeatRow). eqb x.student c) stored_seat (publication_rows r.published))
    (IsPermutation-filter (λ (x : SeatRow). eqb x.student c) _ _ represents.published.seat))
    (candidate_seats_rise r c is)

-- ---- a candidate's share

pub candidate_shares_read : (t : Tables) (o : OfficeState) (c : ℕ) (found : List StudentShareRow)
    → TablesRepresentOffice t o → IsSound t o
    → IsPermutation (filter (λ (x : StudentShareRow). eqb x.student c) t.share_student) found
    → IsPermutation (filter (λ (x : StudentShareRow). eqb x.student c) (student_rows_in o)) found
candidate_shares_read t None c found represents sound p =
    subst (λ (t : Tables).
    IsPermutation (filter (λ (x : StudentShareRow). eqb x.student c) t.share_student) found)
    represents
    p
candidate_shares_read t (Some r) c found represents sound p =
    IsPermutation-trans _ _ _
    (IsPermutation-filter (λ (x : StudentShareRow). eqb x.student c) _ _
    (IsPermutation-sym _ _ sound.shared.of_students)) p

-- a candidate without a row has no seats
no_rows : (c : ℕ) (rows : List publish.SeatRow)
    → list_any (λ (row : publish.SeatRow). eqb row.student c) rows ≡ false → rows_of c rows ≡ []
no_rows c [] none = refl
no_rows c (row ∷ rows) none =
    let parts = or_parts (eqb row.student c) _ none in
    ap (λ b. cond b (row ∷ rows_of c rows) (rows_of c rows)) parts.0 ∙ no_rows c rows parts.1

-- a candidate's share, by its stored row; nothing without a row
pub data IsHerShare (shares : List StudentShareRow) (share : PersonalPenalty) : Type 0 where
  none : shares ≡ [] → share ≡ no_share → IsHerShare shares share
  one : (row : StudentShareRow) → shares ≡ row ∷ [] → share_in_row row ≡ share
      → personal_total share < 2 ^ 62 → IsHerShare shares share

module _ (I : Session) (p : Publication) (c : ℕ) where
  abbrev share_at : ℕ → PersonalPenalty
  share_at s = share_of I.periods I.weights (rows_of s p.rows)

  abbrev share_row : ℕ → StudentShareRow
  share_row s = student_share_row (s, share_at s)

  candidate_are : filter (λ (x : StudentShareRow). eqb x.student c) (student_share_rows I (Some p))
      ≡ map share_row (number_if (has_number (students_of p.rows) c) c)
  candidate_are =
      ap (filter (λ (x : StudentShareRow). eqb x.student c))
      (map-map student_share_row (λ s. (s, share_at s)) (students_of p.rows))
      ∙ filter-map (λ (x : StudentShareRow). eqb x.student c) share_row (students_of p.rows)
      ∙ ap (map share_row)
      (found_once c (students_of p.rows)
      (chain_ascending (map (λ (row : publish.SeatRow). row.student) p.rows)))

  seated : has_number (students_of p.rows) c
      ≡ list_any (λ (row : publish.SeatRow). eqb row.student c) p.rows
  seated =
      has_ascending (map (λ (row : publish.SeatRow). row.student) p.rows) c
      ∙ any_map (λ t. eqb t c) (λ (row : publish.SeatRow). row.student) p.rows

  small_at : AreSmall (shares_of I p.rows p.timetable)
      → has_number (students_of p.rows) c ≡ true → personal_total (share_at c) < 2 ^ 62
  small_at small there =
      let each : AllByRecursion (λ s. personal_total (share_at s) < 2 ^ 62) (students_of p.rows)
      = all_from_map (λ (share : ℕ × PersonalPenalty). personal_total share.1 < 2 ^ 62)
      (λ s. (s, share_at s)) (students_of p.rows)
      (recursion_from_All (λ (share : ℕ × PersonalPenalty). personal_total share.1 < 2 ^ 62)
      (student_shares I p.rows) small.students) in
      (subst (AllByRecursion (λ s. personal_total (share_at s) < 2 ^ 62))
      (found_once c (students_of p.rows)
      (chain_ascending (map (λ (row : publish.SeatRow). row.student) p.rows))
      ∙ ap (λ b. number_if b c) there)
      (all-filter (λ s. personal_total (share_at s) < 2 ^ 62) (λ s. eqb s c) (students_of p.rows)
      each)).0

  own_share : AreSmall (shares_of I p.rows p.timetable) → (shares : List StudentShareRow)
      → IsPermutation (filter (λ (x : StudentShareRow). eqb x.student c)
      (student_share_rows I (Some p))) shares → IsHerShare shares (share_at c)
  own_share small shares same =
      go (has_number (students_of p.rows) c) refl
      (subst (λ l. IsPermutation l shares) candidate_are same)
    where
      go : (b : Bool) → has_number (students_of p.rows) c ≡ b
          → IsPermutation (map share_row (number_if b c)) shares → IsHerShare shares (share_at c)
      go true there same =
          one (share_row c) (same_few (share_row c ∷ []) shares (omega arith) same) refl
          (small_at small there)
      go false there same =
          none (same_few [] shares (omega arith) same)
          (ap (share_of I.periods I.weights) (no_rows c p.rows (sym seated ∙ there)))

pub candidate_share_in : (r : Records) (c : ℕ) → AreRecords r → (shares : List StudentShareRow)
    → IsPermutation (filter (λ (x : StudentShareRow). eqb x.student c) (student_rows_in (Some r)))
    shares
    → IsHerShare shares
    (share_of r.session.periods r.session.weights (rows_of c (publication_rows r.published)))
candidate_share_in r c is shares =
    by_publication is
    (λ published. IsPermutation (filter (λ (x : StudentShareRow). eqb x.student c)
    (student_share_rows r.session published)) shares → IsHerShare shares
    (share_of r.session.periods r.session.weights (rows_of c (publication_rows published))))
    (λ same. none (same_few [] shares (omega arith) same) refl)
    (λ p known. own_share r.session p c
    (let numbered = are_numbered r.session p known in
    published_small r.session p.rows p.timetable (shares_of r.session p.rows p.timetable) is.session
    known.rows numbered (adds_up r.session p.rows p.timetable is.session known.rows numbered)) shares)

-- in each office it is the penalty of the candidate's view
pub candidate_share_of : (o : OfficeState) (c : ℕ) → IsOffice o → (shares : List StudentShareRow)
    → IsPermutation (filter (λ (x : StudentShareRow). eqb x.student c) (student_rows_in o)) shares
    → IsHerShare shares (shown_penalty (view_of c o))
candidate_share_of None c is shares same = none (same_few [] shares (omega arith) same) refl
candidate_share_of (Some r) c is shares same = candidate_share_in r c is shares same

-- ---- what the rows show

-- the candidate's seat rows are at the published places of their exams
candidate_placed : (r : Records) (c : ℕ) → AreRecords r
    → All (λ (row : publish.SeatRow). published_place r.published row.exam ≡ Some (row_place row))
    (rows_of c (publication_rows r.published))
candidate_placed r c is =
    by_publication is
    (λ published. All (λ (row : publish.SeatRow).
    published_place published row.exam ≡ Some (row_place row)) (rows_of c (publication_rows published)))
    (λ k d none. absurd (omega (arith, none)))
    (λ p known. All-from_recursion (IsAtExam p.timetable) (rows_of c p.rows)
    (all-filter (IsAtExam p.timetable) (λ (row : publish.SeatRow). eqb row.student c) p.rows
    (recursion_from_All (IsAtExam p.timetable) p.rows known.rows.at_exams)))

candidate_numbered : (r : Records) (c : ℕ) → AreRecords r
    → AreNumbered (rows_of c (publication_rows r.published))
candidate_numbered r c is =
    by_publication is (λ published. AreNumbered (rows_of c (publication_rows published)))
    (λ k d none. absurd (omega (arith, none)))
    (λ p known. All-from_recursion (λ (row : publish.SeatRow). row.student ≤ 999999999) (rows_of c p.rows)
    (all-filter (λ (row : publish.SeatRow). row.student ≤ 999999999)
    (λ (row : publish.SeatRow). eqb row.student c) p.rows
    (recursion_from_All (λ (row : publish.SeatRow). row.student ≤ 999999999) p.rows
    (are_numbered r.session p known))))

module _ (r : Records) (I : Session) (c : ℕ) (is : AreRecords r) (same : r.session ≡ I)
    (enrols : List EnrolRow) (places : List PlacedRow) (seats : List SeatRow)
    (own_rows : AreCandidateRows (Some r) c enrols places seats) where
  abbrev candidate_seat_rows : List publish.SeatRow
  candidate_seat_rows = rows_of c (publication_rows r.published)

  -- no number of a seat row is above its limit
  pub not_bad : ((own : List publish.SeatRow) → AreNumbered own → map stored_seat own ≡ seats → ⊥)
      → ⊥
  not_bad nobody = nobody candidate_seat_rows (candidate_numbered r c is) (sym own_rows.of_seats)

  pub exams_shown : (enrolled : List ℕ) (at : List (ℕ × Place)) (own : List publish.SeatRow)
      (rows : List ViewRow)
      → enrolled ≡ map (λ (row : EnrolRow). row.exam) enrols → at ≡ map place_in_row places
      → ((all : List publish.SeatRow) → map stored_seat all ≡ seats → own ≡ all)
      → ((published : Option Publication) → AreOfPublication published enrolled at own
      → rows ≡ shown_exams (view_from I enrolled published own))
      → rows ≡ shown_exams (view_of c (Some r))
  exams_shown enrolled at own rows exams represents only shown =
      let candidate_exams : enrolled ≡ exams_sat r.enrolments c = exams ∙ own_rows.of_enrols in
      let candidate_places : at ≡ places_in r.published enrolled
      = represents ∙ own_rows.of_places ∙ ap (places_in r.published) (sym candidate_exams) in
      let own_is : own ≡ candidate_seat_rows = only candidate_seat_rows (sym own_rows.of_seats) in
      let published : AreOfPublication r.published enrolled at own = record {
        places = candidate_places;
        seats = subst (All (λ (row : publish.SeatRow).
            published_place r.published row.exam ≡ Some (row_place row))) (sym own_is)
            (candidate_placed r c is);
      } in
      shown r.published published
      ∙ (λ i. shown_exams (view_from (sym same i) (candidate_exams i) r.published (own_is i)))

-- ---- the result

-- a candidate's share is read from their row
pub penalty_returned : {shares rows : List StudentShareRow} {share : PersonalPenalty}
    {result : Result PersonalPenalty StoreFault} → rows ≡ shares → IsHerShare shares share
    → (rows ≡ [] → result ≡ Ok no_share)
    → ((row : StudentShareRow) → rows ≡ row ∷ [] → personal_total (share_in_row row) < 2 ^ 62
    → result ≡ Ok (share_in_row row))
    → ReturnsValue share result
penalty_returned {share = share} same (none empty is) nothing one_row =
    subst (ReturnsValue share) (sym (nothing (same ∙ empty))) (sym is)
penalty_returned {share = share} same (one row single is small) nothing one_row =
    subst (ReturnsValue share) (sym (one_row row (same ∙ single)
    (subst (λ p. personal_total p < 2 ^ 62) (sym is) small))) is

-- a result for these lists is one for equal lists
pub returned_of_same : (I : Session) (rows : List ViewRow) (enrolled exams : List ℕ)
    (at places : List (ℕ × Place)) (own seats : List publish.SeatRow)
    → enrolled ≡ exams → at ≡ places → own ≡ seats
    → ((published : Option Publication) → AreOfPublication published enrolled at own
    → rows ≡ shown_exams (view_from I enrolled published own))
    → (published : Option Publication) → AreOfPublication published exams places seats
    → rows ≡ shown_exams (view_from I exams published seats)
returned_of_same I rows enrolled exams at places own seats p q s meaning =
    subst (λ (l : List publish.SeatRow). (published : Option Publication)
    → AreOfPublication published exams places l
    → rows ≡ shown_exams (view_from I exams published l)) s
    (subst (λ (l : List (ℕ × Place)). (published : Option Publication)
    → AreOfPublication published exams l own
    → rows ≡ shown_exams (view_from I exams published own)) q
    (subst (λ (l : List ℕ). (published : Option Publication) → AreOfPublication published l at own
    → rows ≡ shown_exams (view_from I l published own)) p meaning))

-- ---- the view of an office

pub exams_returned : {o : OfficeState} {I : Session} {E : Enrolled} {m : Memory} {c : ℕ}
    {enrols : List EnrolRow} {places : List PlacedRow} {seats : List SeatRow} → m ≡ Some (I, E)
    → IsOffice o → memory_of o ≡ m → AreCandidateRows o c enrols places seats
    → (meaning : Result (List ViewRow) StoreFault)
    → ((r : Records) → AreRecords r → r.session ≡ I
    → AreCandidateRows (Some r) c enrols places seats
    → ReturnsValue (shown_exams (view_of c (Some r))) meaning)
    → ReturnsValue (shown_exams (view_of c o)) meaning
exams_returned {o = None} is office memory rows meaning exams =
    absurd (let e = memory ∙ is in cc)
exams_returned {o = Some r} is office memory rows meaning exams =
    exams r office (ap (λ (kept : Session × Enrolled). kept.0) (same_Some _ _ (memory ∙ is))) rows

pub nothing_returned : (o : OfficeState) (m : Memory) → m ≡ None → memory_of o ≡ m → (c : ℕ)
    (meaning : Result (List ViewRow) StoreFault) → ReturnsValue (shown_exams no_view) meaning
    → ReturnsValue (shown_exams (view_of c o)) meaning
nothing_returned o m empty memory c meaning exams =
    subst (λ (o : OfficeState). ReturnsValue (shown_exams (view_of c o)) meaning)
    (sym (nothing_kept o (memory ∙ empty))) exams

-- a fault stays one if the result is read as a list
pub listed_fault : {X F : Type 0} (result : Result (Vec X Global) F) (P : F → Type 0)
    → IsErrAnd result P → IsErrAnd (plain_list result) P
listed_fault (Ok found) P is = is
listed_fault (Err fault) P is = is
