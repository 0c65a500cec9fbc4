-- A database represents one session, with one set of enrolments.
use Rattle.std.proofs.lemmas.Grind.{common_steps}
use Rattle.std.proofs.Common.{◌≡◌, ℕ, zero, suc, ◌≤◌, [], map, length, Some, None, Ok, refl, sym, ◌∙◌, ap, arith, subst, rules}
use Rattle.std.specs.Prelude.{IsPermutation}
use Rattle.std.proofs.lemmas.List.{length-replicate}
use Rattle.std.proofs.lemmas.List.Sorted.{IsPermutation-sym, IsPermutation-trans, list_any-IsPermutation}
use Rattle.exam_lists.proofs.Parts.{same_head}
use Rattle.exam_lists.proofs.Results.{same_Ok}
use Rattle.exam_lists.proofs.Permutations.{IsPermutation-unmap}
use Rattle.sqlite.specs.Effect.{Database}
use Rattle.exam_model.specs.Enrolments.{Enrolled, AreEnrolments, no_pairs, students}
use Rattle.exam_model.specs.Instance.{Session, IsInstance}
use Rattle.exam_model.specs.Pairs.{Pair, pairs_of, is_pair}
use Rattle.exam_model.proofs.PairLemmas.{are_pairs}
use Rattle.exam_model.proofs.SameSet.{same_set}
use Rattle.office_files.specs.CanonicalText.{canonical_instance}
use Rattle.office_files.specs.InstanceText.{instance_in}
use Rattle.office_files.proofs.CanonicalInstance.{instance_same}
use Rattle.office_tables.specs.Tables.{Tables, empty_tables}
use Rattle.office_tables.specs.Tables.Metadata.{Meta}
use Rattle.office_tables.specs.declared.version.Version.{Version}
use Rattle.office_tables.specs.declared.version.Version.TheVariants.{Two}
use Rattle.office_tables.specs.declared.tables.enrol.EnrolRow.{EnrolRow}
use Rattle.office_model.specs.Office.{OfficeState, Records, IsOffice, AreEnrolled}
use Rattle.office_records.specs.Memory.{memory_of}
use Rattle.office_records.specs.Representation.{RepresentsOffice, TablesRepresentOffice, TablesRepresentRecords, RepresentsOfficeIn}
use Rattle.office_records.specs.TableRows.{enrol_row}
use Rattle.office_records.proofs.SameTables.{same_represents_in}

-- ---- the row of the session

no_students : (n e : ℕ) → students (no_pairs n) e ≡ []
no_students zero e = refl
no_students (suc n) zero = refl
no_students (suc n) (suc e) = no_students n e

-- the empty set of pairs satisfies the invariant
no_enrolments : (n : ℕ) → 1 ≤ n → n ≤ 2000 → AreEnrolments (no_pairs n)
no_enrolments n low high = grind (arith, common_steps)

-- an instance is read back from the text that is stored for it
pub read_back : (I : Session) → IsInstance I
    → instance_in (canonical_instance I (no_pairs (length I.exams)))
    ≡ Ok (I, no_pairs (length I.exams))
read_back I is = search (rules, instance_same, no_enrolments, length-replicate)

-- one text is of one session
same_session : (I J : Session) → IsInstance I → IsInstance J
    → canonical_instance I (no_pairs (length I.exams))
    ≡ canonical_instance J (no_pairs (length J.exams)) → I ≡ J
same_session I J i j same =
    ap (λ p. p.0) (same_Ok (sym (read_back I i) ∙ ap instance_in same ∙ read_back J j))

-- ---- the enrolments

pub same_enrolments : (I : Session) (E F : Enrolled) → AreEnrolled I E → AreEnrolled I F
    → IsPermutation (map enrol_row (pairs_of E)) (map enrol_row (pairs_of F)) → E ≡ F
same_enrolments I E F e f p =
    let back : EnrolRow → Pair = λ r. record { exam = r.exam; student = r.student } in
    let pairs = IsPermutation-unmap enrol_row back (λ p. refl) (pairs_of E) (pairs_of F) p in
    same_set E F (e.exams ∙ sym f.exams) e.set.ascending f.set.ascending
    (λ s x. sym ((are_pairs E e.set).members s x)
    ∙ list_any-IsPermutation (is_pair s x) (pairs_of E) (pairs_of F) pairs
    ∙ (are_pairs F f.set).members s x)

-- ---- both

-- empty tables have no row of a session
not_empty : (t : Tables) (r : Records) → t ≡ empty_tables → TablesRepresentRecords t r → ⊥
not_empty t r none some = grind (arith, common_steps)

-- tables represent one session with one set of enrolments
one_memory : (t : Tables) (o p : OfficeState) → TablesRepresentOffice t o → TablesRepresentOffice t p
    → IsOffice o → IsOffice p → memory_of o ≡ memory_of p
one_memory t None None a b is also = refl
one_memory t None (Some s) a b is also = absurd (not_empty t s a b)
one_memory t (Some r) None a b is also = absurd (not_empty t r b a)
one_memory t (Some r) (Some s) a b is also =
    let texts = ap (λ (m : Meta). m.instance) (same_head (sym a.meta ∙ b.meta)) in
    let sessions = same_session r.session s.session is.session also.session texts in
    let sets = same_enrolments s.session r.enrolments s.enrolments
    (subst (λ I. AreEnrolled I r.enrolments) sessions is.enrolled) also.enrolled
    (IsPermutation-trans _ _ _ (IsPermutation-sym _ _ a.enrol) b.enrol) in
    ap (λ I. Some (I, r.enrolments)) sessions ∙ ap (λ E. Some (s.session, E)) sets

-- a database represents one session with one set of enrolments
pub same_memory_in : (version : Version) (db : Database) (o p : OfficeState)
    → RepresentsOfficeIn version db o → RepresentsOfficeIn version db p → memory_of o ≡ memory_of p
same_memory_in version db o p a b =
    one_memory b.held o p
    (same_represents_in version db a.held b.held a.tables b.tables o a.represents) b.represents
    a.office b.office

pub same_memory : (db : Database) (o p : OfficeState) → RepresentsOffice db o
    → RepresentsOffice db p
    → memory_of o ≡ memory_of p
same_memory = same_memory_in Two
