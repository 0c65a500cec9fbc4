-- What is in memory of an office, by the rows of its tables.
use Rattle.std.proofs.Common.{◌≡◌, ℕ, Bool, true, false, Option, None, Some, length, option_map, refl, sym, ◌∙◌, ap, subst, arith}
use Rattle.std.specs.Prelude.{IsPermutation, is_some}
use Rattle.std.proofs.lemmas.List.{length-map}
use Rattle.std.proofs.lemmas.List.Sorted.{length_permutation}
use Rattle.sqlite.specs.Effect.{Database}
use Rattle.std.proofs.lemmas.Option.{same_Some}
use Rattle.exam_model.specs.Enrolments.{Enrolled}
use Rattle.exam_model.specs.Instance.{Session}
use Rattle.exam_model.specs.Timetable.{Placing}
use Rattle.office_tables.specs.Tables.{Tables}
use Rattle.office_model.specs.Office.{OfficeState, Records, AreRecords}
use Rattle.office_records.specs.Found.{AreSlots}
use Rattle.office_records.specs.Memory.{with_penalty}
use Rattle.office_records.specs.Representation.{RepresentsOffice, TablesRepresentOffice, TablesRepresentRecords}
use Rattle.office_records.specs.TableRows.{number_if, slot_rows, slots_at, stored_batch}
use Rattle.office_records.proofs.MemoryLemmas.{same_memory}
use Rattle.office_records.proofs.SamePublication.{same_published}
use Rattle.office_records.proofs.SameTables.{same_represents}
use Rattle.office_records.proofs.SlotLemmas.{same_timetable}
use Rattle.office_store.specs.Memory.{IsMemoryOf, batch_count, priced_as, priced_in}
use Rattle.office_store.specs.declared.memory.OfficeMemory.{OfficeMemory}

-- ---- the number of batches

-- each kept batch has a row
pub counted : (t : Tables) (o : OfficeState) → TablesRepresentOffice t o
    → length t.batch ≡ batch_count o
counted t None represents = ap (λ (u : Tables). length u.batch) represents
counted t (Some r) represents =
    let stored = length_permutation _ _ represents.batches.same in
    let kept = length-map r.batches stored_batch in
    omega (arith, stored, kept)

-- ---- the drafts

-- whether there is a draft
one_there : (a b : Bool) (d : ℕ) → number_if a d ≡ number_if b d → a ≡ b
one_there true true d e = refl
one_there true false d e = absurd cc
one_there false true d e = absurd cc
one_there false false d e = refl

module _ (t : Tables) (r s : Records) (d : ℕ) (a : TablesRepresentRecords t r)
    (b : TablesRepresentRecords t s)
    (of : AreRecords r) (also : AreRecords s) (session : r.session ≡ s.session) where
  -- a draft's places are those of only one timetable
  slots_of : (q : Records) (I : Session) → q.session ≡ I → TablesRepresentRecords t q → AreRecords q
      → (T : Placing) → q.draft d ≡ Some T → AreSlots I d t.slot T
  slots_of q I same represents records T is =
      let fits = records.drafts d T is in
      subst (λ J. AreSlots J d t.slot T) same
      (record {
        exams = fits.timetable;
        places = fits.places;
        rows = subst (λ o. IsPermutation (slots_at d t.slot) (slot_rows d o)) is
            (represents.slot d);
      })

  same_placing : r.draft d ≡ s.draft d
  same_placing =
      go (r.draft d) (s.draft d) refl refl
      (one_there _ _ d (sym (a.draft d) ∙ b.draft d))
    where
      go : (x y : Option Placing) → r.draft d ≡ x → s.draft d ≡ y → is_some x ≡ is_some y → x ≡ y
      go None None one other e = refl
      go None (Some U) one other e = absurd cc
      go (Some T) None one other e = absurd cc
      go (Some T) (Some U) one other e =
          ap Some (same_timetable s.session d t.slot T U
          (slots_of r s.session session a of T one) (slots_of s s.session refl b also U other))

-- ---- all that is in memory

-- the memory of one office that a database represents is the memory of each
pub same_in_memory : (db : Database) (o p : OfficeState) → RepresentsOffice db o
    → RepresentsOffice db p
    → (m : OfficeMemory) → IsMemoryOf o m → IsMemoryOf p m
same_in_memory db None None a b m is = is
same_in_memory db None (Some s) a b m is = absurd (let none = same_memory db None (Some s) a b in cc)
same_in_memory db (Some r) None a b m is = absurd (let none = same_memory db (Some r) None a b in cc)
same_in_memory db (Some r) (Some s) a b m is =
    let memory = same_memory db (Some r) (Some s) a b in
    let both : ◌≡◌ {A = Session × Enrolled} (r.session, r.enrolments) (s.session, s.enrolments)
    = same_Some _ _ memory in
    let session : r.session ≡ s.session = ap (λ (p : Session × Enrolled). p.0) both in
    let represents = same_represents db a.held b.held a.tables b.tables (Some r) a.represents in
    let published = same_published b.held r s represents b.represents a.office b.office session in
    let priced : priced_in (Some r) ≡ priced_in (Some s) = λ i. priced_as (session i) (published i) in
    record {
      session = sym memory ∙ is.session;
      batches = sym (counted b.held (Some s) b.represents) ∙ counted b.held (Some r) represents
          ∙ is.batches;
      drafts = λ d. is.drafts d
          ∙ ap (λ (p : Session × Enrolled). option_map (with_penalty p.0 p.1) (r.draft d)) both
          ∙ ap (option_map (with_penalty s.session s.enrolments))
          (same_placing b.held r s d represents b.represents a.office b.office session);
      published = sym published ∙ is.published;
      priced = sym priced ∙ is.priced;
    }
