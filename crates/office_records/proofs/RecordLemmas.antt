-- From the rows of each table to an office's records, and back.
use Rattle.std.proofs.lemmas.Grind.{common_steps}
use Rattle.std.proofs.Common.{◌≡◌, ℕ, List, [], ◌∷◌, map, Some, None, Option, refl, ap, subst, arith}
use Rattle.std.specs.Prelude.{is_some}
use Rattle.std.proofs.lemmas.List.Sorted.{IsPermutation-sym, IsPermutation-trans}
use Rattle.std.proofs.lemmas.Option.{none-some, same_Some}
use Rattle.exam_lists.proofs.Parts.{same_head}
use Rattle.exam_model.specs.Enrolments.{Enrolled}
use Rattle.exam_model.specs.Instance.{Session}
use Rattle.exam_model.specs.Timetable.{Placing}
use Rattle.office_tables.specs.Tables.{tables_of, Tables, empty_tables}
use Rattle.office_tables.specs.Tables.Batches.{counts_of, Batch}
use Rattle.office_tables.specs.Tables.Metadata.{meta_from, Meta}
use Rattle.office_tables.specs.declared.tables.Found.{Found}
use Rattle.office_tables.specs.declared.tables.enrol.EnrolRow.{EnrolRow}
use Rattle.office_records.specs.Found.{AreDrafts, AreEnrolRows, AreOwners, ArePublication, IsSessionRow, IsUnloaded}
use Rattle.office_records.specs.FoundBatches.{AreBatchRows, AreFoundBatches}
use Rattle.office_model.specs.Office.{OfficeState, Publication, Records, AreRecords, IsOffice, IsPublication}
use Rattle.office_records.specs.FoundPublications.{ArePublished}
use Rattle.office_records.specs.Memory.{AreScoredDrafts, draft_at, memory_of, published_in, scored_draft}
use Rattle.office_records.specs.Representation.{IsSound, TablesRepresentOffice, TablesRepresentRecords}
use Rattle.office_records.specs.TableRows.{meta_row}
use Rattle.office_records.specs.declared.drafts.Draft.{Draft}
use Rattle.office_records.proofs.BatchRowLemmas.{batch_rows, batches_kept, batches_represent, kept_batch}
use Rattle.office_records.proofs.MemoryLemmas.{same_enrolments}
use Rattle.office_records.proofs.SessionLemmas.{one_session}

-- rows are those of one set of enrolments
pub one_set : (I : Session) (rows : List EnrolRow) (E F : Enrolled) → AreEnrolRows I rows E
    → AreEnrolRows I rows F → E ≡ F
one_set I rows E F e f =
    same_enrolments I E F e.enrolled f.enrolled
    (IsPermutation-trans _ _ _ (IsPermutation-sym _ _ e.rows) f.rows)

-- the publication is one, if there is one
is_published : (I : Session) (published : Option Publication) → ArePublished I published
    → (p : Publication) → published ≡ Some p → IsPublication I p
is_published I None is p same = absurd (none-some p same)
is_published I (Some q) is p same = subst (IsPublication I) (same_Some q p same) is

are_published : (I : Session) (published : Option Publication)
    → ((p : Publication) → published ≡ Some p → IsPublication I p) → ArePublished I published
are_published I None each = tt
are_published I (Some p) each = each p refl

-- these rows, with the bytes of their batches, are of an office with these records
pub record AreRowsOfOffice (found : Found) (r : Records) : Type 0 where
  pub batches : List Batch
  pub counts : map counts_of batches ≡ found.batches.items
  pub represents : TablesRepresentRecords (tables_of found batches) r
  pub sound : IsSound (tables_of found batches) (Some r)
  pub is : AreRecords r

module _ (found : Found) (batches : List Batch) where
  abbrev pub t : Tables
  t = tables_of found batches

  -- ---- before a load

  pub unloaded : map counts_of batches ≡ found.batches.items → t ≡ empty_tables → IsUnloaded found
  unloaded rows represents = grind (arith, common_steps)

  pub nothing_loaded : IsUnloaded found → AreFoundBatches found.batches.items batches
      → (drafts : List (Option Draft)) → ((d : ℕ) → draft_at drafts d ≡ None)
      → (office : OfficeState) × TablesRepresentOffice t office × IsSound t office × IsOffice office
      × (memory_of office ≡ None) × (published_in office ≡ None)
      × ((d : ℕ) → draft_at drafts d ≡ scored_draft d office)
  nothing_loaded is these drafts no_draft = grind (arith, common_steps)

  -- ---- from the rows to the office

  row_is : (I : Session) → IsSessionRow (meta_from found.meta) I → (published : Option Publication)
      → found.meta.published ≡ is_some published
      → meta_from found.meta ≡ meta_row (is_some published) I
  row_is I session published marked = grind (arith, common_steps)

  pub office_of : (I : Session) (E : Enrolled) → IsSessionRow (meta_from found.meta) I
      → (owner_of : ℕ → ℕ) × AreOwners I found.owners.items owner_of
      → AreEnrolRows I found.enrols.items E
      → (drafts : List (Option Draft))
      → (draft : ℕ → Option Placing) × AreDrafts I E found.drafts.items found.slots.items draft
      × AreScoredDrafts I E draft drafts
      → (published : Option Publication) → ArePublication I found.meta.published found.placements.items
      found.seats.items found.student_shares.items found.part_shares.items published
      → AreBatchRows found.batches.items → AreFoundBatches found.batches.items batches
      → (office : OfficeState) × TablesRepresentOffice t office × IsSound t office × IsOffice office
      × (memory_of office ≡ Some (I, E)) × (published_in office ≡ published)
      × ((d : ℕ) → draft_at drafts d ≡ scored_draft d office)
  office_of I E session owners enrols made drafts published are kept these = (
    Some (record {
      session = I;
      owner_of = owners.0;
      enrolments = E;
      draft = drafts.0;
      published = published;
      batches = map kept_batch batches;
    }),
    record {
      meta = ap (λ m. m ∷ []) (row_is I session published are.rows.marked);
      owner = owners.1.rows;
      enrol = enrols.rows;
      draft = drafts.1.rows;
      slot = drafts.1.slots;
      published = are.rows.represents;
      batches = batches_represent found.batches.items batches kept these.rows;
    },
    record { scored = drafts.1.scored; shared = are.shared },
    record {
      session = session.session;
      enrolled = enrols.enrolled;
      departments = owners.1.departments;
      owned = owners.1.owned;
      numbered = drafts.1.numbered;
      drafts = drafts.1.fits;
      publication = is_published I published are.is;
      batches = batches_kept found.batches.items batches kept these;
    },
    refl,
    refl,
    drafts.2,
  )

-- ---- from the office to its rows

module _ {found : Found} {r : Records} (of : AreRowsOfOffice found r) where
  pub kept_rows : AreBatchRows found.batches.items
  kept_rows =
      batch_rows found.batches.items of.batches r.batches of.counts of.represents.batches
      of.is.batches

  session_row : IsSessionRow (meta_from found.meta) r.session
  session_row = grind (arith, common_steps)

  module _ {I : Session} (read : IsSessionRow (meta_from found.meta) I) where
    same : r.session ≡ I
    same = one_session (meta_from found.meta) r.session I session_row read

    pub owner_rows : AreOwners I found.owners.items r.owner_of
    owner_rows = subst (λ J. AreOwners J found.owners.items r.owner_of) same (record {
      rows = of.represents.owner;
      departments = of.is.departments;
      owned = of.is.owned;
    })

    pub enrol_rows : AreEnrolRows I found.enrols.items r.enrolments
    enrol_rows = subst (λ J. AreEnrolRows J found.enrols.items r.enrolments) same (record {
      enrolled = of.is.enrolled;
      rows = of.represents.enrol;
    })

    pub draft_rows : (E : Enrolled) → AreEnrolRows I found.enrols.items E
        → AreDrafts I E found.drafts.items found.slots.items r.draft
    draft_rows E rows =
        subst (λ F. AreDrafts I F found.drafts.items found.slots.items r.draft)
        (one_set I found.enrols.items r.enrolments E enrol_rows rows)
        (subst (λ J. AreDrafts J r.enrolments found.drafts.items found.slots.items r.draft) same
        (record {
          numbered = of.is.numbered;
          fits = of.is.drafts;
          rows = of.represents.draft;
          slots = of.represents.slot;
          scored = of.sound.scored;
        }))

    pub published_rows : ArePublication I found.meta.published found.placements.items
        found.seats.items found.student_shares.items found.part_shares.items r.published
    published_rows = subst (λ J. ArePublication J found.meta.published found.placements.items
        found.seats.items found.student_shares.items found.part_shares.items r.published) same
        (record {
          rows = record {
            marked = ap (λ (m : Meta). m.published) (same_head of.represents.meta);
            represents = of.represents.published;
          };
          is = are_published r.session r.published of.is.publication;
          shared = of.sound.shared;
        })
