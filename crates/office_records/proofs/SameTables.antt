-- Tables represented by one database represent the same offices.
use Rattle.std.proofs.lemmas.Grind.{common_steps}
use Rattle.std.proofs.Common.{◌≡◌, ℕ, zero, suc, ◌≤◌, pos, Bool, true, false, List, [], ◌∷◌, map, length, Some, None, refl, ap, arith, eqb}
use Rattle.std.specs.Prelude.{IsPermutation, is_some}
use Rattle.std.proofs.lemmas.List.Sorted.{IsPermutation-sym, IsPermutation-trans}
use Rattle.exam_lists.proofs.Permutations.{few_read, IsPermutation-unmap, same_few_as}
use Rattle.sqlite_value.specs.Order.{Row, column}
use Rattle.sqlite_value.specs.declared.value.Value.{Value}
use Rattle.sqlite_value.specs.declared.value.Value.TheVariants.{Int}
use Rattle.sqlite.specs.Effect.{Database}
use Rattle.sqlite_trees.proofs.ListLemmas.{IsPermutation-filter, all-permutation}
use Rattle.office_tables.specs.Tables.Batches.{FitsBatch, batch_columns}
use Rattle.office_tables.specs.Tables.{Tables, empty_tables}
use Rattle.office_tables.specs.Tables.Metadata.{Meta, flag, meta_columns}
use Rattle.office_tables.specs.Stored.{Holds, keyed_columns, keyless_columns}
use Rattle.office_tables.specs.TablesHeld.{HoldsTables, HoldsTablesIn}
use Rattle.office_tables.specs.declared.version.Version.{Version}
use Rattle.office_tables.specs.declared.version.Version.TheVariants.{Two}
use Rattle.office_tables.proofs.Frames.{held_at}
use Rattle.office_tables.proofs.SameRows.{same_drafts, same_student_shares}
use Rattle.office_tables.specs.Tables.Owner.{owner_columns}
use Rattle.office_tables.specs.Tables.Enrol.{enrol_columns}
use Rattle.office_tables.specs.Tables.Slot.{slot_columns}
use Rattle.office_tables.specs.Tables.Placed.{placed_columns}
use Rattle.office_tables.specs.Tables.Seat.{seat_columns}
use Rattle.office_tables.specs.Tables.SharePart.{share_part_columns}
use Rattle.office_tables.specs.declared.tables.owner.OwnerRow.{OwnerRow}
use Rattle.office_tables.specs.declared.tables.draft.DraftRow.{DraftRow}
use Rattle.office_tables.specs.declared.tables.slot.SlotRow.{SlotRow}
use Rattle.office_model.specs.Office.{OfficeState, Records}
use Rattle.office_tables.proofs.RecordsBack.{bytes_in, owner_of, enrol_of, slot_of, placement_of, seat_of, part_share_of, batch_of}
use Rattle.office_records.specs.Representation.{IsScoredRow, IsSound, TablesRepresentOffice, TablesRepresentRecords}
use Rattle.office_records.specs.TableRows.{meta_row, some_dept, number_if}

few_depts : (n : ℕ) → length (some_dept n) ≤ 1
few_depts n = grind (arith, common_steps)

pub few_once : (b : Bool) (n : ℕ) → length (number_if b n) ≤ 1
few_once true n = omega arith
few_once false n = omega arith

-- two lists of rows that one table holds are the same, up to order
same_rows : {X : Type 0} (show : Row → Row) (row : X → Row) (back : Row → X)
    → ((x : X) → back (row x) ≡ x) → (xs ys : List X) (stored : List Row)
    → Holds show (map row xs) stored → Holds show (map row ys) stored → IsPermutation xs ys
same_rows show row back is xs ys stored p q =
    IsPermutation-unmap row back is xs ys (IsPermutation-trans _ _ _ (IsPermutation-sym _ _ p.same) q.same)

-- ---- the row of the session

is_one : Value → Bool
is_one (Int (pos (suc zero))) = true
is_one _ = false

meta_back : Row → Meta
meta_back row = record { published = is_one (column row 2); instance = bytes_in (column row 3) }

flags : (b : Bool) → is_one (Int (pos (flag b))) ≡ b
unfolding is_one
flags true = refl
flags false = refl

meta_is : (version : Version) (m : Meta) → meta_back (meta_columns version m) ≡ m
unfolding meta_back
meta_is version m = ap (λ b. record { published = b; instance = m.instance }) (flags m.published)

-- ---- the tables

module _ (version : Version) (db : Database) (t u : Tables) (p : HoldsTablesIn version db t)
    (q : HoldsTablesIn version db u) where
  metas : IsPermutation t.meta u.meta
  metas = same_rows keyed_columns (meta_columns version) meta_back (meta_is version) _ _ _ (held_at 0 p) (held_at 0 q)

  owners : IsPermutation t.owner u.owner
  owners = same_rows keyed_columns owner_columns owner_of (λ r. refl) _ _ _ (held_at 1 p) (held_at 1 q)

  enrols : IsPermutation t.enrol u.enrol
  enrols = same_rows keyless_columns enrol_columns enrol_of (λ r. refl) _ _ _ (held_at 2 p) (held_at 2 q)

  drafts : IsPermutation t.draft u.draft
  drafts = same_drafts version db t u p q

  slots : IsPermutation t.slot u.slot
  slots = same_rows keyless_columns slot_columns slot_of (λ r. refl) _ _ _ (held_at 4 p) (held_at 4 q)

  placements : IsPermutation t.placed u.placed
  placements = same_rows keyed_columns placed_columns placement_of (λ r. refl) _ _ _ (held_at 5 p) (held_at 5 q)

  seats : IsPermutation t.seat u.seat
  seats = same_rows keyless_columns seat_columns seat_of (λ r. refl) _ _ _ (held_at 6 p) (held_at 6 q)

  student_shares : IsPermutation t.share_student u.share_student
  student_shares = same_student_shares version db t u p q

  part_shares : IsPermutation t.share_part u.share_part
  part_shares =
      same_rows keyless_columns share_part_columns part_share_of (λ r. refl) _ _ _ (held_at 8 p) (held_at 8 q)

  batch_rows : IsPermutation t.batch u.batch
  batch_rows = same_rows keyed_columns batch_columns batch_of (λ r. refl) _ _ _ (held_at 9 p) (held_at 9 q)

  empty : t ≡ empty_tables → u ≡ empty_tables
  empty is = λ i. record {
    meta = none (λ t. t.meta) (omega arith) metas i;
    owner = none (λ t. t.owner) (omega arith) owners i;
    enrol = none (λ t. t.enrol) (omega arith) enrols i;
    draft = none (λ t. t.draft) (omega arith) drafts i;
    slot = none (λ t. t.slot) (omega arith) slots i;
    placed = none (λ t. t.placed) (omega arith) placements i;
    seat = none (λ t. t.seat) (omega arith) seats i;
    share_student = none (λ t. t.share_student) (omega arith) student_shares i;
    share_part = none (λ t. t.share_part) (omega arith) part_shares i;
    batch = none (λ t. t.batch) (omega arith) batch_rows i;
  }
    where
      none : {X : Type 0} (rows : Tables → List X) → length (rows empty_tables) ≤ 1
          → IsPermutation (rows t) (rows u) → rows u ≡ rows empty_tables
      none rows few = same_few_as (rows t) (rows empty_tables) (rows u) (ap rows is) few

  loaded : (r : Records) → TablesRepresentRecords t r → TablesRepresentRecords u r
  loaded r h = record {
    meta = same_few_as t.meta (meta_row (is_some r.published) r.session ∷ []) u.meta h.meta
        (omega arith) metas;
    owner = λ e. few_read (λ (o : OwnerRow). o.dept) _ _ _
        (IsPermutation-filter (λ o. eqb o.exam e) _ _ owners) (h.owner e)
        (few_depts (r.owner_of e));
    enrol = IsPermutation-trans _ _ _ (IsPermutation-sym _ _ enrols) h.enrol;
    draft = λ d. few_read (λ (x : DraftRow). x.no) _ _ _
        (IsPermutation-filter (λ x. eqb x.no d) _ _ drafts) (h.draft d)
        (few_once (is_some (r.draft d)) d);
    slot = λ d. IsPermutation-trans _ _ _
        (IsPermutation-filter (λ (x : SlotRow). eqb x.draft d) _ _ (IsPermutation-sym _ _ slots))
        (h.slot d);
    published = record {
      placed = IsPermutation-trans _ _ _ (IsPermutation-sym _ _ placements) h.published.placed;
      seat = IsPermutation-trans _ _ _ (IsPermutation-sym _ _ seats) h.published.seat;
    };
    batches = record {
      same = IsPermutation-trans _ _ _ (IsPermutation-sym _ _ batch_rows) h.batches.same;
      fit = all-permutation FitsBatch _ _ batch_rows h.batches.fit;
    };
  }

  -- both represent the same offices
  pub same_represents_in : (o : OfficeState) → TablesRepresentOffice t o → TablesRepresentOffice u o
  same_represents_in None h = empty h
  same_represents_in (Some r) h = loaded r h

  -- if one is sound, the other is
  pub same_sound_in : (o : OfficeState) → IsSound t o → IsSound u o
  same_sound_in None h = tt
  same_sound_in (Some r) h = record {
    scored = all-permutation (IsScoredRow r) _ _ drafts h.scored;
    shared = record {
      of_students = IsPermutation-trans _ _ _ (IsPermutation-sym _ _ student_shares)
          h.shared.of_students;
      of_parts = IsPermutation-trans _ _ _ (IsPermutation-sym _ _ part_shares) h.shared.of_parts;
    };
  }

-- the same of version 2
pub same_represents : (db : Database) (t u : Tables) → HoldsTables db t → HoldsTables db u
    → (o : OfficeState)
    → TablesRepresentOffice t o → TablesRepresentOffice u o
same_represents = same_represents_in Two
