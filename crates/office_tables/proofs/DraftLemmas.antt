-- The statements on the tables draft and night_draft, and their effects.
use Rattle.std.proofs.Common.{ℕ, pos, List, [], ◌∷◌, filter, not, ◌==◌, codes, Ok, arith, refl}
use Rattle.sqlite_value.specs.declared.value.Value.TheVariants.{Int}
use Rattle.sqlite.specs.Listing.{understood}
use Rattle.sqlite.specs.State.{State, Executes}
use Rattle.sqlite_tied.specs.Compute.{everything}
use Rattle.office_tables.specs.Tables.Draft.{night_draft_table, draft_columns, night_draft_columns}
use Rattle.office_tables.specs.declared.tables.draft.DraftRow.{DraftRow}
use Rattle.office_tables.specs.Inserting.{IsInsert}
use Rattle.office_tables.specs.Alterations.{IsWritten}
use Rattle.office_tables.specs.Tables.{Tables, all_columns}
use Rattle.office_tables.specs.TablesHeld.{HoldsTables}
use Rattle.office_tables.proofs.DeleteLemmas.{IsDelete, cleared, delete_sound, deleted}
use Rattle.office_tables.proofs.Frames.{all_shown, tables_held}
use Rattle.office_tables.proofs.InsertLemmas.{insert_sound, row_added}
use Rattle.office_tables.proofs.Rows.{drafts, draft_nights}

-- ---- INSERT

abbrev pub insert_text : List ℕ
insert_text = codes "INSERT INTO draft (no, in_row, in_day, spread, mixed, front, period, room) VALUES (?1, ?2, ?3, ?4, ?5, ?6, ?7, ?8)"

abbrev pub insert_night_text : List ℕ
insert_night_text = codes "INSERT INTO night_draft (no, night) VALUES (?1, ?2)"

insert_night_means : IsInsert 10 night_draft_table.key 2 1 insert_night_text
unfolding understood everything
insert_night_means = record { is = refl; plain = (refl, refl); many = refl }

pub added : (old mid new : State) (row : DraftRow) (first second : ℕ) (t : Tables)
    → HoldsTables old.now t → Executes insert_text (draft_columns row) old mid (Ok first)
    → Executes insert_night_text (night_draft_columns row) mid new (Ok second)
    → IsWritten (record t { draft = row ∷ t.draft }) old.now new.now
unfolding understood everything
added old mid new row first second t represents h k =
    let one = row_added drafts insert_text (record { is = refl; plain = (refl, refl); many = refl }) old mid row
    t.draft first (all_columns t) refl (all_shown old.now t represents) h in (
      tables_held new.now (record t { draft = row ∷ t.draft })
          (row_added draft_nights _ insert_night_means mid new row t.draft second _ refl one k),
      λ _. insert_sound insert_night_means _ mid new second one.schema k,
    )

-- ---- DELETE WHERE no = ?1

abbrev pub delete_text : List ℕ
delete_text = codes "DELETE FROM draft WHERE no = ?1"

abbrev pub delete_night_text : List ℕ
delete_night_text = codes "DELETE FROM night_draft WHERE no = ?1"

delete_night_means : IsDelete 10 night_draft_table 1 delete_night_text
unfolding understood everything
delete_night_means = record { is = refl; plain = (refl, refl) }

pub gone : (old mid new : State) (number first second : ℕ) (t : Tables) → HoldsTables old.now t
    → Executes delete_text (Int (pos number) ∷ []) old mid (Ok first)
    → Executes delete_night_text (Int (pos number) ∷ []) mid new (Ok second)
    → IsWritten (record t { draft = filter (λ r. not (r.no == number)) t.draft }) old.now new.now
unfolding understood everything
gone old mid new number first second t represents h k =
    let key = λ (x : DraftRow). x.no ∷ [] in
    let one = deleted drafts.is draft_columns key (λ _. (_, refl)) (number ∷ []) (λ _. omega arith) delete_text
    (record { is = refl; plain = (refl, refl) }) old mid t.draft first (all_columns t) refl
    (all_shown old.now t represents) h in (
      tables_held new.now (record t { draft = filter (λ r. not (r.no == number)) t.draft })
          (deleted draft_nights.is night_draft_columns key (λ _. (_, refl)) (number ∷ []) (λ _. omega arith) _ delete_night_means
          mid new t.draft second _ refl one k),
      λ _. delete_sound delete_night_means _ mid new second one.schema k,
    )

-- ---- DELETE

abbrev pub clear_text : List ℕ
clear_text = codes "DELETE FROM draft"

abbrev pub clear_night_text : List ℕ
clear_night_text = codes "DELETE FROM night_draft"

clear_night_means : IsDelete 10 night_draft_table 0 clear_night_text
unfolding understood everything
clear_night_means = record { is = refl; plain = (refl, refl) }

pub all_gone : (old mid new : State) (first second : ℕ) (t : Tables) → HoldsTables old.now t
    → Executes clear_text [] old mid (Ok first) → Executes clear_night_text [] mid new (Ok second)
    → IsWritten (record t { draft = [] }) old.now new.now
unfolding understood everything
all_gone old mid new first second t represents h k =
    let one = cleared drafts.is clear_text (record { is = refl; plain = (refl, refl) }) old mid _ first
    (all_columns t) refl (all_shown old.now t represents) h in (
      tables_held new.now (record t { draft = [] })
          (cleared draft_nights.is _ clear_night_means mid new _ second _ refl one k),
      λ _. delete_sound clear_night_means _ mid new second one.schema k,
    )
