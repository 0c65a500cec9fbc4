-- The statements on the tables share_student and night_share, and their effects.
use Rattle.std.proofs.Common.{◌≡◌, ℕ, pos, List, [], ◌∷◌, ◌++◌, filter, flat_map, length, not, reverse, ◌==◌, codes, Ok, arith, refl}
use Rattle.sqlite_value.specs.declared.value.Value.TheVariants.{Int}
use Rattle.sqlite.specs.Listing.{understood}
use Rattle.sqlite.specs.State.{State, Executes}
use Rattle.sqlite_tied.specs.Compute.{everything}
use Rattle.office_tables.specs.Tables.ShareStudent.{night_share_table, share_student_columns, night_share_columns}
use Rattle.office_tables.specs.declared.tables.share_student.StudentShareRow.{StudentShareRow}
use Rattle.office_tables.specs.Inserting.{IsInsert}
use Rattle.office_tables.specs.Alterations.{IsWritten}
use Rattle.office_tables.specs.Tables.{Tables, all_columns}
use Rattle.office_tables.specs.TablesHeld.{HoldsTables}
use Rattle.office_tables.proofs.DeleteLemmas.{IsDelete, delete_sound, deleted}
use Rattle.office_tables.proofs.Frames.{all_shown, tables_held}
use Rattle.office_tables.proofs.InsertLemmas.{insert_sound, row_added, rows_added}
use Rattle.office_tables.proofs.Rows.{student_shares, share_nights}

-- ---- INSERT

abbrev pub insert_text : List ℕ
insert_text = codes "INSERT INTO share_student (student, in_row, in_day, spread) VALUES (?1, ?2, ?3, ?4)"

abbrev pub insert_night_text : List ℕ
insert_night_text = codes "INSERT INTO night_share (student, night) VALUES (?1, ?2)"

insert_night_means : IsInsert 11 night_share_table.key 2 1 insert_night_text
unfolding understood everything
insert_night_means = record { is = refl; plain = (refl, refl); many = refl }

pub added : (old mid new : State) (row : StudentShareRow) (first second : ℕ) (t : Tables)
    → HoldsTables old.now t → Executes insert_text (share_student_columns row) old mid (Ok first)
    → Executes insert_night_text (night_share_columns row) mid new (Ok second)
    → IsWritten (record t { share_student = row ∷ t.share_student }) old.now new.now
unfolding understood everything
added old mid new row first second t represents h k =
    let one = row_added student_shares insert_text (record { is = refl; plain = (refl, refl); many = refl }) old mid row
    t.share_student first (all_columns t) refl (all_shown old.now t represents) h in (
      tables_held new.now (record t { share_student = row ∷ t.share_student })
          (row_added share_nights _ insert_night_means mid new row t.share_student second _ refl one k),
      λ _. insert_sound insert_night_means _ mid new second one.schema k,
    )

-- ---- INSERT of sixteen rows

abbrev pub sixteen_text : List ℕ
sixteen_text =
    codes "INSERT INTO share_student (student, in_row, in_day, spread) VALUES (?, ?, ?, ?), (?, ?, ?, ?), (?, ?, ?, ?), (?, ?, ?, ?), (?, ?, ?, ?), (?, ?, ?, ?), (?, ?, ?, ?), (?, ?, ?, ?), (?, ?, ?, ?), (?, ?, ?, ?), (?, ?, ?, ?), (?, ?, ?, ?), (?, ?, ?, ?), (?, ?, ?, ?), (?, ?, ?, ?), (?, ?, ?, ?)"

abbrev pub sixteen_nights_text : List ℕ
sixteen_nights_text =
    codes "INSERT INTO night_share (student, night) VALUES (?, ?), (?, ?), (?, ?), (?, ?), (?, ?), (?, ?), (?, ?), (?, ?), (?, ?), (?, ?), (?, ?), (?, ?), (?, ?), (?, ?), (?, ?), (?, ?)"

sixteen_nights_means : IsInsert 11 night_share_table.key 2 16 sixteen_nights_text
unfolding understood everything
sixteen_nights_means = record { is = refl; plain = (refl, refl); many = refl }

pub sixteen_added : (old mid new : State) (rows : List StudentShareRow) (first second : ℕ)
    (t : Tables) → length rows ≡ 16 → HoldsTables old.now t
    → Executes sixteen_text (flat_map share_student_columns rows) old mid (Ok first)
    → Executes sixteen_nights_text (flat_map night_share_columns rows) mid new (Ok second)
    → IsWritten (record t { share_student = reverse rows ++ t.share_student }) old.now new.now
unfolding understood everything
sixteen_added old mid new rows first second t long represents h k =
    let one = rows_added student_shares 16 sixteen_text (record { is = refl; plain = (refl, refl); many = refl }) old
    mid rows t.share_student long first (all_columns t) refl (all_shown old.now t represents) h in (
      tables_held new.now (record t { share_student = reverse rows ++ t.share_student })
          (rows_added share_nights 16 _ sixteen_nights_means mid new rows t.share_student long
          second _ refl one k),
      λ _. insert_sound sixteen_nights_means _ mid new second one.schema k,
    )

-- ---- DELETE WHERE student = ?1

abbrev pub delete_text : List ℕ
delete_text = codes "DELETE FROM share_student WHERE student = ?1"

abbrev pub delete_night_text : List ℕ
delete_night_text = codes "DELETE FROM night_share WHERE student = ?1"

delete_night_means : IsDelete 11 night_share_table 1 delete_night_text
unfolding understood everything
delete_night_means = record { is = refl; plain = (refl, refl) }

pub gone : (old mid new : State) (number first second : ℕ) (t : Tables) → HoldsTables old.now t
    → Executes delete_text (Int (pos number) ∷ []) old mid (Ok first)
    → Executes delete_night_text (Int (pos number) ∷ []) mid new (Ok second)
    → IsWritten (record t { share_student = filter (λ r. not (r.student == number)) t.share_student }) old.now new.now
unfolding understood everything
gone old mid new number first second t represents h k =
    let key = λ (x : StudentShareRow). x.student ∷ [] in
    let one = deleted student_shares.is share_student_columns key (λ _. (_, refl)) (number ∷ []) (λ _. omega arith)
    delete_text (record { is = refl; plain = (refl, refl) }) old mid t.share_student first (all_columns t) refl
    (all_shown old.now t represents) h in (
      tables_held new.now (record t { share_student = filter (λ r. not (r.student == number)) t.share_student })
          (deleted share_nights.is night_share_columns key (λ _. (_, refl)) (number ∷ []) (λ _. omega arith) _ delete_night_means
          mid new t.share_student second _ refl one k),
      λ _. delete_sound delete_night_means _ mid new second one.schema k,
    )
