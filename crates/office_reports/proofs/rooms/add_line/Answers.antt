use Rattle.std.proofs.Common.{◌≡◌, ◌++◌, ◌∷◌, [], ◌∙◌, ◌-◌, ◌^◌, ℕ, List, false, append_assoc}
use Rattle.std.specs.Prelude.{decimal}
use Rattle.std.specs.Fmt.{padded_integral, format_spec}
use Rattle.office_reports.specs.Rooms.{right_aligned}
use Rattle.office_reports.proofs.RoomLemmas.{in_column}
use Rattle.office_reports.proofs.rooms.add_line.Goals as goal

-- a number at the right of a column, as it is written
written_in : ℕ → ℕ → List ℕ
written_in width n = padded_integral (format_spec 32 0 0 width (2 ^ 64 - 1)) false [] (decimal n)

-- four numbers in their columns, and a space
columns : (old new : List ℕ) (period room used capacity p r : ℕ) → p ≡ period → r ≡ room
    → new ≡ old ++ (written_in 3 p ++ (written_in 5 r
    ++ (written_in 8 used ++ (written_in 8 capacity ++ 32 ∷ []))))
    → new ≡ old ++ (right_aligned 3 period ++ right_aligned 5 room ++ right_aligned 8 used ++ right_aligned 8 capacity ++ 32 ∷ [])
unfolding written_in
columns old new period room used capacity p r is_period is_room written =
    written
    ∙ rw (
      is_period,
      is_room,
      in_column 3 period,
      in_column 5 room,
      in_column 8 used,
      in_column 8 capacity,
    ) (simp append_assoc)

pub loop-exam-init : goal.loop-exam-init
unfolding written_in
loop-exam-init c =
    let written =
    rw (c.laid_out.ensures, c.laid_out-2.ensures, c.laid_out-3.ensures, c.laid_out-4.ensures)
    at c.in_ok-write.ensures.bytes in
    columns _ _ _ _ c.args.used c.args.capacity _ _ c.get-period.ensures c.get-room.ensures written
