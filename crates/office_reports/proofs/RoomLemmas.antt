-- Numbers in columns.
use Rattle.std.proofs.Common.{◌≡◌, ℕ, ◌-◌, ◌^◌, [], length, arith, false, append-nil}
use Rattle.std.specs.Prelude.{decimal}
use Rattle.std.specs.Fmt.{padded_integral, format_spec, char_count}
use Rattle.exam_lists.proofs.Parts.{repeat_one}
use Rattle.office_reports.specs.Rooms.{right_aligned}

-- the text written for `{:3}`, or for another width
pub in_column : (width n : ℕ) →
    padded_integral (format_spec 32 0 0 width (2 ^ 64 - 1)) false [] (decimal n) ≡ right_aligned width n
unfolding padded_integral char_count lib.Utf8.encode
in_column width n =
    let spaces = width - length (decimal n) in
    let all : spaces - 0 - 0 ≡ spaces = omega arith in
    let none : spaces - spaces ≡ 0 = omega arith in
    rw (all, none) (simp (append-nil, repeat_one))
