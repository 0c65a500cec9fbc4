-- The tokens of a text come one after another.
use Rattle.std.proofs.lemmas.Grind.{common_steps}
use Rattle.std.proofs.Common.{◌≡◌, ℕ, suc, ◌+◌, ◌≤◌, true, false, List, []}
use Rattle.std.proofs.Common.{◌∷◌, ◌++◌, length, refl, arith, length-append}
use Rattle.std.specs.Prelude.{◌==◌, if◌then◌else◌, map}
use Rattle.std.specs.List.{flat_map}
use Rattle.exam_lists.proofs.Parts.{extent, extent_onto}
use Rattle.exam_terms.specs.Texts.{trim_start, trim_end, trimmed_text}
use Rattle.office_files.specs.Fields.{ended_parts}
use Rattle.office_files.specs.Lines.{Piece, Located, pieces_from, without_return, inner_start, trimmed_piece}
use Rattle.office_files.specs.Lines.{lines_from}
use Rattle.office_files.specs.Tokens.{tokens_in, tokens_of, AreInRow}
use Rattle.office_files.proofs.SliceLaws.{tokens_slice, trim_start-le, trim_end_front, return_front}

lower : (low low' high : ℕ) (ss : List Located) → low ≤ low' → AreInRow low' ss high
    → AreInRow low ss high
lower low low' high [] le r = omega arith
lower low low' high (s ∷ ss) le r = let begins = r.0 in (omega arith, r.1, r.2)

joined : (low mid high : ℕ) (xs ys : List Located) → AreInRow low xs mid → AreInRow mid ys high →
    AreInRow low (xs ++ ys) high
joined low mid high [] ys a b = lower low mid high ys a b
joined low mid high (x ∷ xs) ys a b = (a.0, a.1, joined x.end mid high xs ys a.2 b)

extent-le : (c : ℕ) (bs : List ℕ) → extent (ended_parts c bs) ≤ length bs + 1
extent-le c [] = omega arith
extent-le c (b ∷ bs) = grind (arith, common_steps, extent-le c bs, extent, extent_onto)

-- a located text is inside its piece
pub inner : (line : ℕ) (p : Piece) → record {
  begins : p.start ≤ inner_start p;
  ends : inner_start p + length (trimmed_text p.text) ≤ p.start + length p.text;
}
inner line p =
    let f = trim_end_front (trim_start p.text) in
    let len = Rattle.std.proofs.Common.ap length f.1 in
    let le = trim_start-le p.text in
    record {
      begins = omega arith;
      ends = omega (arith, length-append (trim_end (trim_start p.text)) f.0);
    }

fields_run : (line start high : ℕ) (xs : List (List ℕ)) → start + extent xs ≤ high + 1 →
    start ≤ high → AreInRow start (map (trimmed_piece line) (pieces_from start xs)) high
fields_run line start high [] reach le = le
fields_run line start high (x ∷ []) reach le =
    let i = inner line (record { start = start; text = x }) in
    (i.begins, omega arith, omega (arith, i.ends))
fields_run line start high (x ∷ y ∷ ys) reach le =
    let i = inner line (record { start = start; text = x }) in
    let more = fields_run line (start + length x + 1) high (y ∷ ys) (omega arith) (omega arith) in
    let end : ℕ = inner_start (record { start = start; text = x }) + length (trimmed_text x) in
    let gap : end ≤ start + length x + 1 = omega (arith, i.ends) in
    let others = map (trimmed_piece line) (pieces_from (start + length x + 1) (y ∷ ys)) in
    (i.begins, omega arith, lower end (start + length x + 1) high others gap more)

-- the tokens of a row are inside it
row_runs : (row : Located) → row.end ≡ row.start + length row.text →
    AreInRow row.start (tokens_in row) row.end
row_runs row e = grind (arith, common_steps, extent-le, fields_run)

rows_run : (line start high : ℕ) (xs : List (List ℕ)) → start + extent xs ≤ high →
    AreInRow start (flat_map tokens_in (lines_from line (pieces_from start xs))) high
rows_run line start high [] reach = omega arith
rows_run line start high (x ∷ xs) reach =
    let kept : Piece = record { start = start; text = without_return x } in
    let i = inner line kept in
    let f = return_front x in
    let len = Rattle.std.proofs.Common.ap length f.1 in
    let more = rows_run (line + 1) (start + length x + 1) high xs (omega arith) in
    let row = row_runs (trimmed_piece line kept) refl in
    let end_le : inner_start kept + length (trimmed_text (without_return x)) ≤ start + length x + 1 =
    omega (arith, i.ends, length-append (without_return x) f.0) in
    let others = lines_from (line + 1) (pieces_from (start + length x + 1) xs) in
    elim (length (trimmed_text (without_return x)) == 0) as (λ v.
    AreInRow start (flat_map tokens_in (if v then others else trimmed_piece line kept ∷ others)) high) [
      | true ↦ lower start (start + length x + 1) high _ (omega arith) more
      | false ↦ joined start (inner_start kept + length (trimmed_text (without_return x))) high
          (tokens_in (trimmed_piece line kept)) _ (lower start (inner_start kept) _ _ i.begins row)
          (lower _ (start + length x + 1) high _ end_le more)
    ]

-- the tokens of a text, in the order of their places
pub tokens_run : (source : List ℕ) → AreInRow 0 (tokens_of source) (length source + 1)
tokens_run source =
    rows_run 1 0 (length source + 1) (ended_parts 10 source) (omega (arith, extent-le 10 source))

pub ruleset token_laws = (tokens_slice, tokens_run)
