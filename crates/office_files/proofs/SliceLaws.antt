-- Each piece of a text is at its recorded place in it.
use Rattle.std.proofs.lemmas.Grind.{common_steps}
use Rattle.std.proofs.Common.{◌≡◌, ℕ, ◌+◌, ◌-◌, ◌≤◌, true, false, List, [], ◌∷◌, ◌++◌, rules}
use Rattle.std.proofs.Common.{length, drop, refl, ap, subst, sym, arith}
use Rattle.std.proofs.Common.{length-append, length-drop, append-nil}
use Rattle.std.specs.Prelude.{◌==◌, if◌then◌else◌, map}
use Rattle.std.specs.List.{AllByRecursion, onto_first, flat_map}
use Rattle.std.proofs.lemmas.List.{take-append-le, take_all}
use Rattle.exam_lists.proofs.Parts.{drop_next, Lies, drop_within, lies_front, lies_next}
use Rattle.exam_terms.specs.Texts.{is_blank, before_end, trim_start, trim_end, trimmed_text}
use Rattle.office_files.specs.Fields.{ended_parts}
use Rattle.office_files.specs.Lines.{Piece, Located, pieces_from, without_return, inner_start, trimmed_piece}
use Rattle.office_files.specs.Lines.{lines_from, lines_of}
use Rattle.office_files.specs.Tokens.{tokens_in, tokens_of, IsSliceOf}

-- a text at this place is that slice
pub lies_slice : (source : List ℕ) (line : ℕ) (start end : ℕ) (text : List ℕ) →
    end ≡ start + length text → Lies source start text →
    IsSliceOf source (record { line = line; start = start; end = end; text = text })
lies_slice source line start end text e l =
    grind (
      arith,
      common_steps,
      length-append,
      length-drop start source,
      take-append-le,
      take_all (length text) text (omega arith),
    )

abbrev pub AllLie : List ℕ → List Piece → Type 0
AllLie source = AllByRecursion (λ (p : Piece). Lies source p.start p.text)

-- one more byte at the front of the first part
onto_lie : (source : List ℕ) (at b : ℕ) (bs tail : List ℕ) (parts : List (List ℕ)) →
    drop at source ≡ b ∷ (bs ++ tail) → AllLie source (pieces_from (at + 1) parts) →
    AllLie source (pieces_from at (onto_first b parts))
onto_lie source at b bs tail [] e all = grind (arith, common_steps, drop_within)
onto_lie source at b bs tail (x ∷ xs) e all = grind (arith, common_steps, drop_next, drop_within)

-- the parts of a text in the source are in the source
pub parts_lie : (c : ℕ) (text : List ℕ) (source : List ℕ) (at : ℕ) (tail : List ℕ) →
    drop at source ≡ text ++ tail → AllLie source (pieces_from at (ended_parts c text))
parts_lie c [] source at tail e = tt
parts_lie c (b ∷ bs) source at tail e =
    grind (
      arith,
      common_steps,
      parts_lie c bs source (at + 1) tail (drop_next source at b (bs ++ tail) e),
      drop_next,
      drop_within,
      onto_lie,
    )

pub trim_start-le : (text : List ℕ) → length (trim_start text) ≤ length text
trim_start-le [] = omega arith
trim_start-le (b ∷ bs) = grind (arith, common_steps, trim_start-le bs)

lies_trim_start : (source : List ℕ) (start : ℕ) (text : List ℕ) → Lies source start text →
    Lies source (start + (length text - length (trim_start text))) (trim_start text)
lies_trim_start source start [] l = subst (λ k. Lies source k []) {x = start} (omega arith) l
lies_trim_start source start (b ∷ bs) l =
    grind (
      arith,
      common_steps,
      lies_trim_start source (start + 1) bs (lies_next source start b bs l),
      Lies,
      lies_next,
      trim_start-le,
    )

end_front : (b : ℕ) (t ys bs : List ℕ) → bs ≡ t ++ ys →
    (zs : List ℕ) × (b ∷ bs ≡ before_end b t ++ zs)
end_front b [] ys bs e =
    elim (is_blank b) as (λ v. (zs : List ℕ) × (b ∷ bs ≡ (if v then [] else b ∷ []) ++ zs)) [
      | true ↦ (b ∷ bs, refl)
      | false ↦ (bs, refl)
    ]
end_front b (c ∷ cs) ys bs e = (ys, ap (λ (xs : List ℕ). b ∷ xs) e)

pub trim_end_front : (text : List ℕ) → (zs : List ℕ) × (text ≡ trim_end text ++ zs)
trim_end_front [] = ([], refl)
trim_end_front (b ∷ bs) = let f = trim_end_front bs in end_front b (trim_end bs) f.0 bs f.1

pub return_front : (text : List ℕ) → (zs : List ℕ) × (text ≡ without_return text ++ zs)
return_front [] = ([], refl)
return_front (b ∷ []) =
    elim (b == 13) as (λ v. (zs : List ℕ) × (b ∷ [] ≡ (if v then [] else b ∷ []) ++ zs)) [
      | true ↦ (b ∷ [], refl)
      | false ↦ ([], refl)
    ]
return_front (b ∷ c ∷ cs) = let f = return_front (c ∷ cs) in (f.0, ap (λ (xs : List ℕ). b ∷ xs) f.1)

-- the facts about a located text
pub record IsLocated (source : List ℕ) (s : Located) : Type 0 where
  pub lies : Lies source s.start s.text
  pub end : s.end ≡ s.start + length s.text

located_lies : (source : List ℕ) (line : ℕ) (p : Piece) → Lies source p.start p.text →
    IsLocated source (trimmed_piece line p)
located_lies source line p l =
    let inner = lies_trim_start source p.start p.text l in
    let f = trim_end_front (trim_start p.text) in
    let front = trim_start p.text in
    record {
      lies = lies_front source (inner_start p) front (trim_end front) f.0 f.1 inner;
      end = refl;
    }

pub located_slice : (source : List ℕ) (s : Located) → IsLocated source s → IsSliceOf source s
located_slice source s st = lies_slice source s.line s.start s.end s.text st.end st.lies

abbrev pub AllLocated : List ℕ → List Located → Type 0
AllLocated source = AllByRecursion (IsLocated source)

rows_located : (source : List ℕ) (line : ℕ) (ps : List Piece) → AllLie source ps →
    AllLocated source (lines_from line ps)
rows_located source line [] all = tt
rows_located source line (p ∷ ps) all =
    let f = return_front p.text in
    let kept : Piece = record p { text = without_return p.text } in
    let row =
    located_lies source line kept
    (lies_front source p.start p.text (without_return p.text) f.0 f.1 all.0) in
    let more = rows_located source (line + 1) ps all.1 in
    let others = lines_from (line + 1) ps in
    elim (length (trimmed_text (without_return p.text)) == 0) as (λ v.
    AllLocated source (if v then others else trimmed_piece line kept ∷ others)) [
      | true ↦ more
      | false ↦ (row, more)
    ]

fields_located : (source : List ℕ) (line : ℕ) (ps : List Piece) → AllLie source ps →
    AllLocated source (map (trimmed_piece line) ps)
fields_located source line [] all = tt
fields_located source line (p ∷ ps) all =
    (located_lies source line p all.0, fields_located source line ps all.1)

tokens_in_located : (source : List ℕ) (row : Located) → IsLocated source row →
    AllLocated source (tokens_in row)
tokens_in_located source row st = grind (arith, common_steps, fields_located, parts_lie)

located_append : (source : List ℕ) (xs ys : List Located) → AllLocated source xs
    → AllLocated source ys →
    AllLocated source (xs ++ ys)
located_append source [] ys a b = b
located_append source (x ∷ xs) ys a b = (a.0, located_append source xs ys a.1 b)

all_tokens_located : (source : List ℕ) (rows : List Located) → AllLocated source rows →
    AllLocated source (flat_map tokens_in rows)
all_tokens_located source [] all = tt
all_tokens_located source (r ∷ rs) all =
    search (rules, all_tokens_located source rs all.1, located_append, tokens_in_located)

-- each token of a text is its slice of the text
pub tokens_located : (source : List ℕ) → AllLocated source (tokens_of source)
tokens_located source =
    all_tokens_located source (lines_of source)
    (rows_located source 1 (pieces_from 0 (ended_parts 10 source))
    (parts_lie 10 source source 0 [] (sym (append-nil source))))

slices : (source : List ℕ) (ts : List Located) → AllLocated source ts →
    AllByRecursion (IsSliceOf source) ts
slices source [] all = tt
slices source (t ∷ ts) all = (located_slice source t all.0, slices source ts all.1)

pub tokens_slice : (source : List ℕ) → AllByRecursion (IsSliceOf source) (tokens_of source)
tokens_slice source = slices source (tokens_of source) (tokens_located source)
