-- No two pages take one path.
use Rattle.std.proofs.Common.{◌≡◌, ◌<◌, ◌&&◌, ◌==◌, nat_lt, Bool, true, false, List, ℕ}
use Rattle.std.proofs.Common.{◌∷◌, [], refl, sym, subst, ◌∙◌, inl, inr, arith}
use Rattle.std.specs.Prelude.{if◌then◌else◌}
use Rattle.std.proofs.lemmas.Bool.{eqb-true, and_parts}
use Rattle.matchit.specs.Rows.{param_token}
use Rattle.office_requests.specs.declared.routes.Page.{Page}
use Rattle.office_requests.specs.Patterns.{is_match, rest_of_segment}
use Rattle.office_requests.specs.Pages.{IsIn}
use Rattle.office_requests.specs.Pages.{pages, IsRouteTo}

-- two patterns differ in a byte that each has, or one ends first
abbrev apart : List ℕ → List ℕ → Bool
apart [] [] = false
apart [] (y ∷ t) = true
apart (x ∷ s) [] = true
apart (x ∷ s) (y ∷ t) =
    if x == y then apart s t else (nat_lt x param_token && nat_lt y param_token)

abbrev apart_from : List ℕ → List (List ℕ × Page) → Bool
apart_from s [] = true
apart_from s (row ∷ rows) = apart s row.0 && apart_from s rows

abbrev all_apart : List (List ℕ × Page) → Bool
all_apart [] = true
all_apart (row ∷ rows) = apart_from row.0 rows && all_apart rows

-- a byte of a pattern takes that byte
literal : (x : ℕ) (s : List ℕ) (b : ℕ) (path : List ℕ) → x < 256 → is_match (x ∷ s) (b ∷ path) ≡ true →
    x ≡ b
literal x s b path small h = grind (arith, and_parts, eqb-true)

apart_takes : (s t path : List ℕ) → apart s t ≡ true → is_match s path ≡ true → is_match t path ≡ true → ⊥
apart_takes [] [] path a h k = cc
apart_takes [] (y ∷ t) [] a h k = cc
apart_takes [] (y ∷ t) (b ∷ path) a h k = cc
apart_takes (x ∷ s) [] [] a h k = cc
apart_takes (x ∷ s) [] (b ∷ path) a h k = cc
apart_takes (x ∷ s) (y ∷ t) [] a h k = cc
apart_takes (x ∷ s) (y ∷ t) (b ∷ path) a h k =
    grind (
      arith,
      apart_takes s t (rest_of_segment path),
      apart_takes s t path,
      and_parts,
      eqb-true,
      literal,
    )

apart_in : (rows : List (List ℕ × Page)) (s t path : List ℕ) (q : Page) → apart_from s rows ≡ true →
    IsIn t q rows → is_match s path ≡ true → is_match t path ≡ true → ⊥
apart_in [] s t path q a i h k = i
apart_in (row ∷ rows) s t path q a (inl i) h k = grind (arith, and_parts, apart_takes)
apart_in (row ∷ rows) s t path q a (inr i) h k =
    apart_in rows s t path q (and_parts (apart s row.0) _ a).1 i h k

one_of : (rows : List (List ℕ × Page)) (s t path : List ℕ) (p q : Page) → all_apart rows ≡ true →
    IsIn s p rows → IsIn t q rows → is_match s path ≡ true → is_match t path ≡ true → p ≡ q
one_of [] s t path p q a i j h k = absurd i
one_of (row ∷ rows) s t path p q a (inl i) (inl j) h k = sym i.1 ∙ j.1
one_of (row ∷ rows) s t path p q a (inl i) (inr j) h k =
    absurd (apart_in rows row.0 t path q (and_parts (apart_from row.0 rows) _ a).0 j
    (subst (λ (z : List ℕ). is_match z path ≡ true) (sym i.0) h) k)
one_of (row ∷ rows) s t path p q a (inr i) (inl j) h k =
    absurd (apart_in rows row.0 s path p (and_parts (apart_from row.0 rows) _ a).0 i
    (subst (λ (z : List ℕ). is_match z path ≡ true) (sym j.0) k) h)
one_of (row ∷ rows) s t path p q a (inr i) (inr j) h k =
    one_of rows s t path p q (and_parts (apart_from row.0 rows) _ a).1 i j h k

pages_apart : all_apart pages ≡ true
pages_apart = refl

pub one_page : (path : List ℕ) (p q : Page) → IsRouteTo p path → IsRouteTo q path → p ≡ q
one_page path p q x y = one_of pages x.pattern y.pattern path p q pages_apart x.is_in y.is_in
    x.matches_path y.matches_path
