-- The table holds the office's pages.
use Rattle.std.proofs.Common.{◌≡◌, ◌<◌, ◌⊎◌, ◌&&◌, ◌||◌, ◌==◌, ltb, Bool, true, List, ℕ, ◌∷◌, arith}
use Rattle.std.proofs.Common.{[], suc, get_or, Option, Some, None, IfSome, IsNone, option_map}
use Rattle.std.proofs.Common.{map, refl, sym, ap, subst, ◌∙◌, inl, inr}
use Rattle.std.proofs.lemmas.Bool.{eqb-true, ltb-true, or_cases, and_parts}
use Rattle.matchit.specs.Rows.{param_token}
use Rattle.matchit.specs.Level.{IsText}
use Rattle.matchit.specs.Route.{scan}
use Rattle.matchit.specs.Router.{RouteOf}
use Rattle.matchit.specs.Seek.{slash, first}
use Rattle.office_requests.specs.declared.routes.Page.{Page}
use Rattle.office_requests.specs.Patterns.{is_match}
use Rattle.office_requests.specs.Pages.{IsIn}
use Rattle.office_requests.proofs.Plain.{EndsSegment, IsPlain, ArePlain}
use Rattle.office_requests.specs.Table.{Rows, table, adds, adds_all, page_at}
use Rattle.office_requests.specs.Pages.{pages, IsRouteTo}
use Rattle.std.specs.Prelude.{find}
use Rattle.office_requests.specs.Pages.{page_of}
use Rattle.office_requests.proofs.OnePageLemmas.{one_page}
use Rattle.office_requests.proofs.FindLemmas.{first_found, first_none}

abbrev shown : List ℕ × RouteOf Page → List ℕ × Page
shown row = (row.0, row.1.value)

table_pages : map shown table ≡ pages
unfolding table adds_all adds scan
table_pages = refl

-- a pattern is plain, as a test
abbrev ends_segment : List ℕ → Bool
ends_segment [] = true
ends_segment (x ∷ t) = x == slash

abbrev is_plain : List ℕ → Bool
is_plain [] = true
is_plain (x ∷ t) = (ltb x param_token || ((x == param_token) && ends_segment t)) && is_plain t

abbrev are_plain : List (List ℕ × Page) → Bool
are_plain [] = true
are_plain (row ∷ rows) = is_plain row.0 && are_plain rows

ends_of : (t : List ℕ) → ends_segment t ≡ true → EndsSegment t
ends_of [] h = tt
ends_of (x ∷ t) h = eqb-true x slash h

plain_of : (t : List ℕ) → is_plain t ≡ true → IsPlain t
plain_of [] h = tt
plain_of (x ∷ t) h = go (or_cases _ _ (and_parts _ _ h).0) (plain_of t (and_parts _ _ h).1)
  where
    go : ((ltb x param_token ≡ true) ⊎ (((x == param_token) && ends_segment t) ≡ true)) →
        IsPlain t → IsPlain (x ∷ t)
    go (inl small) rest = (inl (ltb-true x param_token small), rest)
    go (inr is) rest = (
      inr (eqb-true x param_token (and_parts _ _ is).0, ends_of t (and_parts _ _ is).1),
      rest,
    )

plain_rows : (rows : Rows) → are_plain (map shown rows) ≡ true → ArePlain rows
plain_rows [] h = tt
plain_rows (row ∷ rows) h = let p = and_parts (is_plain row.0) (are_plain (map shown rows)) h in
    (plain_of row.0 p.0, plain_rows rows p.1)

table_plain : ArePlain table
table_plain = plain_rows table (ap are_plain table_pages)

in_shown : (rows : Rows) (t : List ℕ) (r : RouteOf Page) → IsIn t r rows →
    IsIn t r.value (map shown rows)
in_shown [] t r h = h
in_shown (row ∷ rows) t r (inl h) = inl (h.0, ap (λ (z : RouteOf Page). z.value) h.1)
in_shown (row ∷ rows) t r (inr h) = inr (in_shown rows t r h)

from_shown : (rows : Rows) (t : List ℕ) (p : Page) → IsIn t p (map shown rows) →
    (r : RouteOf Page) × IsIn t r rows
from_shown [] t p h = absurd h
from_shown (row ∷ rows) t p (inl h) = (row.1, inl (h.0, refl))
from_shown (row ∷ rows) t p (inr h) = let found = from_shown rows t p h in (found.0, inr found.1)

text_of : (path : List ℕ) → ((i : ℕ) → get_or path i 0 < 256) → IsText path
text_of [] h = tt
text_of (b ∷ path) h = (h 0, text_of path (λ i. h (suc i)))

-- the page that the table finds for a path is the path's
pub page_found : (path : List ℕ) (p : Page) → ((i : ℕ) → get_or path i 0 < 256) →
    page_at table path ≡ Some p → IsRouteTo p path
page_found path p text h = go (first table path) refl h
  where
    go : (o : Option (RouteOf Page)) → first table path ≡ o →
        option_map (λ (r : RouteOf Page). r.value) o ≡ Some p → IsRouteTo p path
    go None e k = cc
    go (Some r) e k =
        let found = first_found (RouteOf Page) table path r (text_of path text) table_plain e in
        let is : r.value ≡ p = cc in
        let at : IsIn found.pattern r.value pages =
        subst (IsIn found.pattern r.value) table_pages
        (in_shown table found.pattern r found.is_in) in
        record {
          pattern = found.pattern;
          is_in = subst
              (λ (z : Page). IsIn found.pattern z pages) is at;
          matches_path = found.matches_path;
        }

-- if the table finds none, no page has that path
pub page_none : (path : List ℕ) → page_at table path ≡ None → (p : Page) → ¬ (IsRouteTo p path)
page_none path h p leads = go (first table path) refl h
  where
    go : (o : Option (RouteOf Page)) → first table path ≡ o →
        option_map (λ (r : RouteOf Page). r.value) o ≡ None → ⊥
    go (Some r) e k = cc
    go None e k =
        let at = from_shown table leads.pattern p
        (subst (IsIn leads.pattern p) (sym table_pages) leads.is_in) in
        first_none (RouteOf Page) table path table_plain e leads.pattern at.0 at.1
        leads.matches_path

pub found_clause : (path : List ℕ) (o : Option Page) → ((i : ℕ) → get_or path i 0 < 256) →
    o ≡ page_at table path → IfSome o (λ p. IsRouteTo p path)
found_clause path None text e = tt
found_clause path (Some p) text e = page_found path p text (sym e)

pub none_clause : (path : List ℕ) (o : Option Page) → o ≡ page_at table path → IsNone o →
    (p : Page) → ¬ (IsRouteTo p path)
none_clause path None e n p = page_none path (sym e) p
none_clause path (Some q) e n p = cc

-- a row found by a search is among the rows and takes the path
found_in : (rows : List (List ℕ × Page)) (path : List ℕ) (row : List ℕ × Page) →
    find (λ r. is_match r.0 path) rows ≡ Some row → IsIn row.0 row.1 rows × (is_match row.0 path ≡ true)
found_in [] path row e = cc
found_in (r ∷ rows) path row e = grind (arith, found_in rows path row)

-- if it finds nothing, no row takes the path
none_in : (rows : List (List ℕ × Page)) (path t : List ℕ) (p : Page) →
    find (λ r. is_match r.0 path) rows ≡ None → IsIn t p rows → is_match t path ≡ true → ⊥
none_in [] path t p e i k = i
none_in (r ∷ rows) path t p e i k = grind (arith, none_in rows path t p)

-- the page of a path, if it has one
pub page_some : (path : List ℕ) (p : Page) → IsRouteTo p path → Some p ≡ page_of path
unfolding page_of
page_some path p leads = go (find (λ r. is_match r.0 path) pages) refl
  where
    go : (o : Option (List ℕ × Page)) → find (λ r. is_match r.0 path) pages ≡ o →
        Some p ≡ option_map (λ (row : List ℕ × Page). row.1) o
    go None e = absurd (none_in pages path leads.pattern p e leads.is_in leads.matches_path)
    go (Some row) e =
        let found = found_in pages path row e in
        let also : IsRouteTo row.1 path = record {
          pattern = row.0;
          is_in = found.0;
          matches_path = found.1;
        } in
        ap (λ (x : Page). Some x) (one_page path p row.1 leads also)

page_nowhere : (path : List ℕ) → ((p : Page) → ¬ (IsRouteTo p path)) → None ≡ page_of path
unfolding page_of
page_nowhere path none = go (find (λ r. is_match r.0 path) pages) refl
  where
    go : (o : Option (List ℕ × Page)) → find (λ r. is_match r.0 path) pages ≡ o →
        ◌≡◌ {A = Option Page} None (option_map (λ (row : List ℕ × Page). row.1) o)
    go None e = refl
    go (Some row) e =
        let found = found_in pages path row e in
        absurd (none row.1 record { pattern = row.0; is_in = found.0; matches_path = found.1 })

pub only_clause : (path : List ℕ) (o : Option Page) → ((i : ℕ) → get_or path i 0 < 256) →
    o ≡ page_at table path → o ≡ page_of path
only_clause path None text e = page_nowhere path (page_none path (sym e))
only_clause path (Some p) text e = page_some path p (page_found path p text (sym e))
