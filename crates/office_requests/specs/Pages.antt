-- The pages, each with the paths that lead to it.
use Rattle.std.specs.Prelude.{◌≡◌, ◌⊎◌, ℕ, true, List, [], ◌∷◌, ◌++◌, codes, find, map}
use Rattle.std.specs.Prelude.{Option, option_map}
use Rattle.matchit.specs.Rows.{RowsOf, param_token}
use Rattle.matchit.specs.Seek.{slash}
use Rattle.office_requests.specs.Patterns.{is_match}
use Rattle.office_requests.specs.declared.routes.Page.{Page}
use Rattle.office_requests.specs.declared.routes.Page.TheVariants as page

-- a part of a page's path: a word, or a number
pub data Part : Type 0 where
  word : List ℕ → Part
  number : Part

-- the path of a draft, followed by these parts
abbrev pub draft : List Part → List Part
draft more = word (codes "drafts") ∷ number ∷ more

-- that of an exam in a draft
abbrev pub draft_exam : List Part → List Part
draft_exam more = draft (word (codes "exams") ∷ number ∷ more)

-- the parts of each page's path
abbrev pub parts_of : Page → List Part
parts_of page.Me = word (codes "me") ∷ []
parts_of page.MyExam = word (codes "me") ∷ word (codes "exam") ∷ number ∷ []
parts_of page.MyPenalty = word (codes "me") ∷ word (codes "penalty") ∷ []
parts_of page.Instance = word (codes "instance") ∷ []
parts_of page.Owner = word (codes "exams") ∷ number ∷ word (codes "owner") ∷ []
parts_of page.Draft = draft []
parts_of page.DraftPenalty = draft (word (codes "penalty") ∷ [])
parts_of page.DraftViolations = draft (word (codes "violations") ∷ [])
parts_of page.DraftPlaces = draft_exam (word (codes "places") ∷ [])
parts_of page.Place = draft_exam (word (codes "place") ∷ [])
parts_of page.Move = draft_exam (word (codes "move") ∷ [])
parts_of page.Slot = draft_exam []
parts_of page.Swap = draft (word (codes "swap") ∷ number ∷ number ∷ [])
parts_of page.Publish = draft (word (codes "publish") ∷ [])
parts_of page.Publication = word (codes "publication") ∷ []
parts_of page.PublicationPenalty = word (codes "publication") ∷ word (codes "penalty") ∷ []
parts_of page.PublicationRooms = word (codes "publication") ∷ word (codes "rooms") ∷ []
parts_of page.PublicationSeats = word (codes "publication") ∷ word (codes "seats") ∷ []
parts_of page.Batch = word (codes "batches") ∷ number ∷ []

-- a pattern of these parts, each after a slash
abbrev pub pattern_of : List Part → List ℕ
pattern_of [] = []
pattern_of (word w ∷ parts) = slash ∷ (w ++ pattern_of parts)
pattern_of (number ∷ parts) = slash ∷ param_token ∷ pattern_of parts

-- the pages, in the order in which the router searches them
abbrev pub all_pages : List Page
all_pages =
    page.Batch ∷ page.Move ∷ page.DraftPlaces ∷ page.Place ∷ page.Slot ∷ page.DraftPenalty
    ∷ page.Publish ∷ page.Swap ∷ page.DraftViolations ∷ page.Draft ∷ page.Owner ∷ page.Instance ∷ page.MyExam
    ∷ page.MyPenalty ∷ page.Me ∷ page.PublicationPenalty ∷ page.PublicationRooms
    ∷ page.PublicationSeats ∷ page.Publication ∷ []

-- each page with its pattern
abbrev pub pages : List (List ℕ × Page)
pages = map (λ p. (pattern_of (parts_of p), p)) all_pages

-- a pattern is among rows with this key
abbrev pub IsIn : {K : Type 0} → List ℕ → K → RowsOf K → Type 0
IsIn t k [] = ⊥
IsIn t k (row ∷ rows) = ((row.0 ≡ t) × (row.1 ≡ k)) ⊎ IsIn t k rows

-- one of the rows has this key and takes the path
pub record Finds {K : Type 0} (rows : RowsOf K) (path : List ℕ) (k : K) : Type 0 where
  pub pattern : List ℕ
  pub is_in : IsIn pattern k rows
  pub matches_path : is_match pattern path ≡ true

-- the path leads to the page
abbrev pub IsRouteTo : Page → List ℕ → Type 0
IsRouteTo p path = Finds pages path p

-- the page that a path leads to
unfoldable pub page_of : List ℕ → Option Page
page_of path = option_map (λ row. row.1) (find (λ row. is_match row.0 path) pages)
