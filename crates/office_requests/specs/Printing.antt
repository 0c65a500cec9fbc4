-- The request for a command: its method and its path.
use Rattle.std.specs.Prelude.{ℕ, List, [], ◌∷◌, ◌++◌, codes, decimal}
use Rattle.matchit.specs.Seek.{slash}
use Rattle.office_policy.specs.Commands.{PlainCommand, me, my_exam, my_penalty, load, instance}
use Rattle.office_policy.specs.Commands.{set_owner, new_draft, draft, draft_penalty}
use Rattle.office_policy.specs.Commands.{draft_violations, draft_places, drop_draft, place}
use Rattle.office_policy.specs.Commands.{move, clear, swap, publish, publication}
use Rattle.office_policy.specs.Commands.{publication_penalty}
use Rattle.office_policy.specs.Commands.{publication_rooms, publication_seats, batch}
use Rattle.office_requests.specs.Pages.{Part, word, number, parts_of}
use Rattle.office_requests.specs.declared.routes.Page.{Page}
use Rattle.office_requests.specs.declared.routes.Page.TheVariants as page

-- the method of a command, its page, and the numbers in its path
abbrev pub row_of : PlainCommand → List ℕ × Page × List ℕ
row_of me = (codes "GET", page.Me, [])
row_of (my_exam e) = (codes "GET", page.MyExam, e ∷ [])
row_of my_penalty = (codes "GET", page.MyPenalty, [])
row_of (load text) = (codes "PUT", page.Instance, [])
row_of instance = (codes "GET", page.Instance, [])
row_of (set_owner e dept) = (codes "PUT", page.Owner, e ∷ [])
row_of (new_draft d text) = (codes "PUT", page.Draft, d ∷ [])
row_of (draft d) = (codes "GET", page.Draft, d ∷ [])
row_of (draft_penalty d) = (codes "GET", page.DraftPenalty, d ∷ [])
row_of (draft_violations d) = (codes "GET", page.DraftViolations, d ∷ [])
row_of (drop_draft d) = (codes "DELETE", page.Draft, d ∷ [])
row_of (draft_places d e) = (codes "GET", page.DraftPlaces, d ∷ e ∷ [])
row_of (place d e at) = (codes "POST", page.Place, d ∷ e ∷ [])
row_of (move d e to) = (codes "POST", page.Move, d ∷ e ∷ [])
row_of (clear d e) = (codes "DELETE", page.Slot, d ∷ e ∷ [])
row_of (swap d a b) = (codes "POST", page.Swap, d ∷ a ∷ b ∷ [])
row_of (publish d) = (codes "POST", page.Publish, d ∷ [])
row_of publication = (codes "GET", page.Publication, [])
row_of publication_penalty = (codes "GET", page.PublicationPenalty, [])
row_of publication_rooms = (codes "GET", page.PublicationRooms, [])
row_of publication_seats = (codes "GET", page.PublicationSeats, [])
row_of (batch n text) = (codes "PUT", page.Batch, n ∷ [])

-- a path of these parts, its numbers in decimal
abbrev pub path_with : List Part → List ℕ → List ℕ
path_with [] ns = []
path_with (word w ∷ parts) ns = slash ∷ (w ++ path_with parts ns)
path_with (number ∷ parts) [] = []
path_with (number ∷ parts) (n ∷ ns) = slash ∷ (decimal n ++ path_with parts ns)

-- the path of a command
abbrev pub path_of : PlainCommand → List ℕ
path_of c = path_with (parts_of (row_of c).1) (row_of c).2

-- the method of a command
abbrev pub method_of : PlainCommand → List ℕ
method_of c = (row_of c).0
