-- The command of a method on a page, with the numbers in the path and the value of the body.
use Rattle.std.specs.Prelude.{◌≡◌, ℕ, Bool, true, false, List, Option, Some, None, Result}
use Rattle.exam_terms.specs.Refusing.{◌>>=◌, else_err}
use Rattle.office_policy.specs.Commands.{PlainCommand, me, my_exam, my_penalty, load, instance}
use Rattle.office_policy.specs.Commands.{set_owner, new_draft, draft, draft_penalty}
use Rattle.office_policy.specs.Commands.{draft_violations, draft_places, drop_draft, place}
use Rattle.office_policy.specs.Commands.{move, clear, swap, publish, publication}
use Rattle.office_policy.specs.Commands.{publication_penalty}
use Rattle.office_policy.specs.Commands.{publication_rooms, publication_seats, batch}
use Rattle.office_policy.specs.declared.command.Body.TheVariants.{Given}
use Rattle.office_requests.specs.Bodies.{text_body, place_body, dept_body}
use Rattle.office_requests.specs.Paths.{numbers_of}
use Rattle.office_requests.specs.declared.methods.Verb.{Verb}
use Rattle.office_requests.specs.declared.methods.Verb.TheVariants.{Get, Put, Post, Delete}
use Rattle.office_requests.specs.declared.routes.Page.{Page}
use Rattle.office_requests.specs.declared.routes.Page.TheVariants as page
use Rattle.office_requests.specs.declared.requests.Refusal.{Refusal}
use Rattle.office_requests.specs.declared.requests.Refusal.TheVariants as refusal

-- the table of all commands: the method and the page of each. An instance's text is never too long
abbrev pub command_of : Verb → Page → ℕ × ℕ × ℕ → List ℕ → Option PlainCommand
command_of Get page.Me n body = Some me
command_of Get page.MyExam n body = Some (my_exam n.0)
command_of Get page.MyPenalty n body = Some my_penalty
command_of Put page.Instance n body = Some (load (Given body))
command_of Get page.Instance n body = Some instance
command_of Put page.Owner n body = Some (set_owner n.0 (dept_body body))
command_of Put page.Draft n body = Some (new_draft n.0 (text_body body))
command_of Get page.Draft n body = Some (draft n.0)
command_of Get page.DraftPenalty n body = Some (draft_penalty n.0)
command_of Get page.DraftViolations n body = Some (draft_violations n.0)
command_of Get page.DraftPlaces n body = Some (draft_places n.0 n.1)
command_of Delete page.Draft n body = Some (drop_draft n.0)
command_of Post page.Place n body = Some (place n.0 n.1 (place_body body))
command_of Post page.Move n body = Some (move n.0 n.1 (place_body body))
command_of Delete page.Slot n body = Some (clear n.0 n.1)
command_of Post page.Swap n body = Some (swap n.0 n.1 n.2)
command_of Post page.Publish n body = Some (publish n.0)
command_of Get page.Publication n body = Some publication
command_of Get page.PublicationPenalty n body = Some publication_penalty
command_of Get page.PublicationRooms n body = Some publication_rooms
command_of Get page.PublicationSeats n body = Some publication_seats
command_of Put page.Batch n body = Some (batch n.0 (text_body body))
command_of _ _ n body = None

-- the command of a method on a page: the path is judged, then the method
abbrev pub command_at : Page → Verb → List ℕ → List ℕ → Result PlainCommand Refusal
command_at p verb path body =
    else_err refusal.Path (numbers_of p path) >>= (λ n.
    else_err (refusal.Method p) (command_of verb p n body))

-- whether the command has a body of JSON, which takes memory to read
abbrev pub has_json : PlainCommand → Bool
has_json (set_owner e body) = true
has_json (place d e body) = true
has_json (move d e body) = true
has_json _ = false

-- the command has a body of JSON
abbrev pub HasJson : PlainCommand → Type 0
HasJson c = has_json c ≡ true
