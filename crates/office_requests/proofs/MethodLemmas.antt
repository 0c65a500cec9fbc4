-- The methods that a page lists are those with a command there.
use Rattle.std.proofs.Common.{◌≡◌, ◌≢◌, ℕ, Bool, false, List, Option, Some, None, rules}
use Rattle.std.proofs.Common.{Result, Err, refl, ◌∙◌, arith}
use Rattle.std.specs.Prelude.{codes, bytes_eq, is_some, is_ok}
use Rattle.std.proofs.lemmas.Slice.Eq.{bytes_eq-Decides}
use Rattle.exam_terms.specs.Refusing.{◌>>=◌, else_err}
use Rattle.office_policy.specs.Commands.{PlainCommand}
use Rattle.office_requests.specs.Commands.{command_of}
use Rattle.office_requests.specs.Methods.{verb_of, allow_of, is_listed}
use Rattle.office_requests.specs.Pages.{page_of}
use Rattle.office_requests.specs.Paths.{numbers_of}
use Rattle.office_requests.specs.Requests.{staff_command}
use Rattle.office_requests.specs.declared.methods.Verb.{Verb}
use Rattle.office_requests.specs.declared.methods.Verb.TheVariants.{Get, Put, Post, Delete, Other}
use Rattle.office_requests.specs.declared.routes.Page.{Page}
use Rattle.office_requests.specs.declared.routes.Page.TheVariants as page
use Rattle.office_requests.specs.declared.requests.Refusal.{Refusal}
use Rattle.office_requests.specs.declared.requests.Refusal.TheVariants as refusal

-- ---- methods by their names

-- the method is not one of the four
record IsOther (m : List ℕ) : Type 0 where
  get : bytes_eq m (codes "GET") ≡ false
  put : bytes_eq m (codes "PUT") ≡ false
  post : bytes_eq m (codes "POST") ≡ false
  delete : bytes_eq m (codes "DELETE") ≡ false

-- a fact about the four and about all others holds for each method
by_method : (P : List ℕ → Verb → Type 0) → P (codes "GET") Get → P (codes "PUT") Put
    → P (codes "POST") Post → P (codes "DELETE") Delete → ((m : List ℕ) → IsOther m → P m Other)
    → (m : List ℕ) → P m (verb_of m)
by_method P get put post delete other m = grind (arith, bytes_eq-Decides)

-- ---- the methods of each page

-- the field lists the method exactly if the page has a command for it
abbrev Lists : Page → List ℕ → Verb → Type 0
Lists p m verb = (n : ℕ × ℕ × ℕ) (body : List ℕ)
    → is_listed m (allow_of p) ≡ is_some (command_of verb p n body)

get_listed : (p : Page) → Lists p (codes "GET") Get
get_listed page.Me n body = refl
get_listed _ n body = refl

put_listed : (p : Page) → Lists p (codes "PUT") Put
put_listed page.Me n body = refl
put_listed _ n body = refl

post_listed : (p : Page) → Lists p (codes "POST") Post
post_listed page.Me n body = refl
post_listed _ n body = refl

delete_listed : (p : Page) → Lists p (codes "DELETE") Delete
delete_listed page.Me n body = refl
delete_listed _ n body = refl

other_listed : (p : Page) (m : List ℕ) → IsOther m → Lists p m Other
other_listed page.Me m is n body = grind (arith, is.get, is.put, is.post, is.delete)
other_listed _ m is n body = grind (arith, is.get, is.put, is.post, is.delete)

page_lists : (p : Page) (m : List ℕ) → Lists p m (verb_of m)
page_lists p =
    search (rules, by_method, delete_listed, get_listed, other_listed, post_listed, put_listed)

-- ---- the answers on a page

abbrev said_on : Page → Option (ℕ × ℕ × ℕ) → Verb → List ℕ → Result PlainCommand Refusal
said_on p o verb body =
    else_err refusal.Path o >>= (λ n. else_err (refusal.Method p) (command_of verb p n body))

some_ok : (fault : Refusal) (o : Option PlainCommand) → is_some o ≡ is_ok (else_err fault o)
some_ok fault None = refl
some_ok fault (Some c) = refl

listed_on : (p : Page) (o : Option (ℕ × ℕ × ℕ)) (m body : List ℕ)
    → said_on p o (verb_of m) body ≢ Err refusal.Path
    → is_listed m (allow_of p) ≡ is_ok (said_on p o (verb_of m) body)
listed_on p None m body known = absurd (known refl)
listed_on p (Some n) m body known =
    page_lists p m n body ∙ some_ok (refusal.Method p) (command_of (verb_of m) p n body)

-- a page lists the methods that ask for something on a path of it
pub listed : (p : Page) (path m body : List ℕ) → page_of path ≡ Some p
    → staff_command (verb_of m) path body ≢ Err refusal.Path
    → is_listed m (allow_of p) ≡ is_ok (staff_command (verb_of m) path body)
listed p path m body e known =
    rw e (listed_on p (numbers_of p path) m body (rw e at known))

no_path : (p : Page) (o : Option PlainCommand) → else_err (refusal.Method p) o ≢ Err refusal.Path
no_path p None e = cc
no_path p (Some c) e = cc

path_on : (p : Page) (o : Option (ℕ × ℕ × ℕ)) (v w : Verb) (body text : List ℕ)
    → said_on p o v body ≡ Err refusal.Path → said_on p o w text ≡ Err refusal.Path
path_on p None v w body text e = refl
path_on p (Some n) v w body text e = absurd (no_path p (command_of v p n body) e)

abbrev said_in : List ℕ → Option Page → Verb → List ℕ → Result PlainCommand Refusal
said_in path o verb body = else_err refusal.Path o >>=
    (λ p. said_on p (numbers_of p path) verb body)

path_in : (path : List ℕ) (o : Option Page) (v w : Verb) (body text : List ℕ)
    → said_in path o v body ≡ Err refusal.Path → said_in path o w text ≡ Err refusal.Path
path_in path None v w body text e = refl
path_in path (Some p) v w body text e = path_on p (numbers_of p path) v w body text e

-- a path that is refused is refused whatever the method and the body
pub path_first : (path : List ℕ) (v w : Verb) (body text : List ℕ)
    → staff_command v path body ≡ Err refusal.Path → staff_command w path text ≡ Err refusal.Path
path_first path v w body text e = path_in path (page_of path) v w body text e
