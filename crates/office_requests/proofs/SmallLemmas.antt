-- The numbers of a command that was read are in their limits.
use Rattle.std.proofs.Common.{◌≡◌, ℕ, zero, suc, ◌≤◌, Bool, List, [], ◌∷◌, get_or}
use Rattle.std.proofs.Common.{Option, Some, None, Result, Ok, Err, arith}
use Rattle.std.specs.Prelude.{◌==◌, IfSome, IfOk, codes}
use Rattle.std.specs.List.{AllByRecursion}
use Rattle.exam_lists.proofs.Options.{IfSome_and_then, IfSome_any, IfSome_map}
use Rattle.exam_terms.specs.Refusing.{◌>>=◌, else_err}
use Rattle.office_policy.specs.CommandBodies.{IfBodyHasValue}
use Rattle.office_policy.specs.Numbers.{IsSmall, IsSmallPlace}
use Rattle.office_policy.specs.Commands.{PlainCommand, HasSmallNumbers}
use Rattle.office_policy.specs.declared.callers.Caller.{Caller}
use Rattle.office_policy.specs.declared.callers.Caller.TheVariants.{Cand}
use Rattle.office_policy.specs.declared.command.Body.{Body}
use Rattle.office_policy.proofs.NumberLemmas.{number_small}
use Rattle.serde_json.specs.Data.{Data}
use Rattle.office_requests.specs.Bodies.{at_most, number_at, of_members, place_in}
use Rattle.office_requests.specs.Bodies.{dept_in, json_in, value_or_bad, unless_long, place_body}
use Rattle.office_requests.specs.Bodies.{dept_body}
use Rattle.office_requests.specs.Commands.{command_of}
use Rattle.office_requests.specs.Pages.{Part, word, number, parts_of, page_of}
use Rattle.office_requests.specs.Paths.{rest_after_slash, segment, number_in, numbers_in}
use Rattle.office_requests.specs.Paths.{three, numbers_of}
use Rattle.office_requests.specs.Requests.{personal_in, staff_command}
use Rattle.office_requests.specs.Requests.{command_by}
use Rattle.office_requests.specs.declared.methods.Verb.{Verb}
use Rattle.office_requests.specs.declared.methods.Verb.TheVariants.{Get, Put, Post, Delete}
use Rattle.office_requests.specs.declared.routes.Page.{Page}
use Rattle.office_requests.specs.declared.routes.Page.TheVariants as page
use Rattle.office_requests.specs.declared.requests.Refusal.{Refusal}
use Rattle.office_requests.specs.declared.requests.Refusal.TheVariants as refusal

-- ---- if there is a value, the reading goes on

else_ok : {A : Type 0} (P : A → Type 0) (fault : Refusal) (o : Option A) → IfSome o P
    → IfOk (else_err fault o) P
else_ok P fault None p = tt
else_ok P fault (Some x) p = p

judged : {A B : Type 0} (P : A → Type 0) (Q : B → Type 0) (r : Result A Refusal)
    (f : A → Result B Refusal) → IfOk r P → ((x : A) → P x → IfOk (f x) Q) → IfOk (r >>= f) Q
judged P Q (Ok x) f p more = more x p
judged P Q (Err e) f p more = tt

-- ---- numbers in bodies

at_most_small : (most n : ℕ) → IfSome (at_most most n) (λ m. m ≤ most)
at_most_small most n = grind (arith)

number_at_small : (key : List ℕ) (most : ℕ) (d : Data)
    → IfSome (number_at key most d) (λ m. m ≤ most)
number_at_small key most d = grind (arith, IfSome_and_then, IfSome_any, at_most_small)

of_members_small : {A : Type 0} (P : A → Type 0) (size : ℕ) (value : Option A) (d : Data)
    → IfSome value P → IfSome (of_members size value d) P
of_members_small P size value d small = grind (arith, IfSome_and_then, IfSome_any)

given_small : {A : Type 0} (P : A → Type 0) (o : Option A) → IfSome o P
    → IfBodyHasValue (value_or_bad o) P
given_small P None small = tt
given_small P (Some x) small = small

unless_small : {A : Type 0} (P : A → Type 0) (bytes : List ℕ) (body : Body A)
    → IfBodyHasValue body P
    → IfBodyHasValue (unless_long bytes body) P
unless_small {A} P bytes body small = grind (arith)

place_small : (bytes : List ℕ) → IfBodyHasValue (place_body bytes) IsSmallPlace
place_small bytes =
    unless_small IsSmallPlace bytes _
    (given_small IsSmallPlace _
    (IfSome_and_then (λ (d : Data). Unit {0}) IsSmallPlace place_in (json_in bytes) (IfSome_any _)
    (λ d any. of_members_small IsSmallPlace 2 _ d
    (IfSome_and_then IsSmall IsSmallPlace _ (number_at (codes "period") 999999999 d)
    (number_at_small (codes "period") 999999999 d)
    (λ p small. IfSome_map IsSmall IsSmallPlace _ (number_at (codes "room") 999999999 d)
    (number_at_small (codes "room") 999999999 d) (λ r also. (small, also)))))))

dept_small : (bytes : List ℕ) → IfBodyHasValue (dept_body bytes) (λ d. d ≤ 999)
dept_small bytes =
    unless_small (λ n. n ≤ 999) bytes _
    (given_small (λ n. n ≤ 999) _
    (IfSome_and_then (λ (d : Data). Unit {0}) (λ n. n ≤ 999) dept_in (json_in bytes) (IfSome_any _)
    (λ d any. of_members_small (λ n. n ≤ 999) 1 _ d
    (number_at_small (codes "dept") 999 d))))

-- ---- numbers in paths

in_path : (k : ℕ) (path : List ℕ) → IfSome (number_in k path) IsSmall
in_path k path = number_small (segment k path)

abbrev AreSmall : List ℕ → Type 0
AreSmall ns = AllByRecursion IsSmall ns

numbers_small : (parts : List Part) (path : List ℕ) → IfSome (numbers_in parts path) AreSmall
numbers_small [] path = tt
numbers_small (word w ∷ parts) path = numbers_small parts (rest_after_slash path)
numbers_small (number ∷ parts) path =
    IfSome_and_then IsSmall AreSmall _ (number_in 1 path) (in_path 1 path)
    (λ n small. IfSome_map AreSmall AreSmall (λ ns. n ∷ ns) _
    (numbers_small parts (rest_after_slash path)) (λ ns all. (small, all)))

at_small : (ns : List ℕ) (i : ℕ) → AreSmall ns → IsSmall (get_or ns i 0)
at_small [] i all = omega arith
at_small (n ∷ ns) zero all = all.0
at_small (n ∷ ns) (suc i) all = at_small ns i all.1

abbrev ThreeSmall : ℕ × ℕ × ℕ → Type 0
ThreeSmall n = IsSmall n.0 × IsSmall n.1 × IsSmall n.2

page_small : (p : Page) (path : List ℕ) → IfSome (numbers_of p path) ThreeSmall
page_small p path =
    IfSome_map AreSmall ThreeSmall three _ (numbers_small (parts_of p) path)
    (λ ns all. (at_small ns 0 all, at_small ns 1 all, at_small ns 2 all))

-- ---- commands

command_small : (verb : Verb) (p : Page) (n : ℕ × ℕ × ℕ) (body : List ℕ) → ThreeSmall n
    → IfSome (command_of verb p n body) HasSmallNumbers
command_small Get page.MyExam n body small = small.0
command_small Put page.Owner n body small = (small.0, dept_small body)
command_small Put page.Draft n body small = small.0
command_small Get page.Draft n body small = small.0
command_small Get page.DraftPenalty n body small = small.0
command_small Get page.DraftViolations n body small = small.0
command_small Get page.DraftPlaces n body small = (small.0, small.1)
command_small Delete page.Draft n body small = small.0
command_small Post page.Place n body small = (small.0, small.1, place_small body)
command_small Post page.Move n body small = (small.0, small.1, place_small body)
command_small Delete page.Slot n body small = (small.0, small.1)
command_small Post page.Swap n body small = small
command_small Post page.Publish n body small = small.0
command_small Put page.Batch n body small = small.0
command_small _ _ n body small = tt

staff_small : (verb : Verb) (path body : List ℕ)
    → IfOk (staff_command verb path body) HasSmallNumbers
staff_small verb path body =
    judged (λ (p : Page). Unit {0}) HasSmallNumbers (else_err refusal.Path (page_of path)) _
    (else_ok (λ (p : Page). Unit {0}) refusal.Path (page_of path) (IfSome_any _))
    (λ p any. judged ThreeSmall HasSmallNumbers (else_err refusal.Path (numbers_of p path)) _
    (else_ok ThreeSmall refusal.Path (numbers_of p path) (page_small p path))
    (λ n small. else_ok HasSmallNumbers (refusal.Method p) (command_of verb p n body)
    (command_small verb p n body small)))

own_small : (said : Result PlainCommand Refusal) → IfOk said HasSmallNumbers
    → IfSome (personal_in said) HasSmallNumbers
own_small (Err e) small = tt
own_small (Ok c) small = grind (arith)

-- the command has small numbers, for each caller
pub asked_small : (who : Caller) (verb : Verb) (path body : List ℕ)
    → IfOk (command_by who verb path body) HasSmallNumbers
asked_small (Cand c) verb path body = grind (arith, else_ok, own_small, staff_small)
asked_small _ verb path body = staff_small verb path body
