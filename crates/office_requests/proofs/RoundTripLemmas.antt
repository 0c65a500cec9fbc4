-- A command's method and path, printed, are read back as the command.
use Rattle.std.proofs.Common.{◌≡◌, ℕ, Bool, true, false, ◌&&◌, ◌==◌, not, List, [], ◌∷◌, ◌++◌, arith, rules}
use Rattle.std.proofs.Common.{Option, Some, Ok}
use Rattle.std.proofs.Common.{refl, sym, ap, ◌∙◌, inl, inr}
use Rattle.std.specs.Prelude.{decimal, option_map}
use Rattle.std.specs.List.{list_all}
use Rattle.std.proofs.lemmas.Bool.{eq-eqb, not-true, and_parts}
use Rattle.matchit.specs.Rows.{param_token}
use Rattle.matchit.specs.Seek.{slash}
use Rattle.exam_terms.specs.declared.place.Place.{Place}
use Rattle.office_policy.specs.Numbers.{IsSmall}
use Rattle.office_policy.specs.Commands.{PlainCommand, HasSmallNumbers}
use Rattle.office_policy.specs.Commands.{me, my_exam, my_penalty, load, set_owner, new_draft, draft}
use Rattle.office_policy.specs.Commands.{draft_penalty, draft_violations, draft_places, drop_draft}
use Rattle.office_policy.specs.Commands.{place, move, clear, swap, publish, batch}
use Rattle.office_policy.specs.declared.callers.Caller.{Caller}
use Rattle.office_policy.specs.declared.callers.Caller.TheVariants.{Cand}
use Rattle.office_policy.specs.declared.command.Body.{Body}
use Rattle.office_requests.specs.Commands.{command_of}
use Rattle.office_requests.specs.Methods.{verb_of}
use Rattle.office_requests.specs.Pages.{Part, word, number, parts_of, pattern_of}
use Rattle.office_requests.specs.Pages.{IsIn, pages, page_of}
use Rattle.office_requests.specs.Paths.{numbers_in, three, numbers_of}
use Rattle.office_requests.specs.Patterns.{is_match}
use Rattle.office_requests.specs.Printing.{row_of, path_with, path_of, method_of}
use Rattle.office_requests.specs.PrintedBodies.{BodyHasValue, MaySendCommand}
use Rattle.office_requests.specs.Requests.{caller_in, candidate_command, staff_command}
use Rattle.office_requests.specs.Requests.{command_by, command_or_refusal}
use Rattle.office_requests.specs.declared.methods.Verb.{Verb}
use Rattle.office_requests.specs.declared.routes.Page.{Page}
use Rattle.office_requests.specs.declared.routes.Page.TheVariants as page
use Rattle.office_requests.proofs.Plain.{EndsSegment}
use Rattle.office_requests.proofs.PageLemmas.{page_some}
use Rattle.office_requests.proofs.PrintLemmas.{NoSlash, takes_number, number_here, rest_of_digits, bare_number}

-- ---- words in paths

-- the bytes of a word are neither slashes nor numbers of a pattern
abbrev is_word : List ℕ → Bool
is_word w = list_all (λ b. not (b == slash) && not (b == param_token)) w

abbrev are_words : List Part → Bool
are_words [] = true
are_words (word w ∷ parts) = is_word w && are_words parts
are_words (number ∷ parts) = are_words parts

bare_word : (w : List ℕ) → is_word w ≡ true → NoSlash w
bare_word [] is = tt
bare_word (b ∷ w) is =
    let parts = and_parts _ _ is in
    (not-true (b == slash) (and_parts _ _ parts.0).0, bare_word w parts.1)

takes_word : (w pattern path : List ℕ) → is_word w ≡ true
    → is_match (w ++ pattern) (w ++ path) ≡ is_match pattern path
takes_word [] pattern path is = refl
takes_word (b ∷ w) pattern path is =
    let parts = and_parts _ _ is in
    let other : (b == param_token) ≡ false = not-true (b == param_token) (and_parts _ _ parts.0).1 in
    rw (other, eq-eqb b b refl)
    (takes_word w pattern path parts.1)

-- ---- paths with numbers

-- as many numbers as the path has, each of them small
abbrev Fills : List Part → List ℕ → Type 0
Fills [] [] = Unit {0}
Fills [] (n ∷ ns) = ⊥
Fills (word w ∷ parts) ns = Fills parts ns
Fills (number ∷ parts) [] = ⊥
Fills (number ∷ parts) (n ∷ ns) = IsSmall n × Fills parts ns

ends : (parts : List Part) (ns : List ℕ) → EndsSegment (path_with parts ns)
ends [] ns = tt
ends (word w ∷ parts) ns = refl
ends (number ∷ parts) [] = tt
ends (number ∷ parts) (n ∷ ns) = refl

-- the pattern takes the path
takes_path : (parts : List Part) (ns : List ℕ) → are_words parts ≡ true → Fills parts ns
    → is_match (pattern_of parts) (path_with parts ns) ≡ true
takes_path [] [] words fills = refl
takes_path [] (n ∷ ns) words fills = absurd fills
takes_path (word w ∷ parts) ns words fills =
    let is = and_parts (is_word w) (are_words parts) words in
    takes_word w (pattern_of parts) (path_with parts ns) is.0 ∙ takes_path parts ns is.1 fills
takes_path (number ∷ parts) [] words fills = absurd fills
takes_path (number ∷ parts) (n ∷ ns) words fills =
    grind (arith, takes_path parts ns words fills.1, ends, takes_number)

-- the numbers are read back, after bytes without a slash
numbers_back : (parts : List Part) (ns front : List ℕ) → are_words parts ≡ true → Fills parts ns
    → NoSlash front → numbers_in parts (front ++ path_with parts ns) ≡ Some ns
numbers_back [] [] front words fills bare = refl
numbers_back [] (n ∷ ns) front words fills bare = absurd fills
numbers_back (word w ∷ parts) ns front words fills bare =
    let is = and_parts (is_word w) (are_words parts) words in
    ap (numbers_in parts) (rest_of_digits front (w ++ path_with parts ns) bare)
    ∙ numbers_back parts ns w is.1 fills (bare_word w is.0)
numbers_back (number ∷ parts) [] front words fills bare = absurd fills
numbers_back (number ∷ parts) (n ∷ ns) front words fills bare =
    rw (
      rest_of_digits front (decimal n ++ path_with parts ns) bare,
      number_here n (path_with parts ns) fills.0 (ends parts ns),
      numbers_back parts ns (decimal n) words fills.1 (bare_number n fills.0),
    ) refl

-- ---- pages

-- the words of each page's path are words
words_of : (p : Page) → are_words (parts_of p) ≡ true
words_of page.Me = refl
words_of _ = refl

-- a row is the same as itself
same_row : (t : List ℕ) (p : Page) → (t ≡ t) × (p ≡ p)
same_row t p = (refl, refl)

-- each page is among the pages
in_pages : (p : Page) → IsIn (pattern_of (parts_of p)) p pages
in_pages page.Me = search (inl, inr, same_row) depth 60 fits 4000
in_pages page.Publication = grind (arith)
in_pages _ = search (inl, inr, same_row) depth 60 fits 4000

-- a path that the pattern of the page takes is the page's
page_is : (p : Page) (path : List ℕ) → is_match (pattern_of (parts_of p)) path ≡ true
    → page_of path ≡ Some p
page_is p path matches_path =
    sym (page_some path p record {
      pattern = pattern_of (parts_of p);
      is_in = in_pages p;
      matches_path = matches_path;
    })

-- ---- commands

-- the path of the command has all of its numbers
filled : (c : PlainCommand) → HasSmallNumbers c → Fills (parts_of (row_of c).1) (row_of c).2
filled (my_exam e) small = (small, tt)
filled (set_owner e dept) small = (small.0, tt)
filled (new_draft d text) small = (small, tt)
filled (draft d) small = (small, tt)
filled (draft_penalty d) small = (small, tt)
filled (draft_violations d) small = (small, tt)
filled (draft_places d e) small = (small.0, (small.1, tt))
filled (drop_draft d) small = (small, tt)
filled (place d e at) small = (small.0, (small.1, tt))
filled (move d e to) small = (small.0, (small.1, tt))
filled (clear d e) small = (small.0, (small.1, tt))
filled (swap d a b) small = (small.0, (small.1, (small.2, tt)))
filled (publish d) small = (small, tt)
filled (batch n text) small = (small, tt)
filled _ small = tt

page_there : (c : PlainCommand) → HasSmallNumbers c → page_of (path_of c) ≡ Some (row_of c).1
page_there c small = search (rules, filled, page_is, takes_path, words_of)

numbers_there : (c : PlainCommand) → HasSmallNumbers c
    → numbers_of (row_of c).1 (path_of c) ≡ Some (three (row_of c).2)
numbers_there c small =
    ap (option_map three) (numbers_back (parts_of (row_of c).1) (row_of c).2 []
    (words_of (row_of c).1) (filled c small) tt)

-- the table has the command itself
in_table : (c : PlainCommand) (body : List ℕ) → BodyHasValue body c
    → command_of (verb_of (method_of c)) (row_of c).1 (three (row_of c).2) body ≡ Some c
in_table (load text) body has_value = ap (λ (b : Body (List ℕ)). Some (load b)) has_value
in_table (set_owner e dept) body has_value = ap (λ (b : Body ℕ). Some (set_owner e b)) has_value
in_table (new_draft d text) body has_value = ap
    (λ (b : Body (List ℕ)). Some (new_draft d b)) has_value
in_table (place d e at) body has_value = ap (λ (b : Body Place). Some (place d e b)) has_value
in_table (move d e to) body has_value = ap (λ (b : Body Place). Some (move d e b)) has_value
in_table (batch n text) body has_value = ap (λ (b : Body (List ℕ)). Some (batch n b)) has_value
in_table _ body has_value = refl

-- ---- requests

by : (path body : List ℕ) (p : Page) (n : ℕ × ℕ × ℕ) (verb : Verb) (c : PlainCommand)
    → page_of path ≡ Some p → numbers_of p path ≡ Some n → command_of verb p n body ≡ Some c
    → staff_command verb path body ≡ Ok c
by path body p n verb c there numbers e = rw (there, numbers, e) refl

-- the office and the departments ask for it
staff_asks : (c : PlainCommand) (body : List ℕ) → HasSmallNumbers c → BodyHasValue body c
    → staff_command (verb_of (method_of c)) (path_of c) body ≡ Ok c
staff_asks c body small has_value = grind (arith, by, in_table, numbers_there, page_there)

-- a candidate asks for their own three pages
candidate_asks : (n : ℕ) (c : PlainCommand) → HasSmallNumbers c → MaySendCommand (Cand n) c
    → candidate_command (verb_of (method_of c)) (path_of c) ≡ Ok c
candidate_asks n me small is_own = rw (staff_asks me [] small tt) refl
candidate_asks n (my_exam e) small is_own = rw (staff_asks (my_exam e) [] small tt) refl
candidate_asks n my_penalty small is_own = rw (staff_asks my_penalty [] small tt) refl
candidate_asks n _ small is_own = cc

asked : (who : Caller) (c : PlainCommand) (body : List ℕ) → MaySendCommand who c → HasSmallNumbers c
    → BodyHasValue body c → command_by who (verb_of (method_of c)) (path_of c) body ≡ Ok c
asked (Cand n) c body comes small has_value = candidate_asks n c small comes
asked _ c body comes small has_value = staff_asks c body small has_value

-- a request that is printed is read back
pub read_back : (value : Option (List ℕ)) (who : Caller) (c : PlainCommand) (body : List ℕ)
    → caller_in value ≡ Some who → MaySendCommand who c → HasSmallNumbers c → BodyHasValue body c
    → command_or_refusal (method_of c) (path_of c) value body ≡ Ok (record { caller = who; command = c })
read_back value who c body e comes small has_value = rw
    (e, asked who c body comes small has_value) refl
