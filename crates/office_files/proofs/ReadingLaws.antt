-- The values of lines that were read, one by one, and the reading of lines with these values.
use Rattle.std.proofs.lemmas.Grind.{common_steps}
use Rattle.std.proofs.Common.{◌≡◌, ℕ, zero, suc, ◌<◌, ◌≤◌, Bool, true, false, List, [], ◌∷◌, ◌++◌, length, take, Some, Result, Ok, Err, refl, ap, sym, ◌∙◌, subst, arith}
use Rattle.std.specs.Prelude.{All, slice_get, if◌then◌else◌}
use Rattle.std.proofs.lemmas.Bool.{leb-true}
use Rattle.std.proofs.lemmas.List.{append-nil, append_assoc, length-append}
use Rattle.std.proofs.lemmas.List.Elements.{All-nil, All-push}
use Rattle.exam_terms.specs.Refusing.{◌>>=◌, unless}
use Rattle.office_files.specs.Fields.{fields_of}
use Rattle.office_files.specs.Lines.{Located}
use Rattle.office_files.specs.Numbers.{number}
use Rattle.office_files.specs.Reading.{at_line, items_of, Spell}
use Rattle.office_files.specs.declared.fault.FaultKind.{FaultKind}
use Rattle.office_files.specs.declared.fault.FaultKind.TheVariants.{BadNumber, OutOfRange}

-- a judgement that went on had something to go on with
pub bind_ok : {A B F : Type 0} (r : Result A F) (f : A → Result B F) (y : B) → (r >>= f) ≡ Ok y →
    (x : A) × (r ≡ Ok x) × (f x ≡ Ok y)
bind_ok (Ok x) f y e = (x, refl, e)
bind_ok (Err d) f y e = cc

-- a result is passed on to the next reading
pub ok_bind : {A B F : Type 0} (r : Result A F) (f : A → Result B F) (x : A) (y : B) → r ≡ Ok x →
    f x ≡ Ok y → (r >>= f) ≡ Ok y
ok_bind r f x y is more = rw is more

-- the value of a line is that of its text
pub at_line_ok : {A : Type 0} (line : ℕ) (r : Result A FaultKind) (x : A) → at_line line r ≡ Ok x →
    r ≡ Ok x
at_line_ok line (Ok y) x e = cc
at_line_ok line (Err d) x e = cc

-- the value of a text is that of its line
pub ok_at_line : {A : Type 0} (line : ℕ) (r : Result A FaultKind) (x : A) → r ≡ Ok x →
    at_line line r ≡ Ok x
ok_at_line line r x is = rw is refl

-- a condition holds if it is not refused
pub unless_ok : {F : Type 0} (b : Bool) (fault : F) (u : Unit {0}) → unless b fault ≡ Ok u →
    b ≡ true
unless_ok true fault u e = refl
unless_ok false fault u e = cc

-- a condition is not refused if it holds
pub ok_unless : {F : Type 0} (b : Bool) (fault : F) → b ≡ true → unless b fault ≡ Ok tt
ok_unless b fault holds = rw holds refl

number_by : (digits within : Bool) (value n : ℕ) →
    ◌≡◌ {A = Result ℕ FaultKind}
    (if digits then (if within then Ok value else Err OutOfRange) else Err BadNumber) (Ok n) →
    (within ≡ true) × (value ≡ n)
number_by true true value n e = (refl, cc)
number_by true false value n e = cc
number_by false within value n e = cc

-- a number that was read is within its limit
pub number_le : (limit : ℕ) (text : List ℕ) (n : ℕ) → number limit text ≡ Ok n → n ≤ limit
number_le limit text n e = grind (arith, common_steps, leb-true, number_by)

module _ {A : Type 0} (read : List A → List (List ℕ) → Result A FaultKind) where
  -- lines describe items that follow others
  record SpellRest (before : List A) (lines : List Located) (items : List A) : Type 0 where
    pub as_many : length items ≡ length lines
    pub each : (i : ℕ) (line : Located) (item : A) → slice_get lines i ≡ Some line
        → slice_get items i ≡ Some item
        → read (before ++ take i items) (fields_of line.text) ≡ Ok item

  each_more : (before : List A) (line : Located) (lines : List Located) (x : A) (xs : List A) →
      read before (fields_of line.text) ≡ Ok x → SpellRest (before ++ x ∷ []) lines xs →
      (i : ℕ) (l : Located) (item : A) → slice_get (line ∷ lines) i ≡ Some l →
      slice_get (x ∷ xs) i ≡ Some item →
      read (before ++ take i (x ∷ xs)) (fields_of l.text) ≡ Ok item
  each_more before line lines x xs is more zero l item at which = rw append-nil cc
  each_more before line lines x xs is more (suc i) l item at which =
      rw append_assoc at (more.each i l item at which)

  spells_none : (before : List A) → SpellRest before [] []
  spells_none before = record { as_many = refl; each = λ i line item at which. cc }

  no_lines : (before all : List A) → items_of read before [] ≡ Ok all → before ≡ all
  no_lines before all e = cc

  -- the items read are those from before, and those that the lines describe
  read_rest : (before : List A) (lines : List Located) (all : List A) →
      items_of read before lines ≡ Ok all →
      (items : List A) × (all ≡ before ++ items) × SpellRest before lines items
  read_rest before [] all e =
      ([], rw append-nil (sym (no_lines before all e)), spells_none before)
  read_rest before (line ∷ lines) all e =
      let head = bind_ok (at_line line.line (read before (fields_of line.text))) _ all e in
      let is = at_line_ok line.line (read before (fields_of line.text)) head.0 head.1 in
      let tail = read_rest (before ++ head.0 ∷ []) lines all head.2 in (
        head.0 ∷ tail.0,
        rw append_assoc at tail.1,
        record {
          as_many = ap suc tail.2.as_many;
          each = each_more before line lines head.0 tail.0 is tail.2;
        },
      )

  -- the items that lines describe after others are read
  rest_read : (before : List A) (lines : List Located) (items : List A) →
      SpellRest before lines items → items_of read before lines ≡ Ok (before ++ items)
  rest_read before [] [] s = rw append-nil refl
  rest_read before [] (x ∷ xs) s = let many = s.as_many in absurd (omega arith)
  rest_read before (line ∷ lines) [] s = let many = s.as_many in absurd (omega arith)
  rest_read before (line ∷ lines) (x ∷ xs) s =
      let head = rw append-nil at (s.each 0 line x refl refl) in
      let many = s.as_many in
      let tail = rest_read (before ++ x ∷ []) lines xs (record {
        as_many = omega arith;
        each = λ i l item at which. rw append_assoc (s.each (suc i) l item at which);
      }) in
      rw head (tail ∙ rw append_assoc refl)

  -- the lines describe the items read
  pub items_spelled : (lines : List Located) (items : List A) → items_of read [] lines ≡ Ok items →
      Spell read lines items
  items_spelled lines items e = grind (arith, common_steps, read_rest)

  -- the items that the lines describe are read
  pub spelled_items : (lines : List Located) (items : List A) → Spell read lines items →
      items_of read [] lines ≡ Ok items
  spelled_items lines items s =
      rest_read [] lines items (record { as_many = s.as_many; each = s.each })

  all_rest : (P : A → Type 0) →
      ((before : List A) (fields : List (List ℕ)) (x : A) → read before fields ≡ Ok x → P x) →
      (before : List A) (lines : List Located) (all : List A) → All P before →
      items_of read before lines ≡ Ok all → All P all
  all_rest P each_is before [] all held e = subst (All P) (no_lines before all e) held
  all_rest P each_is before (line ∷ lines) all held e =
      let head = bind_ok (at_line line.line (read before (fields_of line.text))) _ all e in
      let is = at_line_ok line.line (read before (fields_of line.text)) head.0 head.1 in
      let one = each_is before (fields_of line.text) head.0 is in
      all_rest P each_is (before ++ head.0 ∷ []) lines all
      (All-push P before head.0 held one) head.2

  -- a fact about the result of each line holds for each item
  pub items_all : (P : A → Type 0) →
      ((before : List A) (fields : List (List ℕ)) (x : A) → read before fields ≡ Ok x → P x) →
      (lines : List Located) (items : List A) → items_of read [] lines ≡ Ok items → All P items
  items_all P each_is lines items e = all_rest P each_is [] lines items (All-nil P) e

  within_rest : (n : ℕ) →
      ((before : List A) (fields : List (List ℕ)) (x : A) → read before fields ≡ Ok x →
      length before < n) →
      (before : List A) (lines : List Located) (all : List A) → length before ≤ n →
      items_of read before lines ≡ Ok all → length all ≤ n
  within_rest n each_is before [] all held e =
      subst (λ xs. length xs ≤ n) (no_lines before all e) held
  within_rest n each_is before (line ∷ lines) all held e =
      let head = bind_ok (at_line line.line (read before (fields_of line.text))) _ all e in
      let is = at_line_ok line.line (read before (fields_of line.text)) head.0 head.1 in
      let one = each_is before (fields_of line.text) head.0 is in
      within_rest n each_is (before ++ head.0 ∷ []) lines all
      (omega (arith, length-append before (head.0 ∷ []))) head.2

  -- if a line is refused after this many items, there are no more
  pub items_within : (n : ℕ) →
      ((before : List A) (fields : List (List ℕ)) (x : A) → read before fields ≡ Ok x →
      length before < n) →
      (lines : List Located) (items : List A) → items_of read [] lines ≡ Ok items → length items ≤ n
  items_within n each_is lines items e = within_rest n each_is [] lines items (omega arith) e

  -- there is one item for each line
  pub items_length : (lines : List Located) (items : List A) → items_of read [] lines ≡ Ok items →
      length items ≡ length lines
  items_length lines items e = (items_spelled lines items e).as_many
