-- Links of slots: one more link, and the links from one to the one before it in its slot.
use Rattle.std.proofs.lemmas.Grind.{common_steps}
use Rattle.std.specs.List.{AllByRecursion}
use Rattle.std.specs.Prelude.{◌==◌, All}
use Rattle.std.proofs.Common.{◌≡◌, ℕ, ◌+◌, ◌-◌, ◌<◌, ◌≤◌, Bool, true, false, cond, List, [], length, get_or, map, take, count_by, inl, inr, sym, subst, ◌∙◌, ap, arith, length-take, rules}
use Rattle.std.proofs.lemmas.Bool.{cases_lt}
use Rattle.std.proofs.lemmas.List.{get_or_past, get_or-take, length-map, take-take}
use Rattle.std.proofs.lemmas.List.Elements.{All-from_recursion}
use Rattle.std.proofs.lemmas.List.Folds.{fold-map}
use Rattle.std.proofs.lemmas.List.Sums.{sum_by_more, sum_by-take-le}
use Rattle.exam_lists.proofs.Counts.{count_by-take}
use Rattle.exam_model.specs.Enrolments.{AreEnrolments, Enrolled, has, students}
use Rattle.exam_model.specs.Links.{AreLinked, IsLast, is_link, pair_at, slot_of}
use Rattle.exam_model.specs.Pairs.{Pair, pairs_of}
use Rattle.exam_model.specs.declared.links.Link.{Link}
use Rattle.exam_model.proofs.ConflictLemmas.{counted_once, each_mapped, other_student}
use Rattle.exam_model.proofs.PairLemmas.{count_from, from_within, length_from}

-- ---- counts along the links of a slot

-- no link of a student is between one and the last one of the slot before it
pub none_between : (xs : List Link) (m s e n k : ℕ) → k ≤ length xs
    → IsLast xs m (slot_of m s) n k
    → count_by (is_link s e) (take k xs) ≡ count_by (is_link s e) (take n xs)
none_between xs m s e n k le last =
    count_by-take (is_link s e) (take k xs) n (λ j d from below.
    let within : j < k = omega (arith, length-take k xs) in
    ap (is_link s e) (get_or-take k xs j d within)
    ∙ other_student s e (get_or xs j d).sitter
    (λ same. last.none j d from within (ap (slot_of m) same)))
    ∙ ap (count_by (is_link s e)) (take-take n k xs last.within)

link_at : (xs : List Link) (last : List ℕ) (x : Link) (n : ℕ) → AreLinked xs last → 0 < n
    → n ≤ length xs → x ≡ get_or xs (n - 1) x
    → IsLast xs (length last) (slot_of (length last) x.sitter.student) x.before (n - 1)
link_at xs last x n h some le here = grind (arith, common_steps)

-- one link of the slot, and those before it
pub counted_on : (xs : List Link) (last : List ℕ) (x : Link) (s e n : ℕ) → AreLinked xs last
    → 0 < n → n ≤ length xs → x ≡ get_or xs (n - 1) x
    → slot_of (length last) x.sitter.student ≡ slot_of (length last) s
    → count_by (is_link s e) (take n xs)
    ≡ count_by (is_link s e) (take x.before xs) + cond (is_link s e x) 1 0
counted_on xs last x s e n h some le here slot =
    let m = length last in
    let link = subst (λ b. IsLast xs m b x.before (n - 1)) slot (link_at xs last x n h some le here) in
    let rest = none_between xs m s e x.before (n - 1) (omega arith) link in
    let more : count_by (is_link s e) (take (n - 1 + 1) xs)
    ≡ count_by (is_link s e) (take (n - 1) xs) + cond (is_link s e x) 1 0 =
    sum_by_more (λ z. cond (is_link s e z) 1 0) xs (n - 1) x (omega arith)
    ∙ ap (λ z. count_by (is_link s e) (take (n - 1) xs) + cond (is_link s e z) 1 0) (sym here) in
    let same : count_by (is_link s e) (take n xs) ≡ count_by (is_link s e) (take (n - 1 + 1) xs) =
    ap (λ k. count_by (is_link s e) (take k xs)) (let e : n ≡ n - 1 + 1 = omega arith in e) in
    omega arith

-- the link before one is of its slot too, and nearer to the first
pub way_on : (xs : List Link) (last : List ℕ) (x : Link) (s n : ℕ) → AreLinked xs last → 0 < n
    → n ≤ length xs → x ≡ get_or xs (n - 1) x
    → slot_of (length last) x.sitter.student ≡ slot_of (length last) s
    → IsLast xs (length last) (slot_of (length last) s) x.before (n - 1)
way_on xs last x s n h some le here slot = grind (arith, link_at)

-- ---- the links of all earlier exams

-- the exam of each link is an earlier one
pub links_exist : (E : Enrolled) (n : ℕ) (xs : List Link) → map pair_at xs ≡ pairs_of (take n E)
    → All (λ x. x.sitter.exam < n) xs
links_exist E n xs are =
    All-from_recursion (λ x. x.sitter.exam < n) xs (each_mapped pair_at (λ p. p.exam < n) xs
    (subst (AllByRecursion (λ (p : Pair). p.exam < n)) (sym are)
    (from_within n 0 (take n E) (omega (arith, length-take n E)))))

-- the links of a student and an exam
links_of : (E : Enrolled) (n s e : ℕ) (xs : List Link) → map pair_at xs ≡ pairs_of (take n E)
    → count_by (is_link s e) xs ≡ count_by (λ t. t == s) (students (take n E) e)
links_of E n s e xs are = search (rules, count_from, fold-map)

-- those of an earlier exam
pub links_counted : (E : Enrolled) (n s e : ℕ) (xs : List Link) → e < n
    → map pair_at xs ≡ pairs_of (take n E)
    → count_by (is_link s e) xs ≡ count_by (λ t. t == s) (students E e)
links_counted E n s e xs lt are =
    links_of E n s e xs are ∙ ap (count_by (λ t. t == s)) (get_or-take n E e [] lt)

-- there are none of a later one
pub links_none : (E : Enrolled) (n s e : ℕ) (xs : List Link) → n ≤ e
    → map pair_at xs ≡ pairs_of (take n E) → count_by (is_link s e) xs ≡ 0
links_none E n s e xs le are =
    links_of E n s e xs are
    ∙ ap (count_by (λ t. t == s))
    (get_or_past (take n E) e [] (let l = length-take n E in omega arith))

pub links_once : (E : Enrolled) (n s e : ℕ) (xs : List Link) → AreEnrolments E → n ≤ length E
    → map pair_at xs ≡ pairs_of (take n E) → count_by (is_link s e) xs ≤ 1
links_once E n s e xs known le are = elim (cases_lt e n) [
  | inl lt ↦
      (let once = counted_once (students E e) s (known.ascending e (omega arith)) in
      let few = at_most_one (has E s e) in
      omega (arith, links_counted E n s e xs lt are, once, few))
  | inr later ↦ (let none = links_none E n s e xs later are in omega arith)
]
  where
    at_most_one : (b : Bool) → cond b 1 0 ≤ 1
    at_most_one true = omega arith
    at_most_one false = omega arith

-- there is room for the links of one more exam
pub links_few : (E : Enrolled) (n : ℕ) (xs : List Link) → AreEnrolments E → n < length E
    → map pair_at xs ≡ pairs_of (take n E) → length xs + length (students E n) ≤ 200000
links_few E n xs known lt are =
    grind (arith, common_steps, length-map, length_from, sum_by-take-le, sum_by_more)
