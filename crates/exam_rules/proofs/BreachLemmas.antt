-- The list of all breaches: it is in order, and has exactly the breaches.
use Rattle.std.proofs.lemmas.Grind.{common_steps}
use Rattle.std.specs.List.{AllByRecursion, flat_map}
use Rattle.std.specs.List.Sorted.{IsStrictlySortedBy}
use Rattle.std.proofs.Common.{◌≡◌, ℕ, ◌+◌, ◌<◌, ◌≤◌, ◌↔◌, inl, inr, true, List, [], ◌∷◌, ◌++◌, map, length, Contains, Less, Equal, refl, sym, ◌∙◌, ap, subst, arith}
use Rattle.std.proofs.lemmas.List.{flat_map_more}
use Rattle.std.proofs.lemmas.List.Elements.{Contains-append_left, Contains-append_right, Contains-append_cases}
use Rattle.exam_lists.proofs.Each.{each_all, each_append, each_map, each_weaker}
use Rattle.exam_lists.proofs.Members.{contains_head, contains_later, first_or_later, none_in_nil}
use Rattle.exam_lists.proofs.Sorted.{sorted_append, sorted_nil}
use Rattle.exam_model.specs.Instance.{Session}
use Rattle.exam_model.specs.Enrolments.{Enrolled}
use Rattle.exam_model.specs.Timetable.{Placing}
use Rattle.exam_rules.specs.declared.breach.Breach.{Breach}
use Rattle.exam_rules.specs.declared.breach.BreachRule.{BreachRule}
use Rattle.exam_rules.specs.declared.breach.BreachRule.TheVariants.{Duration, Clash, Capacity, After, Coincidence, Exclusion, RoomExclusive}
use Rattle.exam_rules.specs.declared.exam_pair.ExamPair.{ExamPair}
use Rattle.exam_rules.specs.Breach.{all_rules, rank_of, breach_cmp, exam_pair_cmp, pair, breach}
use Rattle.exam_rules.specs.Breaches.{is_breach, pairs_breaking, breaches_of}
use Rattle.exam_rules.specs.HardRules.{breaks}
use Rattle.exam_rules.proofs.EnumerationLemmas.{passing_sorted, passing_only, passing_all}
use Rattle.exam_rules.proofs.PlaceLemmas.{breaking_exist}

-- ---- the order

-- two breaches of one rule are in the order of their exams
same_rule : (r : BreachRule) (p q : ExamPair) → exam_pair_cmp p q ≡ Less
    → breach_cmp (breach r p) (breach r q) ≡ Less
same_rule r p q less = grind (arith, common_steps)

-- the breach of the earlier rule comes first
earlier_rule : (a b : Breach) → rank_of a.rule < rank_of b.rule → breach_cmp a b ≡ Less
earlier_rule a b lt = grind (arith, common_steps)

block_sorted : (r : BreachRule) (ps : List ExamPair) → IsStrictlySortedBy exam_pair_cmp ps
    → IsStrictlySortedBy breach_cmp (map (breach r) ps)
unfolding IsStrictlySortedBy
block_sorted r [] up = tt
block_sorted r (p ∷ ps) up = (
  each_map (λ b. breach_cmp (breach r p) b ≡ Less) (breach r) ps
      (each_weaker (λ q. exam_pair_cmp p q ≡ Less)
      (λ q. breach_cmp (breach r p) (breach r q) ≡ Less) (λ q h. same_rule r p q h) ps up.0),
  block_sorted r ps up.1,
)

-- the ranks of the rules rise, from a rank on
abbrev Rise : ℕ → List BreachRule → Type 0
Rise n [] = Unit {0}
Rise n (r ∷ rs) = (n ≤ rank_of r) × Rise (rank_of r + 1) rs

-- the breaches that a function returns for each of some rules
abbrev blocks : (BreachRule → List ExamPair) → List BreachRule → List Breach
blocks f rs = flat_map (λ r. map (breach r) (f r)) rs

blocks_from : (f : BreachRule → List ExamPair) (n : ℕ) (rs : List BreachRule) → Rise n rs
    → AllByRecursion (λ b. n ≤ rank_of b.rule) (blocks f rs)
blocks_from f n [] rise = tt
blocks_from f n (r ∷ rs) rise =
    each_append (λ b. n ≤ rank_of b.rule) (map (breach r) (f r)) (blocks f rs)
    (each_map (λ b. n ≤ rank_of b.rule) (breach r) (f r)
    (each_all (λ p. n ≤ rank_of r) (λ p. rise.0) (f r)))
    (each_weaker (λ b. rank_of r + 1 ≤ rank_of b.rule) (λ b. n ≤ rank_of b.rule)
    (λ b h. omega (arith, h, rise.0)) (blocks f rs)
    (blocks_from f (rank_of r + 1) rs rise.1))

blocks_sorted : (f : BreachRule → List ExamPair)
    → ((r : BreachRule) → IsStrictlySortedBy exam_pair_cmp (f r))
    → (n : ℕ) (rs : List BreachRule) → Rise n rs → IsStrictlySortedBy breach_cmp (blocks f rs)
blocks_sorted f up n [] rise = sorted_nil breach_cmp
blocks_sorted f up n (r ∷ rs) rise =
    sorted_append breach_cmp (map (breach r) (f r)) (blocks f rs) (block_sorted r (f r) (up r))
    (blocks_sorted f up (rank_of r + 1) rs rise.1)
    (each_map (λ a. AllByRecursion (λ b. breach_cmp a b ≡ Less) (blocks f rs)) (breach r) (f r)
    (each_all (λ p. AllByRecursion (λ b. breach_cmp (breach r p) b ≡ Less) (blocks f rs))
    (λ p. each_weaker (λ b. rank_of r + 1 ≤ rank_of b.rule) (λ b. breach_cmp (breach r p) b ≡ Less)
    (λ b h. earlier_rule (breach r p) b (omega (arith, h))) (blocks f rs)
    (blocks_from f (rank_of r + 1) rs rise.1))
    (f r)))

pub breaches_sorted : (I : Session) (E : Enrolled) (T : Placing)
    → IsStrictlySortedBy breach_cmp (breaches_of I E T)
breaches_sorted I E T =
    blocks_sorted (pairs_breaking I E T)
    (λ r. passing_sorted (breaks I E T r) (length I.exams)) 0 all_rules
    (omega arith, (omega arith, (omega arith, (omega arith, (omega arith, (omega arith, (omega arith, tt)))))))

-- ---- the members

from_block : (r : BreachRule) (ps : List ExamPair) (b : Breach) → Contains (map (breach r) ps) b
    → (r ≡ b.rule) × Contains ps (pair b.exam b.other)
from_block r [] b h = absurd (none_in_nil h)
from_block r (p ∷ ps) b h =
    elim (first_or_later (breach r p) (map (breach r) ps) b h)
    as (λ _. (r ≡ b.rule) × Contains (p ∷ ps) (pair b.exam b.other)) [
      | inl same ↦
          (ap (λ x. x.rule) same, subst (Contains (p ∷ ps)) (ap (λ x. pair x.exam x.other) same) (contains_head p ps))
      | inr later ↦ (let rest = from_block r ps b later in
          (rest.0, contains_later p ps (pair b.exam b.other) rest.1))
    ]

to_block : (r : BreachRule) (ps : List ExamPair) (p : ExamPair) → Contains ps p
    → Contains (map (breach r) ps) (breach r p)
to_block r [] p h = absurd (none_in_nil h)
to_block r (q ∷ ps) p h = grind (arith, common_steps, contains_head, contains_later, first_or_later)

from_blocks : (f : BreachRule → List ExamPair) (rs : List BreachRule) (b : Breach)
    → Contains (blocks f rs) b
    → Contains (f b.rule) (pair b.exam b.other)
from_blocks f [] b h = absurd (none_in_nil h)
from_blocks f (r ∷ rs) b h =
    elim (Contains-append_cases (map (breach r) (f r)) (blocks f rs) b h)
    as (λ _. Contains (f b.rule) (pair b.exam b.other)) [
      | inl here ↦ (let parts = from_block r (f r) b here in
          subst (λ s. Contains (f s) (pair b.exam b.other)) parts.0 parts.1)
      | inr later ↦ from_blocks f rs b later
    ]

to_blocks : (f : BreachRule → List ExamPair) (rs : List BreachRule) (r : BreachRule) (p : ExamPair)
    → Contains rs r
    → Contains (f r) p → Contains (blocks f rs) (breach r p)
to_blocks f [] r p among h = absurd (none_in_nil among)
to_blocks f (s ∷ rs) r p among h =
    elim (first_or_later s rs r among) as (λ _. Contains (blocks f (s ∷ rs)) (breach r p)) [
      | inl same ↦ Contains-append_left (map (breach s) (f s)) (blocks f rs) (breach r p)
          (subst (λ x. Contains (map (breach x) (f x)) (breach r p)) (sym same)
          (to_block r (f r) p h))
      | inr later ↦ Contains-append_right (map (breach s) (f s)) (blocks f rs) (breach r p)
          (to_blocks f rs r p later h)
    ]

each_rule : (r : BreachRule) → Contains all_rules r
each_rule Duration = (0, omega arith, refl)
each_rule Clash = (1, omega arith, refl)
each_rule Capacity = (2, omega arith, refl)
each_rule After = (3, omega arith, refl)
each_rule Coincidence = (4, omega arith, refl)
each_rule Exclusion = (5, omega arith, refl)
each_rule RoomExclusive = (6, omega arith, refl)

pub breaches_have : (I : Session) (E : Enrolled) (T : Placing)
    → length T ≡ length I.exams → (b : Breach)
    → (Contains (breaches_of I E T) b ↔ (is_breach I E T b ≡ true))
breaches_have I E T same b = (
  (λ h. passing_only (breaks I E T b.rule) (length I.exams) (pair b.exam b.other)
      (from_blocks (pairs_breaking I E T) all_rules b h)),
  (λ h. to_blocks (pairs_breaking I E T) all_rules b.rule (pair b.exam b.other) (each_rule b.rule)
      (passing_all (breaks I E T b.rule) (length I.exams) (pair b.exam b.other)
      (breaking_exist I E T b.rule (length I.exams) same b.exam b.other h) h)),
)

-- the list with one more rule
pub next_rule : (f : BreachRule → List ExamPair) (done : List BreachRule)
    (r : BreachRule) {x y : List Breach} {ps : List ExamPair}
    → x ≡ flat_map (λ r. map (breach r) (f r)) done → y ≡ x ++ map (breach r) ps → ps ≡ f r
    → y ≡ flat_map (λ r. map (breach r) (f r)) (done ++ r ∷ [])
next_rule f done r so_far added is = grind (arith, common_steps, flat_map_more)
