-- A walk along the tallies of a bucket.
use Rattle.std.proofs.lemmas.Grind.{common_steps}
use Rattle.std.proofs.Common.{◌≡◌, ◌≢◌, ℕ, ◌+◌, ◌-◌, ◌*◌, ◌<◌, ◌≤◌, cond, eqb, List, length, take, drop, get_or, sum_by, All, mul-zero, eq-eqb, inl, inr, refl, sym, subst, ◌∙◌, ap, arith, length-take, length-drop, rules}
use Rattle.std.proofs.lemmas.Bool.{cases_eq, cond-false, ne_eqb}
use Rattle.std.proofs.lemmas.List.{get_or_default, take-take, get_or-take, get_or-drop}
use Rattle.std.proofs.lemmas.List.Elements.{recursion_from_All}
use Rattle.std.proofs.lemmas.List.Sums.{sum_by-take-drop, sum_by_more, sum_by-take-le, sum_by-le-sum_by}
use Rattle.std.proofs.lemmas.Nat.{mul-le}
use Rattle.std.proofs.Math.Nat.{mul_comm}
use Rattle.exam_lists.proofs.Sums.{sum_by-none, sum_by-same, sum_by-times, sum_by-zeros}
use Rattle.exam_lists.proofs.Booleans.{cond_le, cond_same}
use Rattle.exam_model.proofs.SumLemmas.{sum_pairs-more, sum_pairs-le}
use Rattle.exam_score.specs.Tallies.{tally_sum, cost_with_tally, tally_pair, tally_cost, row_count}
use Rattle.exam_score.specs.TallyLinks.{bucket_of_student, IsLast, IsOnWay, IsLatestOfStudent, AreLinkedIn}
use Rattle.exam_score.specs.Walk.{row_pair, cost_with}
use Rattle.exam_score.specs.declared.rows.Row.{Row}
use Rattle.exam_score.specs.declared.tallies.Tally.{Tally}

-- ---- tallies and periods that cost nothing

-- a tally of another student
other_student : (cost : ℕ → ℕ → ℕ) (y x : Tally) → y.student ≢ x.student → cost_with_tally cost y x
    ≡ 0
other_student cost y x differ = grind (arith, cond-false, mul-zero, ne_eqb)

-- a tally of a period that costs nothing
pub free_period : (cost : ℕ → ℕ → ℕ) (y x : Tally) → cost x.period y.period ≡ 0
    → cost_with_tally cost y x ≡ 0
free_period cost y x none = ap (λ n. x.exams * cond (eqb y.student x.student) n 0) none
    ∙ ap (λ n. x.exams * n) (cond_same (eqb y.student x.student) 0) ∙ mul-zero x.exams

-- the tallies between one and the next of its bucket are of other students
skipped : (m : ℕ) (cost : ℕ → ℕ → ℕ) (xs : List Tally) (y : Tally) (n k : ℕ)
    → IsLast xs m (bucket_of_student m y.student) n k → k ≤ length xs
    → sum_by (cost_with_tally cost y) (take k xs) ≡ sum_by (cost_with_tally cost y) (take n xs)
skipped m cost xs y n k last le =
    let f : Tally → ℕ = cost_with_tally cost y in
    let split = sum_by-take-drop f (take k xs) n in
    let first : sum_by f (take n (take k xs)) ≡ sum_by f (take n xs) =
    ap (sum_by f) (take-take n k xs last.within) in
    let none : sum_by f (drop n (take k xs)) ≡ 0 =
    sum_by-none f (drop n (take k xs))
    (recursion_from_All (λ x. f x ≡ 0) (drop n (take k xs)) others) in
    omega arith
  where
    others : All (λ x. cost_with_tally cost y x ≡ 0) (drop n (take k xs))
    others j d lt =
        let within : n + j < k = omega (arith, length-drop n (take k xs), length-take k xs) in
        let here : get_or (drop n (take k xs)) j d ≡ get_or xs (n + j) d =
        get_or-drop n (take k xs) j d ∙ get_or-take k xs (n + j) d within in
        let apart = last.none (n + j) d (omega arith) within in
        ap (cost_with_tally cost y) here
        ∙ other_student cost y (get_or xs (n + j) d)
        (λ same. apart (ap (λ s. bucket_of_student m s) (sym same)))

-- ---- one step

link_of : (m : ℕ) (xs : List Tally) (y : Tally) (k : ℕ) → AreLinkedIn xs m → k < length xs
    → ((d : Tally) → get_or xs k d ≡ y) → IsLast xs m (bucket_of_student m y.student) y.before k
link_of m xs y k linked within here =
    subst_link (get_or xs k y) y (here y) (linked.links k y within)
  where
    subst_link : (z w : Tally) → z ≡ w → IsLast xs m (bucket_of_student m z.student) z.before k
        → IsLast xs m (bucket_of_student m w.student) w.before k
    subst_link z w e h = subst (λ v. IsLast xs m (bucket_of_student m v.student) v.before k) e h

-- before the first step
pub way_starts : (m : ℕ) (xs : List Tally) (y : Tally) (k : ℕ) → AreLinkedIn xs m → k < length xs
    → ((d : Tally) → get_or xs k d ≡ y) → IsOnWay xs y.before y.student
way_starts m xs y k linked within here =
    let link = link_of m xs y k linked within here in
    record {
      buckets = m;
      links = linked;
      within = omega (arith, link.within);
      bucket = link.here;
    }

-- a tally of the bucket, followed by the one before it
pub walk_on : (m : ℕ) (cost : ℕ → ℕ → ℕ) (xs : List Tally) (y x : Tally) (n : ℕ) → AreLinkedIn xs m
    → 0 < n → n ≤ length xs → ((d : Tally) → get_or xs (n - 1) d ≡ x)
    → bucket_of_student m x.student ≡ bucket_of_student m y.student
    → sum_by (cost_with_tally cost y) (take n xs)
    ≡ cost_with_tally cost y x + sum_by (cost_with_tally cost y) (take x.before xs)
walk_on m cost xs y x n linked some le here bucket =
    let f : Tally → ℕ = cost_with_tally cost y in
    let last = subst (λ s. IsLast xs m s x.before (n - 1)) bucket
    (link_of m xs x (n - 1) linked (omega arith) here) in
    let rest = skipped m cost xs y x.before (n - 1) last (omega arith) in
    let more : sum_by f (take (n - 1 + 1) xs) ≡ sum_by f (take (n - 1) xs) + f x =
    sum_by_more f xs (n - 1) x (omega arith)
    ∙ ap (λ z. sum_by f (take (n - 1) xs) + f z) (here x) in
    let same : sum_by f (take n xs) ≡ sum_by f (take (n - 1 + 1) xs) = search (rules) in
    omega arith

link_below : (m : ℕ) (xs : List Tally) (x : Tally) (n : ℕ) → AreLinkedIn xs m → 0 < n
    → n ≤ length xs → ((d : Tally) → get_or xs (n - 1) d ≡ x) → x.before < n
link_below m xs x n linked some le here =
    let w = (link_of m xs x (n - 1) linked (omega arith) here).within in omega arith

-- a tally on the way is of the bucket of the student
bucket_at : (xs : List Tally) (x : Tally) (n s : ℕ) (way : IsOnWay xs n s) → 0 < n
    → ((d : Tally) → get_or xs (n - 1) d ≡ x)
    → bucket_of_student way.buckets x.student ≡ bucket_of_student way.buckets s
bucket_at xs x n s way some here =
    ap (λ z. bucket_of_student way.buckets z.student) (sym (here x)) ∙ way.bucket x some

-- and on to the one before it
pub way_on : (xs : List Tally) (x : Tally) (n s : ℕ) → IsOnWay xs n s → 0 < n
    → ((d : Tally) → get_or xs (n - 1) d ≡ x) → IsOnWay xs x.before s
way_on xs x n s way some here =
    let link = link_of way.buckets xs x (n - 1) way.links (omega (arith, way.within)) here in
    record {
      buckets = way.buckets;
      links = way.links;
      within = omega (arith, link.within, way.within);
      bucket = λ d before. link.here d before ∙ bucket_at xs x n s way some here;
    }

pub way_below : (xs : List Tally) (x : Tally) (n s : ℕ) → IsOnWay xs n s → 0 < n
    → ((d : Tally) → get_or xs (n - 1) d ≡ x) → x.before < n
way_below xs x n s way some here = link_below way.buckets xs x n way.links some way.within here

pub cost_on_way : (cost : ℕ → ℕ → ℕ) (xs : List Tally) (y x : Tally) (n s : ℕ) → IsOnWay xs n s
    → 0 < n → ((d : Tally) → get_or xs (n - 1) d ≡ x) → y.student ≡ s
    → sum_by (cost_with_tally cost y) (take n xs)
    ≡ cost_with_tally cost y x + sum_by (cost_with_tally cost y) (take x.before xs)
cost_on_way cost xs y x n s way some here own =
    walk_on way.buckets cost xs y x n way.links some way.within here
    (bucket_at xs x n s way some here ∙ ap (λ t. bucket_of_student way.buckets t) (sym own))

pub passed : (cost : ℕ → ℕ → ℕ) (xs : List Tally) (y x : Tally) (n s : ℕ) → IsOnWay xs n s → 0 < n
    → ((d : Tally) → get_or xs (n - 1) d ≡ x) → x.student ≢ s → y.student ≡ s
    → sum_by (cost_with_tally cost y) (take n xs)
    ≡ sum_by (cost_with_tally cost y) (take x.before xs)
passed cost xs y x n s way some here other own =
    let step = cost_on_way cost xs y x n s way some here own in
    let none = other_student cost y x (λ same. other (sym same ∙ own)) in
    omega arith

-- x is the tally just before index n, and is of the student of y
pub record IsOwnTally (m : ℕ) (xs : List Tally) (y x : Tally) (n : ℕ) : Type 0 where
  pub linked : AreLinkedIn xs m
  pub some : 0 < n
  pub within : n ≤ length xs
  pub here : (d : Tally) → get_or xs (n - 1) d ≡ x
  pub own : x.student ≡ y.student

pub own_tally : (m : ℕ) (xs : List Tally) (y x : Tally) (n : ℕ) → AreLinkedIn xs m → 0 < n
    → n ≤ length xs → x ≡ get_or xs (n - 1) x
    → ((d : Tally) → 0 < n → (get_or xs (n - 1) d).student ≡ y.student) → IsOwnTally m xs y x n
own_tally m xs y x n linked some within is own = grind (arith, get_or_default)

pub below_own : (m : ℕ) (xs : List Tally) (y x : Tally) (n : ℕ) → IsOwnTally m xs y x n
    → x.before < n
below_own m xs y x n at = link_below m xs x n at.linked at.some at.within at.here

-- the walk continues from it
pub way_from : (m : ℕ) (xs : List Tally) (y x : Tally) (n : ℕ) → IsOwnTally m xs y x n
    → IsOnWay xs x.before y.student
way_from m xs y x n at =
    let link = link_of m xs x (n - 1) at.linked (omega (arith, at.some, at.within)) at.here in
    record {
      buckets = m;
      links = at.linked;
      within = omega (arith, link.within, at.some, at.within);
      bucket = λ d before. link.here d before ∙ ap (λ t. bucket_of_student m t) at.own;
    }

-- its cost, and on to the one before it
pub own_on : (m : ℕ) (cost : ℕ → ℕ → ℕ) (xs : List Tally) (y x : Tally) (n one : ℕ)
    → IsOwnTally m xs y x n → one ≡ cost x.period y.period
    → sum_by (cost_with_tally cost y) (take n xs)
    ≡ one * x.exams + sum_by (cost_with_tally cost y) (take x.before xs)
own_on m cost xs y x n one at is =
    let step = walk_on m cost xs y x n at.linked at.some at.within at.here
    (ap (λ s. bucket_of_student m s) at.own) in
    let own : cost_with_tally cost y x ≡ one * x.exams =
    grind (arith, common_steps, eq-eqb, mul_comm, one) in
    omega arith

-- an earlier tally is of no later period
pub not_later : (m : ℕ) (xs : List Tally) (y : Tally) (n k : ℕ) → AreLinkedIn xs m → n < k
    → k < length xs → ((d : Tally) → get_or xs k d ≡ y) → (d : Tally)
    → (get_or xs n d).period ≤ y.period
not_later m xs y n k linked before within here d =
    let up = linked.ascending n k d before within in
    let own : (get_or xs k d).period ≡ y.period = ap (λ z. z.period) (here d) in
    omega arith

-- ---- the end

-- at a tally whose period is below the first that costs anything
pub walk_ends : (m : ℕ) (cost : ℕ → ℕ → ℕ) (xs : List Tally) (y : Tally) (n first : ℕ)
    → AreLinkedIn xs m → n ≤ length xs
    → ((q : ℕ) → q < first → cost q y.period ≡ 0)
    → ((d : Tally) → 0 < n → (get_or xs (n - 1) d).period < first)
    → sum_by (cost_with_tally cost y) (take n xs) ≡ 0
walk_ends m cost xs y n first linked le free below =
    sum_by-none (cost_with_tally cost y) (take n xs)
    (recursion_from_All (λ x. cost_with_tally cost y x ≡ 0) (take n xs) each)
  where
    each : All (λ x. cost_with_tally cost y x ≡ 0) (take n xs)
    each j d lt =
        let within : j < n = omega (arith, length-take n xs) in
        let last = below d (omega arith) in
        let less : (get_or xs j d).period < first = elim (cases_eq j (n - 1)) [
          | inl same ↦
              (let e : (get_or xs j d).period
              ≡ (get_or xs (n - 1) d).period = ap (λ k. (get_or xs k d).period) same in
              omega arith)
          | inr other ↦
              (let up = linked.ascending j (n - 1) d (omega arith) (omega arith) in omega arith)
        ] in
        ap (cost_with_tally cost y) (get_or-take n xs j d within)
        ∙ free_period cost y (get_or xs j d) (free (get_or xs j d).period less)

-- ---- the student's own tallies

pub starts_alike : (m : ℕ) (cost : ℕ → ℕ → ℕ) (xs : List Tally) (z y : Tally) (k : ℕ)
    → AreLinkedIn xs m → k < length xs → ((d : Tally) → get_or xs k d ≡ z) → y.student ≡ z.student
    → sum_by (cost_with_tally cost y) (take z.before xs)
    ≡ sum_by (cost_with_tally cost y) (take k xs)
starts_alike m cost xs z y k linked within here own =
    sym (skipped m cost xs y z.before k
    (subst (λ s. IsLast xs m (bucket_of_student m s) z.before k) (sym own)
    (link_of m xs z k linked within here)) (omega arith))

-- the index that was found from the tally before one is that before this one too
pub own_from : (m : ℕ) (xs : List Tally) (z : Tally) (k first n : ℕ) → AreLinkedIn xs m
    → k < length xs → ((d : Tally) → get_or xs k d ≡ z)
    → IsLatestOfStudent xs z.before z.student first n → IsLatestOfStudent xs k z.student first n
own_from m xs z k first n linked within here found = record {
  within = let link = link_of m xs z k linked within here in
      omega (arith, link.within, found.within);
  own = found.own;
  sums = λ cost y own free. sym (starts_alike m cost xs z y k linked within here own)
      ∙ found.sums cost y own free;
}

-- without such an index nothing costs anything
pub own_none : (cost : ℕ → ℕ → ℕ) (xs : List Tally) (y : Tally) (k first n : ℕ)
    → IsLatestOfStudent xs k y.student first n → n ≡ 0 → ((q : ℕ) → q < first → cost q y.period ≡ 0)
    → 0 ≡ sum_by (cost_with_tally cost y) (take k xs)
own_none cost xs y k first n found zero free =
    sym (found.sums cost y refl free ∙ ap (λ i. sum_by (cost_with_tally cost y) (take i xs)) zero)

-- a period that costs nothing with any
pub beyond_tallies : (cost : ℕ → ℕ → ℕ) (xs : List Tally) (y : Tally)
    → ((q : ℕ) → cost q y.period ≡ 0) → sum_by (cost_with_tally cost y) xs ≡ 0
beyond_tallies cost xs y none =
    sum_by-same _ _ (λ x. free_period cost y x (none x.period)) xs ∙ sum_by-zeros xs

-- ---- bounds

pub beside_small : (cost : ℕ → ℕ → ℕ) (xs : List Tally) (y : Tally) (k : ℕ)
    → ((p q : ℕ) → cost p q ≤ 100000) → row_count xs ≤ 200000
    → sum_by (cost_with_tally cost y) (take k xs) ≤ 20000000000
beside_small cost xs y k small few =
    let part = sum_by-take-le (cost_with_tally cost y) xs k in
    let each = sum_by-le-sum_by (cost_with_tally cost y)
    (λ x. tally_sum (λ r. 1) x * 100000) xs one in
    let whole = sum_by-times (tally_sum (λ r. 1)) 100000 xs in
    omega arith
  where
    one : (x : Tally) → cost_with_tally cost y x ≤ tally_sum (λ r. 1) x * 100000
    one x =
        let h = mul-le x.exams (cond (eqb y.student x.student) (cost x.period y.period) 0) x.exams
        100000 (omega arith)
        (cond_le (eqb y.student x.student) (cost x.period y.period) 100000
        (small x.period y.period)) in
        omega arith

-- ---- one more tally

pairs_more : (cost : ℕ → ℕ → ℕ) (xs : List Tally) (k total more : ℕ) (y : Tally) → k < length xs
    → y ≡ get_or xs k y
    → total ≡ tally_cost cost (take k xs) → more ≡ sum_by (cost_with_tally cost y) (take k xs)
    → total + more * y.exams ≡ tally_cost cost (take (k + 1) xs)
pairs_more cost xs k total more y within here was is =
    let step = sum_pairs-more (tally_pair cost) xs k y within in
    let at : sum_by (λ x. tally_pair cost x (get_or xs k y)) (take k xs)
    ≡ sum_by (λ x. tally_pair cost x y) (take k xs) = grind (arith, common_steps) in
    let times = sum_by-times (cost_with_tally cost y) y.exams (take k xs) in
    let own : more * y.exams ≡ sum_by (cost_with_tally cost y) (take k xs) * y.exams =
    ap (λ n. n * y.exams) is in
    omega arith

small_more : (xs : List Tally) (k total more : ℕ) (y : Tally) → k < length xs
    → y ≡ get_or xs k y
    → total ≤ row_count (take k xs) * 20000000000 → more ≤ 20000000000
    → total + more * y.exams ≤ row_count (take (k + 1) xs) * 20000000000
small_more xs k total more y within here was small = grind (arith, mul-le, sum_by_more)

-- n is the cost over all pairs of the first k tallies, and is small
pub record IsCostTo (cost : ℕ → ℕ → ℕ) (xs : List Tally) (k n : ℕ) : Type 0 where
  pub sum : n ≡ tally_cost cost (take k xs)
  pub small : n ≤ row_count (take k xs) * 20000000000

-- with one more tally
pub cost_to_more : (cost : ℕ → ℕ → ℕ) (xs : List Tally) (k total more : ℕ) (y : Tally)
    → k < length xs → y ≡ get_or xs k y → ((p q : ℕ) → cost p q ≤ 100000) → row_count xs ≤ 200000
    → IsCostTo cost xs k total → more ≡ sum_by (cost_with_tally cost y) (take k xs)
    → IsCostTo cost xs (k + 1) (total + more * y.exams)
cost_to_more cost xs k total more y within here low few was is = record {
  sum = pairs_more cost xs k total more y within here was.sum is;
  small = small_more xs k total more y within here was.small
      (subst (λ n. n ≤ 20000000000) (sym is) (beside_small cost xs y k low few));
}

-- with one that costs nothing
pub cost_to_same : (cost : ℕ → ℕ → ℕ) (xs : List Tally) (k total : ℕ) (y : Tally)
    → k < length xs → y ≡ get_or xs k y → ((p q : ℕ) → cost p q ≤ 100000) → row_count xs ≤ 200000
    → IsCostTo cost xs k total → 0 ≡ sum_by (cost_with_tally cost y) (take k xs)
    → IsCostTo cost xs (k + 1) total
cost_to_same cost xs k total y within here low few was is =
    let same : total + 0 * y.exams ≡ total = omega arith in
    subst (IsCostTo cost xs (k + 1)) same
    (cost_to_more cost xs k total 0 y within here low few was is)

pub cost_to-small : (cost : ℕ → ℕ → ℕ) (xs : List Tally) (k total : ℕ) → row_count xs ≤ 200000
    → IsCostTo cost xs k total → total ≤ 4000000000000000
cost_to-small cost xs k total few is =
    let some = sum_by-take-le (tally_sum (λ r. 1)) xs k in omega (arith, is.small)

-- ---- rows

pub cost_with-small : (cost : ℕ → ℕ → ℕ) (rows : List Row) → ((p q : ℕ) → cost p q ≤ 100000)
    → length rows ≤ 200000 → cost_with cost rows ≤ 4000000000000000
cost_with-small cost rows small few =
    let bound = sum_pairs-le (row_pair cost) 100000 pair_small rows in
    let product =
    mul-le (length rows) (length rows * 100000) 200000 20000000000 few (omega arith) in
    omega arith
  where
    pair_small : (x y : Row) → row_pair cost x y ≤ 100000
    pair_small x y = grind (arith, cond_le)
