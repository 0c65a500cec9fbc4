-- Tallies filed in buckets: one more exam counted, in an old tally or in a new one.
use Rattle.std.proofs.Common.{◌≡◌, ◌≢◌, ℕ, ◌+◌, ◌-◌, ◌*◌, ◌<◌, ◌≤◌, List, [], ◌∷◌, ◌++◌, length, get_or, set, sum_by, All, inl, inr, refl, sym, subst, ◌∙◌, ap, arith, length-set}
use Rattle.std.proofs.Math.Nat.{mul_comm}
use Rattle.std.proofs.lemmas.Bool.{cases_eq, cases_lt}
use Rattle.std.proofs.lemmas.List.{get_or-set_same, get_or-set_other, get_or_append_left, get_or_push, get_or_read, length_push}
use Rattle.std.proofs.lemmas.List.Sums.{sum_by-set}
use Rattle.exam_score.specs.Rows.{row_at}
use Rattle.exam_score.specs.Tallies.{tally_sum}
use Rattle.exam_score.specs.TallyLinks.{bucket_of_student, IsLast, AreCrowded, AreLinkedIn, AreFiled, Extends, Grows}
use Rattle.exam_score.specs.declared.rows.Row.{Row}
use Rattle.exam_score.specs.declared.tallies.Tally.{Tally}

-- ---- the last tally of a bucket

-- only the students matter
last_same : (m : ℕ) (xs ys : List Tally) (bucket n k : ℕ)
    → ((j : ℕ) (d : Tally) → j < k → (get_or xs j d).student ≡ (get_or ys j d).student)
    → IsLast xs m bucket n k → IsLast ys m bucket n k
last_same m xs ys bucket n k same h = record {
  within = h.within;
  here = λ d some.
      ap (λ s. bucket_of_student m s) (sym (same (n - 1) d (let w = h.within in omega arith)))
      ∙ h.here d some;
  none = λ j d from below is.
      h.none j d from below (ap (λ s. bucket_of_student m s) (same j d below) ∙ is);
}

-- one more tally, of another bucket
last_more : (m : ℕ) (xs : List Tally) (bucket n k : ℕ)
    → ((d : Tally) → bucket_of_student m (get_or xs k d).student ≢ bucket) → IsLast xs m bucket n k
    → IsLast xs m bucket n (k + 1)
last_more m xs bucket n k other h = record {
  within = let w = h.within in omega arith;
  here = h.here;
  none = λ j d from below. elim (cases_eq j k) [
    | inl last ↦
        (λ is. other d (ap (λ v. bucket_of_student m (get_or xs v d).student) (sym last) ∙ is))
    | inr before ↦ h.none j d from (omega arith)
  ];
}

-- one more tally, of this bucket
last_new : (m : ℕ) (xs : List Tally) (bucket k : ℕ)
    → ((d : Tally) → bucket_of_student m (get_or xs k d).student ≡ bucket)
    → IsLast xs m bucket (k + 1) (k + 1)
last_new m xs bucket k own = record {
  within = omega arith;
  here = λ d some.
      ap (λ v. bucket_of_student m (get_or xs v d).student) (let e : k + 1 - 1 ≡ k = omega arith in e)
      ∙ own d;
  none = λ j d from below. absurd (omega arith);
}

-- ---- only the count of a tally changes

pub record AreAlike (xs ys : List Tally) : Type 0 where
  pub count : length ys ≡ length xs
  pub student : (j : ℕ) (d : Tally) → (get_or xs j d).student ≡ (get_or ys j d).student
  pub period : (j : ℕ) (d : Tally) → (get_or xs j d).period ≡ (get_or ys j d).period
  pub before : (j : ℕ) (d : Tally) → (get_or xs j d).before ≡ (get_or ys j d).before

field_kept : (h : Tally → ℕ) (xs : List Tally) (i : ℕ) (y : Tally) → i < length xs
    → ((d : Tally) → h (get_or xs i d) ≡ h y)
    → (j : ℕ) (d : Tally) → h (get_or xs j d) ≡ h (get_or (set xs i y) j d)
field_kept h xs i y within same j d = elim (cases_eq j i) [
  | inl here ↦ ap (λ k. h (get_or xs k d)) here ∙ same d
      ∙ ap h (sym (get_or-set_same xs i y d within))
      ∙ ap (λ k. h (get_or (set xs i y) k d)) (sym here)
  | inr other ↦ ap h (sym (get_or-set_other xs i j y d (λ e. omega arith)))
]

pub alike_set : (xs : List Tally) (i : ℕ) (y : Tally) → i < length xs
    → ((d : Tally) → (get_or xs i d).student ≡ y.student)
    → ((d : Tally) → (get_or xs i d).period ≡ y.period)
    → ((d : Tally) → (get_or xs i d).before ≡ y.before) → AreAlike xs (set xs i y)
alike_set xs i y within student period before = record {
  count = length-set xs i y;
  student = field_kept (λ x. x.student) xs i y within student;
  period = field_kept (λ x. x.period) xs i y within period;
  before = field_kept (λ x. x.before) xs i y within before;
}

linked_alike : (m : ℕ) (xs ys : List Tally) → AreAlike xs ys → AreLinkedIn xs m → AreLinkedIn ys m
linked_alike m xs ys same h = record {
  links = λ k d lt.
      let link : IsLast ys m (bucket_of_student m (get_or xs k d).student) (get_or xs k d).before k
      = last_same m xs ys (bucket_of_student m (get_or xs k d).student) (get_or xs k d).before k
      (λ j e l. same.student j e) (h.links k d (let c = same.count in omega arith)) in
      subst (λ n. IsLast ys m (bucket_of_student m (get_or ys k d).student) n k) (same.before k d)
      (subst (λ s. IsLast ys m (bucket_of_student m s) (get_or xs k d).before k)
      (same.student k d) link);
  ascending = λ i j d l m.
      let le = h.ascending i j d l (let c = same.count in omega arith) in
      let a = same.period i d in
      let b = same.period j d in
      omega arith;
}

pub filed_alike : (m : ℕ) (xs ys : List Tally) (last : List ℕ) → AreAlike xs ys → AreFiled xs last m
    → AreFiled ys last m
filed_alike m xs ys last same h = record {
  count = h.count;
  lasts = λ bucket lt. subst (λ k. IsLast ys m bucket (get_or last bucket 0) k) (sym same.count)
      (last_same m xs ys bucket (get_or last bucket 0) (length xs) (λ j e l. same.student j e)
      (h.lasts bucket lt));
  linked = linked_alike m xs ys same h.linked;
}

-- the sum grows by one row
pub counted_set : (f : Row → ℕ) (xs : List Tally) (i : ℕ) (x : Tally) → i < length xs
    → x ≡ get_or xs i x
    → sum_by (tally_sum f)
    (set xs i (record { student = x.student; period = x.period; exams = x.exams + 1; before = x.before }))
    ≡ sum_by (tally_sum f) xs + f (row_at x.period x.student)
counted_set f xs i x within is = grind (arith, mul_comm, sum_by-set)

-- ---- a new tally

get_kept : (xs : List Tally) (x : Tally) (j : ℕ) (d : Tally) → j < length xs
    → get_or (xs ++ x ∷ []) j d ≡ get_or xs j d
get_kept xs x j d lt = get_or_append_left xs (x ∷ []) d j lt

get_new : (xs : List Tally) (x d : Tally) → get_or (xs ++ x ∷ []) (length xs) d ≡ x
get_new xs x d = get_or_push xs x d (length xs) refl

student_kept : (xs : List Tally) (x : Tally) (k : ℕ) → k ≤ length xs → (j : ℕ) (d : Tally) → j < k
    → (get_or xs j d).student ≡ (get_or (xs ++ x ∷ []) j d).student
student_kept xs x k le j d lt = ap (λ z. z.student) (sym (get_kept xs x j d (omega arith)))

linked_push : (m : ℕ) (xs : List Tally) (x : Tally) → All (λ z. z.period ≤ x.period) xs
    → IsLast xs m (bucket_of_student m x.student) x.before (length xs) → AreLinkedIn xs m
    → AreLinkedIn (xs ++ x ∷ []) m
linked_push m xs x not_later link h = record {
  links = λ k d lt. elim (cases_eq k (length xs)) [
    | inl last ↦
        subst (λ v. IsLast (xs ++ x ∷ []) m (bucket_of_student m (get_or (xs ++ x ∷ []) v d).student)
        (get_or (xs ++ x ∷ []) v d).before v)
        (sym last)
        (subst (λ z. IsLast (xs ++ x ∷ []) m (bucket_of_student m z.student) z.before (length xs))
        (sym (get_new xs x d))
        (last_same m xs (xs ++ x ∷ []) (bucket_of_student m x.student) x.before (length xs)
        (student_kept xs x (length xs) (omega arith)) link))
    | inr other ↦
        (let before : k < length xs = omega (arith, length_push xs x) in
        subst (λ z. IsLast (xs ++ x ∷ []) m (bucket_of_student m z.student) z.before k)
        (sym (get_kept xs x k d before))
        (last_same m xs (xs ++ x ∷ []) (bucket_of_student m (get_or xs k d).student)
        (get_or xs k d).before k (student_kept xs x k (omega arith)) (h.links k d before)))
  ];
  ascending = λ i j d l m. elim (cases_eq j (length xs)) [
    | inl last ↦
        (let first = not_later i d (omega arith) in
        let a : (get_or (xs ++ x ∷ []) i d).period ≡ (get_or xs i d).period =
        ap (λ z. z.period) (get_kept xs x i d (omega arith)) in
        let b : (get_or (xs ++ x ∷ []) j d).period ≡ x.period =
        ap (λ n. (get_or (xs ++ x ∷ []) n d).period) last
        ∙ ap (λ z. z.period) (get_new xs x d) in
        omega arith)
    | inr other ↦
        (let before : j < length xs = omega (arith, length_push xs x) in
        let le = h.ascending i j d l before in
        let a : (get_or (xs ++ x ∷ []) i d).period ≡ (get_or xs i d).period =
        ap (λ z. z.period) (get_kept xs x i d (omega arith)) in
        let b : (get_or (xs ++ x ∷ []) j d).period ≡ (get_or xs j d).period =
        ap (λ z. z.period) (get_kept xs x j d before) in
        omega arith)
  ];
}

pub filed_push : (m : ℕ) (xs : List Tally) (last : List ℕ) (x : Tally) (bucket : ℕ)
    → AreFiled xs last m → bucket < length last → bucket_of_student m x.student ≡ bucket
    → x.before ≡ get_or last bucket 0 → All (λ z. z.period ≤ x.period) xs
    → AreFiled (xs ++ x ∷ []) (set last bucket (length xs + 1)) m
filed_push m xs last x bucket h within own before not_later = record {
  count = length-set last bucket (length xs + 1) ∙ h.count;
  lasts = λ b lt.
      subst (λ k. IsLast (xs ++ x ∷ []) m b (get_or (set last bucket (length xs + 1)) b 0) k)
      (sym (length_push xs x))
      (elim (cases_eq b bucket) [
        | inl same ↦
            subst (λ n. IsLast (xs ++ x ∷ []) m n (get_or (set last bucket (length xs + 1)) n 0)
            (length xs + 1))
            (sym same)
            (subst (λ n. IsLast (xs ++ x ∷ []) m bucket n (length xs + 1))
            (sym (get_or-set_same last bucket (length xs + 1) 0 within))
            (last_new m (xs ++ x ∷ []) bucket (length xs)
            (λ d. ap (λ z. bucket_of_student m z.student) (get_new xs x d) ∙ own)))
        | inr other ↦
            (let differ : b ≢ bucket = (λ e. omega arith) in
            let old : IsLast xs m b (get_or last b 0) (length xs) =
            h.lasts b (let c = length-set last bucket (length xs + 1) in omega arith) in
            subst (λ n. IsLast (xs ++ x ∷ []) m b n (length xs + 1))
            (sym (get_or-set_other last bucket b (length xs + 1) 0 differ))
            (last_more m (xs ++ x ∷ []) b (get_or last b 0) (length xs)
            (λ d is. differ (sym is ∙ ap (λ z. bucket_of_student m z.student) (get_new xs x d) ∙ own))
            (last_same m xs (xs ++ x ∷ []) b (get_or last b 0) (length xs)
            (student_kept xs x (length xs) (omega arith)) old)))
      ]);
  linked = linked_push m xs x not_later
      (subst (λ n. IsLast xs m (bucket_of_student m x.student) n (length xs)) (sym before)
      (subst (λ b. IsLast xs m b (get_or last bucket 0) (length xs)) (sym own) (h.lasts bucket within)))
      h.linked;
}

-- ---- along the students of an exam, and along the sittings

pub grown_more : (xs ys zs : List Tally) (p n : ℕ) → Grows xs ys p n → Grows ys zs p 1
    → Grows xs zs p (n + 1)
grown_more xs ys zs p n a b = record {
  longer = let c = a.longer in let d = b.longer in omega arith;
  few = let c = a.few in let d = b.few in omega arith;
  kept = λ k d lt. b.kept k d (let c = a.longer in omega arith) ∙ a.kept k d lt;
  added = λ k d from lt. elim (cases_lt k (length ys)) [
    | inl old ↦ b.kept k d old ∙ a.added k d from old
    | inr new ↦ b.added k d new lt
  ];
}

-- if no old tally is later, no new one is
pub grown_no_later : (xs ys : List Tally) (p q n : ℕ) → Grows xs ys p n → All (λ x. x.period ≤ q) xs
    → p ≤ q → All (λ x. x.period ≤ q) ys
grown_no_later xs ys p q n h old le k d lt = elim (cases_lt k (length xs)) [
  | inl before ↦ (let e = h.kept k d before in let f = old k d before in omega arith)
  | inr after ↦ (let e = h.added k d after lt in omega arith)
]

-- the last tally of a bucket exists
pub index_within : (m : ℕ) (xs : List Tally) (last : List ℕ) (bucket n s p : ℕ) → AreFiled xs last m
    → bucket < m → n ≡ get_or last bucket n → Extends xs n s p → n - 1 < length xs
index_within m xs last bucket n s p filed lt is found = grind (arith, get_or_read)

pub grown_none : (xs : List Tally) (p : ℕ) → Grows xs xs p 0
grown_none xs p = record {
  longer = omega arith;
  few = omega arith;
  kept = λ k d lt. refl;
  added = λ k d from lt. absurd (omega arith);
}

-- no bucket has a tally if there are none
pub filed_none : (m : ℕ) (xs : List Tally) (last : List ℕ) → xs ≡ [] → length last ≡ m
    → ((bucket : ℕ) → bucket < length last → get_or last bucket 0 ≡ 0) → AreFiled xs last m
filed_none m xs last none long clear = record {
  count = long;
  lasts = λ bucket lt. record {
    within = let z = clear bucket lt in omega arith;
    here = λ d some. absurd (let z = clear bucket lt in omega arith);
    none = λ j d from below. absurd (omega (arith, ap length none));
  };
  linked = record { links = λ k d lt. absurd (omega (arith, ap length none)); ascending = λ i j d l m. absurd (omega (arith, ap length none)) };
}

-- ---- how crowded the buckets are

pub crowd_none : (sizes : List ℕ) (buckets n : ℕ) → length sizes ≡ buckets
    → ((bucket : ℕ) → bucket < length sizes → get_or sizes bucket 0 ≡ 0) → AreCrowded sizes 0 buckets n
crowd_none sizes buckets n long zeros = record {
  count = long;
  each = λ bucket lt. omega (arith, zeros bucket lt);
  all = omega arith;
}

-- one more tally in a bucket
pub crowd_more : (sizes : List ℕ) (steps buckets n bucket : ℕ) → bucket < buckets → n < 200000
    → AreCrowded sizes steps buckets n
    → AreCrowded (set sizes bucket (get_or sizes bucket 0 + 1))
    (steps + get_or sizes bucket 0) buckets (n + 1)
crowd_more sizes steps buckets n bucket exists few h =
    grind (arith, cases_eq, get_or-set_other, get_or-set_same, length-set)
