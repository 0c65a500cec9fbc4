-- The search finds a row that takes the path, if there is one.
use Rattle.std.proofs.Common.{◌≡◌, ◌<◌, ◌-◌, ◌⊎◌, ℕ, zero, suc, Bool, true, false}
use Rattle.std.proofs.Common.{cond, ltb, ◌&&◌, ◌||◌, ◌==◌, nat_eq, List, [], ◌∷◌, length, drop}
use Rattle.std.proofs.Common.{Option, Some, None, refl, sym, ap, ◌∙◌, arith}
use Rattle.std.proofs.lemmas.Bool.{eqb-true, and_from, and_right, lt-ltb}
use Rattle.std.proofs.Math.Seq.{drop-length}
use Rattle.std.specs.Cmp.Lexicographic.{pointwise}
use Rattle.matchit.specs.Rows.{RowsOf, param_token, catch_all_token}
use Rattle.matchit.specs.Seek.{segment, has_slash, cuts, own, step}
use Rattle.matchit.specs.Seek.{or_else, longest_from, with_suffix, param_step, seek}
use Rattle.office_requests.specs.Patterns.{rest_of_segment}
use Rattle.office_requests.proofs.Plain.{EndsSegment, ArePlain}

module _ {K : Type 0} where
  param_nil : (path : List ℕ) → (param_step {K = K} [] path).1 ≡ []
  unfolding param_step
  param_nil path = grind (arith)

  pub seek_none : (skip : ℕ) (path : List ℕ) → seek {K = K} skip [] path ≡ None
  unfolding seek
  seek_none skip [] = refl
  seek_none (suc skip) (b ∷ path) = seek_none skip path
  seek_none zero (b ∷ path) =
      rw (
        seek_none 0 path,
        param_nil (b ∷ path),
        seek_none
            ((param_step {K = K} [] (b ∷ path)).0 - 1) path,
      ) refl

  pub seek_end : (rows : RowsOf K) → seek 0 rows [] ≡ own rows
  unfolding seek
  seek_end rows = refl

  seek_skip : (skip : ℕ) (rows : RowsOf K) (path : List ℕ) →
      seek skip rows path ≡ seek 0 rows (drop skip path)
  unfolding seek
  seek_skip zero rows path = refl
  seek_skip (suc skip) rows [] = refl
  seek_skip (suc skip) rows (b ∷ path) = seek_skip skip rows path

segment_some : (path : List ℕ) → has_slash path ≡ true → 0 < length (segment path)
segment_some [] h = cc
segment_some (b ∷ path) h = grind (arith)

-- the last byte of a segment is a slash exactly if the path has one
last_slash : (b : ℕ) (path : List ℕ) → (b == 47) ≡ false →
    pointwise nat_eq (47 ∷ []) (drop (length (segment path)) (b ∷ segment path)) ≡ has_slash path
last_slash b [] h = grind (arith, nat_eq)
last_slash b (c ∷ path) h = grind (arith, last_slash c path, eqb-true, nat_eq)

after_segment : (path : List ℕ) → has_slash path ≡ true →
    drop (length (segment path) - 1) path ≡ rest_of_segment path
after_segment [] h = cc
after_segment (b ∷ path) h = go (b == 47) refl (after_segment path)
  where
    go : (v : Bool) → (b == 47) ≡ v → (has_slash path ≡ true →
        drop (length (segment path) - 1) path ≡ rest_of_segment path)
        → drop (length (segment (b ∷ path)) - 1) (b ∷ path) ≡ rest_of_segment (b ∷ path)
    go true e more = rw e refl
    go false e more =
        let later : has_slash path ≡ true = rw e at h in
        let long : suc (length (segment path)) - 1 ≡ suc (length (segment path) - 1) =
        omega (arith, segment_some path later) in
        rw e (rw long (more later))

pub no_rest : (path : List ℕ) → has_slash path ≡ false → rest_of_segment path ≡ []
no_rest [] h = refl
no_rest (b ∷ path) h = grind (arith, no_rest path)

-- a parameter is followed by nothing, or by a slash and more
abbrev pub AreTails : {K : Type 0} → RowsOf K → Type 0
AreTails [] = Unit {0}
AreTails (row ∷ rows) = EndsSegment row.0 × AreTails rows

abbrev pub begins : List ℕ → Bool
begins [] = false
begins (x ∷ t) = true

module _ {K : Type 0} where
  abbrev pub has_more : RowsOf K → Bool
  has_more [] = false
  has_more (row ∷ rows) = begins row.0 || has_more rows

  -- if a slash is found, it is the longest suffix
  longest_slash : (seg : List ℕ) (rows : RowsOf K) → AreTails rows →
      longest_from seg (47 ∷ []) rows ≡ 47 ∷ []
  longest_slash seg [] good = refl
  longest_slash seg (([], k) ∷ rows) good = longest_slash seg rows good.1
  longest_slash seg ((x ∷ t, k) ∷ rows) good = rw good.0 (longest_slash seg rows good.1)

  longest_is : (seg : List ℕ) (rows : RowsOf K) → AreTails rows →
      longest_from seg [] rows ≡ cond (cuts seg (47 ∷ []) && has_more rows) (47 ∷ []) []
  longest_is seg [] good = grind (arith)
  longest_is seg (([], k) ∷ rows) good = longest_is seg rows good.1
  longest_is seg ((x ∷ t, k) ∷ rows) good = grind (arith, longest_is seg rows good.1, longest_slash)

cuts_is : (b : ℕ) (path : List ℕ) → (b == 47) ≡ false →
    cuts (segment (b ∷ path)) (47 ∷ []) ≡ has_slash path
cuts_is b path e = rw e (go (has_slash path) refl)
  where
    one_less : suc (length (segment path)) - 1 ≡ length (segment path)
    one_less = omega arith

    last : pointwise nat_eq (47 ∷ []) (drop (suc (length (segment path)) - 1) (b ∷ segment path))
        ≡ has_slash path
    last = rw one_less (last_slash b path e)

    go : (v : Bool) → has_slash path ≡ v →
        (ltb 1 (suc (length (segment path)))
        && pointwise nat_eq (47 ∷ [])
        (drop (suc (length (segment path)) - 1) (b ∷ segment path))) ≡ has_slash path
    go true h = and_from _ _ (lt-ltb 1 (suc (length (segment path)))
        (omega (arith, segment_some path h))) (last ∙ h) ∙ sym h
    go false h = and_right (ltb 1 (suc (length (segment path)))) _ (last ∙ h) ∙ sym h

module _ {K : Type 0} where
  -- a parameter's step, if the longest suffix is known
  param_step_is : (rows : RowsOf K) (path suffix : List ℕ) →
      longest_from (segment path) [] rows ≡ suffix
      → param_step rows path ≡ cond {A = ℕ × RowsOf K} (ltb 0 (length suffix))
      (length (segment path) - length suffix, with_suffix suffix rows)
      (cond (has_slash path) (0, []) (length path, rows))
  unfolding param_step
  param_step_is rows path suffix e = grind (arith)

  -- the search after a parameter at b
  pub param_at : RowsOf K → ℕ → List ℕ → Option K
  param_at rows b path = seek ((param_step rows (b ∷ path)).0 - 1)
      (param_step rows (b ∷ path)).1 path

  by_step : (rows : RowsOf K) (b : ℕ) (path : List ℕ) (n : ℕ) (next : RowsOf K) →
      param_step rows (b ∷ path) ≡ (n, next) → param_at rows b path ≡ seek (n - 1) next path
  unfolding param_at
  by_step rows b path n next e = ap (λ (x : ℕ × RowsOf K). seek (x.0 - 1) x.1 path) e

  pub param_found : (rows : RowsOf K) (b : ℕ) (path : List ℕ) → AreTails rows → (b == 47) ≡ false →
      has_slash path ≡ true → has_more rows ≡ true
      → param_at rows b path ≡ seek 0 (with_suffix (47 ∷ []) rows) (rest_of_segment path)
  param_found rows b path good e h more =
      let suffix : longest_from (segment (b ∷ path)) [] rows ≡ 47 ∷ [] =
      longest_is (segment (b ∷ path)) rows good ∙ rw (cuts_is b path e, h, more) refl in
      let length_is : length (segment (b ∷ path)) ≡ suc (length (segment path)) = rw e refl in
      let less : length (segment (b ∷ path)) - 1 - 1 ≡ length (segment path) - 1 =
      omega (arith, length_is) in
      by_step rows b path _ _ (param_step_is rows (b ∷ path) (47 ∷ []) suffix)
      ∙ seek_skip (length (segment (b ∷ path)) - 1 - 1) (with_suffix (47 ∷ []) rows) path
      ∙ ap (λ n. seek 0 (with_suffix (47 ∷ []) rows) (drop n path)) less
      ∙ ap (seek 0 (with_suffix (47 ∷ []) rows)) (after_segment path h)

  pub param_lost : (rows : RowsOf K) (b : ℕ) (path : List ℕ) → AreTails rows → (b == 47) ≡ false →
      has_slash path ≡ true → has_more rows ≡ false → param_at rows b path ≡ None
  param_lost rows b path good e h more =
      let suffix : longest_from (segment (b ∷ path)) [] rows ≡ [] =
      longest_is (segment (b ∷ path)) rows good ∙ rw (cuts_is b path e, h, more) refl in
      let slashed : has_slash (b ∷ path) ≡ true = rw e h in
      by_step rows b path 0 [] (param_step_is rows (b ∷ path) [] suffix ∙ rw slashed refl)
      ∙ seek_none 0 path

  pub param_last : (rows : RowsOf K) (b : ℕ) (path : List ℕ) → AreTails rows → (b == 47) ≡ false →
      has_slash path ≡ false → param_at rows b path ≡ own rows
  param_last rows b path good e h =
      let suffix : longest_from (segment (b ∷ path)) [] rows ≡ [] =
      longest_is (segment (b ∷ path)) rows good ∙ rw (cuts_is b path e, h) refl in
      let slashed : has_slash (b ∷ path) ≡ false = rw e h in
      let n : suc (length path) - 1 ≡ length path = omega arith in
      by_step rows b path (suc (length path)) rows (param_step_is rows (b ∷ path) [] suffix
      ∙ rw slashed refl)
      ∙ seek_skip (suc (length path) - 1) rows path ∙ ap (λ k. seek 0 rows (drop k path)) n
      ∙ ap (seek 0 rows) (drop-length path) ∙ seek_end rows

  pub param_slash : (rows : RowsOf K) (b : ℕ) (path : List ℕ) → AreTails rows → (b == 47) ≡ true →
      param_at rows b path ≡ None
  param_slash rows b path good e =
      let suffix : longest_from (segment (b ∷ path)) [] rows ≡ [] =
      longest_is (segment (b ∷ path)) rows good ∙ rw e refl in
      let slashed : has_slash (b ∷ path) ≡ true = rw e refl in
      by_step rows b path 0 [] (param_step_is rows (b ∷ path) [] suffix ∙ rw slashed refl)
      ∙ seek_none 0 path

module _ {K : Type 0} where
  no_catch_all : (rows : RowsOf K) → ArePlain rows → step catch_all_token rows ≡ []
  no_catch_all [] good = refl
  no_catch_all (([], k) ∷ rows) good = no_catch_all rows good.1
  no_catch_all ((x ∷ t, k) ∷ rows) good =
      grind (arith, no_catch_all rows good.1, EndsSegment, eqb-true)

  or_none : (o : Option K) → or_else o None ≡ o
  or_none None = refl
  or_none (Some k) = refl

  -- a step of the search, if there is no catch-all
  pub seek_is : (rows : RowsOf K) (b : ℕ) (path : List ℕ) → ArePlain rows →
      seek 0 rows (b ∷ path) ≡ or_else (seek 0 (step b rows) path)
      (param_at (step param_token rows) b path)
  unfolding seek param_at
  seek_is rows b path good = rw (no_catch_all rows good)
      (ap (or_else (seek 0 (step b rows) path)) (or_none _))
