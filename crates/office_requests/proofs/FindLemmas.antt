-- The search finds a row that takes the path, if there is one.
use Rattle.std.proofs.Common.{◌≡◌, ◌<◌, ◌≤◌, ◌⊎◌, ℕ, zero, suc, Bool, true, false}
use Rattle.std.proofs.Common.{not, ◌&&◌, ◌==◌, List, [], ◌∷◌, length, Option, Some}
use Rattle.std.proofs.Common.{None, refl, sym, ap, subst, ◌∙◌, inl, inr, arith}
use Rattle.std.proofs.lemmas.Bool.{eqb-true, eq-eqb, not-true, and_parts}
use Rattle.std.proofs.lemmas.Bool.Decides.{nat_tests}
use Rattle.matchit.specs.Rows.{RowsOf, param_token}
use Rattle.matchit.specs.Level.{IsText}
use Rattle.matchit.specs.Seek.{slash, has_slash, own, step, or_else}
use Rattle.matchit.specs.Seek.{with_suffix, seek, first}
use Rattle.office_requests.specs.Patterns.{rest_of_segment, is_match}
use Rattle.office_requests.specs.Pages.{IsIn, Finds}
use Rattle.office_requests.proofs.Plain.{FindsNone, EndsSegment, ArePlain}
use Rattle.office_requests.proofs.SeekLemmas.{AreTails, has_more, param_at, param_found, param_lost}
use Rattle.office_requests.proofs.SeekLemmas.{param_last, param_slash, seek_end, seek_is, no_rest}

module _ {K : Type 0} where
  in_step : (b : ℕ) (rows : RowsOf K) (t : List ℕ) (k : K) → IsIn t k (step b rows) →
      IsIn (b ∷ t) k rows
  in_step b [] t k h = absurd h
  in_step b (([], j) ∷ rows) t k h = inr (in_step b rows t k h)
  in_step b ((x ∷ s, j) ∷ rows) t k h = grind (arith, in_step b rows t k, eqb-true)

  step_in : (b : ℕ) (rows : RowsOf K) (t : List ℕ) (k : K) → IsIn (b ∷ t) k rows →
      IsIn t k (step b rows)
  step_in b [] t k h = absurd h
  step_in b (([], j) ∷ rows) t k (inl h) = absurd (let e = h.0 in cc)
  step_in b (([], j) ∷ rows) t k (inr h) = step_in b rows t k h
  step_in b ((x ∷ s, j) ∷ rows) t k (inl h) = grind (arith, eq-eqb)
  step_in b ((x ∷ s, j) ∷ rows) t k (inr h) = grind (arith, step_in b rows t k h)

  plain_step : (b : ℕ) (rows : RowsOf K) → ArePlain rows → ArePlain (step b rows)
  plain_step b [] good = tt
  plain_step b (([], j) ∷ rows) good = plain_step b rows good.1
  plain_step b ((x ∷ s, j) ∷ rows) good = grind (arith, plain_step b rows good.1, ArePlain)

  tails_step : (rows : RowsOf K) → ArePlain rows → AreTails (step param_token rows)
  tails_step [] good = tt
  tails_step (([], j) ∷ rows) good = tails_step rows good.1
  tails_step ((x ∷ s, j) ∷ rows) good =
      grind (arith, tails_step rows good.1, AreTails, EndsSegment, eqb-true)

  in_suffix : (w : List ℕ) (rows : RowsOf K) (t : List ℕ) (k : K) → IsIn t k (with_suffix w rows) →
      IsIn t k rows
  in_suffix w [] t k h = absurd h
  in_suffix w ((s, j) ∷ rows) t k h = grind (arith, in_suffix w rows t k)

  plain_suffix : (w : List ℕ) (rows : RowsOf K) → ArePlain rows → ArePlain (with_suffix w rows)
  plain_suffix w [] good = tt
  plain_suffix w ((s, j) ∷ rows) good = grind (arith, plain_suffix w rows good.1, ArePlain)

  more_in : (rows : RowsOf K) (x : ℕ) (t : List ℕ) (k : K) → IsIn (x ∷ t) k rows →
      has_more rows ≡ true
  more_in [] x t k h = absurd h
  more_in (([], j) ∷ rows) x t k (inl h) = absurd (let e = h.0 in cc)
  more_in (([], j) ∷ rows) x t k (inr h) = more_in rows x t k h
  more_in ((y ∷ s, j) ∷ rows) x t k h = refl

  suffix_in : (rows : RowsOf K) (x : ℕ) (t : List ℕ) (k : K) → AreTails rows → IsIn (x ∷ t) k rows →
      IsIn (x ∷ t) k (with_suffix (47 ∷ []) rows)
  suffix_in [] x t k good h = absurd h
  suffix_in (([], j) ∷ rows) x t k good (inl h) = absurd (let e = h.0 in cc)
  suffix_in (([], j) ∷ rows) x t k good (inr h) = suffix_in rows x t k good.1 h
  suffix_in ((y ∷ s, j) ∷ rows) x t k good (inl h) =
      rw good.0 (inl (ap (λ (z : ℕ). z ∷ s) (sym good.0) ∙ h.0, h.1))
  suffix_in ((y ∷ s, j) ∷ rows) x t k good (inr h) = rw good.0 (inr (suffix_in rows x t k good.1 h))

  own_in : (rows : RowsOf K) (k : K) → own rows ≡ Some k → IsIn [] k rows
  own_in [] k h = cc
  own_in (([], j) ∷ rows) k h = inl (refl, cc)
  own_in ((x ∷ s, j) ∷ rows) k h = inr (own_in rows k h)

  own_none : (rows : RowsOf K) (k : K) → own rows ≡ None → IsIn [] k rows → ⊥
  own_none [] k h i = i
  own_none (([], j) ∷ rows) k h i = cc
  own_none ((x ∷ s, j) ∷ rows) k h (inl i) = absurd (let e = i.0 in cc)
  own_none ((x ∷ s, j) ∷ rows) k h (inr i) = own_none rows k h i

rest_text : (path : List ℕ) → IsText path → IsText (rest_of_segment path)
rest_text [] h = tt
rest_text (b ∷ path) h = grind (arith, rest_text path h.1)

rest_shorter : (path : List ℕ) → length (rest_of_segment path) ≤ length path
rest_shorter [] = omega arith
rest_shorter (b ∷ path) = grind (arith, rest_shorter path)

rest_some : (path : List ℕ) → has_slash path ≡ true → 0 < length (rest_of_segment path)
rest_some [] h = cc
rest_some (b ∷ path) h = grind (arith, rest_some path)

module _ (K : Type 0) where
  abbrev Sound : ℕ → Type 0
  Sound n = (rows : RowsOf K) (path : List ℕ) (k : K) → length path ≤ n → IsText path →
      ArePlain rows → seek 0 rows path ≡ Some k → Finds rows path k

  sound_end : (rows : RowsOf K) (k : K) → seek 0 rows [] ≡ Some k → Finds rows [] k
  sound_end rows k h = record {
    pattern = [];
    is_in = own_in rows k (sym (seek_end rows)
        ∙ h);
    matches_path = refl;
  }

  sound_literal : (n : ℕ) → Sound n → (rows : RowsOf K) (b : ℕ) (path : List ℕ) (k : K) →
      length path ≤ n → IsText (b ∷ path) → ArePlain rows → seek 0 (step b rows) path ≡ Some k →
      Finds rows (b ∷ path) k
  sound_literal n more rows b path k short text good h =
      let found = more (step b rows) path k short text.1 (plain_step b rows good) h in
      let byte : b == 256 ≡ false = grind (arith, nat_tests, text.0) in
      let same : b == b ≡ true = eq-eqb b b refl in
      record {
        pattern = b ∷ found.pattern;
        is_in = in_step b rows found.pattern k found.is_in;
        matches_path = rw (byte, same) found.matches_path;
      }

  sound_param : (n : ℕ) → Sound n → (rows : RowsOf K) (b : ℕ) (path : List ℕ) (k : K) →
      length path ≤ n → IsText (b ∷ path) → ArePlain rows →
      param_at (step param_token rows) b path ≡ Some k → Finds rows (b ∷ path) k
  sound_param n more rows b path k short text good h = go (b == 47) refl
    where
      good_tails : AreTails (step param_token rows)
      good_tails = tails_step rows good

      by_more : (v : Bool) → has_more (step param_token rows) ≡ v → b == 47 ≡ false →
          has_slash path ≡ true → Finds rows (b ∷ path) k
      by_more true m e s =
          let found = more (with_suffix (47 ∷ []) (step param_token rows)) (rest_of_segment path) k
          (omega (arith, rest_shorter path)) (rest_text path text.1)
          (plain_suffix (47 ∷ []) (step param_token rows) (plain_step param_token rows good))
          (sym (param_found (step param_token rows) b path good_tails e s m) ∙ h) in
          record {
            pattern = param_token ∷ found.pattern;
            is_in = in_step param_token rows found.pattern k
                (in_suffix (47 ∷ []) (step param_token rows) found.pattern k found.is_in);
            matches_path = rw e found.matches_path;
          }
      by_more false m e s = absurd (let f = sym
          (param_lost (step param_token rows) b path good_tails e s m) ∙ h in cc)

      by_slash : (v : Bool) → has_slash path ≡ v → b == 47 ≡ false → Finds rows (b ∷ path) k
      by_slash true s e = by_more (has_more (step param_token rows)) refl e s
      by_slash false s e = record {
        pattern = param_token ∷ [];
        is_in = in_step param_token rows [] k
            (own_in (step param_token rows) k
            (sym (param_last (step param_token rows) b path good_tails e s) ∙ h));
        matches_path = rw (e, no_rest path s) refl;
      }

      go : (v : Bool) → (b == 47) ≡ v → Finds rows (b ∷ path) k
      go true e = absurd (let f = sym (param_slash (step param_token rows) b path good_tails e)
          ∙ h in cc)
      go false e = by_slash (has_slash path) refl e

  sound : (n : ℕ) → Sound n
  sound n rows [] k short text good h = sound_end rows k h
  sound zero rows (b ∷ path) k short text good h = absurd (omega arith)
  sound (suc n) rows (b ∷ path) k short text good h =
      grind (arith, sound n, param_at, seek_is, sound_literal, sound_param)

  abbrev Complete : ℕ → Type 0
  Complete n = (rows : RowsOf K) (path : List ℕ) → length path ≤ n → ArePlain rows →
      seek 0 rows path ≡ None → FindsNone rows path

  complete_end : (rows : RowsOf K) → seek 0 rows [] ≡ None → FindsNone rows []
  complete_end rows h [] k i t = own_none rows k (sym (seek_end rows) ∙ h) i
  complete_end rows h (x ∷ s) k i t = cc

  -- both alternatives found nothing
  neither : (a c : Option K) → or_else a c ≡ None → (a ≡ None) × (c ≡ None)
  neither None c h = (refl, h)
  neither (Some k) c h = cc

  complete_param : (n : ℕ) → Complete n → (rows : RowsOf K) (b : ℕ) (path : List ℕ) →
      length path ≤ n → ArePlain rows → param_at (step param_token rows) b path ≡ None
      → (s : List ℕ) (k : K) → IsIn s k (step param_token rows) → b == 47 ≡ false →
      is_match s (rest_of_segment path) ≡ true → ⊥
  complete_param n more rows b path short good h s k i e t = go (has_slash path) refl s i t
    where
      good_tails : AreTails (step param_token rows)
      good_tails = tails_step rows good

      ends : (s rest : List ℕ) → rest ≡ [] → is_match s rest ≡ true → s ≡ []
      ends [] rest r t = refl
      ends (x ∷ s) rest r t = absurd (let f : false ≡ true = rw r at t in cc)

      begun : (rest : List ℕ) → 0 < length rest → is_match [] rest ≡ true → ⊥
      begun [] p t = omega arith
      begun (c ∷ rest) p t = cc

      go : (v : Bool) → has_slash path ≡ v → (s : List ℕ) → IsIn s k (step param_token rows) →
          is_match s (rest_of_segment path) ≡ true → ⊥
      go true slashed [] i t = begun (rest_of_segment path) (rest_some path slashed) t
      go true slashed (x ∷ s) i t =
          more (with_suffix (47 ∷ []) (step param_token rows)) (rest_of_segment path)
          (omega (arith, rest_shorter path))
          (plain_suffix (47 ∷ []) (step param_token rows) (plain_step param_token rows good))
          (sym (param_found (step param_token rows) b path good_tails e slashed
          (more_in (step param_token rows) x s k i)) ∙ h)
          (x ∷ s) k (suffix_in (step param_token rows) x s k good_tails i) t
      go false slashed s i t = grind (arith, ends, good_tails, no_rest, own_none, param_last)

  complete : (n : ℕ) → Complete n
  complete n rows [] short good h s k i t = complete_end rows h s k i t
  complete zero rows (b ∷ path) short good h s k i t =
      absurd (let none : suc (length path) ≤ 0 = short in omega arith)
  complete (suc n) rows (b ∷ path) short good h [] k i t = cc
  complete (suc n) rows (b ∷ path) short good h (x ∷ s) k i t = go (x == 256) refl (complete n)
    where
      none : (seek 0 (step b rows) path ≡ None) × (param_at (step param_token rows) b path ≡ None)
      none = neither _ _ (sym (seek_is rows b path good) ∙ h)

      go : (v : Bool) → (x == 256) ≡ v → Complete n → ⊥
      go true e more =
          let parts = and_parts _ _ (let t2 : (not (b == slash) && is_match s (rest_of_segment path))
          ≡ true = rw e at t in t2) in
          let open_byte : b == 47 ≡ false = not-true (b == 47) parts.0 in
          let i2 = subst (λ (z : ℕ). IsIn (z ∷ s) k rows) (eqb-true x 256 e) i in
          complete_param n more rows b path (omega arith) good none.1 s k
          (step_in param_token rows s k i2) open_byte parts.1
      go false e more = grind (arith, and_parts, eqb-true, none, plain_step, step_in)

  -- the row that `first` finds takes the path
  pub first_found : (rows : RowsOf K) (path : List ℕ) (k : K) → IsText path → ArePlain rows →
      first rows path ≡ Some k → Finds rows path k
  first_found rows path k text good h = sound (length path) rows path k (omega arith) text good h

  -- if it finds nothing, no row takes the path
  pub first_none : (rows : RowsOf K) (path : List ℕ) → ArePlain rows → first rows path ≡ None →
      FindsNone rows path
  first_none rows path good h = complete (length path) rows path (omega arith) good h
