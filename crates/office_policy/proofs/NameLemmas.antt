-- The text after a word.
use Rattle.std.proofs.Common.{◌≡◌, ◌≢◌, ℕ, Bool, true, false, List, [], ◌∷◌, ◌++◌}
use Rattle.std.proofs.Common.{Option, Some, None, MatchOption, refl, sym}
use Rattle.std.specs.Prelude.{◌==◌, option_copied}
use Rattle.std.proofs.Common.{Bor}
use Rattle.std.proofs.lemmas.Bool.{eq-eqb, eqb-true}
use Rattle.office_policy.specs.Callers.{text_after_word}

-- after a word at the front comes the rest
pub text_after_word-append : (word rest : List ℕ) → text_after_word word (word ++ rest) ≡ Some rest
text_after_word-append [] rest = refl
text_after_word-append (w ∷ word) rest = rw (eq-eqb w w refl) (text_after_word-append word rest)

-- if there is a text after a word, the word is at the front
text_after_word-some : (word text rest : List ℕ) → text_after_word word text ≡ Some rest → text
    ≡ word ++ rest
text_after_word-some [] text rest e = cc
text_after_word-some (w ∷ word) [] rest e = cc
text_after_word-some (w ∷ word) (b ∷ text) rest e = go (w == b) refl
    (text_after_word-some word text rest)
  where
    go : (v : Bool) → (w == b) ≡ v → (text_after_word word text ≡ Some rest → text ≡ word ++ rest) →
        b ∷ text ≡ w ∷ (word ++ rest)
    go true same more = let first = eqb-true w b same in let others = more (rw same at e) in cc
    go false other more =
        absurd (let none : ◌≡◌ {A = Option (List ℕ)} None (Some rest) = rw other at e in cc)

-- if the word isn't at the front, there is no text after it
pub text_after_word-none : (word text : List ℕ) → ((rest : List ℕ) → text ≢ word ++ rest) →
    text_after_word word text ≡ None
text_after_word-none word text other = go (text_after_word word text) refl
  where
    go : (o : Option (List ℕ)) → text_after_word word text ≡ o → text_after_word word text ≡ None
    go None e = e
    go (Some rest) e = absurd (other rest (text_after_word-some word text rest e))

-- the result of removing a word from the front
pub stripped : (word text : List ℕ) (r : Option (Bor (List ℕ))) →
    MatchOption r ((rest : List ℕ) → text ≢ word ++ rest) (λ x. text ≡ word ++ x.now) →
    option_copied r ≡ text_after_word word text
stripped word text None h = sym (text_after_word-none word text h)
stripped word text (Some x) h = rw h (sym (text_after_word-append word x.now))
