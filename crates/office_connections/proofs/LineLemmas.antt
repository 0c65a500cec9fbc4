-- The lines of faults.
use Rattle.std.proofs.Common.{◌≡◌, ◌+◌, ℕ, ◌≤◌, List, [], ◌∷◌, ◌++◌, None, Option, Some, Bool}
use Rattle.std.proofs.Common.{true, false, Result, Ok, Err, refl, sym, subst, ◌∙◌, arith, inl, inr}
use Rattle.std.specs.Prelude.{OnErr, OnOk, is_ok, not}
use Rattle.std.specs.Int.{from_bool}
use Rattle.std.specs.Io.KnownBytes.{Appends, Keeps}
use Rattle.std.proofs.KnownBytes.{Appends-nil, Appends-trans}
use Rattle.office_messages.specs.declared.connection.ServeFault.{ServeFault}
use Rattle.office_output.specs.Writing.{WritesFront}
use Rattle.office_output.proofs.FrontLemmas.{front_first, front_rest, front_whole}
use Rattle.office_connections.specs.Lines.{PrintsLines, fault_line, fault_lines}

-- a front, if a call failed
pub on_err : {T E : Type 0} (r : Result T E) {old new : Option (List ℕ)} {text : List ℕ}
    → WritesFront old new text → OnErr r (WritesFront old new text)
on_err (Ok x) front = tt
on_err (Err e) front = front

-- a line is written in three pieces: only a front of the first was
pub first_piece : (old new : Option (List ℕ)) (a b c first : List ℕ) → first ≡ a
    → WritesFront old new first → WritesFront old new (a ++ b ++ c)
first_piece old new a b c first is x =
    front_first old new (a ++ b) c
    (front_first old new a b (subst (WritesFront old new) is x))

-- the first piece was, and a front of the second
pub second_piece : (old mid new : Option (List ℕ)) (a b c first second : List ℕ)
    → first ≡ a → second ≡ b → Appends old mid first → WritesFront mid new second
    → WritesFront old new (a ++ b ++ c)
second_piece old mid new a b c first second is too begun x =
    front_first old new (a ++ b) c
    (front_rest old mid new a b (subst (Appends old mid) is begun)
    (subst (WritesFront mid new) too x))

-- two pieces were, and a front of the third
pub third_piece : (old mid next new : Option (List ℕ)) (a b c first second : List ℕ)
    → first ≡ a → second ≡ b → Appends old mid first → Appends mid next second
    → WritesFront next new c → WritesFront old new (a ++ b ++ c)
third_piece old mid next new a b c first second is too begun more x =
    front_rest old next new (a ++ b) c
    (Appends-trans old mid next a b (subst (Appends old mid) is begun)
    (subst (Appends mid next) too more)) x

-- a line is written, and then flushed
pub line_flushed : (old mid new : Option (List ℕ)) (text : List ℕ) → Appends old mid text
    → Keeps mid new → WritesFront old new text
line_flushed None mid new text p q = front_whole None new text tt
line_flushed (Some x) None new text p q = absurd p
line_flushed (Some x) (Some y) None text p q = absurd q
line_flushed (Some x) (Some y) (Some z) text p q = front_whole (Some x) (Some z) text (q ∙ p)

-- some lines, followed by more
pub more_lines : (fs gs : List ServeFault) (n m : ℕ) (old mid new : Option (List ℕ))
    → PrintsLines fs n old mid → PrintsLines gs m mid new → PrintsLines (fs ++ gs) (n + m) old new
more_lines [] gs n m old mid new (none, same) more =
    subst (λ k. PrintsLines gs k old new) (let is : m ≡ n + m = omega (arith, none) in is)
    (subst (λ o. PrintsLines gs m o new) same more)
more_lines (f ∷ fs) gs n m old mid new (next, inl (whole, rest)) more =
    (next, inl (whole, more_lines fs gs n m next mid new rest more))
more_lines (f ∷ fs) gs n m old mid new (next, inr (fewer, is, front, rest)) more = (
  next,
  inr (
    fewer + m,
    omega (arith, is),
    front,
    more_lines fs gs fewer m next mid new rest more,
  ),
)

-- if each was written whole, they were appended
pub whole_lines : (fs : List ServeFault) (n : ℕ) (old new : Option (List ℕ))
    → PrintsLines fs n old new → n ≡ 0 → Appends old new (fault_lines fs)
whole_lines [] n old new (none, same) zero =
    subst (λ o. Appends old o []) (sym same) (Appends-nil old)
whole_lines (f ∷ fs) n old new (mid, inl (whole, rest)) zero =
    Appends-trans old mid new _ _ whole (whole_lines fs n mid new rest zero)
whole_lines (f ∷ fs) n old new (mid, inr (fewer, is, front, rest)) zero =
    absurd (omega (arith, is, zero))

-- one line, by the result of its writing
pub one_line : {T E : Type 0} (r : Result T E) (old new : Option (List ℕ)) (f : ServeFault)
    → OnOk r (Appends old new (fault_line f)) → OnErr r (WritesFront old new (fault_line f))
    → (b : Bool) → b ≡ is_ok r → PrintsLines (f ∷ []) (from_bool (not b)) old new
one_line (Ok x) old new f whole front true is = (new, inl (whole, (refl, refl)))
one_line (Ok x) old new f whole front false is = let never : false ≡ true = is in absurd cc
one_line (Err e) old new f whole front true is = let never : true ≡ false = is in absurd cc
one_line (Err e) old new f whole front false is = (new, inr (0, refl, front, (refl, refl)))

-- a line that was not written counts
pub counted : (b : Bool) (n : ℕ) → n ≡ from_bool (not b) → n ≤ 1
counted true n is = omega (arith, is)
counted false n is = omega (arith, is)
