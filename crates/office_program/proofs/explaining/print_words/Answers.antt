use Rattle.std.proofs.Common.{Err, List, Ok, OnErr, Option, Result, subst, ℕ}
use Rattle.std.proofs.lemmas.Result.{on_err_weaker}
use Rattle.std.specs.Io.KnownBytes.{Appends}
use Rattle.office_output.specs.Writing.{WritesFront}
use Rattle.office_output.proofs.FrontLemmas.{front_first, front_rest}
use Rattle.office_program.proofs.explaining.print_words.Goals as goal

-- a front, if a call failed
on_err : {T E : Type 0} (r : Result T E) {old new : Option (List ℕ)} {text : List ℕ}
    → WritesFront old new text → OnErr r (WritesFront old new text)
on_err (Ok x) front = tt
on_err (Err e) front = front

-- a front of the words, or the words and a front of the line's end
pub returns-in_err-write_text-clause-err : goal.returns-in_err-write_text-clause-err
returns-in_err-write_text-clause-err g c = on_err _ (front_first _ _ _ _
    (subst (WritesFront _ _) c.as_bytes.ensures.value c.in_err-write_text.ensures.err))

pub returns-clause-err : goal.returns-clause-err
returns-clause-err g c = on_err_weaker c.write_text-2.result
    (λ x. front_rest _ _ _ _ _
    (subst (Appends _ _) c.as_bytes.ensures.value c.in_ok-write_text.ensures.ok) x)
    c.write_text-2.ensures.err
