use Rattle.std.proofs.Common.{Result, Ok, Err, IfErr, refl}
use Rattle.std.proofs.Common.{◌≡◌, ◌∙◌, subst}
use Rattle.std.proofs.lemmas.Result.{err_from_is_err_and}
use Rattle.office_messages.specs.declared.connection.ServeFault.{ServeFault}
use Rattle.office_messages.specs.declared.connection.ServeFault.TheVariants.{Write}
use Rattle.office_messages.specs.Reply.{reply_text}
use Rattle.std.specs.Io.KnownBytes.{Appends}
use Rattle.office_output.specs.Writing.{WritesFront}
use Rattle.office_output.proofs.FrontLemmas.{front_first, front_rest}
use Rattle.office_messages.proofs.connection.send.Goals as goal

broken : {A : Type 0} (r : Result A ServeFault) (S T : Type 0) → (S → T)
    → IfErr r (λ fault. (fault ≡ Write) × S) → IfErr r (λ fault. (fault ≡ Write) × T)
broken (Ok a) S T step x = tt
broken (Err e) S T step x = (x.0, step x.1)

-- a front of the head is one of both
pub returns-in_err-write-clause-err : goal.returns-in_err-write-clause-err
unfolding reply_text
returns-in_err-write-clause-err g c =
    let p = err_from_is_err_and c.from_residual.result c.from_residual.ensures.1 in
    let failed = c.in_err-write.ensures.err in
    rw (p.1, p.2, failed.0) (
      refl,
      front_first _ _ _ _ (subst (WritesFront _ _)
          (c.deref-2.ensures.value ∙ c.put_head.ensures.text) failed.1),
    )

-- the same for the head, and a front of the body
pub returns-clause-err : goal.returns-clause-err
unfolding reply_text
returns-clause-err g c =
    broken c.write-3.result _ _
    (λ x. front_rest _ _ _ _ _
    (subst (Appends _ _) (c.deref-2.ensures.value ∙ c.put_head.ensures.text)
    c.in_ok-write.ensures.ok)
    (subst (WritesFront _ _) c.sent_body-body.ensures x)) c.write-3.ensures.err
