use Rattle.std.proofs.Common.{◌∙◌}
use Rattle.std.proofs.lemmas.Result.{on_err_weaker}
use Rattle.office_connections.proofs.LineLemmas.{first_piece, on_err, second_piece, third_piece}
use Rattle.office_connections.proofs.lines.write_numbered.Goals as goal

pub returns-in_err-write_text-clause-err : goal.returns-in_err-write_text-clause-err
returns-in_err-write_text-clause-err g c = on_err _
    (first_piece _ _ _ _ _ _ c.as_bytes.ensures.value c.in_err-write_text.ensures.err)

pub returns-in_err-write_text-2-clause-err : goal.returns-in_err-write_text-2-clause-err
returns-in_err-write_text-2-clause-err g c = on_err _
    (second_piece _ _ _ _ _ _ _ _ c.as_bytes.ensures.value
    (c.as_bytes-2.ensures.value ∙ c.format.ensures.text)
    c.in_ok-write_text.ensures.ok c.in_err-write_text-2.ensures.err)

pub returns-clause-err : goal.returns-clause-err
returns-clause-err g c = on_err_weaker c.write_text-3.result
    (λ x. third_piece _ _ _ _ _ _ _ _ _ c.as_bytes.ensures.value
    (c.as_bytes-2.ensures.value ∙ c.format.ensures.text)
    c.in_ok-write_text.ensures.ok c.in_ok-write_text-2.ensures.ok x)
    c.write_text-3.ensures.err
