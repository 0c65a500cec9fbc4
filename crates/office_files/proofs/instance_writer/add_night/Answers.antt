use Rattle.std.proofs.Common.{◌++◌, ◌∙◌, ap, sym, arith, append-nil, string_bytes}
use Rattle.std.proofs.lemmas.Result.{on_ok_weaker}
use Rattle.office_files.proofs.CanonicalSteps.{night_line, no_night_line}
use Rattle.office_files.proofs.instance_writer.add_night.Goals as goal

pub returns-then-weight-eq0 : goal.returns-then-weight-eq0
returns-then-weight-eq0 c =
    sym (append-nil (string_bytes c.args.text.now))
    ∙ ap (λ line. string_bytes c.args.text.now ++ line)
    (sym (no_night_line c.args.weight c.if-weight-eq0.true))

pub returns : goal.returns
returns c =
    on_ok_weaker c.add_weighting.result
    (λ written. written ∙ ap (λ line. string_bytes c.args.text.now ++ line)
    (sym (night_line c.args.weight (omega (arith, c.if-weight-eq0.false)))))
    c.add_weighting.ensures
