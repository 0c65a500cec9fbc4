use Rattle.std.proofs.Common.{◌∙◌, ◌++◌, ◌∷◌, [], ap}
use Rattle.serde_json.specs.Written.{compact_text, has_float}
use Rattle.office_check.proofs.JsonFacts.{no_float}
use Rattle.office_check.proofs.judging.Verdict.json_line.Goals as goal

pub returns : goal.returns
returns c =
    let value = c.in_ok-json_value.ensures in
    c.in_ok-push_str.ensures.bytes
    ∙ ap (λ text. text ++ 10 ∷ []) (c.in_ok-text.ensures.text
    (ap has_float value ∙ no_float c.args.path.now c.args.self.now) ∙ ap compact_text value)
