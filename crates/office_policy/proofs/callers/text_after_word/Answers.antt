use Rattle.std.proofs.lemmas.Bool.Decides.{Decides-eqb}
use Rattle.std.proofs.lemmas.Slice.Eq.{strip_prefix_is}
use Rattle.office_policy.proofs.NameLemmas.{stripped}
use Rattle.office_policy.proofs.callers.text_after_word.Goals as goal

pub returns : goal.returns
returns c =
    let word = c.args.word.now in
    let name = c.args.name.now in
    stripped word name c.strip_prefix.result
    (strip_prefix_is Decides-eqb name word c.strip_prefix.result c.strip_prefix.ensures.cases)
