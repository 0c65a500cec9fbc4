use Rattle.std.proofs.Common.{◌∙◌, sym, ap, Some}
use Rattle.clap.specs.Words.{found_of}
use Rattle.clap.proofs.WalkLemmas.{raw_values-rows}
use Rattle.office_program.proofs.check_all_words.values_of.Goals as goal

pub returns-in_ok-copies-in-Some-clause-ok : goal.returns-in_ok-copies-in-Some-clause-ok
returns-in_ok-copies-in-Some-clause-ok c =
    let found = found_of c.args.values.now in
    sym (raw_values-rows found c.args.id.now) ∙ sym c.in-Some.ensures
    ∙ ap Some (sym c.in_ok-copies-in-Some.ensures)
