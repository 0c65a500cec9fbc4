use Rattle.std.proofs.Common.{◌∙◌, sym, ap, Some}
use Rattle.clap.specs.Words.{found_of}
use Rattle.clap.proofs.WalkLemmas.{first_value-rows}
use Rattle.office_program.proofs.words.value_of.Goals as goal

pub returns-in_ok-from_str-in-Some-clause-ok : goal.returns-in_ok-from_str-in-Some-clause-ok
returns-in_ok-from_str-in-Some-clause-ok c =
    let found = found_of c.args.values.now in
    sym (first_value-rows found c.args.id.now) ∙ sym c.in-Some.ensures
    ∙ ap Some (sym c.in_ok-from_str-in-Some.ensures.ok)
