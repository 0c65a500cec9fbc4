use Rattle.std.proofs.Common.{◌∙◌, length, sym}
use Rattle.std.proofs.lemmas.List.{take-map}
use Rattle.office_tables.proofs.running.run_with.Goals as goal

pub returns-clause-ran : goal.returns-clause-ran
returns-clause-ran g c =
    let count = length c.args.numbers.now in
    rw (sym (take-map _ count c.parameters-params.result) ∙ c.parameters-params.ensures) at c.run.ensures.ran
