use Rattle.std.proofs.Common.{arith, sym, ◌∙◌}
use Rattle.std.specs.Str.Parse.{ExplainsUnsignedError, HasUnsignedDigitsIfOk, ParsesUnsigned}
use Rattle.clap.specs.Words.{found_of}
use Rattle.clap.proofs.WalkLemmas.{one_text-rows}
use Rattle.office_program.proofs.NumberLemmas.{read_number}
use Rattle.office_program.proofs.words.number_of.Goals as goal

pub returns-in-Some-clause-ok : goal.returns-in-Some-clause-ok
returns-in-Some-clause-ok c =
    let read = read_number (λ bs r. ParsesUnsigned 32 10 bs r × ExplainsUnsignedError 10 bs r
    × HasUnsignedDigitsIfOk bs r) 32 (λ t r gives. gives.0) _ c.get_one.result
    c.get_one.ensures.none c.get_one.ensures.value _ c.in-Some.is in (
      (
        read.0,
        sym (one_text-rows (found_of c.args.values.now) c.args.id.now) ∙ read.1,
        read.2,
        read.3,
      ),
      omega arith,
      omega arith,
    )
