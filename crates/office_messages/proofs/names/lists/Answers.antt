use Rattle.std.proofs.Common.{rules, tests}
use Rattle.std.proofs.lemmas.Iterator.Consumers.{YieldsList-from_first}
use Rattle.std.proofs.lemmas.Iterator.Search.{any_from_yields_List}
use Rattle.office_messages.specs.Names.{same_name, names_left}
use Rattle.office_messages.proofs.names.lists.Goals as goal

pub returns : goal.returns
returns c =
    any_from_yields_List (λ e. same_name e c.args.name.now) _ _ _ c.any.ensures.ran
    (YieldsList-from_first (λ x. x.now) names_left _ c.of.ensures)
    (λ x b q k. search (rules, tests))
