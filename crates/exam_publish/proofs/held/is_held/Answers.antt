use Rattle.std.proofs.Common.{◌∙◌}
use Rattle.exam_publish.proofs.SearchLemmas.{held_found}
use Rattle.exam_publish.proofs.held.is_held.Goals as goal

pub returns : goal.returns
returns c = c.is_ok.ensures.value
    ∙ held_found c.args.held.now
    (record { period = c.args.place.now.period; room = c.args.place.now.room; seat = c.args.seat })
    c.binary_search.result c.requires c.binary_search.ensures.bound c.binary_search.ensures.position
