use Rattle.std.proofs.Common.{◌∙◌, ap, sym, Some}
use Rattle.std.specs.Prelude.{option_map}
use Rattle.office_requests.specs.Bodies.{count}
use Rattle.office_requests.proofs.BodyLemmas.{count_view}
use Rattle.office_requests.proofs.bodies.members_count.Goals as goal

pub returns : goal.returns
returns c =
    ap Some (c.len.ensures.len ∙ sym (count_view c.in_ok-as_object.field-0.now.entries))
    ∙ ap (option_map count) c.in_ok-as_object.ensures
