use Rattle.exam_lists.proofs.Options.{IfSome_of_same}
use Rattle.office_check.proofs.checking.instance_of.Goals as goal

pub returns-clause-reading : goal.returns-clause-reading
returns-clause-reading g c =
    IfSome_of_same _ _ _ _ c.in_ok-text.ensures.whole c.deref.ensures.value
    c.in_ok-read_instance.ensures.reading

pub returns-clause-spelled : goal.returns-clause-spelled
returns-clause-spelled g c = (c.deref.result.now, c.in_ok-read_instance.ensures.reading)
