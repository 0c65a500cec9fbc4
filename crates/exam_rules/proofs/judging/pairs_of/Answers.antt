use Rattle.std.proofs.Common.{rules}
use Rattle.exam_rules.proofs.judging.pairs_of.Goals as goal

pub returns-in-Duration : goal.returns-in-Duration
returns-in-Duration c = search (rules, c.duration_pairs.ensures c.args.site.now.enrolments.now)

pub returns-in-After : goal.returns-in-After
returns-in-After c = search (rules, c.after_pairs.ensures c.args.site.now.enrolments.now)

pub returns-in-Exclusion : goal.returns-in-Exclusion
returns-in-Exclusion c = search (rules, c.exclusion_pairs.ensures c.args.site.now.enrolments.now)

pub returns-in-RoomExclusive : goal.returns-in-RoomExclusive
returns-in-RoomExclusive c =
    search (rules, c.exclusive_pairs.ensures c.args.site.now.enrolments.now)
