use Rattle.std.proofs.Common.{arith}
use Rattle.std.proofs.lemmas.Grind.{common_steps}
use Rattle.office_tables.proofs.Gathered.{now_unread, one_gathered, still_unread}
use Rattle.office_tables.proofs.streaming.with_row.Goals as goal

pub returns-in_default : goal.returns-in_default
returns-in_default g c rows is =
    still_unread g.R.Record.fits g.R.Record.columns_of g.R.Record.WIDTH rows c.args.row.now
    (rw c.in_default.is at is)

pub returns-in-Err : goal.returns-in-Err
returns-in-Err g c rows is = grind (arith, common_steps, now_unread)

pub returns : goal.returns
returns g c rows is = grind (arith, common_steps, one_gathered)
