use Rattle.office_messages.specs.Heads.{plain_request}
use Rattle.office_messages.specs.Reply.{plain_reply}
use Rattle.office_http.specs.TwoOffices.{office_of}
use Rattle.office_http.proofs.TwoOfficesLemmas.{alike}
use Rattle.office_http.proofs.two_offices.ask_two_offices.Goals as goal

pub returns-clause-text : goal.returns-clause-text
returns-clause-text c = (
  rw c.in_ok-said.ensures.kept (c.in_ok-said.ensures.text _ c.in_ok-one.ensures.led),
  rw c.in_ok-answered.ensures.kept (c.in_ok-answered.ensures.text _ c.in_ok-other.ensures.led),
)

pub returns-clause-same : goal.returns-clause-same
returns-clause-same c =
    alike (office_of c.in_ok-said.said.missed.items c.args.first.now)
    (office_of c.in_ok-answered.answered.missed.items c.args.second.now)
    (plain_request c.args.asked.now) (plain_reply c.in_ok-said.said.reply)
    (plain_reply c.in_ok-answered.answered.reply)
    (rw c.in_ok-said.ensures.kept (c.in_ok-said.ensures.text _ c.in_ok-one.ensures.led))
    (rw c.in_ok-answered.ensures.kept (c.in_ok-answered.ensures.text _ c.in_ok-other.ensures.led))

pub returns-clause-add_up : goal.returns-clause-add_up
returns-clause-add_up c = (
  rw c.in_ok-said.ensures.kept (c.in_ok-said.ensures.add_up _ c.in_ok-one.ensures.led),
  rw c.in_ok-answered.ensures.kept (c.in_ok-answered.ensures.add_up _ c.in_ok-other.ensures.led),
)
