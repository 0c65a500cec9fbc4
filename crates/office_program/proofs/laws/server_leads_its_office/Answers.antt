use Rattle.office_program.proofs.ServerFacts.{leads}
use Rattle.office_program.proofs.laws.server_leads_its_office.Goals as goal

pub returns : goal.returns
returns g c old new words end path terms before after there run asks was now clean is =
    leads g.K.Store.Store _ g.K.Err.Lines g.K.Err.Write.contents old new path terms before after there was
    now clean is words end run asks
