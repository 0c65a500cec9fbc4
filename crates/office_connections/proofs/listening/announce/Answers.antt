use Rattle.office_connections.proofs.LineLemmas.{line_flushed, on_err}
use Rattle.office_connections.proofs.listening.announce.Goals as goal

pub returns-in_err-write_numbered-clause-err : goal.returns-in_err-write_numbered-clause-err
returns-in_err-write_numbered-clause-err g c = on_err _ c.in_err-write_numbered.ensures.err

-- the flush failed
pub returns-clause-err : goal.returns-clause-err
returns-clause-err g c = on_err _
    (line_flushed _ _ _ _ c.in_ok-write_numbered.ensures.ok c.flush.ensures.bytes)
