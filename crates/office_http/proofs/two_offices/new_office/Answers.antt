use Rattle.sqlite.proofs.Callers.{memory_is_clean}
use Rattle.office_http.proofs.two_offices.new_office.Goals as goal

pub returns-in-Ok-create : goal.returns-in-Ok-create
returns-in-Ok-create c = λ is_open.
    c.in-Ok-create.ensures.made (memory_is_clean c.in-Ok-create.office)
