use Rattle.office_http.proofs.ClientLemmas.{all_quiet_by_view, two_quiet}
use Rattle.office_program.proofs.laws.same_view_same_servers.Goals as goal

pub returns : goal.returns
returns g c s port other_port ports_old ports_new others_old others_new after last there elsewhere one
    other same quiet also = (
      two_quiet s one.visits other.visits there one.next elsewhere other.next one.served.0
          other.served.0 same quiet also,
      all_quiet_by_view s one.visits there one.next one.served.0 quiet,
    )
