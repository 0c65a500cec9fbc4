use Rattle.office_messages.proofs.RunLemmas.{lent_serves, lent_serves_front}
use Rattle.office_connections.proofs.serving.answer_paced.Goals as goal

pub returns : goal.returns
returns g c = record {
  ok = lent_serves (λ m. m.machine.ghost_name) (λ m. m.machine.now) g.M.Machine.Answers _ _ _ _ _ _
      c.machine-1.given.1 c.serve.result c.serve.ensures.ok;
  err = lent_serves_front (λ m. m.machine.ghost_name) (λ m. m.machine.now) g.M.Machine.Answers
      _ _ _ _ _ _ c.machine-1.given.1 c.serve.result c.serve.ensures.err;
}
