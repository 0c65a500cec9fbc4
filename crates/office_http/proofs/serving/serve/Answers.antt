use Rattle.std.proofs.Common.{[], refl, rules}
use Rattle.std.proofs.KnownBytes.{Appends-nil}
use Rattle.office_messages.proofs.RunLemmas.{lent_serves, lent_serves_front}
use Rattle.office_http.specs.Replying.{Answered}
use Rattle.office_http.proofs.IsolationLemmas.{serves_by_view}
use Rattle.office_http.proofs.ServingLemmas.{serves_leads, serves_front_leads}
use Rattle.office_http.proofs.serving.serve.Goals as goal

pub returns-clause-ok : goal.returns-clause-ok
returns-clause-ok g c =
    serves_leads g.S.Store _ _ _ _ _ c.serve.result
    (lent_serves (λ m. m.desk.ghost_name) (λ m. m.desk.now) (Answered g.S.Store) _ _ _ _ _ _
    c.desk-1.given.1 c.serve.result c.serve.ensures.ok)

pub returns-clause-view : goal.returns-clause-view
returns-clause-view g c =
    serves_by_view g.S.Store _ _ _ _ _ c.serve.result
    (lent_serves (λ m. m.desk.ghost_name) (λ m. m.desk.now) (Answered g.S.Store) _ _ _ _ _ _
    c.desk-1.given.1 c.serve.result c.serve.ensures.ok)

pub returns-clause-err : goal.returns-clause-err
returns-clause-err g c =
    serves_front_leads g.S.Store _ _ _ _ _ c.serve.result
    (lent_serves_front (λ m. m.desk.ghost_name) (λ m. m.desk.now) (Answered g.S.Store) _ _ _ _ _ _
    c.desk-1.given.1 c.serve.result c.serve.ensures.err)

-- no message was answered
pub returns-in_default-clause-answered : goal.returns-in_default-clause-answered
returns-in_default-clause-answered g c = (
  tt,
  record {
    items = [];
    output = [];
    begins = search rules;
    trace = (refl, refl);
    written = λ other. Appends-nil _;
    broken = λ is. absurd cc;
  },
)

pub returns-clause-answered : goal.returns-clause-answered
returns-clause-answered g c = (
  lent_serves (λ m. m.desk.ghost_name) (λ m. m.desk.now) (Answered g.S.Store) _ _ _ _ _ _
      c.desk-1.given.1 c.serve.result c.serve.ensures.ok,
  lent_serves_front (λ m. m.desk.ghost_name) (λ m. m.desk.now) (Answered g.S.Store) _ _ _ _ _ _
      c.desk-1.given.1 c.serve.result c.serve.ensures.err,
)
