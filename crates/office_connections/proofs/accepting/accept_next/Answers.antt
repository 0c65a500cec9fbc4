use Rattle.std.proofs.Common.{[], refl, subst, sym}
use Rattle.std.specs.Int.{from_bool}
use Rattle.std.specs.Prelude.{not}
use Rattle.office_messages.specs.Visits.{with_fault}
use Rattle.office_connections.specs.Lines.{PrintsLines}
use Rattle.office_connections.proofs.LineLemmas.{one_line}
use Rattle.office_connections.proofs.accepting.accept_next.Goals as goal

-- a connection that ended without a fault has no line
pub returns-in-Ok : goal.returns-in-Ok
returns-in-Ok g c =
    let client = c.in_ok-from in
    let served = c.answer_client-served in
    record {
      some = (
        record {
          input = g.R.Read.remaining client.from;
          before = g.W.Write.contents client.to;
          after = g.W.Write.contents served.result.1;
          ended = served.result.0;
        },
        record {
          from = client.from;
          to = client.to;
          during = _;
          accepted = client.ensures;
          input = refl;
          before = refl;
          written = served.result.1;
          back = c.hand_back.ensures;
          after = refl;
        },
        (served.ensures.ok, served.ensures.err),
        subst (λ ended. PrintsLines (with_fault ended []) 0 (g.E.Write.contents c.args.err.now)
            (g.E.Write.contents c.args.err.now)) (sym c.in-Ok.is) (refl, refl),
      );
      none = tt;
    }

-- the line of a connection that ended with a fault was printed
pub returns-in-Err : goal.returns-in-Err
returns-in-Err g c =
    let client = c.in_ok-from in
    let served = c.answer_client-served in
    record {
      some = (
        record {
          input = g.R.Read.remaining client.from;
          before = g.W.Write.contents client.to;
          after = g.W.Write.contents served.result.1;
          ended = served.result.0;
        },
        record {
          from = client.from;
          to = client.to;
          during = _;
          accepted = client.ensures;
          input = refl;
          before = refl;
          written = served.result.1;
          back = c.hand_back.ensures;
          after = refl;
        },
        (served.ensures.ok, served.ensures.err),
        subst (λ ended. PrintsLines (with_fault ended []) (from_bool (not c.is_ok.result))
            (g.E.Write.contents c.args.err.now) (g.E.Write.contents c.print_fault.new.err))
            (sym c.in-Err.is)
            (one_line _ _ _ _ c.print_fault.ensures.ok c.print_fault.ensures.err _
            c.is_ok.ensures.value),
      );
      none = tt;
    }
