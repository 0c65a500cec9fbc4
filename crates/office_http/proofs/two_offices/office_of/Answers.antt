use Rattle.std.proofs.Common.{◌∙◌, [], ◌∷◌, arith, ap, length, length-append, get_or, subst, sym}
use Rattle.sqlite.specs.Held.{state}
use Rattle.sqlite.specs.Steps.{over_memory}
use Rattle.office_store.specs.Running.{Represents}
use Rattle.office_http.specs.TwoOffices.{office_of}
use Rattle.office_http.proofs.TwoOfficesLemmas.{office_of_more}
use Rattle.office_http.proofs.two_offices.office_of.Goals as goal

pub loop-request-init : goal.loop-request-init
loop-request-init c = record {
  led = subst (λ office. Represents (state over_memory office)
      (office_of c.new-missed.result.items c.args.requests.now)) (sym c.new-desk.ensures)
      (rw c.new-missed.ensures.items c.in_ok-new_office.ensures);
  all = ap length c.new-missed.ensures.items;
}

pub loop-request-preserved : goal.loop-request-preserved
loop-request-preserved c =
    let requests = c.args.requests.now in
    let missed = c.loop-request.missed.items in
    let b = c.send-is_missed.result in
    record {
      led = subst (λ o. Represents (state over_memory c.send-is_missed.new.desk) o)
          (sym (office_of_more missed requests b c.loop-request.request-index _
          c.loop-request.invariant.all (omega arith))
          ∙ ap (λ items. office_of items requests) (sym c.in_ok-note.ensures))
          (c.send-is_missed.ensures _ c.loop-request.invariant.led);
      all = ap length c.in_ok-note.ensures ∙ length-append missed (b ∷ [])
          ∙ omega (arith, c.loop-request.invariant.all);
    }

pub returns : goal.returns
returns c = record {
  led = subst (λ office. Represents (state over_memory office)
      (office_of c.loop-request.missed.items c.args.requests.now))
      (sym c.into_office.ensures) c.loop-request.invariant.led;
  all = omega (arith, c.loop-request.invariant.all);
}
