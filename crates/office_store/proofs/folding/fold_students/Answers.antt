use Rattle.std.proofs.Common.{rules, ◌≡◌, ◌∙◌, Err, IfErr, ap, arith, length, subst, sym}
use Rattle.office_model.specs.declared.fault.StoreFault.TheVariants.{Store}
use Rattle.office_store.proofs.FoldingLemmas.{fold_of, had_before, had_on, next_taken, not_more, read_on, read_taken, rise_on, same_on}
use Rattle.office_store.proofs.folding.fold_students.Goals as goal

pub returns-in_err-exams-clause-fault : goal.returns-in_err-exams-clause-fault
returns-in_err-exams-clause-fault g c E had =
    let is : c.from_residual.result ≡ Err c.in_err-exams.field-0.0 = search rules in
    subst (λ r. IfErr r (λ e. e ≡ Store)) (sym is)
    (c.in_err-exams.ensures.fault E
    (had_on c.each.invariant.read c.each.invariant.same c.read_exams.ensures.leaves.read E had))

pub returns-in_err-count-clause-fault : goal.returns-in_err-count-clause-fault
returns-in_err-count-clause-fault g c E had =
    let inv = c.each.invariant in
    let own_rows = c.in_ok-exams.ensures.exams E
    (had_on inv.read inv.same c.read_exams.ensures.leaves.read E had) in
    let few = not_more inv.taken c.in-Some.ensures.cases.0 c.requires.ascending had
    (had_before inv.read inv.same c.read_exams.ensures.leaves.read E had)
    (c.deref.ensures.value ∙ own_rows) in
    absurd (omega (arith, few, c.in_err-count.ensures.err.1))

pub fold_exams-requires-clause-room : goal.fold_exams-requires-clause-room
fold_exams-requires-clause-room g c =
    next_taken c.deref-in-Some.result.now c.each.invariant.taken c.in-Some.ensures.cases.0
    (omega (
      arith,
      c.in_ok-count.ensures.ok.0,
      c.in_ok-count.ensures.ok.1,
      ap length c.deref.ensures.value,
      ap length c.deref-in-Some.ensures.value,
    ))

pub each-preserved : goal.each-preserved
each-preserved g c =
    let inv = c.each.invariant in
    let is = c.in-Some.ensures.cases.0 in
    let read = c.read_exams.ensures.leaves.read in
    record {
      taken = read_taken inv.taken is inv.up c.deref.ensures.value c.deref-in-Some.ensures.value
          c.in_ok-count.ensures.ok.0 c.in_ok-count.ensures.ok.1 c.in_ok-fold_exams.ensures.represents
          (had_before inv.read inv.same read)
          (λ E had. c.in_ok-exams.ensures.exams E (had_on inv.read inv.same read E had));
      up = rise_on is inv.up;
      of = fold_of c.fold_exams.ensures.of inv.of;
      read = read_on inv.read inv.same read;
      same = same_on inv.read inv.same read c.in_ok-exams.ensures.leaves.same;
    }
