use Rattle.std.proofs.Common.{◌≡◌, ◌∙◌, ◌<◌, false, sym, arith}
use Rattle.exam_lists.proofs.Booleans.{false_from_not, true_from_not}
use Rattle.exam_lists.proofs.Results.{OnErr_any}
use Rattle.exam_model.specs.Enrolments.{has_number}
use Rattle.exam_model.proofs.CountLemmas.{set_again, counted_again, one_more_fits, is_has, full_refuses, adds_entered, pair_entered, counted_new, counted_old}
use Rattle.exam_model.proofs.enrolments.Enrolments.add.Goals.{else-full-via-then-full+else-not-has, else-full-via-else-full}
use Rattle.exam_model.proofs.enrolments.Enrolments.add.Goals as goal

pub invariant_of-self : goal.invariant_of-self
invariant_of-self c = (c.self.invariant.0, tt)

pub returns-in_default-clause-err : goal.returns-in_default-clause-err
returns-in_default-clause-err c = c.self.view_is

pub returns-in_default-clause-kept : goal.returns-in_default-clause-kept
returns-in_default-clause-kept c = c.self.invariant.0.0

pub invariant_of-self-then-not-has : goal.invariant_of-self-then-not-has
invariant_of-self-then-not-has c = (
  counted_again c.self.inside.rolls.items c.get.result c.self.inside.pairs c.in-Some.roll.now
      c.in-Some.ensures.item.3.0 c.in-Some.ensures.value c.self.invariant.0,
  tt,
)

pub returns-then-not-has-clause-err : goal.returns-then-not-has-clause-err
returns-then-not-has-clause-err c =
    set_again c.self.inside.rolls.items c.get.result c.in-Some.roll.now
    c.in-Some.ensures.item.3.0 c.in-Some.ensures.value
    ∙ c.self.view_is

pub returns-then-not-has-clause-kept : goal.returns-then-not-has-clause-kept
returns-then-not-has-clause-kept c = (invariant_of-self-then-not-has c).0.0

pub returns-then-not-has-clause-refused : goal.returns-then-not-has-clause-refused
returns-then-not-has-clause-refused c =
    rw (← c.self.view_is, ← c.get.ensures)
    (full_refuses c.self.inside.rolls.items c.get.result c.args.student c.self.inside.pairs
    c.in-Some.roll.now c.in-Some.ensures.item.3.0 c.in-Some.ensures.value c.if-not-has.ensures
    c.if-full.true c.self.invariant.0)

pub invariant_of-self-in_err-fresh : goal.invariant_of-self-in_err-fresh
invariant_of-self-in_err-fresh c = (
  rw c.in_err-fresh.ensures.err
      (counted_again c.self.inside.rolls.items c.get.result c.self.inside.pairs c.in-Some.roll.now
      c.in-Some.ensures.item.3.0 c.in-Some.ensures.value c.self.invariant.0),
  tt,
)

pub returns-in_err-fresh-clause-err : goal.returns-in_err-fresh-clause-err
returns-in_err-fresh-clause-err c =
    OnErr_any c.from_residual.result
    (rw c.in_err-fresh.ensures.err
    (set_again c.self.inside.rolls.items c.get.result c.in-Some.roll.now
    c.in-Some.ensures.item.3.0 c.in-Some.ensures.value)
    ∙ c.self.view_is)

pub returns-in_err-fresh-clause-kept : goal.returns-in_err-fresh-clause-kept
returns-in_err-fresh-clause-kept c = (invariant_of-self-in_err-fresh c).0.0

pub overflow_add-self : goal.overflow_add-self
overflow_add-self c = one_more_fits c.self.inside.rolls.items c.self.inside.pairs c.self.invariant.0

-- no pair is added if there are 200,000: the student would have to be there too
pub invariant_of-self-then-fresh : goal.invariant_of-self-then-fresh
invariant_of-self-then-fresh c =
    let absent : has_number c.in-Some.roll.now c.args.student ≡ false =
    false_from_not c.in_ok-fresh.fresh _ c.in_ok-fresh.ensures.fresh c.if-fresh.true in
    let room : c.self.inside.pairs < 200000 = elim c.else-full.branch [
      | else-full-via-then-full+else-not-has w ↦
          let present = sym w.has.ensures ∙ w.if-not-has.false in absurd (cc)
      | else-full-via-else-full w ↦ w.if-full.false
    ] in (
      counted_new c.self.inside.rolls.items c.get.result c.args.student c.self.inside.pairs
          c.in-Some.roll.now c.add.new.self c.in-Some.ensures.item.3.0
          (omega (arith, c.lemma_limit.ensures))
          c.in-Some.ensures.value c.in_ok-fresh.ensures.ok absent room c.self.invariant.0,
      tt,
    )

pub invariant_of-self-else-fresh : goal.invariant_of-self-else-fresh
invariant_of-self-else-fresh c = (
  counted_old c.self.inside.rolls.items c.get.result c.args.student c.self.inside.pairs
      c.in-Some.roll.now c.add.new.self c.in-Some.ensures.item.3.0
      (omega (arith, c.lemma_limit.ensures))
      c.in-Some.ensures.value c.in_ok-fresh.ensures.ok
      (true_from_not c.in_ok-fresh.fresh _ c.in_ok-fresh.ensures.fresh c.if-fresh.false)
      c.self.invariant.0,
  tt,
)

pub returns-then-fresh-clause-fresh : goal.returns-then-fresh-clause-fresh
returns-then-fresh-clause-fresh c =
    rw (← c.self.view_is, ← c.get.ensures)
    (rw (← is_has c.self.inside.rolls.items c.get.result c.args.student c.in-Some.roll.now
    c.in-Some.ensures.item.3.0 c.in-Some.ensures.value) c.in_ok-fresh.ensures.fresh)

pub returns-then-fresh-clause-exists : goal.returns-then-fresh-clause-exists
returns-then-fresh-clause-exists c =
    rw (← c.self.view_is, ← c.get.ensures) c.in-Some.ensures.item.3.0

pub returns-then-fresh-clause-ok : goal.returns-then-fresh-clause-ok
returns-then-fresh-clause-ok c =
    rw (← c.self.view_is, ← c.get.ensures)
    (adds_entered c.self.inside.rolls.items c.get.result c.args.student c.in-Some.roll.now
    c.add.new.self c.in-Some.ensures.item.3.0 c.in-Some.ensures.value c.in_ok-fresh.ensures.ok)

pub returns-then-fresh-clause-pair : goal.returns-then-fresh-clause-pair
returns-then-fresh-clause-pair c =
    rw (← c.self.view_is, ← c.get.ensures)
    (pair_entered c.self.inside.rolls.items c.get.result c.args.student c.self.inside.pairs
    c.in-Some.roll.now c.add.new.self c.in-Some.ensures.item.3.0 c.in-Some.ensures.value
    c.in_ok-fresh.ensures.ok c.self.invariant.0)

pub returns-then-fresh-clause-kept : goal.returns-then-fresh-clause-kept
returns-then-fresh-clause-kept c = (invariant_of-self-then-fresh c).0.0

pub returns-else-fresh-clause-fresh : goal.returns-else-fresh-clause-fresh
returns-else-fresh-clause-fresh c =
    rw (← c.self.view_is, ← c.get.ensures)
    (rw (← is_has c.self.inside.rolls.items c.get.result c.args.student c.in-Some.roll.now
    c.in-Some.ensures.item.3.0 c.in-Some.ensures.value) c.in_ok-fresh.ensures.fresh)

pub returns-else-fresh-clause-exists : goal.returns-else-fresh-clause-exists
returns-else-fresh-clause-exists c =
    rw (← c.self.view_is, ← c.get.ensures) c.in-Some.ensures.item.3.0

pub returns-else-fresh-clause-ok : goal.returns-else-fresh-clause-ok
returns-else-fresh-clause-ok c =
    rw (← c.self.view_is, ← c.get.ensures)
    (adds_entered c.self.inside.rolls.items c.get.result c.args.student c.in-Some.roll.now
    c.add.new.self c.in-Some.ensures.item.3.0 c.in-Some.ensures.value c.in_ok-fresh.ensures.ok)

pub returns-else-fresh-clause-pair : goal.returns-else-fresh-clause-pair
returns-else-fresh-clause-pair c =
    rw (← c.self.view_is, ← c.get.ensures)
    (pair_entered c.self.inside.rolls.items c.get.result c.args.student c.self.inside.pairs
    c.in-Some.roll.now c.add.new.self c.in-Some.ensures.item.3.0 c.in-Some.ensures.value
    c.in_ok-fresh.ensures.ok c.self.invariant.0)

pub returns-else-fresh-clause-kept : goal.returns-else-fresh-clause-kept
returns-else-fresh-clause-kept c = (invariant_of-self-else-fresh c).0.0
