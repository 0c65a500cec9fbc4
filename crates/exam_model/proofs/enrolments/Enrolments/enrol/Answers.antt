use Rattle.std.proofs.Common.{◌∙◌, length}
use Rattle.exam_lists.proofs.Results.{OnErr_any}
use Rattle.exam_model.proofs.CountLemmas.{exam_within, set_again, counted_again, counted_filled, more_refuse, none_at, filled_fits}
use Rattle.exam_model.proofs.enrolments.Enrolments.enrol.Goals as goal

pub overflow_sub-self-inside : goal.overflow_sub-self-inside
overflow_sub-self-inside c = rw c.self.invariant.0.1 c.self.invariant.0.0.pairs

pub returns-then-count-self-clause-kept : goal.returns-then-count-self-clause-kept
returns-then-count-self-clause-kept c = rw (← c.self.view_is) c.self.invariant.0.0

pub returns-then-count-self-clause-refused : goal.returns-then-count-self-clause-refused
returns-then-count-self-clause-refused c =
    rw (← c.self.view_is)
    (more_refuse c.self.inside.rolls.items c.self.inside.pairs (length c.args.sitters.now)
    c.if-count-self.true c.self.invariant.0)

pub fill-requires-clause-empty : goal.fill-requires-clause-empty
fill-requires-clause-empty c =
    none_at c.self.inside.rolls.items c.get.result c.index_mut.result.now
    (exam_within c.self.view_is c.get.ensures c.requires.exists) c.index_mut.ensures.value
    (rw (c.self.view_is, c.get.ensures) c.requires.empty)

pub fill-requires-clause-ascending : goal.fill-requires-clause-ascending
fill-requires-clause-ascending c = c.requires.ascending

pub invariant_of-self : goal.invariant_of-self
invariant_of-self c = (
  rw c.in_err-fill.ensures.err
      (counted_again c.self.inside.rolls.items c.get.result c.self.inside.pairs
      c.index_mut.result.now (exam_within c.self.view_is c.get.ensures c.requires.exists)
      c.index_mut.ensures.value c.self.invariant.0),
  tt,
)

pub returns-in_err-fill-clause-err : goal.returns-in_err-fill-clause-err
returns-in_err-fill-clause-err c =
    OnErr_any c.from_residual.result
    (rw c.in_err-fill.ensures.err
    (set_again c.self.inside.rolls.items c.get.result c.index_mut.result.now
    (exam_within c.self.view_is c.get.ensures c.requires.exists) c.index_mut.ensures.value)
    ∙ c.self.view_is)

pub returns-in_err-fill-clause-kept : goal.returns-in_err-fill-clause-kept
returns-in_err-fill-clause-kept c = (invariant_of-self c).0.0

pub overflow_cast-self : goal.overflow_cast-self
overflow_cast-self c =
    (filled_fits c.self.inside.pairs (length c.args.sitters.now) c.if-count-self.false
    (rw c.self.invariant.0.1 c.self.invariant.0.0.pairs)).0

pub overflow_add-self : goal.overflow_add-self
overflow_add-self c =
    (filled_fits c.self.inside.pairs (length c.args.sitters.now) c.if-count-self.false
    (rw c.self.invariant.0.1 c.self.invariant.0.0.pairs)).1

pub invariant_of-self-2 : goal.invariant_of-self-2
invariant_of-self-2 c = (
  rw c.in_ok-fill.ensures.ok
      (counted_filled c.self.inside.rolls.items c.get.result c.self.inside.pairs
      c.args.sitters.now (exam_within c.self.view_is c.get.ensures c.requires.exists)
      (rw (c.self.view_is, c.get.ensures) c.requires.empty) c.requires.ascending
      c.fill.ensures.numbers c.if-count-self.false c.self.invariant.0),
  tt,
)

pub returns-clause-ok : goal.returns-clause-ok
returns-clause-ok c = rw (c.self.view_is, c.get.ensures, c.in_ok-fill.ensures.ok)

pub returns-clause-kept : goal.returns-clause-kept
returns-clause-kept c = (invariant_of-self-2 c).0.0
