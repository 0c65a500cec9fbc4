use Rattle.std.proofs.Common.{◌∙◌, sym, arith}
use Rattle.exam_model.proofs.CountLemmas.{exam_within, is_has, removes_left, pair_left, kept_left, count_less, count_same}
use Rattle.exam_model.proofs.enrolments.Enrolments.remove.Goals as goal

pub overflow_sub-self : goal.overflow_sub-self
overflow_sub-self c =
    let less = count_less c.self.inside.rolls.items c.get.result c.args.student c.self.inside.pairs
    c.index_mut.result.now c.remove-removed.new.self
    (exam_within c.self.view_is c.get.ensures c.requires.exists) c.index_mut.ensures.value
    c.remove-removed.ensures.left (sym c.remove-removed.ensures.removed ∙ c.if-removed.true)
    c.self.invariant.0.1 in
    omega arith

pub invariant_of-self : goal.invariant_of-self
invariant_of-self c =
    let less = count_less c.self.inside.rolls.items c.get.result c.args.student c.self.inside.pairs
    c.index_mut.result.now c.remove-removed.new.self
    (exam_within c.self.view_is c.get.ensures c.requires.exists) c.index_mut.ensures.value
    c.remove-removed.ensures.left (sym c.remove-removed.ensures.removed ∙ c.if-removed.true)
    c.self.invariant.0.1 in (
      (
        kept_left c.self.inside.rolls.items c.get.result c.args.student c.index_mut.result.now
            c.remove-removed.new.self (exam_within c.self.view_is c.get.ensures c.requires.exists)
            c.index_mut.ensures.value c.remove-removed.ensures.left
            c.self.invariant.0.0,
        omega arith,
      ),
      tt,
    )

pub invariant_of-self-else-removed : goal.invariant_of-self-else-removed
invariant_of-self-else-removed c = (
  (
    kept_left c.self.inside.rolls.items c.get.result c.args.student c.index_mut.result.now
        c.remove-removed.new.self (exam_within c.self.view_is c.get.ensures c.requires.exists)
        c.index_mut.ensures.value c.remove-removed.ensures.left
        c.self.invariant.0.0,
    count_same c.self.inside.rolls.items c.get.result c.args.student c.self.inside.pairs
        c.index_mut.result.now c.remove-removed.new.self
        (exam_within c.self.view_is c.get.ensures c.requires.exists) c.index_mut.ensures.value
        c.remove-removed.ensures.left (sym c.remove-removed.ensures.removed ∙ c.if-removed.false)
        c.self.invariant.0.1,
  ),
  tt,
)

pub returns-then-removed-clause-removed : goal.returns-then-removed-clause-removed
returns-then-removed-clause-removed c =
    rw (← c.self.view_is, ← c.get.ensures)
    (c.remove-removed.ensures.removed
    ∙ is_has c.self.inside.rolls.items c.get.result c.args.student c.index_mut.result.now
    (exam_within c.self.view_is c.get.ensures c.requires.exists)
    c.index_mut.ensures.value)

pub returns-then-removed-clause-left : goal.returns-then-removed-clause-left
returns-then-removed-clause-left c =
    rw (← c.self.view_is, ← c.get.ensures)
    (removes_left c.self.inside.rolls.items c.get.result c.args.student c.index_mut.result.now
    c.remove-removed.new.self (exam_within c.self.view_is c.get.ensures c.requires.exists)
    c.index_mut.ensures.value c.remove-removed.ensures.left)

pub returns-then-removed-clause-pair : goal.returns-then-removed-clause-pair
returns-then-removed-clause-pair c =
    rw (← c.self.view_is, ← c.get.ensures)
    (pair_left c.self.inside.rolls.items c.get.result c.args.student c.index_mut.result.now
    c.remove-removed.new.self (exam_within c.self.view_is c.get.ensures c.requires.exists)
    c.index_mut.ensures.value c.remove-removed.ensures.left
    c.self.invariant.0.0)

pub returns-then-removed-clause-kept : goal.returns-then-removed-clause-kept
returns-then-removed-clause-kept c = (invariant_of-self c).0.0

pub returns-else-removed-clause-removed : goal.returns-else-removed-clause-removed
returns-else-removed-clause-removed c =
    rw (← c.self.view_is, ← c.get.ensures)
    (c.remove-removed.ensures.removed
    ∙ is_has c.self.inside.rolls.items c.get.result c.args.student c.index_mut.result.now
    (exam_within c.self.view_is c.get.ensures c.requires.exists)
    c.index_mut.ensures.value)

pub returns-else-removed-clause-left : goal.returns-else-removed-clause-left
returns-else-removed-clause-left c =
    rw (← c.self.view_is, ← c.get.ensures)
    (removes_left c.self.inside.rolls.items c.get.result c.args.student c.index_mut.result.now
    c.remove-removed.new.self (exam_within c.self.view_is c.get.ensures c.requires.exists)
    c.index_mut.ensures.value c.remove-removed.ensures.left)

pub returns-else-removed-clause-pair : goal.returns-else-removed-clause-pair
returns-else-removed-clause-pair c =
    rw (← c.self.view_is, ← c.get.ensures)
    (pair_left c.self.inside.rolls.items c.get.result c.args.student c.index_mut.result.now
    c.remove-removed.new.self (exam_within c.self.view_is c.get.ensures c.requires.exists)
    c.index_mut.ensures.value c.remove-removed.ensures.left
    c.self.invariant.0.0)

pub returns-else-removed-clause-kept : goal.returns-else-removed-clause-kept
returns-else-removed-clause-kept c = (invariant_of-self-else-removed c).0.0
