use Rattle.std.proofs.Common.{sym, subst, arith}
use Rattle.std.specs.Prelude.{IfSome}
use Rattle.exam_score.specs.Front.{AreTies, IsBar}
use Rattle.exam_score.proofs.FrontLemmas.{above_bar, at_bar, below_bar}
use Rattle.exam_score.proofs.front.is_largest_by.Goals as goal

pub returns-then-bar-size : goal.returns-then-bar-size
returns-then-bar-size c =
    sym (above_bar c.args.sizes.now c.args.most c.args.exam c.in-Some.bar
    (subst (λ bar. IfSome bar (IsBar c.args.sizes.now c.args.most)) c.in-Some.is c.requires.bar)
    c.requires.exists c.if-bar-size.true)

pub returns-then-size-bar : goal.returns-then-size-bar
returns-then-size-bar c =
    sym (below_bar c.args.sizes.now c.args.most c.args.exam c.in-Some.bar
    (subst (λ bar. IfSome bar (IsBar c.args.sizes.now c.args.most)) c.in-Some.is c.requires.bar)
    c.requires.exists c.if-size-bar.true)

pub returns : goal.returns
returns c =
    sym (at_bar c.args.sizes.now c.args.most c.args.ties c.args.exam c.in-Some.bar
    (subst (λ bar. IfSome bar (IsBar c.args.sizes.now c.args.most)) c.in-Some.is c.requires.bar)
    (subst (λ bar. AreTies c.args.sizes.now bar c.args.ties c.args.exam) c.in-Some.is
    c.requires.ties)
    c.requires.exists (omega (arith, c.if-bar-size.false, c.if-size-bar.false)))
