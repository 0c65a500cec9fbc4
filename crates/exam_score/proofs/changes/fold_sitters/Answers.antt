use Rattle.std.proofs.Common.{◌∙◌, [], ◌∷◌, ◌++◌, map, take, take_all, sym, ap, subst}
use Rattle.exam_model.specs.Sitters.{pair_of}
use Rattle.exam_score.specs.Folds.{CanFollow, Folded, RepresentsPairs}
use Rattle.exam_score.proofs.ConcernedLemmas.{fold_few, next_follows, represents_next}
use Rattle.exam_score.proofs.changes.fold_sitters.Goals as goal

pub loop-sitter-init : goal.loop-sitter-init
loop-sitter-init c = record {
  represents = c.in_ok-fold.ensures.represents;
  is = record {
    session = ap (λ (f : Folded). f.instance) c.in_ok-fold.ensures.made;
    before = ap (λ (f : Folded). f.earlier) c.in_ok-fold.ensures.made;
    after = ap (λ (f : Folded). f.later) c.in_ok-fold.ensures.made;
    exams = ap (λ (f : Folded). f.edited) c.in_ok-fold.ensures.made;
  };
}

pub row-requires : goal.row-requires
row-requires c =
    let xs = c.args.sitters.now in
    let i = c.loop-sitter.sitter-index in
    let x = c.sitter-item.result in
    record {
      few = fold_few c.loop-sitter.fold xs i c.loop-sitter-test.true c.requires.few
          c.loop-sitter.invariant.represents;
      follows = subst (λ y. CanFollow c.loop-sitter.fold (pair_of y)) (sym c.sitter-item.is)
          (next_follows c.loop-sitter.fold xs i x c.loop-sitter-test.true c.requires.in_order
          c.loop-sitter.invariant.represents);
    }

pub loop-sitter-preserved : goal.loop-sitter-preserved
loop-sitter-preserved c =
    let xs = c.args.sitters.now in
    let i = c.loop-sitter.sitter-index in
    let x = c.sitter-item.result in
    record {
      represents = represents_next c.row.new.self xs i x c.loop-sitter-test.true
          (subst (λ y. RepresentsPairs c.row.new.self (map pair_of (take i xs) ++ pair_of y ∷ []))
          c.sitter-item.is
          (c.in_ok-row.ensures.ok (map pair_of (take i xs)) c.loop-sitter.invariant.represents));
      is = record {
        session = c.in_ok-row.ensures.same.0 ∙ c.loop-sitter.invariant.is.session;
        before = c.in_ok-row.ensures.same.1 ∙ c.loop-sitter.invariant.is.before;
        after = c.in_ok-row.ensures.same.2 ∙ c.loop-sitter.invariant.is.after;
        exams = c.in_ok-row.ensures.same.3 ∙ c.loop-sitter.invariant.is.exams;
      };
    }

pub returns : goal.returns
returns c = record {
  represents = subst (λ ss. RepresentsPairs c.loop-sitter.fold (map pair_of ss))
      (take_all c.loop-sitter.sitter-index c.args.sitters.now c.loop-sitter-test.false)
      c.loop-sitter.invariant.represents;
  of = c.loop-sitter.invariant.is;
}
