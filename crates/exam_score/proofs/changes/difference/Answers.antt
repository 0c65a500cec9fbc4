use Rattle.std.proofs.Common.{◌≡◌, ◌∙◌, ℕ, List, Some, length, map, sym, ap, subst, arith}
use Rattle.exam_model.specs.Instance.{Session}
use Rattle.exam_model.specs.Sitters.{pair_of}
use Rattle.exam_model.specs.declared.sitter.Sitter.{Sitter}
use Rattle.exam_score.specs.Folds.{RepresentsPairs}
use Rattle.exam_score.specs.Front.{AreSizes}
use Rattle.exam_score.specs.Track.{track}
use Rattle.exam_score.proofs.ConcernedLemmas.{edit_is, is_some_of, some_is, track_is}
use Rattle.exam_score.proofs.changes.difference.Goals as goal

pub sitters_of-requires : goal.sitters_of-requires
sitters_of-requires c = record {
  exist = λ k d lt.
      (let h = c.requires.exist k d lt in omega (arith, h, c.requires.old.enrolments));
}

pub fold_sitters-requires : goal.fold_sitters-requires
fold_sitters-requires c = record {
  few = rw c.deref.ensures.value c.in_ok-sitters.ensures.few;
  in_order = rw c.deref.ensures.value c.in_ok-sitters.ensures.in_order;
}

pub finish-parts-requires : goal.finish-parts-requires
finish-parts-requires c = record {
  sizes = ap length c.deref-2.ensures.value ∙ c.in_ok-sizes.ensures.count
      ∙ c.requires.old.enrolments
      ∙ ap (λ (I : Session). length I.exams) (sym c.in_ok-fold.ensures.of.session);
}

-- the result of the fold
scored : (c : goal.After-finish-parts) → c.finish-parts.result
    ≡ Some (track c.args.instance.now c.args.enrolments.now c.args.new.now)
scored c =
    let fold = c.in_ok-fold.fold in
    let pairs = map pair_of c.in_ok-sitters.sitters.items in
    track_is fold c.args.instance.now c.args.enrolments.now c.args.old.now c.args.new.now
    c.args.edited.now c.finish-parts.result c.in_ok-fold.ensures.of
    (c.finish-parts.ensures.scored c.args.enrolments.now pairs
    (subst (λ (xs : List Sitter). RepresentsPairs fold (map pair_of xs)) c.deref.ensures.value
    c.in_ok-fold.ensures.represents)
    (edit_is fold c.args.instance.now c.args.enrolments.now c.args.old.now c.args.new.now
    c.args.edited.now pairs c.deref-2.result.now c.args.old_parts c.in_ok-fold.ensures.of
    c.lemma_order.ensures c.requires.new c.in_ok-sitters.ensures.concerned
    (subst (λ (ns : List ℕ). AreSizes c.args.enrolments.now ns)
    (sym c.deref-2.ensures.value) c.in_ok-sizes.ensures)
    c.requires.others c.requires.scored))

-- the same, after its result is taken
scored_last : (c : goal.After-drop-sitters-2)
    → c.finish-parts.result ≡ Some (track c.args.instance.now c.args.enrolments.now c.args.new.now)
scored_last c =
    let fold = c.in_ok-fold.fold in
    let pairs = map pair_of c.in_ok-sitters.sitters.items in
    track_is fold c.args.instance.now c.args.enrolments.now c.args.old.now c.args.new.now
    c.args.edited.now c.finish-parts.result c.in_ok-fold.ensures.of
    (c.finish-parts.ensures.scored c.args.enrolments.now pairs
    (subst (λ (xs : List Sitter). RepresentsPairs fold (map pair_of xs)) c.deref.ensures.value
    c.in_ok-fold.ensures.represents)
    (edit_is fold c.args.instance.now c.args.enrolments.now c.args.old.now c.args.new.now
    c.args.edited.now pairs c.deref-2.result.now c.args.old_parts c.in_ok-fold.ensures.of
    c.lemma_order.ensures c.requires.new c.in_ok-sitters.ensures.concerned
    (subst (λ (ns : List ℕ). AreSizes c.args.enrolments.now ns)
    (sym c.deref-2.ensures.value) c.in_ok-sizes.ensures)
    c.requires.others c.requires.scored))

pub unwrap-requires : goal.unwrap-requires
unwrap-requires c = is_some_of c.finish-parts.result _ (scored c)

pub returns : goal.returns
returns c = some_is c.finish-parts.result c.unwrap.result _ c.unwrap.ensures (scored_last c)
