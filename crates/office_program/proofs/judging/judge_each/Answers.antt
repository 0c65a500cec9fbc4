use Rattle.std.proofs.Common.{◌+◌, ◌≡◌, ◌∙◌, ◌++◌, ◌∷◌, [], ap, append_assoc, drop, map, string_bytes, subst, sym, take}
use Rattle.std.proofs.lemmas.List.{map-append, map_more, take-append-drop}
use Rattle.office_program.specs.CheckAll.{HasOutcomes}
use Rattle.office_program.proofs.CheckAllFacts.{no_outcome, outcome_more, stops_among}
use Rattle.office_program.proofs.judging.judge_each.Goals as goal

pub loop-path-init : goal.loop-path-init
loop-path-init g c = record { outcomes = no_outcome _ _ _ _ _ _ _ _ }

-- one more solution
pub loop-path-preserved : goal.loop-path-preserved
loop-path-preserved g c = record {
  outcomes = subst (λ paths. HasOutcomes g.E.Lines.tells c.args.judge.now.0 c.args.judge.now.1
      (g.T.Texts.known c.args.files.now) c.args.form paths
      (g.I.Read.remaining c.args.stdin.now) (g.I.Read.remaining c.judge_one.new.stdin)
      (g.W.Write.contents c.args.out.now) (g.W.Write.contents c.judge_one.new.out)
      c.args.err.now c.judge_one.new.err
      c.in_ok-found.found)
      (sym (map_more string_bytes c.args.solutions.now c.loop-path.path-index c.path-item.result
      c.loop-path-test.true
      ∙ ap (λ path. map string_bytes (take c.loop-path.path-index c.args.solutions.now)
      ++ path ∷ []) (ap string_bytes (sym c.path-item.is) ∙ sym c.deref.ensures)))
      (outcome_more _ _ _ _ _ _ _ _ _ _ _ _ _ _ _ _ _ _ c.loop-path.invariant.outcomes
      c.in_ok-found.ensures.ok);
}

-- a line could not be written
pub returns-in_err-found-clause-err : goal.returns-in_err-found-clause-err
returns-in_err-found-clause-err g c =
    let i = c.loop-path.path-index in
    let solutions = c.args.solutions.now in
    let grown : map string_bytes (take (i + 1) solutions)
    ≡ map string_bytes (take i solutions) ++ c.deref.result.now ∷ [] =
    map_more string_bytes solutions i c.path-item.result c.loop-path-test.true
    ∙ ap (λ path. map string_bytes (take i solutions) ++ path ∷ [])
    (ap string_bytes (sym c.path-item.is) ∙ sym c.deref.ensures) in
    stops_among _ _ _ _ _ _ _ _ _ _ _ _ (record {
      before = map string_bytes (take i solutions);
      path = c.deref.result.now;
      behind = map string_bytes (drop (i + 1) solutions);
      whole = sym (ap (map string_bytes) (take-append-drop (i + 1) solutions))
          ∙ map-append string_bytes (take (i + 1) solutions) (drop (i + 1) solutions)
          ∙ ap (λ l. l ++ map string_bytes (drop (i + 1) solutions)) grown
          ∙ append_assoc (map string_bytes (take i solutions)) (c.deref.result.now ∷ [])
          (map string_bytes (drop (i + 1) solutions));
      found = c.loop-path.found;
      left = g.I.Read.remaining c.loop-path.stdin;
      printed = g.W.Write.contents c.loop-path.out;
      outcomes = rw c.in_err-found.ensures.err.1 c.loop-path.invariant.outcomes;
      stops = c.in_err-found.ensures.err.0;
    })
