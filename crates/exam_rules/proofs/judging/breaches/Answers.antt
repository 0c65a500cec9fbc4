use Rattle.std.specs.List.{flat_map}
use Rattle.std.proofs.Common.{◌≡◌, List, length, map, take, get_or, ap, sym, ◌∙◌, arith}
use Rattle.std.proofs.lemmas.List.{take_more, take_all}
use Rattle.exam_rules.specs.declared.breach.BreachRule.{BreachRule}
use Rattle.exam_rules.specs.declared.breach.BreachRule.TheVariants.{Duration}
use Rattle.exam_rules.specs.Breach.{breach}
use Rattle.exam_rules.specs.Breaches.{pairs_breaking, breaches_of}
use Rattle.exam_rules.proofs.BreachLemmas.{next_rule, breaches_have, breaches_sorted}
use Rattle.exam_rules.proofs.judging.breaches.Goals as goal

pub rules-preserved : goal.rules-preserved
rules-preserved c =
    let f = pairs_breaking c.args.instance.now c.args.enrolments.now c.args.timetable.now in
    let all : List BreachRule = c.rules-2.result in
    let n = c.rules.rule-index in
    let r : BreachRule = get_or all n Duration in
    next_rule f (take n all) r c.rules.invariant c.in_ok-push_all.ensures
    (c.deref.ensures.value ∙ c.in_ok-pairs.ensures)
    ∙ ap (flat_map (λ r. map (breach r) (f r)))
    (sym (take_more all n Duration (omega (arith, ap length c.rules-2.ensures))))

pub returns : goal.returns
returns c =
    let I = c.args.instance.now in
    let E = c.args.enrolments.now in
    let T = c.args.timetable.now in
    let all : List BreachRule = c.rules-2.result in
    let n = c.rules.rule-index in
    let listed : c.rules.found.items ≡ breaches_of I E T
    = c.rules.invariant
    ∙ ap (flat_map (λ r. map (breach r) (pairs_breaking I E T r)))
    (take_all n all (omega (arith, ap length c.rules-2.ensures)) ∙ c.rules-2.ensures)
    in
    record {
      members = λ b. rw listed (breaches_have I E T c.requires.timetable b);
      in_order = rw listed (breaches_sorted I E T);
      listed = listed;
    }
