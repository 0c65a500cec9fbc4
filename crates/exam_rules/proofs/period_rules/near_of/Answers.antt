use Rattle.std.proofs.Common.{ℕ, ◌≡◌, true, ◌==◌, List, sym, ◌∙◌, ap, eq-eqb}
use Rattle.std.proofs.lemmas.List.Folds.{Any-from_list_any, list_any_at}
use Rattle.exam_lists.proofs.Counts.{count_by_any}
use Rattle.exam_model.specs.Enrolments.{students, has, has_number}
use Rattle.exam_rules.proofs.period_rules.near_of.Goals as goal

pub returns : goal.returns
returns c f marked share =
    let E = c.args.enrolments.now in
    let own : List ℕ = students E c.args.exam in
    let any = Any-from_list_any (λ s. has E s f) own
    (sym (count_by_any (λ s. has E s f) own) ∙ share) in
    let among : has_number own any.1 ≡ true =
    list_any_at (λ t. t == any.1) own any.0 any.1 any.2 (eq-eqb _ _ any.3)
    in
    c.of.ensures any.1 f (ap (λ xs. has_number xs any.1) c.students.ensures.all ∙ among)
    (marked any.1 any.4)
