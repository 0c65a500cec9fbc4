use Rattle.std.specs.List.{list_any}
use Rattle.std.proofs.Common.{◌||◌, ℕ, Bool, ◌&&◌, ◌==◌, not, sym, ◌∙◌, ap}
use Rattle.std.proofs.Math.Bool.{or-false}
use Rattle.exam_lists.proofs.Booleans.{and_swap}
use Rattle.exam_rules.specs.Breach.{is_pair}
use Rattle.exam_rules.specs.Lines.{is_after}
use Rattle.exam_rules.specs.Places.{is_not_after}
use Rattle.exam_rules.specs.Breaches.{is_one_of}
use Rattle.exam_rules.proofs.FindingLemmas.{found_more, found_all}
use Rattle.exam_rules.proofs.NamingLemmas.{named_after, line_skipped, line_taken}
use Rattle.exam_rules.proofs.line_rules.push_afters.Goals as goal

pub lines-preserved-then-not-names : goal.lines-preserved-then-not-names
lines-preserved-then-not-names c =
    let test : ℕ → ℕ → Bool =
    λ e f. not (e == f) && is_not_after c.args.site.now.timetable.now e f in
    found_more c.lines.invariant c.lines-test.true c.line-item.is
    (λ e f. sym (or-false (list_any (is_pair e f) c.lines.found.items)))
    (λ e f. line_skipped is_after named_after c.args.exam e f c.line-item.result (test e f)
    (sym c.names.ensures ∙ c.if-not-names.true))

pub lines-preserved : goal.lines-preserved
lines-preserved c =
    let test : ℕ → ℕ → Bool =
    λ e f. not (e == f) && is_not_after c.args.site.now.timetable.now e f in
    found_more c.lines.invariant c.lines-test.true c.line-item.is c.in_ok-push_some.ensures
    (λ e f. c.broken_after.ensures e f
    ∙ line_taken is_after named_after c.args.exam e f c.line-item.result (test e f)
    (sym c.names.ensures ∙ c.if-not-names.false))

pub returns : goal.returns
returns c e f =
    let test : ℕ → ℕ → Bool =
    λ e f. not (e == f) && is_not_after c.args.site.now.timetable.now e f in
    rw c.period_rules-line-items.ensures.rules at (found_all c.lines.invariant
    c.lines-test.false e f)
    ∙ ap (λ b. list_any (is_pair e f) c.args.found.now.items || b)
    (and_swap (list_any (is_after e f) c.args.site.now.instance.now.period_rules)
    (is_one_of c.args.exam e f) (test e f))
