use Rattle.std.proofs.Common.{◌≡◌, Some, ap, sym, ◌∙◌}
use Rattle.office_files.specs.Fields.{ended_parts, first_field, other_fields}
use Rattle.office_files.specs.Digits.{few_digits, without_space}
use Rattle.office_files.proofs.ReadOnLemmas.{number_first, rest_first}
use Rattle.office_files.proofs.fields.Fields.next_number.Goals as goal

-- the number of the first field is against its limit
pub returns-in-Some-clause-number : goal.returns-in-Some-clause-number
returns-in-Some-clause-number c =
    let line = c.self.inside.left.now in
    let said : few_digits (first_field (ended_parts 44 (without_space line))) ≡ Some c.in-Some.value =
    ap (λ other. few_digits (first_field (ended_parts 44 other))) (sym c.line_after_space.ensures)
    ∙ sym c.in-Some.ensures.value in
    rw (← c.self.view_is)
    (c.number_at_most.ensures ∙ sym (number_first line c.in-Some.value said c.args.limit))

-- the fields after it are left
pub returns-in-Some-clause-left : goal.returns-in-Some-clause-left
returns-in-Some-clause-left c =
    let line = c.self.inside.left.now in
    let said : few_digits (first_field (ended_parts 44 (without_space line))) ≡ Some c.in-Some.value =
    ap (λ other. few_digits (first_field (ended_parts 44 other))) (sym c.line_after_space.ensures)
    ∙ sym c.in-Some.ensures.value in
    rw (← c.self.view_is)
    (rest_first line c.in-Some.value said c.in-Some.after.now
    (c.in-Some.ensures.rest
    ∙ ap (λ other. other_fields (ended_parts 44 other)) c.line_after_space.ensures))
