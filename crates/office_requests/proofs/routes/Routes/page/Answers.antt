use Rattle.std.proofs.Common.{◌∙◌, ap, arith}
use Rattle.office_requests.specs.Table.{Rows, page_at}
use Rattle.office_requests.proofs.PageLemmas.{found_clause, none_clause, only_clause}
use Rattle.office_requests.proofs.routes.Routes.page.Goals as goal

pub returns-clause-found : goal.returns-clause-found
returns-clause-found c =
    found_clause c.args.path.now c.page_at.result (λ i. omega (arith, c.type_inv.path i))
    (c.page_at.ensures ∙ ap (λ (rows : Rows). page_at rows c.args.path.now) c.self.invariant)

pub returns-clause-none : goal.returns-clause-none
returns-clause-none c =
    none_clause c.args.path.now c.page_at.result
    (c.page_at.ensures ∙ ap (λ (rows : Rows). page_at rows c.args.path.now) c.self.invariant)

pub returns-clause-only : goal.returns-clause-only
returns-clause-only c =
    only_clause c.args.path.now c.page_at.result (λ i. omega (arith, c.type_inv.path i))
    (c.page_at.ensures ∙ ap (λ (rows : Rows). page_at rows c.args.path.now) c.self.invariant)
