use Rattle.std.proofs.Common.{sym, ◌∙◌, arith}
use Rattle.std.proofs.lemmas.Result.{err_from_is_err_and}
use Rattle.exam_lists.proofs.Parts.{drop_next}
use Rattle.office_files.specs.Tokens.{token_of}
use Rattle.office_files.proofs.ItemLemmas.{line_step, fault_step}
use Rattle.office_files.proofs.sections.items.Goals as goal

pub returns-in_err-add_item-clause-exact : goal.returns-in_err-add_item-clause-exact
returns-in_err-add_item-clause-exact g c =
    let p = err_from_is_err_and c.from_residual.result c.from_residual.ensures.1 in
    rw (p.1, p.2) (λ other.
    fault_step (g.T.LineItem.reading c.args.counts) c.lines.items.items
    (token_of c.in-Some.line) c.lines.lines c.next.new.self c.args.count c.lines.counter _ _
    (omega arith) c.in-Some.ensures.row
    (c.in_err-add_item.ensures.fault other) c.lines.invariant.read)

pub lines-preserved : goal.lines-preserved
lines-preserved g c = record {
  left = sym (drop_next c.args.lines.now c.lines.counter (token_of c.in-Some.line) c.next.new.self
      (sym c.lines.invariant.left ∙ c.in-Some.ensures.row));
  read = line_step (g.T.LineItem.reading c.args.counts) c.lines.items.items
      c.add_item.new.items.items
      (token_of c.in-Some.line) c.lines.lines c.next.new.self c.args.count c.lines.counter _
      (omega arith) c.in-Some.ensures.row c.in_ok-add_item.ensures.ok c.lines.invariant.read;
}
