use Rattle.std.proofs.Common.{rules, ◌≡◌, ◌∙◌, Err, refl, subst, sym}
use Rattle.office_model.specs.DraftCommands.{draft_edited}
use Rattle.office_store.specs.Running.{CommandRan}
use Rattle.office_store.proofs.CommandLemmas.{read_inside, refuses_further, rest_further, rests, stays_further}
use Rattle.office_store.proofs.EditCallLemmas.{edit_moves, edit_remembers}
use Rattle.office_store.proofs.LeavingLemmas.{altered_on, done_next, rest_undone, undone_next}
use Rattle.office_store.proofs.TogetherLemmas.{put_together}
use Rattle.office_store.proofs.office.Office.edit.Goals as goal

pub edited_draft-requires : goal.edited_draft-requires
edited_draft-requires g c = record { together = c.self.invariant.2 }

-- the edit is refused
pub invariant_of-self : goal.invariant_of-self
invariant_of-self g c = (
  c.edited_draft.ensures.leaves.read.mode c.self.invariant.0,
  rest_further c.self.view_is c.self.invariant.1 c.in_ok-check_open.ensures.leaves
      c.edited_draft.ensures.leaves.read,
  c.self.invariant.2,
)

pub returns-in_err-new-clause-runs : goal.returns-in_err-new-clause-runs
returns-in_err-new-clause-runs g c =
    let fault = c.in_err-new.field-0.0 in
    let command = draft_edited c.args.number c.args.edit in
    let is : c.from_residual-in_err-new.result ≡ Err fault = search rules in
    subst (CommandRan g.S.Store command c.args.self.now c.edited_draft.new.conn) (sym is)
    (refuses_further c.self.view_is c.self.invariant.1 c.in_ok-check_open.ensures.leaves
    c.edited_draft.ensures.leaves.read command fault c.in_err-new.ensures.edits)

pub returns-in_err-new-clause-leaves : goal.returns-in_err-new-clause-leaves
returns-in_err-new-clause-leaves g c = record {
  clean = search rules;
  unchanged_on_err = stays_further c.self.view_is c.self.invariant.1 c.in_ok-check_open.ensures.leaves
      c.edited_draft.ensures.leaves.read c.from_residual-in_err-new.result;
  all_committed = search rules;
  survives = search rules;
}

-- the transaction fails
pub invariant_of-self-in_err-put : goal.invariant_of-self-in_err-put
invariant_of-self-in_err-put g c =
    let looked = read_inside c.self.view_is c.self.invariant.1 c.in_ok-check_open.ensures.leaves in
    let ran = altered_on c.self.invariant.1 c.edited_draft.ensures.leaves.read
    c.in_ok-new.ensures.leaves.same (λ k. (looked.all_committed k).0) c.in_err-put.ensures in (
      c.put.ensures.rests,
      rest_undone c.self.invariant.1 looked.all_committed ran ran.undone,
      c.self.invariant.2,
    )

pub invariant_of-self-2 : goal.invariant_of-self-2
invariant_of-self-2 g c =
    let looked = read_inside c.self.view_is c.self.invariant.1 c.in_ok-check_open.ensures.leaves in
    let read = c.edited_draft.ensures.leaves.read in
    let ran = altered_on c.self.invariant.1 read c.in_ok-new.ensures.leaves.same
    (λ k. (looked.all_committed k).0) c.in_ok-put.ensures in (
      c.in_ok-put.ensures.rests,
      rests c.self.invariant.1 ran
          (λ k. edit_moves (c.in_ok-new.ensures.edits (c.put.ensures.clean k)
          (looked.all_committed (ran.clean k))) c.total.ensures.total c.draft_row.result
          c.draft_row.ensures.number c.draft_row.ensures.parts
          (c.deref.ensures.value ∙ c.in_ok-new.ensures.places))
          ran.done
          (λ k. edit_remembers (c.in_ok-new.ensures.edits (c.put.ensures.clean k)
          (looked.all_committed (ran.clean k))) c.total.ensures.total c.put-2.ensures.put),
      put_together c.self.invariant.2 c.in_ok-new.ensures.suits c.put-2.ensures.put
          c.put-2.ensures.beyond,
    )

pub returns : goal.returns
returns g c =
    let looked = read_inside c.self.view_is c.self.invariant.1 c.in_ok-check_open.ensures.leaves in
    let ran = altered_on c.self.invariant.1 c.edited_draft.ensures.leaves.read
    c.in_ok-new.ensures.leaves.same (λ k. (looked.all_committed k).0) c.in_ok-put.ensures in
    done_next c.self.view_is c.self.invariant.1 c.in_ok-check_open.ensures.leaves ran
    (λ k. edit_moves (c.in_ok-new.ensures.edits (c.put.ensures.clean k)
    (looked.all_committed (ran.clean k))) c.total.ensures.total c.draft_row.result
    c.draft_row.ensures.number c.draft_row.ensures.parts
    (c.deref.ensures.value ∙ c.in_ok-new.ensures.places)) ran.done

pub returns-in_err-put : goal.returns-in_err-put
returns-in_err-put g c =
    let looked = read_inside c.self.view_is c.self.invariant.1 c.in_ok-check_open.ensures.leaves in
    let ran = altered_on c.self.invariant.1 c.edited_draft.ensures.leaves.read
    c.in_ok-new.ensures.leaves.same (λ k. (looked.all_committed k).0) c.in_err-put.ensures in
    undone_next c.self.view_is c.self.invariant.1 c.in_ok-check_open.ensures.leaves ran
    (λ k. edit_moves (c.in_ok-new.ensures.edits (c.put.ensures.clean k)
    (looked.all_committed (ran.clean k))) refl c.draft_row.result
    c.draft_row.ensures.number c.draft_row.ensures.parts
    (c.deref.ensures.value ∙ c.in_ok-new.ensures.places))
    ran.undone c.from_residual-in_err-put.ensures.1
