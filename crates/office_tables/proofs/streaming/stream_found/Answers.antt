use Rattle.std.proofs.Common.{[], ◌∷◌, ◌++◌, map, refl, sym, ap, subst, rules, arith, ◌∙◌}
use Rattle.std.specs.Prelude.{option_copied}
use Rattle.std.proofs.lemmas.Result.{IfErr-at_err}
use Rattle.sqlite.specs.Given.{Advances}
use Rattle.sqlite.specs.Held.{state}
use Rattle.sqlite.specs.State.{HasCleanDisk}
use Rattle.sqlite.specs.Values.{bound}
use Rattle.sqlite.proofs.Callers.{begun_plain, unchanged_then}
use Rattle.sqlite.proofs.StateLemmas.{survives_then}
use Rattle.office_tables.proofs.AskLemmas.{answers, begun_open, silent}
use Rattle.office_tables.proofs.Gathered.{gathered_read}
use Rattle.office_tables.proofs.Reading.{kept_failed}
use Rattle.office_tables.proofs.streaming.stream_found.Goals as goal

pub rows-init : goal.rows-init
rows-init g c =
    let made = c.in_ok-rows.ensures in
    record {
      same = refl;
      mode = made.mode;
      survives = silent c.args.sql.now _ _ _ made.survives;
      opened = λ clean. begun_open g.S.Store c.args.sql.now (bound c.args.params.now)
          c.args.conn.now _ (made.begun clean);
      given = λ clean plain.
          let begun = begun_plain g.S.Store c.args.sql.now (bound c.args.params.now) c.args.conn.now
          _ plain (made.begun clean) in
          ([], begun.0, begun.1, ap (map g.R.Record.columns_of) c.new.ensures.items);
    }

pub rows-preserved : goal.rows-preserved
rows-preserved g c =
    let old = state g.S.Store c.args.conn.now in
    let mid = c.rows.rows.conn.now in
    let now = c.advance.new.self.conn.now in
    record {
      same = c.advance.ensures.same_reference ∙ c.rows.invariant.same;
      mode = λ m. c.advance.ensures.mode (c.rows.invariant.mode m);
      survives = survives_then old (state g.S.Store mid) (state g.S.Store now) _ _ _ (λ _ db h. h)
          (λ _ db none. absurd none) c.rows.invariant.survives c.advance.ensures.survives;
      opened = λ clean. c.rows.invariant.opened (omega (arith, c.advance.ensures.survives.clean));
      given = λ clean plain.
          let was = c.rows.invariant.given (omega (arith, c.advance.ensures.survives.clean))
          plain in
          let row = c.in-Some.row.now in
          let some = sym c.get.ensures ∙ ap option_copied c.in-Some.is in
          let advanced = subst (Advances g.S.Store mid now) some
          (c.in_ok-advance.ensures.ok clean) in (
            was.0 ++ row ∷ [],
            advanced c.args.sql.now (bound c.args.params.now) was.0 was.1,
            unchanged_then old (state g.S.Store mid) (state g.S.Store now) was.2
                (c.in_ok-advance.ensures.same clean),
            c.in_ok-found.ensures was.0 was.3,
          );
    }

pub returns-in_default-clause-shown : goal.returns-in_default-clause-shown
returns-in_default-clause-shown g c q means clean =
    let old = state g.S.Store c.args.conn.now in
    let mid = c.rows.rows.conn.now in
    let now = c.advance.new.self.conn.now in
    let late : HasCleanDisk (state g.S.Store now) = search rules in
    let was = c.rows.invariant.given (omega (arith, c.advance.ensures.survives.clean))
    means.plain in
    let none = sym c.get.ensures ∙ ap option_copied c.in_default.is in
    let advanced = subst (Advances g.S.Store mid now) none (c.in_ok-advance.ensures.ok late) in
    let moved = advanced c.args.sql.now (bound c.args.params.now) was.0 was.1 in (
      was.0,
      gathered_read _ _ _ was.0 _ was.3,
      answers q c.args.sql.now (bound c.args.params.now) old (state g.S.Store mid)
          (state g.S.Store now) means was.2 was.0 moved,
    )

pub returns-in_err-rows-clause-leaves : goal.returns-in_err-rows-clause-leaves
returns-in_err-rows-clause-leaves g c =
    let refused = IfErr-at_err _ c.in_err-rows.was c.query.follows.holds-at-none in
    record {
      open_on_ok = search rules;
      was_open = λ clean. (kept_failed c.args.sql.now _ _ _ _ (IfErr-at_err _ c.in_err-rows.was
          (refused.err clean))).was_open;
      same = search rules;
      kept = λ clean plain. kept_failed c.args.sql.now _ _ _ _ (IfErr-at_err _ c.in_err-rows.was
          (refused.err clean));
      mode = search rules;
      survives = silent c.args.sql.now _ _ _ refused.survives;
    }
