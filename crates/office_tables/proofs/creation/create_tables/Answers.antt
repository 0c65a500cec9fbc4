use Rattle.std.proofs.Common.{[], refl}
use Rattle.std.proofs.lemmas.Result.{on_ok_weaker}
use Rattle.sqlite.specs.Held.{state}
use Rattle.office_tables.proofs.Inside.{clean_before}
use Rattle.office_tables.proofs.MetaLemmas.{blank_represents}
use Rattle.office_tables.proofs.creation.create_tables.Goals as goal

pub returns-clause-makes : goal.returns-clause-makes
returns-clause-makes g c clean inside =
    let after_1 = state g.S.Store c.create_old_tables.new.tx.conn.now in
    let after_2 = state g.S.Store c.create_night_tables.new.tx.conn.now in
    let after_3 = state g.S.Store c.apply.new.tx.conn.now in
    let clean_2 = clean_before after_2 after_3 c.apply.ensures.within clean in
    let clean_1 = clean_before after_1 after_2 c.create_night_tables.ensures.within clean_2 in
    let step_1 = c.in_ok-create_old_tables.ensures.makes clean_1 inside in
    let step_2 = c.in_ok-create_night_tables.ensures.makes (λ _. []) refl refl clean_2 step_1.0 in
    on_ok_weaker c.apply.result
    (λ last. (
      last.0,
      λ blank.
          let one = step_1.1 blank in
          let two = step_2.1 one.0 in
          let three = last.1 _ (blank_represents _ two.0) in
          (three.0, λ was. three.1 (two.1 (one.1 was))),
    ))
    (c.apply.ensures.makes clean step_2.0)
