use Rattle.std.proofs.Common.{◌≡◌, ◌+◌, ◌-◌, [], ◌∷◌, length, take, drop, rules, arith, sym, ap}
use Rattle.std.proofs.Common.{◌∙◌, add-one}
use Rattle.std.proofs.lemmas.List.{take_rest}
use Rattle.office_messages.specs.Names.{names_of, names_of_rest, names_left}
use Rattle.office_messages.proofs.NameLemmas.{names_at, names_whole}
use Rattle.office_messages.proofs.names.NamesIterator.next.Goals.{After-trimmed_name}
use Rattle.office_messages.proofs.names.NamesIterator.next.Goals.{After-trimmed_name-in-None}
use Rattle.office_messages.proofs.names.NamesIterator.next.Goals as goal

-- the name ends at the first comma
at_comma : (c : After-trimmed_name) → names_left c.args.self.now
    ≡ c.trimmed_name.result.now ∷ names_of
    (take (length c.in_ok-rest.rest.now - (c.in-Some.comma + 1))
    (drop (c.in-Some.comma + 1) c.in_ok-rest.rest.now))
at_comma c =
    let rest = c.in_ok-rest.rest.now in
    let split = names_at rest c.in-Some.comma (search rules) (search rules) (search rules) in
    let name = c.trimmed_name.ensures in
    ap names_of_rest c.in_ok-rest.was ∙ split ∙ simp (take_rest, add-one, name)

at_end : (c : After-trimmed_name-in-None)
    → names_left c.args.self.now ≡ c.trimmed_name-in-None.result.now ∷ []
at_end c =
    ap names_of_rest c.in_ok-rest.was ∙ names_whole c.in_ok-rest.rest.now (search rules)
    ∙ ap (λ x. x ∷ []) (sym c.trimmed_name-in-None.ensures)

pub returns-in-Some-clause-steps : goal.returns-in-Some-clause-steps
returns-in-Some-clause-steps c = at_comma c

pub returns-in-Some-clause-goes : goal.returns-in-Some-clause-goes
returns-in-Some-clause-goes c =
    record {
      on = λ _. (tt, tt, omega (arith, ap length (at_comma c)));
      keeps = tt;
      rests =
          λ _. tt;
    }

pub returns-in-None-clause-steps : goal.returns-in-None-clause-steps
returns-in-None-clause-steps c = at_end c

pub returns-in-None-clause-goes : goal.returns-in-None-clause-goes
returns-in-None-clause-goes c =
    record { on = λ _. (tt, tt, omega (arith, ap length (at_end c))); keeps = tt; rests = λ _. tt }
