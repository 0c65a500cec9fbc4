use Rattle.std.proofs.Common.{◌≡◌, ◌<◌, ◌+◌, [], ◌∷◌, length, drop, length-drop, ap, sym, ◌∙◌, arith}
use Rattle.std.proofs.lemmas.List.{drop_more, take_rest, nil_from_length}
use Rattle.office_files.proofs.ReadOnLemmas.{at_end, at_comma, at_other}
use Rattle.office_files.proofs.digits.first_digits.Goals as goal

-- the line ends after the digits
pub returns-then-end-line-clause-value : goal.returns-then-end-line-clause-value
returns-then-end-line-clause-value c =
    let line = c.args.line.now in
    let read = c.front_digits-value.result in
    let none : drop read.1 line ≡ [] =
    nil_from_length _ (omega (arith, length-drop read.1 line, c.if-end-line.true)) in
    sym (at_end line read.0 read.1 c.front_digits-value.ensures none (omega arith)).0

pub returns-then-end-line-clause-rest : goal.returns-then-end-line-clause-rest
returns-then-end-line-clause-rest c =
    let line = c.args.line.now in
    let read = c.front_digits-value.result in
    let none : drop read.1 line ≡ [] =
    nil_from_length _ (omega (arith, length-drop read.1 line, c.if-end-line.true)) in
    rw take_rest (at_end line read.0 read.1 c.front_digits-value.ensures none (omega arith)).1

-- another byte follows them
pub returns-then-line-end-ne44-clause-value : goal.returns-then-line-end-ne44-clause-value
returns-then-line-end-ne44-clause-value c =
    let line = c.args.line.now in
    let read = c.front_digits-value.result in
    let within : read.1 < length line =
    omega (arith, c.front_digits-value.ensures.has.within, c.if-end-line.false) in
    sym (at_other line read.0 read.1 c.front_digits-value.ensures _ (drop (read.1 + 1) line)
    (drop_more line read.1 0 within) c.if-line-end-ne44.true)

-- a comma ends them
pub returns-clause-value : goal.returns-clause-value
returns-clause-value c =
    let line = c.args.line.now in
    let read = c.front_digits-value.result in
    let within : read.1 < length line =
    omega (arith, c.front_digits-value.ensures.has.within, c.if-end-line.false) in
    let next : drop read.1 line ≡ 44 ∷ drop (read.1 + 1) line =
    drop_more line read.1 0 within
    ∙ ap (λ b. b ∷ drop (read.1 + 1) line) c.if-line-end-ne44.false in
    sym (at_comma line read.0 read.1 c.front_digits-value.ensures _ next (omega arith)).0

pub returns-clause-rest : goal.returns-clause-rest
returns-clause-rest c =
    let line = c.args.line.now in
    let read = c.front_digits-value.result in
    let within : read.1 < length line =
    omega (arith, c.front_digits-value.ensures.has.within, c.if-end-line.false) in
    let next : drop read.1 line ≡ 44 ∷ drop (read.1 + 1) line =
    drop_more line read.1 0 within
    ∙ ap (λ b. b ∷ drop (read.1 + 1) line) c.if-line-end-ne44.false in
    rw take_rest (at_comma line read.0 read.1 c.front_digits-value.ensures _ next (omega arith)).1
