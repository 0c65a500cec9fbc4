use Rattle.std.proofs.Common.{take, ◌∙◌, arith}
use Rattle.std.proofs.lemmas.List.{length-take-le}
use Rattle.core.proofs.dec2flt.Eight.{eight_at, word_at}
use Rattle.office_files.proofs.ReadOnLemmas.{eight_have}
use Rattle.office_files.proofs.eight_digits.eight_digits.Goals as goal

pub overflow_cast-result : goal.overflow_cast-result
overflow_cast-result c =
    let text = c.args.text.now in
    let read = c.up_to_eight-count.ensures.read (take 8 text)
    (eight_at text 0 (λ k. (c.type_inv.text k).fits) (omega arith))
    (c.word_of_eight.ensures ∙ word_at text 0 (omega arith)) in
    let long = length-take-le 8 text (omega arith) in
    omega (arith, (eight_have (take 8 text) _ _ (omega arith) read.0 read.1).2)

pub returns : goal.returns
returns c =
    let text = c.args.text.now in
    let read = c.up_to_eight-count.ensures.read (take 8 text)
    (eight_at text 0 (λ k. (c.type_inv.text k).fits) (omega arith))
    (c.word_of_eight.ensures ∙ word_at text 0 (omega arith)) in
    let long = length-take-le 8 text (omega arith) in
    let said = eight_have (take 8 text) _ _ (omega arith) read.0 read.1 in
    record { front = said.0; whole = said.1 }
