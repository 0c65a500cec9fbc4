use Rattle.std.proofs.Common.{◌≡◌, map, string_bytes, take}
use Rattle.office_program.proofs.check_all_words.copies.Given as goal

abbrev pub invariant-loop-text : goal.invariant-loop-text
invariant-loop-text l =
    map string_bytes l.copied.items ≡ map (λ text. text.now) (take l.text-index l.texts)
