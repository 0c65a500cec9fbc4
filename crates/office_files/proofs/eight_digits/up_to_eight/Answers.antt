use Rattle.std.specs.Int.Bits.{bit_xor}
use Rattle.std.proofs.Common.{sym, ◌∙◌, arith}
use lib.Bits.{xor_lt}
use Rattle.core.proofs.dec2flt.Eight.{lanes_are, all_digits, first_other, shifted_is}
use Rattle.office_files.proofs.eight_digits.up_to_eight.Goals as goal

pub returns-then-others-eq0-clause-read : goal.returns-then-others-eq0-clause-read
returns-then-others-eq0-clause-read c xs eight is =
    let count = all_digits xs _ eight is _ c.flags_from_ten-others.ensures c.if-others-eq0.true in
    let lanes = lanes_are xs _ eight is in
    let small = xor_lt 64 c.args.word 0x3030_3030_3030_3030 c.ranges.word.fits (omega arith) in
    let s = shifted_is xs 8 (bit_xor c.args.word 0x3030_3030_3030_3030) eight (omega arith)
    (omega arith) (omega arith) in
    (sym count, c.value_of_eight.ensures s.0 s.1 s.2 ∙ s.3)

pub returns-clause-read : goal.returns-clause-read
returns-clause-read c xs eight is =
    let first = first_other xs _ eight is _ c.flags_from_ten-others.ensures
    (omega (arith, c.if-others-eq0.false)) in
    let s = shifted_is xs _ c.keep_first.result eight (omega arith) (omega arith)
    (c.keep_first.ensures ∙ rw (lanes_are xs _ eight is)) in
    (sym first.0, c.value_of_eight-2.ensures s.0 s.1 s.2 ∙ s.3)
