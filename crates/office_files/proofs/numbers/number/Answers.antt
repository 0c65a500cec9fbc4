use Rattle.std.proofs.Common.{◌≡◌, ◌∙◌, sym, ap, ℕ, ◌+◌, ◌-◌, ◌*◌, ◌<◌, length, drop}
use Rattle.std.proofs.Common.{slice_index_or, arith}
use Rattle.office_files.proofs.DigitLemmas.{goes_on, goes_on-digit, goes_on-capped}
use Rattle.office_files.proofs.numbers.number.Goals as goal

pub loop-byte-preserved : goal.loop-byte-preserved
loop-byte-preserved c =
    let limit = c.args.limit in
    let text = c.args.text.now in
    let i = c.loop-byte.byte-index in
    let others = drop (i + 1) text in
    let next : ℕ = 10 * c.loop-byte.value + (slice_index_or text i 0 - 48) in
    let inside : i < length text = omega arith in
    let digit = sym c.is_ascii_digit.ensures.value ∙ c.if-not-is_ascii_digit.false in
    let capped = c.min-value.ensures in
    let value : 10 * c.loop-byte.value + c.from.result ≡ next = omega arith in
    record {
      same = ap (λ v. goes_on limit v others) capped
          ∙ goes_on-capped limit 4294967296 (10 * c.loop-byte.value + c.from.result) others
          (omega arith)
          ∙ ap (λ v. goes_on limit v others) value
          ∙ sym (goes_on-digit limit c.loop-byte.value text i inside digit)
          ∙ c.loop-byte.invariant.same;
      small = omega arith;
    }
