use Rattle.std.proofs.Common.{◌++◌, ◌∙◌, ◌∷◌, [], ◌/◌, ◌%◌, codes, encode_utf8, false, rules, sym}
use Rattle.std.proofs.Output.{has_written_append}
use Rattle.std.specs.Fmt.{digit_glyph}
use Rattle.office_check.proofs.NameFacts.{escaped, hex_written, kept, name_step}
use Rattle.office_check.proofs.names.FileNameDisplay.fmt.Goals as goal

-- a character as it is
pub loop-c-preserved : goal.loop-c-preserved
loop-c-preserved g c = λ plain.
    let now = c.loop-c.invariant plain in (
      now.0 ++ encode_utf8 c.in-Some.c,
      has_written_append _ _ _ _ _ _ now.1 (search rules),
      name_step now.0 c.args.self.now.0.now c.loop-c.c-iterator.rest.now c.next.new.self.rest.now
          _ c.in-Some.c c.in-Some.ensures.steps.0
          (kept c.in-Some.c (sym c.is_ascii_control.ensures.value ∙ c.if-is_ascii_control.false))
          now.2,
    )

-- a control character
pub loop-c-preserved-in-Continue-1 : goal.loop-c-preserved-in-Continue-1
loop-c-preserved-in-Continue-1 g c = λ plain.
    let now = c.loop-c.invariant plain in
    let ch = c.in-Some.c in
    let control = sym c.is_ascii_control.ensures.value ∙ c.if-is_ascii_control.true in
    let hex = hex_written _ ch c.from-code.result c.in_radix.ensures c.from-code.ensures control in
    let written = rw hex at (rw c.laid_out.ensures at c.in_ok-write.ensures.writes) in (
      now.0 ++ (codes "\\x" ++ digit_glyph false (ch / 16) ∷ digit_glyph false (ch % 16) ∷ []),
      has_written_append _ _ _ _ _ _ now.1 (written now.1.plain (search rules)),
      name_step now.0 c.args.self.now.0.now c.loop-c.c-iterator.rest.now c.next.new.self.rest.now
          _ ch c.in-Some.ensures.steps.0 (escaped ch control) now.2,
    )
