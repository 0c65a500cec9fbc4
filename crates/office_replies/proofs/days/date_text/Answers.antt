use Rattle.std.proofs.Common.{◌≡◌, ◌++◌, ◌∙◌, ap}
use Rattle.std.proofs.lemmas.Fmt.{contents_after_writes}
use Rattle.std.specs.Fmt.{styled_decimal}
use Rattle.exam_lists.proofs.Appended.{three_appended}
use Rattle.office_replies.proofs.PaddingLemmas.{four_written, two_written}
use Rattle.office_replies.proofs.days.date_text.Goals as goal

pub returns : goal.returns
returns c =
    let date = c.args.date in
    contents_after_writes (λ s bytes t. t.bytes ≡ s.bytes ++ bytes) (λ s. s.bytes)
    (λ w bs v e. e) _ _ _ c.in_ok-write.ensures.writes
    ∙ three_appended 45 _ _ _ _ _ _ _ c.new-text.ensures
    (ap (λ l. styled_decimal l date.year) c.laid_out.ensures ∙ four_written date.year)
    (ap (λ l. styled_decimal l date.month) c.laid_out-2.ensures ∙ two_written date.month)
    (ap (λ l. styled_decimal l date.day) c.laid_out-3.ensures ∙ two_written date.day)
