use Rattle.std.proofs.Common.{◌≡◌, ◌++◌, ◌∙◌, ap}
use Rattle.std.proofs.lemmas.Fmt.{contents_after_writes}
use Rattle.std.specs.Fmt.{styled_decimal}
use Rattle.exam_lists.proofs.Appended.{three_appended}
use Rattle.office_replies.proofs.PaddingLemmas.{two_written}
use Rattle.office_replies.proofs.days.start_text.Goals as goal

pub returns : goal.returns
returns c =
    let at = c.args.at in
    contents_after_writes (λ s bytes t. t.bytes ≡ s.bytes ++ bytes) (λ s. s.bytes)
    (λ w bs v e. e) _ _ _ c.in_ok-write.ensures.writes
    ∙ three_appended 58 _ _ _ _ _ _ _ c.new-text.ensures
    (ap (λ l. styled_decimal l at.hour) c.laid_out.ensures ∙ two_written at.hour)
    (ap (λ l. styled_decimal l at.minute) c.laid_out-2.ensures ∙ two_written at.minute)
    (ap (λ l. styled_decimal l at.second) c.laid_out-3.ensures ∙ two_written at.second)
