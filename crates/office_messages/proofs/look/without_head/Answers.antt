use Rattle.std.proofs.Common.{arith, inl, refl}
use Rattle.office_messages.proofs.HeadEndLemmas.{no_end_lacks}
use Rattle.office_messages.proofs.look.without_head.Goals as goal

pub returns-else-bytes-lt-MAX_HEAD : goal.returns-else-bytes-lt-MAX_HEAD
returns-else-bytes-lt-MAX_HEAD c =
    let long = c.if-bytes-lt-MAX_HEAD.false in
    inl (
      refl,
      refl,
      (omega arith, inl (long, no_end_lacks c.args.bytes.now c.requires)),
    )
