use Rattle.std.proofs.Common.{arith, ap, drop, inr, length, length-append}
use Rattle.httparse.specs.Grammar.{print_request}
use Rattle.office_messages.proofs.look.with_head.Goals as goal

pub returns-then-head-bytes : goal.returns-then-head-bytes
returns-then-head-bytes c = (c.requires, c.if-head-bytes.true)

-- the bytes after the head are shorter than the body
pub returns-else-head-bytes : goal.returns-else-head-bytes
returns-else-head-bytes c =
    let at = c.requires in
    let rest = drop c.args.head.body.start c.args.bytes.now in (
      inr record {
        head = at.head;
        after = rest;
        has_head = at.has_head;
        size = _;
        framed = at.parts.framed;
        short =
            omega (
              arith,
              ap length at.has_head.reads.1,
              length-append (print_request at.head) rest,
              at.parts.start,
              at.parts.ordered,
              c.if-head-bytes.false,
            );
      },
      at,
    )
