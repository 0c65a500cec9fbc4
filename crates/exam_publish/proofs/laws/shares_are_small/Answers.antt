use Rattle.exam_publish.specs.Shares.{shares_of}
use Rattle.exam_publish.proofs.AddUpLemmas.{adds_up}
use Rattle.exam_publish.proofs.ShareLemmas.{published_small}
use Rattle.exam_publish.proofs.laws.shares_are_small.Goals as goal

pub returns : goal.returns
returns c I rows T known are numbered =
    published_small I rows T (shares_of I rows T) known are numbered
    (adds_up I rows T known are numbered)
