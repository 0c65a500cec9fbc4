use Rattle.std.proofs.Common.{◌≡◌, sum_by, take}
use Rattle.exam_publish.proofs.sums.room_sums.Given as goal

abbrev pub invariant-shares : goal.invariant-shares
invariant-shares l = record {
  penalty : l.penalty ≡ sum_by (λ share. share.penalty) (take l.share-index l.shares);
  mixed : l.mixed ≡ sum_by (λ share. share.mixed) (take l.share-index l.shares);
}
