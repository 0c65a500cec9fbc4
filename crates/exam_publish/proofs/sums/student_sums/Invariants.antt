use Rattle.std.proofs.Common.{◌≡◌, sum_by, take}
use Rattle.exam_publish.proofs.sums.student_sums.Given as goal

abbrev pub invariant-shares : goal.invariant-shares
invariant-shares l = record {
  row : l.row ≡ sum_by (λ share. share.1.row) (take l.share-index l.shares);
  day : l.day ≡ sum_by (λ share. share.1.day) (take l.share-index l.shares);
  spread : l.spread ≡ sum_by (λ share. share.1.spread) (take l.share-index l.shares);
  night : l.night ≡ sum_by (λ share. share.1.night) (take l.share-index l.shares);
}
