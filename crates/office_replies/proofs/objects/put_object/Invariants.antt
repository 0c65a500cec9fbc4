use Rattle.std.proofs.Common.{◌≡◌, ◌+◌, ◌≤◌, ◌++◌, ◌*◌, codes, map, take, vec_len, vec_capacity}
use Rattle.std.specs.List.{flat_map}
use Rattle.office_replies.specs.Objects.{further_text, member_text, plain_member}
use Rattle.office_replies.proofs.objects.put_object.Given as goal

abbrev pub invariant-loop-member : goal.invariant-loop-member
invariant-loop-member l =
    (l.room.items ≡ codes "{" ++ member_text (plain_member l.first)
    ++ flat_map further_text (map plain_member (take l.member-index l.others)))
    × (vec_len l.room ≤ 46 + 46 * l.member-index) × (256 ≤ vec_capacity l.room)
