use Rattle.std.proofs.Common.{ℕ, nat_eq, ◌<◌, ◌==◌, length, map, List, ◌∙◌, ap, sym}
use Rattle.std.specs.Prelude.{All}
use Rattle.std.proofs.lemmas.List.Elements.{All-map}
use Rattle.std.proofs.lemmas.List.Filters.{dedup_is, All-dedup}
use Rattle.std.proofs.lemmas.List.Kept.{Contains-dedup_nat}
use Rattle.std.proofs.lemmas.List.Sorted.{All-permutation, list_any-IsPermutation}
use Rattle.exam_lists.proofs.Tests.{any_map, any_dedup}
use Rattle.exam_model.specs.declared.rules.RoomRule.{RoomRule}
use Rattle.exam_model.specs.Enrolments.{has_number}
use Rattle.exam_rules.proofs.room_rules.exclusive_exams.Goals as goal

pub returns-clause-members : goal.returns-clause-members
returns-clause-members c e =
    let lines : List RoomRule = c.args.instance.now.room_rules in
    let is = dedup_is _ _ _ c.dedup.ensures.filtered in
    let named = rw c.room_rules.ensures.rules at c.in_ok-exams.ensures in
    ap (λ xs. has_number xs e) is
    ∙ any_dedup nat_eq Contains-dedup_nat (λ k. k == e) _
    ∙ sym (list_any-IsPermutation (λ k. k == e) _ _ c.sort_unstable.ensures.permutation)
    ∙ ap (λ xs. has_number xs e) named
    ∙ any_map (λ k. k == e) (λ line. line.0) lines

pub returns-clause-exist : goal.returns-clause-exist
returns-clause-exist c =
    let exists : ℕ → Type 0 = λ e. e < length c.args.instance.now.exams in
    let lines : List RoomRule = c.args.instance.now.room_rules in
    let is = dedup_is _ _ _ c.dedup.ensures.filtered in
    let named = rw c.room_rules.ensures.rules at c.in_ok-exams.ensures in
    let all : All exists (map (λ line. line.0) lines) =
    All-map exists (λ line. line.0) lines c.room_rules.ensures.kept.numbers.room_rules in
    rw is (All-dedup _ exists _
    (All-permutation exists _ _ c.sort_unstable.ensures.permutation (rw named all)))
