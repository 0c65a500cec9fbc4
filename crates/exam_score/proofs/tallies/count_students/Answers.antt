use Rattle.std.proofs.Common.{◌≡◌, ◌+◌, ℕ, length, take, take_all, get_or, sum_by, sym, ap, arith}
use Rattle.std.proofs.lemmas.List.Sums.{sum_by_more}
use Rattle.exam_score.specs.Rows.{row_at}
use Rattle.exam_score.specs.Tallies.{tally_sum}
use Rattle.exam_score.proofs.TallyLemmas.{grown_more, grown_none, grown_no_later}
use Rattle.exam_score.proofs.tallies.count_students.Goals as goal

pub loop-student-init : goal.loop-student-init
loop-student-init c = record {
  counted = λ f. omega arith;
  filed = c.requires.filed;
  crowded = c.requires.crowded;
  grown = grown_none c.args.tallies.now.items c.args.period;
}

pub count_one-requires : goal.count_one-requires
count_one-requires c =
    let grown = c.loop-student.invariant.grown in
    record {
      some = c.requires.some;
      filed = c.loop-student.invariant.filed;
      crowded = c.loop-student.invariant.crowded;
      few = omega (arith, grown.few, c.requires.few, c.loop-student-test.true);
      not_later = grown_no_later c.args.tallies.now.items c.loop-student.tallies.items c.args.period
          c.args.period c.loop-student.student-index grown c.requires.not_later (omega arith);
    }

pub loop-student-preserved : goal.loop-student-preserved
loop-student-preserved c =
    let s = c.student-item.result in
    let i = c.loop-student.student-index in
    let new = c.in_ok-count_one.ensures in
    record {
      counted = λ f.
          let w : ℕ → ℕ = λ t. f (row_at c.args.period t) in
          let one = new.counted f in
          let was = c.loop-student.invariant.counted f in
          let more = sum_by_more w c.args.students.now i s c.loop-student-test.true in
          let here : w (get_or c.args.students.now i s) ≡ w s = ap w (sym c.student-item.is) in
          let sum : sum_by (tally_sum f) c.count_one.new.tallies.items
          ≡ sum_by (tally_sum f) c.args.tallies.now.items + sum_by w (take (i + 1) c.args.students.now) =
          omega arith in
          sum;
      filed = new.filed;
      crowded = new.crowded;
      grown = grown_more c.args.tallies.now.items c.loop-student.tallies.items
          c.count_one.new.tallies.items c.args.period i c.loop-student.invariant.grown new.grown;
    }

pub returns : goal.returns
returns c =
    let end : c.loop-student.student-index ≡ length c.args.students.now = omega arith in
    let all : take c.loop-student.student-index c.args.students.now ≡ c.args.students.now =
    take_all c.loop-student.student-index c.args.students.now (omega arith) in
    record {
      counted = λ f.
          let w : ℕ → ℕ = λ t. f (row_at c.args.period t) in
          let was = c.loop-student.invariant.counted f in
          let whole : sum_by w (take c.loop-student.student-index c.args.students.now)
          ≡ sum_by w c.args.students.now = ap (sum_by w) all in
          let sum : sum_by (tally_sum f) c.loop-student.tallies.items
          ≡ sum_by (tally_sum f) c.args.tallies.now.items + sum_by w c.args.students.now =
          omega arith in
          sum;
      filed = c.loop-student.invariant.filed;
      crowded = c.loop-student.invariant.crowded;
      grown = rw (← end) c.loop-student.invariant.grown;
    }
