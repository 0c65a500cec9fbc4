use Rattle.std.proofs.Common.{◌≡◌, ◌+◌, ◌≤◌, ℕ, [], length, take, take_all, get_or, sum_by, inl, inr, sym, ◌∙◌, ap, arith}
use Rattle.std.proofs.lemmas.Bool.{cases_lt}
use Rattle.std.proofs.lemmas.List.{get_or_default}
use Rattle.std.proofs.lemmas.List.Sums.{sum_by_more, sum_by-take-le}
use Rattle.exam_model.specs.Enrolments.{students, size_of}
use Rattle.exam_score.specs.Rows.{row_at}
use Rattle.exam_score.specs.Tallies.{tally_sum, sitting_sum}
use Rattle.exam_score.specs.declared.sittings.PlacedExam.{PlacedExam}
use Rattle.exam_score.proofs.TallyLemmas.{crowd_none, filed_none}
use Rattle.exam_score.proofs.tallies.file_all.Goals as goal

pub loop-sitting-init : goal.loop-sitting-init
loop-sitting-init c =
    let none : c.in_ok-tallies.tallies.items ≡ [] = c.in_ok-tallies.ensures.items in
    record {
      counted = λ f. ap (sum_by (tally_sum f)) (sym none);
      filed = filed_none c.args.buckets c.in_ok-tallies.tallies.items c.in_ok-last.last.items none
          c.in_ok-last.ensures.long c.in_ok-last.ensures.zero;
      crowded = crowd_none c.in_ok-sizes.sizes.items c.args.buckets
          (length c.in_ok-tallies.tallies.items) c.in_ok-sizes.ensures.long
          c.in_ok-sizes.ensures.zero;
      few = omega (arith, ap length none);
      earlier = λ k j d e lt from below. absurd (omega (arith, ap length none));
    }

pub count_students-requires : goal.count_students-requires
count_students-requires c =
    let E = c.args.enrolments.now in
    let xs = c.args.sittings.now in
    let i = c.loop-sitting.sitting-index in
    let x = c.sitting-item.result in
    let size : PlacedExam → ℕ = λ y. size_of E y.exam in
    let more = sum_by_more size xs i x c.loop-sitting-test.true in
    let here : size (get_or xs i x) ≡ size x = ap size (sym c.sitting-item.is) in
    let own : length c.students-students.result.now ≡ size x =
    ap length c.students-students.ensures.all in
    let part = sum_by-take-le size xs (i + 1) in
    let was : length c.loop-sitting.tallies.items ≤ sum_by size (take i xs) =
    c.loop-sitting.invariant.few in
    let most : sum_by size xs ≤ 200000 = c.requires.few in
    record {
      some = c.requires.some;
      filed = c.loop-sitting.invariant.filed;
      crowded = c.loop-sitting.invariant.crowded;
      few = omega arith;
      not_later = λ k d lt.
          let le = c.loop-sitting.invariant.earlier k i d x lt
          (omega arith) c.loop-sitting-test.true in
          let same : x.period ≡ (get_or xs i x).period = ap (λ z. z.period) c.sitting-item.is in
          omega arith;
    }

pub loop-sitting-preserved : goal.loop-sitting-preserved
loop-sitting-preserved c =
    let E = c.args.enrolments.now in
    let xs = c.args.sittings.now in
    let i = c.loop-sitting.sitting-index in
    let x = c.sitting-item.result in
    let new = c.in_ok-count_students.ensures in
    let all = c.students-students.ensures.all in
    let size : PlacedExam → ℕ = λ y. size_of E y.exam in
    record {
      counted = λ f.
          let w : ℕ → ℕ = λ s. f (row_at x.period s) in
          let more = sum_by_more (sitting_sum E f) xs i x c.loop-sitting-test.true in
          let here : sitting_sum E f (get_or xs i x) ≡ sum_by w (students E x.exam) =
          ap (sitting_sum E f) (sym c.sitting-item.is) in
          let own : sum_by w c.students-students.result.now ≡ sum_by w (students E x.exam) =
          ap (sum_by w) all in
          let one : sum_by (tally_sum f) c.count_students.new.tallies.items
          ≡ sum_by (tally_sum f) c.loop-sitting.tallies.items + sum_by w c.students-students.result.now =
          new.counted f in
          let was : sum_by (sitting_sum E f) (take i xs)
          ≡ sum_by (tally_sum f) c.loop-sitting.tallies.items =
          c.loop-sitting.invariant.counted f in
          let sum : sum_by (sitting_sum E f) (take (i + 1) xs)
          ≡ sum_by (tally_sum f) c.count_students.new.tallies.items = omega arith in
          sum;
      filed = new.filed;
      crowded = new.crowded;
      few =
          let more = sum_by_more size xs i x c.loop-sitting-test.true in
          let here : size (get_or xs i x) ≡ size x = ap size (sym c.sitting-item.is) in
          let own : length c.students-students.result.now ≡ size x = ap length all in
          let was : length c.loop-sitting.tallies.items ≤ sum_by size (take i xs) =
          c.loop-sitting.invariant.few in
          let grown = new.grown.few in
          let le : length c.count_students.new.tallies.items ≤ sum_by size (take (i + 1) xs) =
          omega arith in
          le;
      earlier = λ k j d e lt from below. elim (cases_lt k (length c.loop-sitting.tallies.items)) [
        | inl old ↦
            (let same = new.grown.kept k d old in
            let le = c.loop-sitting.invariant.earlier k j d e old (omega arith) below in
            omega arith)
        | inr added ↦
            (let same = new.grown.added k d added lt in
            let up = c.requires.ascending i j e (omega arith) below in
            let here : (get_or xs i e).period ≡ x.period =
            ap (λ z. z.period)
            (get_or_default xs i e x c.loop-sitting-test.true ∙ sym c.sitting-item.is) in
            omega arith)
      ];
    }

pub returns : goal.returns
returns c =
    let xs = c.args.sittings.now in
    let all = take_all c.loop-sitting.sitting-index xs (omega arith) in
    record {
      counted = λ f. ap (sum_by (sitting_sum c.args.enrolments.now f)) (sym all)
          ∙ c.loop-sitting.invariant.counted f;
      linked = record { buckets = c.args.buckets; links = c.loop-sitting.invariant.filed.linked };
    }
