-- The links of students' tallies: each leads to the one before it in its bucket.
use Rattle.std.specs.Prelude.{◌≡◌, ◌≢◌, ℕ, ◌+◌, ◌-◌, ◌*◌, ◌%◌, ◌^◌, ◌<◌, ◌≤◌, List, length, take, slice_index, slice_index_or, sum_by, AllPairs}
use Rattle.exam_terms.specs.declared.limits.TheConstants.{MAX_PAIRS}
use Rattle.exam_score.specs.Tallies.{cost_with_tally}
use Rattle.exam_score.specs.declared.tallies.Tally.{Tally}

-- the bucket of a student's tallies, out of this many
abbrev pub bucket_of_student : ℕ → ℕ → ℕ
bucket_of_student buckets student = student % buckets

-- the last of the first k tallies in a bucket has index n - 1; there is none if n is 0
pub record IsLast (tallies : List Tally) (buckets bucket n k : ℕ) : Type 0 where
  pub within : n ≤ k
  pub here : (d : Tally) → 0 < n
      → bucket_of_student buckets (slice_index_or tallies (n - 1) d).student ≡ bucket
  pub none : (j : ℕ) (d : Tally) → n ≤ j → j < k
      → bucket_of_student buckets (slice_index_or tallies j d).student ≢ bucket

-- each tally leads to the one before it in its bucket, and the periods ascend
pub record AreLinkedIn (tallies : List Tally) (buckets : ℕ) : Type 0 where
  pub links : (k : ℕ) (d : Tally) → k < length tallies
      → IsLast tallies buckets (bucket_of_student buckets (slice_index_or tallies k d).student)
      (slice_index_or tallies k d).before k
  pub ascending : AllPairs (λ x y. x.period ≤ y.period) tallies

-- the same for some number of buckets
pub record AreLinked (tallies : List Tally) : Type 0 where
  pub buckets : ℕ
  pub links : AreLinkedIn tallies buckets

-- the same, and the last tally of each bucket is known
pub record AreFiled (tallies : List Tally) (last : List ℕ) (buckets : ℕ) : Type 0 where
  pub count : length last ≡ buckets
  pub lasts : (bucket : ℕ) → bucket < length last
      → IsLast tallies buckets bucket (slice_index last bucket) (length tallies)
  pub linked : AreLinkedIn tallies buckets

-- bounds on the crowding of the buckets by this many tallies: no bucket has more than all of them,
-- and there are at most 200,000 steps back along the buckets for each tally
pub record AreCrowded (sizes : List ℕ) (steps buckets tallies : ℕ) : Type 0 where
  pub count : length sizes ≡ buckets
  pub each : (bucket : ℕ) → bucket < length sizes → slice_index sizes bucket ≤ tallies
  pub all : steps ≤ tallies * MAX_PAIRS

-- the tally with index n - 1 is x
pub record IsReached (tallies : List Tally) (n : ℕ) (x : Tally) : Type 0 where
  pub some : 0 < n
  pub here : (d : Tally) → slice_index_or tallies (n - 1) d ≡ x

-- the tallies are linked, and the one just before index n, if any, is of the bucket of student s
pub record IsOnWay (tallies : List Tally) (n s : ℕ) : Type 0 where
  pub buckets : ℕ
  pub links : AreLinkedIn tallies buckets
  pub within : n ≤ length tallies
  pub bucket : (d : Tally) → 0 < n
      → bucket_of_student buckets (slice_index_or tallies (n - 1) d).student
      ≡ bucket_of_student buckets s

-- the tally just before index n is of student s, or n is 0; those from n up to the end cost nothing
-- with a tally of that student if periods below the first cost nothing with it
pub record IsLatestOfStudent (tallies : List Tally) (end s first n : ℕ) : Type 0 where
  pub within : n ≤ end
  pub own : (d : Tally) → 0 < n → (slice_index_or tallies (n - 1) d).student ≡ s
  pub sums : (cost : ℕ → ℕ → ℕ) (y : Tally) → y.student ≡ s
      → ((q : ℕ) → q < first → cost q y.period ≡ 0)
      → sum_by (cost_with_tally cost y) (take end tallies)
      ≡ sum_by (cost_with_tally cost y) (take n tallies)

-- the tally just before index n is of student s and period p, and can count one more
pub record Extends (tallies : List Tally) (n s p : ℕ) : Type 0 where
  pub some : 0 < n
  pub student : (d : Tally) → (slice_index_or tallies (n - 1) d).student ≡ s
  pub period : (d : Tally) → (slice_index_or tallies (n - 1) d).period ≡ p
  pub room : (d : Tally) → (slice_index_or tallies (n - 1) d).exams + 1 < 2 ^ 32

-- the new tallies are of period p and limited in number, and the old ones keep their values
pub record Grows (old new : List Tally) (p most : ℕ) : Type 0 where
  pub longer : length old ≤ length new
  pub few : length new ≤ length old + most
  pub kept : (k : ℕ) (d : Tally) → k < length old
      → (slice_index_or new k d).period ≡ (slice_index_or old k d).period
  pub added : (k : ℕ) (d : Tally) → length old ≤ k → k < length new
      → (slice_index_or new k d).period ≡ p
