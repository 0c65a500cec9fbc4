-- The weights of a text are the numbers on the lines of their words.
use Rattle.std.proofs.lemmas.Grind.{common_steps}
use Rattle.std.proofs.Common.{◌≡◌, ℕ, suc, Bool, true, false, List, [], ◌∷◌, ◌++◌, Result, Ok, inl, inr, refl, ap, sym, subst, ◌∙◌, arith}
use Rattle.std.specs.Prelude.{All}
use Rattle.std.specs.List.{list_any}
use Rattle.std.proofs.lemmas.Bool.{cases_Bool, true≢false}
use Rattle.std.proofs.lemmas.List.{append-nil}
use Rattle.std.proofs.lemmas.List.Elements.{All-nil, All-cons, All-head, All-tail, All-weaker}
use Rattle.std.proofs.lemmas.List.Kept.{AllPairs-cons}
use Rattle.std.proofs.lemmas.List.Folds.{list_any-append, list_any_none}
use Rattle.exam_lists.proofs.Results.{ok_same}
use Rattle.exam_model.specs.Enrolments.{Enrolled}
use Rattle.exam_model.specs.Instance.{Session}
use Rattle.exam_model.specs.declared.parts.Weights.{Weights}
use Rattle.office_files.specs.Fields.{fields_of, first_field, other_fields}
use Rattle.office_files.specs.Spelled.{counts_of}
use Rattle.office_files.specs.InstanceText.{InstanceText}
use Rattle.office_files.specs.Lines.{Located, is_header, lines_of}
use Rattle.office_files.specs.Numbers.{number}
use Rattle.office_files.specs.Reading.{at_line, items_of}
use Rattle.office_files.specs.WeightLines.{last_section, field_after, begins_with, number_after, HasAmount, Weighs}
use Rattle.office_files.specs.Headers.{Heading}
use Rattle.office_files.specs.Sections.{AtHeader, IsSection}
use Rattle.office_files.specs.Weightings.{has_word, weighting_by, weighting_line}
use Rattle.office_files.specs.Weights.{with_weighting, with_weightings, no_weights}
use Rattle.office_files.specs.declared.counts.Counts.{Counts}
use Rattle.office_files.specs.declared.fault.FaultKind.{FaultKind}
use Rattle.office_files.specs.declared.weightings.Weighting.{Weighting}
use Rattle.office_files.specs.declared.weightings.Weighting.TheVariants as said
use Rattle.office_files.specs.declared.weightings.WeightWord.{WeightWord}
use Rattle.office_files.specs.declared.weightings.WeightWord.TheVariants as word
use Rattle.office_files.proofs.ReadingLaws.{bind_ok, at_line_ok, spelled_items}
use Rattle.exam_terms.specs.declared.limits.TheConstants.{MAX_AMOUNT}
use Rattle.office_files.proofs.WeightLemmas.{text_of, word_of, word_read, read_word, has_its_word}
use Rattle.office_files.proofs.WeightLemmas.{its_word, one_read, front_read, WasRead, was_read}
use Rattle.office_files.proofs.WeightLemmas.{one_more}

-- ---- one word among the lines of a section

-- a weight by its word, and how many numbers of the line come before it
record IsWeight (w : WeightWord) (place : ℕ) (get : Weights → ℕ) : Type 0 where
  pub none : get no_weights ≡ 0
  pub hit : (fields : List (List ℕ)) (s : Weighting) (x : Weights) → weighting_by w fields ≡ Ok s
      → number MAX_AMOUNT (field_after place fields) ≡ Ok (get (with_weighting x s))
  pub miss : (s : Weighting) (x : Weights) → has_word w s ≡ false
      → get (with_weighting x s) ≡ get x

module _ (w : WeightWord) (place : ℕ) (get : Weights → ℕ) (is : IsWeight w place get)
    (counts : Counts) where
  -- the reading of a line, and the weight by this many lines
  abbrev reads : List Weighting → List (List ℕ) → Result Weighting FaultKind
  reads = weighting_line counts

  abbrev weight : List Weighting → ℕ
  weight ss = get (with_weightings no_weights ss)

  -- the line doesn't begin with the word
  abbrev Lacks : Located → Type 0
  Lacks line = begins_with (text_of w) line ≡ false

  abbrev LineGives : List Weighting → Located → Type 0
  LineGives all line =
      begins_with (text_of w) line ≡ true → number_after (suc place) line ≡ Ok (weight all)

  abbrev NotBoth : Located → Located → Type 0
  NotBoth line other = begins_with (text_of w) line ≡ true → begins_with (text_of w) other ≡ false

  -- a line begins with the word exactly if its weighting has it
  begun : (before : List Weighting) (line : Located) (s : Weighting)
      → WasRead before (fields_of line.text) s → has_word w s ≡ true
      → begins_with (text_of w) line ≡ true
  begun before line s was has =
      read_word w (first_field (fields_of line.text)) (was.word ∙ ap Ok (its_word w s has))

  has_begun : (before : List Weighting) (line : Located) (s : Weighting)
      → WasRead before (fields_of line.text) s → begins_with (text_of w) line ≡ true → word_of s ≡ w
  has_begun before line s was begins = grind (arith, common_steps, ok_same, word_of, word_read)

  passed : (before : List Weighting) (s : Weighting) → has_word w s ≡ false
      → weight (before ++ s ∷ []) ≡ weight before
  passed before s other =
      ap get (one_more no_weights before s) ∙ is.miss s (with_weightings no_weights before) other

  -- after the line of the word, no line has it, and its weight doesn't change
  come : (before : List Weighting) (lines : List Located) (all : List Weighting)
      → list_any (has_word w) before ≡ true → items_of reads before lines ≡ Ok all
      → All Lacks lines × (weight all ≡ weight before)
  come before [] all there read = grind (arith, common_steps, All-nil)
  come before (line ∷ lines) all there read =
      let New : WeightWord → Type 0 = λ v. list_any (has_word v) before ≡ false in
      let head = bind_ok (at_line line.line (reads before (fields_of line.text))) _ all read in
      let was = was_read counts before (fields_of line.text) head.0
      (at_line_ok line.line _ head.0 head.1) in
      let other : has_word w head.0 ≡ false = elim (cases_Bool (has_word w head.0)) [
        | inl has ↦
            let twice = subst New (its_word w head.0 has) was.new in
            cc
        | inr lacks ↦ lacks
      ] in
      let lacks : Lacks line = elim (cases_Bool (begins_with (text_of w) line)) [
        | inl starts ↦
            let twice = subst New (has_begun before line head.0 was starts) was.new in
            cc
        | inr without ↦ without
      ] in
      let more = come (before ++ head.0 ∷ []) lines all
      (list_any-append (has_word w) before (head.0 ∷ []) ∙ rw there refl) head.2 in
      (All-cons Lacks line lines lacks more.0, more.1 ∙ passed before head.0 other)

  -- before the line of the word, the lines have its weight
  weight_after : (before : List Weighting) (lines : List Located) (all : List Weighting)
      → list_any (has_word w) before ≡ false → weight before ≡ 0
      → items_of reads before lines ≡ Ok all
      → HasAmount lines (text_of w) (suc place) (weight all)
  weight_after before [] all missing zero_yet read = grind (arith, common_steps, All-nil)
  weight_after before (line ∷ lines) all missing zero_yet read =
      let head = bind_ok (at_line line.line (reads before (fields_of line.text))) _ all read in
      let was = was_read counts before (fields_of line.text) head.0
      (at_line_ok line.line _ head.0 head.1) in
      elim (cases_Bool (begins_with (text_of w) line)) [
        | inl starts ↦
            let its = has_begun before line head.0 was starts in
            let has : has_word w head.0 ≡ true
            = subst (λ v. has_word v head.0 ≡ true) its (has_its_word head.0) in
            let more = come (before ++ head.0 ∷ []) lines all
            (list_any-append (has_word w) before (head.0 ∷ []) ∙ rw (missing, has) refl) head.2 in
            let numbers = other_fields (fields_of line.text) in
            let by = subst (λ v. weighting_by v numbers ≡ Ok head.0) its was.by in
            let weights = with_weightings no_weights before in
            let here = is.hit numbers head.0 weights by in
            let amount : weight all ≡ get (with_weighting weights head.0)
            = more.1 ∙ ap get (one_more no_weights before head.0) in
            record {
              once = AllPairs-cons NotBoth line lines
                  (All-weaker Lacks (NotBoth line) (λ l lacks _. lacks) lines more.0)
                  (λ i j d lt within _. more.0 j d within);
              said = All-cons (LineGives all) line lines (λ _. here ∙ ap Ok (sym amount))
                  (All-weaker Lacks (LineGives all) (λ l lacks begins. cc) lines more.0);
              unsaid = λ none. let lacks = All-head Lacks line lines none in cc;
            }
        | inr lacks ↦
            let other : has_word w head.0 ≡ false = elim (cases_Bool (has_word w head.0)) [
              | inl has ↦ let starts = begun before line head.0 was has in cc
              | inr without ↦ without
            ] in
            let more = weight_after (before ++ head.0 ∷ []) lines all
            (list_any-append (has_word w) before (head.0 ∷ []) ∙ rw (missing, other) refl)
            (passed before head.0 other ∙ zero_yet) head.2 in
            record {
              once = AllPairs-cons NotBoth line lines (λ k d within begins. cc) more.once;
              said = All-cons (LineGives all) line lines (λ begins. cc) more.said;
              unsaid = λ none. more.unsaid (All-tail Lacks line lines none);
            }
      ]

-- ---- each weight by its word

-- the numbers after a word; 0 for a missing one
abbrev numbers_of : WeightWord → Weights → ℕ × ℕ × ℕ
numbers_of word.Row w = (w.row, 0, 0)
numbers_of word.Day w = (w.day, 0, 0)
numbers_of word.Spread w = (w.spread, 0, 0)
numbers_of word.Mixed w = (w.mixed, 0, 0)
numbers_of word.Front w = (w.front_exams, w.front_periods, w.front)
numbers_of word.Night w = (w.night, 0, 0)

-- a line of another word doesn't change them
missed : (w : WeightWord) (s : Weighting) (x : Weights) → has_word w s ≡ false
    → numbers_of w (with_weighting x s) ≡ numbers_of w x
missed word.Row (said.Row n) x other = absurd (true≢false other)
missed word.Day (said.Day n) x other = absurd (true≢false other)
missed word.Spread (said.Spread n) x other = absurd (true≢false other)
missed word.Mixed (said.Mixed n) x other = absurd (true≢false other)
missed word.Front (said.Front n k v) x other = absurd (true≢false other)
missed word.Night (said.Night n) x other = absurd (true≢false other)
missed _ _ x other = refl

is_row : IsWeight word.Row 0 (λ x. x.row)
is_row = record {
  none = refl;
  hit = λ fields s x is.
      let one = one_read said.Row fields s is in
      one.1 ∙ ap (λ t. Ok (with_weighting x t).row) one.2;
  miss = λ s x other. ap (λ n. n.0) (missed word.Row s x other);
}

is_day : IsWeight word.Day 0 (λ x. x.day)
is_day = record {
  none = refl;
  hit = λ fields s x is.
      let one = one_read said.Day fields s is in
      one.1 ∙ ap (λ t. Ok (with_weighting x t).day) one.2;
  miss = λ s x other. ap (λ n. n.0) (missed word.Day s x other);
}

is_spread : IsWeight word.Spread 0 (λ x. x.spread)
is_spread = record {
  none = refl;
  hit = λ fields s x is.
      let one = one_read said.Spread fields s is in
      one.1 ∙ ap (λ t. Ok (with_weighting x t).spread) one.2;
  miss = λ s x other. ap (λ n. n.0) (missed word.Spread s x other);
}

is_mixed : IsWeight word.Mixed 0 (λ x. x.mixed)
is_mixed = record {
  none = refl;
  hit = λ fields s x is.
      let one = one_read said.Mixed fields s is in
      one.1 ∙ ap (λ t. Ok (with_weighting x t).mixed) one.2;
  miss = λ s x other. ap (λ n. n.0) (missed word.Mixed s x other);
}

is_front_exams : IsWeight word.Front 0 (λ x. x.front_exams)
is_front_exams = record {
  none = refl;
  hit = λ fields s x is.
      let three = front_read fields s is in
      three.3 ∙ ap (λ t. Ok (with_weighting x t).front_exams) three.6;
  miss = λ s x other. ap (λ n. n.0) (missed word.Front s x other);
}

is_front_periods : IsWeight word.Front 1 (λ x. x.front_periods)
is_front_periods = record {
  none = refl;
  hit = λ fields s x is.
      let three = front_read fields s is in
      three.4 ∙ ap (λ t. Ok (with_weighting x t).front_periods) three.6;
  miss = λ s x other. ap (λ n. n.1) (missed word.Front s x other);
}

is_front : IsWeight word.Front 2 (λ x. x.front)
is_front = record {
  none = refl;
  hit = λ fields s x is.
      let three = front_read fields s is in
      three.5 ∙ ap (λ t. Ok (with_weighting x t).front) three.6;
  miss = λ s x other. ap (λ n. n.2) (missed word.Front s x other);
}

is_night : IsWeight word.Night 0 (λ x. x.night)
is_night = record {
  none = refl;
  hit = λ fields s x is.
      let one = one_read said.Night fields s is in
      one.1 ∙ ap (λ t. Ok (with_weighting x t).night) one.2;
  miss = λ s x other. ap (λ n. n.0) (missed word.Night s x other);
}

module _ (counts : Counts) (lines : List Located) (ss : List Weighting)
    (read : items_of (weighting_line counts) [] lines ≡ Ok ss) where
  weight_is : (w : WeightWord) (place : ℕ) (get : Weights → ℕ) → IsWeight w place get
      → HasAmount lines (text_of w) (suc place) (get (with_weightings no_weights ss))
  weight_is w place get is = weight_after w place get is counts [] lines ss refl is.none read

  section_weighs : Weighs lines (with_weightings no_weights ss)
  section_weighs = record {
    row = weight_is word.Row 0 (λ x. x.row) is_row;
    day = weight_is word.Day 0 (λ x. x.day) is_day;
    spread = weight_is word.Spread 0 (λ x. x.spread) is_spread;
    mixed = weight_is word.Mixed 0 (λ x. x.mixed) is_mixed;
    front_exams = weight_is word.Front 0 (λ x. x.front_exams) is_front_exams;
    front_periods = weight_is word.Front 1 (λ x. x.front_periods) is_front_periods;
    front = weight_is word.Front 2 (λ x. x.front) is_front;
    night = weight_is word.Night 0 (λ x. x.night) is_night;
  }

-- ---- the last section

abbrev has_header : List Located → Bool
has_header lines = list_any (λ (line : Located). is_header line.text) lines

-- lines before others with a header leave the last section as it is
skipped : (xs ys : List Located) → has_header ys ≡ true
    → (has_header (xs ++ ys) ≡ true) × (last_section (xs ++ ys) ≡ last_section ys)
skipped [] ys there = (there, refl)
skipped (x ∷ xs) ys there = grind (arith, common_steps, skipped xs ys there)

module _ {A : Type 0} (heading : Heading) (read : List A → List (List ℕ) → Result A FaultKind)
    (lines : List Located) (items : List A) (after : List Located)
    (s : IsSection heading read lines items after) where
  -- a section that begins at a header has a header
  section_headed : AtHeader lines → has_header lines ≡ true
  section_headed at = grind (arith, common_steps)

  -- then the last section is that of the lines after it
  section_skipped : has_header after ≡ true → last_section lines ≡ last_section after
  section_skipped there =
      ap last_section s.cut ∙ (skipped (s.header ∷ s.body) after there).1

-- the last section is followed by nothing
section_last : {A : Type 0} (heading : Heading) (read : List A → List (List ℕ) → Result A FaultKind)
    (lines : List Located) (items : List A) (s : IsSection heading read lines items [])
    → AtHeader lines → last_section lines ≡ s.body
section_last heading read lines items s at = grind (arith, common_steps, append-nil, list_any_none)

-- ---- the text

pub weighs_as_said : (b : List ℕ) (I : Session) (E : Enrolled) → InstanceText b I E
    → Weighs (last_section (lines_of b)) I.weights
weighs_as_said b I E t =
    let exams = t.said.exams in
    let periods = t.said.periods in
    let rooms = t.said.rooms in
    let period_rules = t.said.period_rules in
    let room_rules = t.said.room_rules in
    let weightings = t.said.weightings in
    let last : last_section (lines_of b) ≡ t.weightings.body
    = section_skipped _ _ (lines_of b) exams t.rest_after_exams t.exams
    (section_headed _ _ t.rest_after_exams periods t.rest_after_periods t.periods t.exams.up_to)
    ∙ section_skipped _ _ t.rest_after_exams periods t.rest_after_periods t.periods
    (section_headed _ _ t.rest_after_periods rooms t.rest_after_rooms t.rooms t.periods.up_to)
    ∙ section_skipped _ _ t.rest_after_periods rooms t.rest_after_rooms t.rooms
    (section_headed _ _ t.rest_after_rooms period_rules t.rest_after_period_rules t.period_rules
    t.rooms.up_to)
    ∙ section_skipped _ _ t.rest_after_rooms period_rules t.rest_after_period_rules t.period_rules
    (section_headed _ _ t.rest_after_period_rules room_rules t.rest_after_room_rules t.room_rules
    t.period_rules.up_to)
    ∙ section_skipped _ _ t.rest_after_period_rules room_rules t.rest_after_room_rules t.room_rules
    (section_headed _ _ t.rest_after_room_rules weightings [] t.weightings t.room_rules.up_to)
    ∙ section_last _ _ t.rest_after_room_rules weightings t.weightings t.room_rules.up_to in
    let weights : I.weights ≡ with_weightings no_weights weightings
    = ap (λ (J : Session). J.weights) t.session in
    let read = weighting_line (counts_of exams) in
    subst (λ xs. Weighs xs I.weights) (sym last)
    (subst (λ x. Weighs t.weightings.body x) (sym weights)
    (section_weighs (counts_of exams) t.weightings.body weightings
    (spelled_items read t.weightings.body weightings t.weightings.spelled)))
