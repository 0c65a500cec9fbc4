-- An instance file that was read is the text of an instance, and each such text is read.
use Rattle.std.proofs.lemmas.Grind.{common_steps}
use Rattle.std.proofs.Common.{◌≡◌, ℕ, ◌+◌, ◌<◌, ◌≤◌, List, [], ◌∷◌, length, Result, Ok, refl, sym, subst, arith}
use Rattle.std.specs.Prelude.{All, nat_le}
use Rattle.std.proofs.lemmas.Bool.{leb-true, le-leb}
use Rattle.std.proofs.lemmas.List.{length-map}
use Rattle.std.proofs.lemmas.List.Elements.{All-map}
use Rattle.exam_lists.proofs.Results.{ok_same, same_pair}
use Rattle.exam_terms.specs.Refusing.{unless}
use Rattle.exam_model.specs.Enrolments.{Enrolled}
use Rattle.exam_model.specs.Instance.{Session, IsInstance, PeriodRuleExists, RoomRuleExists}
use Rattle.exam_model.specs.Limits.{ExamInLimits, PeriodInLimits, RoomInLimits}
use Rattle.exam_model.specs.declared.parts.Period.{Period}
use Rattle.exam_model.specs.declared.parts.Room.{Room}
use Rattle.exam_model.specs.declared.rules.PeriodRule.{PeriodRule}
use Rattle.exam_model.specs.declared.rules.RoomRule.{RoomRule}
use Rattle.office_files.specs.ExamLines.{ExamLine, exam_line, exam_of}
use Rattle.office_files.specs.Spelled.{exams_heading, periods_heading, rooms_heading}
use Rattle.office_files.specs.Spelled.{period_rules_heading, room_rules_heading, weightings_heading}
use Rattle.office_files.specs.Spelled.{counts_of, Spelled, session_of, enrolled_of}
use Rattle.office_files.specs.InstanceText.{InstanceText, no_more, later_sections, instance_in}
use Rattle.office_files.specs.ItemLines.{period_line, room_line, period_rule_line, room_rule_line}
use Rattle.office_files.specs.Lines.{Located, lines_of, line_count}
use Rattle.office_files.specs.Reading.{at_line}
use Rattle.office_files.specs.Headers.{Heading}
use Rattle.office_files.specs.Sections.{section_in, IsSection}
use Rattle.office_files.specs.Weightings.{weighting_line}
use Rattle.office_files.specs.declared.weightings.Weighting.{Weighting}
use Rattle.office_files.specs.declared.fault.FaultKind.{FaultKind}
use Rattle.office_files.specs.declared.fault.FileFault.{FileFault}
use Rattle.office_files.specs.declared.fault.FaultKind.TheVariants.{TooLong}
use Rattle.office_files.proofs.ItemLaws.{HasAmounts, exam_line_within, period_within, room_within, period_rule_within, room_rule_within, weighting_line_within, weights_within}
use Rattle.office_files.proofs.ReadingLaws.{bind_ok, ok_bind, at_line_ok, ok_at_line, unless_ok, ok_unless, spelled_items, items_all, items_within}
use Rattle.office_files.proofs.SectionLaws.{section_is, is_section, counted_section}

-- the sections after that of the exams, each with the lines after it
abbrev pub ArePeriods : List ExamLine → List Located → List Period → List Located → Type 0
ArePeriods exams = IsSection periods_heading (period_line (counts_of exams))

abbrev pub AreRooms : List ExamLine → List Located → List Room → List Located → Type 0
AreRooms exams = IsSection rooms_heading (room_line (counts_of exams))

abbrev pub ArePeriodRules : List ExamLine → List Located → List PeriodRule → List Located → Type 0
ArePeriodRules exams = IsSection period_rules_heading (period_rule_line (counts_of exams))

abbrev pub AreRoomRules : List ExamLine → List Located → List RoomRule → List Located → Type 0
AreRoomRules exams = IsSection room_rules_heading (room_rule_line (counts_of exams))

abbrev pub AreWeightings : List ExamLine → List Located → List Weighting → List Located → Type 0
AreWeightings exams = IsSection weightings_heading (weighting_line (counts_of exams))

-- how each of them is read
abbrev pub Read : Type 0 → Type 0
Read A = List ExamLine → ℕ → List Located → Result (List A × List Located) FileFault

abbrev pub periods_in : Read Period
periods_in exams = section_in periods_heading (period_line (counts_of exams))

abbrev pub rooms_in : Read Room
rooms_in exams = section_in rooms_heading (room_line (counts_of exams))

abbrev pub period_rules_in : Read PeriodRule
period_rules_in exams = section_in period_rules_heading (period_rule_line (counts_of exams))

abbrev pub room_rules_in : Read RoomRule
room_rules_in exams = section_in room_rules_heading (room_rule_line (counts_of exams))

abbrev pub weightings_in : Read Weighting
weightings_in exams = section_in weightings_heading (weighting_line (counts_of exams))

-- the later sections, one after the other, followed by nothing
pub record AreLater (lines : List Located) (s : Spelled) : Type 0 where
  pub rest_after_periods : List Located
  pub rest_after_rooms : List Located
  pub rest_after_period_rules : List Located
  pub rest_after_room_rules : List Located
  pub periods : ArePeriods s.exams lines s.periods rest_after_periods
  pub rooms : AreRooms s.exams rest_after_periods s.rooms rest_after_rooms
  pub period_rules : ArePeriodRules s.exams rest_after_rooms s.period_rules rest_after_period_rules
  pub room_rules : AreRoomRules s.exams rest_after_period_rules s.room_rules rest_after_room_rules
  pub weightings : AreWeightings s.exams rest_after_room_rules s.weightings []

none_left : (lines : List Located) (u : Unit {0}) → no_more lines ≡ Ok u → lines ≡ []
none_left [] u e = refl
none_left (line ∷ lines) u e = cc

-- later sections that were read are there, after these exams
later_are : (end : ℕ) (exams : List ExamLine) (lines : List Located) (said : Spelled) →
    later_sections end exams lines ≡ Ok said → (said.exams ≡ exams) × AreLater lines said
later_are end exams lines said e =
    let periods = bind_ok (periods_in exams end lines) _ said e in
    let rooms = bind_ok (rooms_in exams end periods.0.1) _ said periods.2 in
    let on_periods = bind_ok (period_rules_in exams end rooms.0.1) _ said rooms.2 in
    let on_rooms = bind_ok (room_rules_in exams end on_periods.0.1) _ said on_periods.2 in
    let weighed = bind_ok (weightings_in exams end on_rooms.0.1) _ said on_rooms.2 in
    let none = bind_ok (no_more weighed.0.1) _ said weighed.2 in
    let whole = none_left weighed.0.1 none.0 none.1 in
    let last = section_is _ _ end on_rooms.0.1 weighed.0.0 weighed.0.1 weighed.1 in
    subst (λ (s : Spelled). (s.exams ≡ exams) × AreLater lines s) (ok_same _ _ said refl none.2) (
      refl,
      record {
        rest_after_periods = periods.0.1;
        rest_after_rooms = rooms.0.1;
        rest_after_period_rules = on_periods.0.1;
        rest_after_room_rules = on_rooms.0.1;
        periods = section_is _ _ end lines periods.0.0 periods.0.1 periods.1;
        rooms = section_is _ _ end periods.0.1 rooms.0.0 rooms.0.1 rooms.1;
        period_rules = section_is _ _ end rooms.0.1 on_periods.0.0 on_periods.0.1 on_periods.1;
        room_rules = section_is _ _ end on_periods.0.1 on_rooms.0.0 on_rooms.0.1 on_rooms.1;
        weightings = subst (λ xs. AreWeightings exams on_rooms.0.1 weighed.0.0 xs) whole last;
      },
    )

-- later sections that are there are read
are_later : (end : ℕ) (lines : List Located) (said : Spelled) → AreLater lines said →
    later_sections end said.exams lines ≡ Ok said
are_later end lines said s =
    let exams = said.exams in
    ok_bind (periods_in exams end lines) _ (said.periods, s.rest_after_periods) said
    (is_section _ _ end lines said.periods s.rest_after_periods s.periods)
    (ok_bind (rooms_in exams end s.rest_after_periods) _ (said.rooms, s.rest_after_rooms) said
    (is_section _ _ end s.rest_after_periods said.rooms s.rest_after_rooms s.rooms)
    (ok_bind (period_rules_in exams end s.rest_after_rooms) _
    (said.period_rules, s.rest_after_period_rules) said
    (is_section _ _ end s.rest_after_rooms said.period_rules s.rest_after_period_rules
    s.period_rules)
    (ok_bind (room_rules_in exams end s.rest_after_period_rules) _
    (said.room_rules, s.rest_after_room_rules) said
    (is_section _ _ end s.rest_after_period_rules said.room_rules s.rest_after_room_rules
    s.room_rules)
    (ok_bind (weightings_in exams end s.rest_after_room_rules) _ (said.weightings, []) said
    (is_section _ _ end s.rest_after_room_rules said.weightings [] s.weightings) refl))))

-- the text describes the result of its reading
pub read_is_text : (b : List ℕ) (I : Session) (E : Enrolled) → instance_in b ≡ Ok (I, E) →
    InstanceText b I E
read_is_text b I E e =
    let short = nat_le (length b) 4194304 in
    let end = line_count b + 1 in
    let fits = bind_ok (at_line 0 (unless short TooLong)) _ (I, E) e in
    let within = at_line_ok 0 (unless short TooLong) fits.0 fits.1 in
    let passed = unless_ok short TooLong fits.0 within in
    let exams = bind_ok (section_in exams_heading exam_line end (lines_of b)) _ (I, E) fits.2 in
    let said = bind_ok (later_sections end exams.0.0 exams.0.1) _ (I, E) exams.2 in
    let later = later_are end exams.0.0 exams.0.1 said.0 said.1 in
    let first = section_is exams_heading exam_line end (lines_of b) exams.0.0 exams.0.1 exams.1 in
    let both = same_pair _ I (session_of said.0) E (enrolled_of said.0) refl (sym said.2) in
    let after = later.1 in
    record {
      within = leb-true (length b) 4194304 passed;
      said = said.0;
      rest_after_exams = exams.0.1;
      rest_after_periods = after.rest_after_periods;
      rest_after_rooms = after.rest_after_rooms;
      rest_after_period_rules = after.rest_after_period_rules;
      rest_after_room_rules = after.rest_after_room_rules;
      exams = rw later.0 first;
      periods = after.periods;
      rooms = after.rooms;
      period_rules = after.period_rules;
      room_rules = after.room_rules;
      weightings = after.weightings;
      session = both.0;
      enrolled = both.1;
    }

-- the sections that are read in a text that is short enough are its reading
pub sections_are_read : (b : List ℕ) (exams : List ExamLine) (after : List Located)
    (said : Spelled) → length b ≤ 4194304 →
    section_in exams_heading exam_line (line_count b + 1) (lines_of b) ≡ Ok (exams, after) →
    later_sections (line_count b + 1) exams after ≡ Ok said →
    instance_in b ≡ Ok (session_of said, enrolled_of said)
sections_are_read b exams after said within first later =
    grind (arith, common_steps, le-leb, ok_at_line, ok_bind, ok_unless)

-- a session that a text describes is read from it
pub text_is_read : (b : List ℕ) (I : Session) (E : Enrolled) → InstanceText b I E →
    instance_in b ≡ Ok (I, E)
text_is_read b I E t =
    let end = line_count b + 1 in
    let exams = is_section _ _ end (lines_of b) t.said.exams t.rest_after_exams t.exams in
    let later = are_later end t.rest_after_exams t.said (record {
      rest_after_periods = t.rest_after_periods;
      rest_after_rooms = t.rest_after_rooms;
      rest_after_period_rules = t.rest_after_period_rules;
      rest_after_room_rules = t.rest_after_room_rules;
      periods = t.periods;
      rooms = t.rooms;
      period_rules = t.period_rules;
      room_rules = t.room_rules;
      weightings = t.weightings;
    }) in
    rw (t.session, t.enrolled)
    (sections_are_read b t.said.exams t.rest_after_exams t.said t.within exams later)

-- a text has only one session and one set of enrolments
pub one_reading : (b : List ℕ) (I J : Session) (E F : Enrolled) →
    InstanceText b I E → InstanceText b J F → (I ≡ J) × (E ≡ F)
one_reading b I J E F one other =
    let first = text_is_read b I E one in
    same_pair (instance_in b) I J E F first (text_is_read b J F other)

module _ {A : Type 0} (heading : Heading) (read : List A → List (List ℕ) → Result A FaultKind) where
  -- a fact about the result of each line of a section holds for each of its items
  section_all : (P : A → Type 0) →
      ((before : List A) (fields : List (List ℕ)) (x : A) → read before fields ≡ Ok x → P x) →
      (lines : List Located) (items : List A) (after : List Located) →
      IsSection heading read lines items after → All P items
  section_all P each_is lines items after s =
      items_all read P each_is s.body items (spelled_items read s.body items s.spelled)

  -- if a line is refused after this many items, the section has no more
  section_within : (n : ℕ) →
      ((before : List A) (fields : List (List ℕ)) (x : A) → read before fields ≡ Ok x →
      length before < n) →
      (lines : List Located) (items : List A) (after : List Located) →
      IsSection heading read lines items after → length items ≤ n
  section_within n each_is lines items after s =
      items_within read n each_is s.body items (spelled_items read s.body items s.spelled)

-- the values of the sections together are an instance
pub sections_are_instance : (said : Spelled) (lines b1 b2 b3 b4 b5 b6 : List Located) →
    IsSection exams_heading exam_line lines said.exams b1 →
    ArePeriods said.exams b1 said.periods b2 →
    AreRooms said.exams b2 said.rooms b3 →
    ArePeriodRules said.exams b3 said.period_rules b4 →
    AreRoomRules said.exams b4 said.room_rules b5 →
    AreWeightings said.exams b5 said.weightings b6 →
    IsInstance (session_of said)
sections_are_instance said lines b1 b2 b3 b4 b5 b6 exams periods rooms on_periods on_rooms weighed =
    let counts = counts_of said.exams in
    let some_exams = counted_section exams_heading exam_line 2000 lines said.exams b1 refl exams in
    let some : 1 ≤ length said.exams = some_exams.0 in
    let many = length-map said.exams exam_of in
    record {
      limits = record {
        counts = (
          rw many some_exams,
          counted_section _ _ 200 b1 said.periods b2 refl periods,
          counted_section _ _ 200 b2 said.rooms b3 refl rooms,
          section_within _ _ 5000
              (λ before fields r is. (period_rule_within counts before fields r some is).0)
              b3 said.period_rules b4 on_periods,
          section_within _ _ 5000
              (λ before fields r is. (room_rule_within counts before fields r some is).0)
              b4 said.room_rules b5 on_rooms,
        );
        exams = All-map ExamInLimits exam_of said.exams
            (section_all _ _ (λ x. ExamInLimits (exam_of x)) exam_line_within
            lines said.exams b1 exams);
        periods = section_all _ _ PeriodInLimits (λ before fields p is. period_within fields p is)
            b1 said.periods b2 periods;
        rooms = section_all _ _ RoomInLimits (λ before fields r is. room_within fields r is)
            b2 said.rooms b3 rooms;
        weights = weights_within said.weightings
            (section_all _ _ HasAmounts (weighting_line_within counts)
            b5 said.weightings b6 weighed);
      };
      numbers = record {
        period_rules = rw many (section_all _ _ (PeriodRuleExists (length said.exams))
            (λ before fields r is. (period_rule_within counts before fields r some is).1)
            b3 said.period_rules b4 on_periods);
        room_rules = rw many (section_all _ _ (RoomRuleExists (length said.exams))
            (λ before fields r is. (room_rule_within counts before fields r some is).1)
            b4 said.room_rules b5 on_rooms);
      };
    }

-- the values of the exams and the later sections are an instance
pub later_is_instance : (said : Spelled) (end : ℕ) (lines after : List Located)
    (exams : List ExamLine) →
    section_in exams_heading exam_line end lines ≡ Ok (exams, after) →
    later_sections end exams after ≡ Ok said → IsInstance (session_of said)
later_is_instance said end lines after exams e more =
    let later = later_are end exams after said more in
    let first = section_is exams_heading exam_line end lines exams after e in
    let s = later.1 in
    sections_are_instance said lines after s.rest_after_periods s.rest_after_rooms
    s.rest_after_period_rules s.rest_after_room_rules []
    (rw later.0 first) s.periods s.rooms s.period_rules s.room_rules s.weightings
