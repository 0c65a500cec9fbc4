use Rattle.std.proofs.Common.{◌++◌, List, ℕ, string_bytes}
use Rattle.std.specs.List.{flat_map}
use Rattle.exam_lists.proofs.Appended.{appended_twice}
use Rattle.office_files.specs.CanonicalLines.{line_of, weighting_text}
use Rattle.office_files.specs.CanonicalText.{header_text, nights_of}
use Rattle.office_files.specs.Spelled.{weightings_heading}
use Rattle.office_files.specs.declared.weightings.Weighting.TheVariants.{Row, Day, Spread, Mixed, Front}
use Rattle.office_files.proofs.instance_writer.add_weightings.Goals as goal

pub returns : goal.returns
returns c =
    let weights = c.weights-weights.result in
    let head : List ℕ = line_of (header_text weightings_heading 5) in
    let row : List ℕ = line_of (weighting_text (Row weights.row)) in
    let day : List ℕ = line_of (weighting_text (Day weights.day)) in
    let spread : List ℕ = line_of (weighting_text (Spread weights.spread)) in
    let mixed : List ℕ = line_of (weighting_text (Mixed weights.mixed)) in
    let front : List ℕ =
    line_of (weighting_text (Front weights.front_exams weights.front_periods weights.front)) in
    let night : List ℕ =
    flat_map (λ said. line_of (weighting_text said)) (nights_of weights.night) in
    rw c.weights-weights.ensures.weights at
    (appended_twice (string_bytes c.args.text.now) head
    (row ++ (day ++ (spread ++ (mixed ++ (front ++ night))))) c.in_ok-push_str.ensures.bytes
    (appended_twice (string_bytes c.push_str.new.self) row
    (day ++ (spread ++ (mixed ++ (front ++ night)))) c.in_ok-add_weighting.ensures
    (appended_twice (string_bytes c.add_weighting.new.text) day
    (spread ++ (mixed ++ (front ++ night))) c.in_ok-add_weighting-2.ensures
    (appended_twice (string_bytes c.add_weighting-2.new.text) spread (mixed ++ (front ++ night))
    c.in_ok-add_weighting-3.ensures
    (appended_twice (string_bytes c.add_weighting-3.new.text) mixed (front ++ night)
    c.in_ok-add_weighting-4.ensures
    (appended_twice (string_bytes c.add_weighting-4.new.text) front night
    c.in_ok-add_weighting-5.ensures c.in_ok-add_night.ensures))))))
