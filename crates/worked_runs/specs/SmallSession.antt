-- The small session, its solution, the words of commands on them, and what `check` prints.
use Rattle.std.specs.Prelude.{◌∷◌, [], ℕ, List, codes}

-- the session's text
abbrev pub session_text : List ℕ
session_text = codes "[Exams:4]\n120, 1, 2\n90, 2, 3\n120, 3\n60, 1\n[Periods:4]\n15:04:2005, 09:30:00, 120, 0\n15:04:2005, 14:00:00, 120, 0\n15:04:2005, 17:00:00, 90, 10\n18:04:2005, 09:30:00, 120, 5\n[Rooms:2]\n3, 0\n2, 7\n[PeriodHardConstraints]\n1, AFTER, 0\n[RoomHardConstraints]\n[InstitutionalWeightings]\nTWOINAROW,7\nTWOINADAY,5\nPERIODSPREAD,3\nNONMIXEDDURATIONS,10\nFRONTLOAD,1,2,4\n"

-- the solution's text
abbrev pub solution_text : List ℕ
solution_text = codes "0, 0\n1, 0\n3, 1\n2, 0\n"

-- the words of `check` on the two files
abbrev pub check_words : List (List ℕ)
check_words =
    codes "examoffice" ∷ codes "check" ∷ codes "small.exam" ∷ codes "small.sol" ∷ []

-- the words of `load` of the session's file
abbrev pub load_words : List (List ℕ)
load_words = codes "examoffice" ∷ codes "load" ∷ codes "--db" ∷ codes "term.db" ∷ codes "small.exam" ∷ []

-- the words of `export` of the database
abbrev pub export_words : List (List ℕ)
export_words = codes "examoffice" ∷ codes "export" ∷ codes "--db" ∷ codes "term.db" ∷ []

-- the ten lines of the report
abbrev pub ten_lines : List ℕ
ten_lines = codes "breaches 0\ntwo in a row 7\ntwo in a day 5\nperiod spread 3\nover night 0\nmixed durations 0\nfront load 0\nperiod penalty 15\nroom penalty 7\ntotal 37\n"
