-- The lines that are written before work that takes long, and about a new or an old file.
use Rattle.std.specs.Prelude.{ℕ, ◌++◌, List, codes}
use Rattle.office_check.specs.Names.{printed_name}
use Rattle.office_program.specs.declared.notices.LongWork.{LongWork}
use Rattle.office_program.specs.declared.notices.LongWork.TheVariants as work

-- the line of an instance that is loaded, without its end
abbrev pub loading_line : List ℕ → List ℕ
loading_line path =
    codes "examoffice: loading " ++ printed_name path ++ codes ", which takes a while"

-- the line of a database whose office is found
abbrev pub opening_line : List ℕ → List ℕ
opening_line path =
    codes "examoffice: opening " ++ printed_name path ++ codes ", which takes a while"

-- the line of a database in whose office a draft is published
abbrev pub publishing_line : List ℕ → List ℕ
publishing_line path =
    codes "examoffice: publishing in " ++ printed_name path ++ codes ", which takes a while"

-- the line of a new database
abbrev pub making_line : List ℕ → List ℕ
making_line path =
    codes "examoffice: " ++ printed_name path ++ codes " is new: an office without a session"

-- the line of a database whose tables have version 1
abbrev pub upgrading_line : List ℕ → List ℕ
upgrading_line path =
    codes "examoffice: " ++ printed_name path ++ codes " becomes version 2, which no older program opens"

-- the path of the file that the work is on
abbrev pub work_path : LongWork → List ℕ
work_path (work.Loading path) = path.now
work_path (work.Opening path) = path.now
work_path (work.Publishing path) = path.now
work_path (work.Making path) = path.now
work_path (work.Upgrading path) = path.now

-- the line of the work that begins, without its end
abbrev pub work_line : LongWork → List ℕ
work_line (work.Loading path) = loading_line path.now
work_line (work.Opening path) = opening_line path.now
work_line (work.Publishing path) = publishing_line path.now
work_line (work.Making path) = making_line path.now
work_line (work.Upgrading path) = upgrading_line path.now
