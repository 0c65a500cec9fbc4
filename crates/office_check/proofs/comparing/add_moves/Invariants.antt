use Rattle.std.proofs.Common.{◌≡◌, ◌++◌, string_bytes, take}
use Rattle.std.specs.List.{flat_map}
use Rattle.office_check.specs.Compare.{move_line}
use Rattle.office_check.proofs.comparing.add_moves.Given as goal

-- the lines so far
abbrev pub invariant-loop-moved : goal.invariant-loop-moved
invariant-loop-moved l =
    string_bytes l.text
    ≡ string_bytes l.initial.text ++ flat_map move_line (take l.moved-index l.moves)
