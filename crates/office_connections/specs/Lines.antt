-- The lines that are printed while connections are served.
use Rattle.std.specs.Prelude.{◌≡◌, ◌≢◌, ℕ, ◌+◌, ◌≤◌, ◌⊎◌, List, [], ◌∷◌, ◌++◌, length, Option, codes, decimal}
use Rattle.std.specs.Io.KnownBytes.{Appends}
use Rattle.office_output.specs.Writing.{WritesFront}
use Rattle.office_connections.specs.declared.listening.TheConstants.{MAX_PORT}
use Rattle.office_messages.specs.declared.connection.ServeFault.{ServeFault}
use Rattle.office_messages.specs.declared.connection.ServeFault.TheVariants as fault

-- the number printed for a connection's fault
abbrev pub connection_fault_number : ServeFault → ℕ
connection_fault_number fault.Read = 1
connection_fault_number fault.Write = 2
connection_fault_number fault.TooMany = 3
connection_fault_number fault.NoMemory = 4

-- the line of a connection's fault
abbrev pub fault_line : ServeFault → List ℕ
fault_line f =
    codes "examoffice: connection fault " ++ decimal (connection_fault_number f) ++ 10 ∷ []

-- the lines of some faults, one after another
abbrev pub fault_lines : List ServeFault → List ℕ
fault_lines [] = []
fault_lines (f ∷ fs) = fault_line f ++ fault_lines fs

-- the line of each fault was written whole, or a front of it; so many were not written whole
abbrev pub PrintsLines : List ServeFault → ℕ → Option (List ℕ) → Option (List ℕ) → Type 0
PrintsLines [] unwritten old new = (unwritten ≡ 0) × (new ≡ old)
PrintsLines (f ∷ fs) unwritten old new =
    (mid : Option (List ℕ))
    × ((Appends old mid (fault_line f) × PrintsLines fs unwritten mid new)
    ⊎ ((fewer : ℕ) × (unwritten ≡ fewer + 1) × WritesFront old mid (fault_line f)
    × PrintsLines fs fewer mid new))

-- the lines of at most this many faults are printed
abbrev pub PrintsFaults : ℕ → Option (List ℕ) → Option (List ℕ) → Type 0
PrintsFaults most old new =
    (faults : List ServeFault) × (length faults ≤ most) × Appends old new (fault_lines faults)

-- the line that announces the port
abbrev pub listening_line : ℕ → List ℕ
listening_line port = codes "listening 127.0.0.1:" ++ decimal port ++ 10 ∷ []

-- the port for a requested one: the same, or any for 0
abbrev pub IsPortOf : ℕ → ℕ → Type 0
IsPortOf asked port = (port ≤ MAX_PORT) × (asked ≢ 0 → port ≡ asked)

-- the line that announces the port is printed, for a requested port
abbrev pub PrintsPort : ℕ → Option (List ℕ) → Option (List ℕ) → Type 0
PrintsPort asked old new =
    (port : ℕ) × IsPortOf asked port × Appends old new (listening_line port)
