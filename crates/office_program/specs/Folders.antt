-- Files in memory.
use Rattle.std.specs.Prelude.{List, Option, find, option_map, ℕ}
use Rattle.std.specs.Str.{bytes_eq}
use Rattle.office_program.specs.declared.folder.FolderFile.{FolderFile}

-- the bytes of the first file of a path, if there is one
abbrev pub bytes_at : List ℕ → List FolderFile → Option (List ℕ)
bytes_at path files = option_map (λ file. file.bytes.now) (find (λ file. bytes_eq file.path.now path) files)
