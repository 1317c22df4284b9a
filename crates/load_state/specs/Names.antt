-- The names under which the text of a path is sought.
use Rattle.std.specs.Prelude.{ℕ, ◌-◌, length, slice_get, unwrap_or, ◌==◌, if◌then◌else◌, List, [], ◌∷◌, ◌++◌, codes}
use Rattle.std.specs.List.{list_any}
use Rattle.syntax_tree.specs.declared.expr.QualName.{QualName}

-- the front of a file's name that ends with its last slash, or nothing
abbrev pub folder_of : List ℕ → List ℕ
folder_of [] = []
folder_of (byte ∷ rest) = if list_any (λ b. b == 47) (byte ∷ rest) then byte ∷ folder_of rest else []

-- the parts, with a slash before each
abbrev pub after_slashes : List (List ℕ) → List ℕ
after_slashes [] = []
after_slashes (part ∷ parts) = (47 ∷ part) ++ after_slashes parts

abbrev pub slashed : List (List ℕ) → List ℕ
slashed [] = []
slashed (part ∷ parts) = part ++ after_slashes parts

-- a path as it is written, without blanks
abbrev pub path_bytes : QualName → List ℕ
path_bytes path = if path.is_own then codes "this/" ++ slashed path.parts else slashed path.parts

-- the name of the file of a path in a folder
abbrev pub file_name : List ℕ → List ℕ → List ℕ
file_name folder path = (folder ++ path) ++ codes ".als"

-- the last part of a path
abbrev pub last_part : List (List ℕ) → List ℕ
last_part parts = unwrap_or (slice_get parts (length parts - 1)) []
