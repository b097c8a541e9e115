-- Where a file stands in a list of files.
use Rattle.std.specs.Prelude.{◌≡◌, ℕ, List, take, slice_get, Option, None, Some}
use Rattle.std.specs.FinMap.{find}
use Rattle.c_types.specs.Words.{name_cmp}

-- a name, and the bytes of the file
abbrev pub File : Type 0
File = List ℕ × List ℕ

-- the bytes of the first file with a name
abbrev pub bytes_of : List ℕ → List File → Option (List ℕ)
bytes_of = find name_cmp

-- the first file with the name stands at this place
pub record FirstAt (files : List File) (name : List ℕ) (place : ℕ) : Type 0 where
  pub bytes : List ℕ
  pub there : slice_get files place ≡ Some (name, bytes)
  pub before : bytes_of name (take place files) ≡ None
