-- What the works on texts do.
use Rattle.std.specs.Prelude.{ℕ, List, Option}
use Rattle.rg_ports.specs.Files.{Files}
use Rattle.rg_ports.specs.declared.reads.ReadCounts.{ReadCounts}
use Rattle.rg_ports.specs.Written.{Written}
use Rattle.cmd_words.specs.declared.status.Status.{Status}
use Rattle.cmd_files.specs.declared.translator.Part.{Part}

-- what is said of the files, of the counts of reads and of that of failed writes, before and after, and of the status
abbrev pub OnShelf : Type 1
OnShelf = Option Files → Option Files → ReadCounts → ReadCounts → ℕ → ℕ → Status → Type 0

-- what is said of the bytes written to `out` and `err`, and of the counts of failed writes there, before and after, and of the
-- status; the first says that nothing was done to `out`
abbrev pub OnSinks : Type 1
OnSinks = Type 0 → Written → Written → ℕ → ℕ → Written → Written → ℕ → ℕ → Status → Type 0

-- what is said of the files before, of the counts of reads, of a count of failed writes, before and after, and of the status
abbrev pub Completing : Type 1
Completing = Option Files → ReadCounts → ReadCounts → ℕ → ℕ → Status → Type 0

-- What each work does, and when it completes, by the names and numbers that it is given. The first argument of some says
-- which line was told.
pub record Effects : Type 1 where
  -- the file that is read, the one that is written, and that of the report where one is asked for
  pub restructures : (List ℕ → Type 0) → List ℕ → List ℕ → Option (List ℕ) → OnShelf
  pub shows : List ℕ → Part → Option Files → ReadCounts → ReadCounts → OnSinks
  pub completes : List ℕ → Completing
  -- the file that is run, and the most steps; then the bytes left in the input and the count of its failed reads
  pub runs : (List ℕ → Type 0) → List ℕ → ℕ → Option Files → ReadCounts → ReadCounts
      → Type 0 → Option (List ℕ) → Option (List ℕ) → ℕ → ℕ → Written → Written → ℕ → ℕ → Status → Type 0
  pub completes_run : List ℕ → ℕ → Option Files → ReadCounts → ReadCounts → Option (List ℕ) → ℕ → ℕ → ℕ → ℕ → Status → Type 0
  -- the file that is read, that of the report, and the one that is written
  pub replays : (List ℕ → Type 0) → List ℕ → List ℕ → List ℕ → OnShelf
  pub completes_replay : List ℕ → List ℕ → Completing
  -- the file that is read, and the one that is written
  pub tidies : (List ℕ → Type 0) → List ℕ → List ℕ → OnShelf
  pub completes_tidy : List ℕ → Completing
  pub lowers : (List ℕ → Type 0) → List ℕ → List ℕ → OnShelf
  pub completes_lower : List ℕ → Completing
  -- the number of functions
  pub demonstrates : ℕ → OnSinks
  pub completes_demo : ℕ → ℕ → ℕ → Status → Type 0
