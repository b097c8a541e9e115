-- What `jumpless_sources` states.
use Rattle.std.specs.Prelude.{◌≡◌, false, List, None, All}
use Rattle.c_tree.specs.declared.tree.Top.{Top}
use Rattle.c_tree.specs.declared.tree.Top.TheVariants as T
use Rattle.c_tree.specs.InRange.{body_of}
use Rattle.c_grammar.specs.Tops as tops
use Rattle.c_scopes.specs.Files.{File, State, tops_of}
use Rattle.flat_laws.specs.Parts.{has_jumps}
use Rattle.tidy_refusal.specs.FileJumps.{first_jump}

-- a function without gotos and scattered switches
abbrev pub TopLacksJumps : Top → Type 0
TopLacksJumps (T.Function f) = has_jumps (body_of f) ≡ false
TopLacksJumps _ = Unit {0}

-- each function of a file without jumps
abbrev pub JumplessSources : Type 0
JumplessSources = (file : File) (xs : List tops.Top) (s : State) → first_jump xs ≡ None → All TopLacksJumps (tops_of file xs s)
