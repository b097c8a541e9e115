-- The block that is a function's body.
use Rattle.std.specs.Prelude.{ℕ, List, map}
use Rattle.c_grammar.specs.Items.{Body, Braces}
use Rattle.c_grammar.specs.Parts.{part_of, items_in}
use Rattle.c_scopes.specs.declared.blocks.Block.{Block}

abbrev pub block_form : (ℕ → List ℕ) → Block → Body
block_form word b = Braces b.first b.after (items_in (map (part_of word) b.items.now))
