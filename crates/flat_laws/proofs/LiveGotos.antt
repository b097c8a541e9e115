-- Items of a source whose gotos name labels that are live.
use Rattle.std.proofs.Common.{ℕ, Bool, true, ◌≡◌}
use Rattle.c_tree.specs.Trees.{Tree, Goto}
use Rattle.flat_laws.specs.FlatMade.{IsPlainItem}

-- an item of a source that, if it is a goto, names a live label
abbrev pub IsGoodItem : (ℕ → Bool) → Tree → Type 0
IsGoodItem live (Goto l) = live l ≡ true
IsGoodItem live x = IsPlainItem x
