-- A fact at each place of lists of what stands at file scope.
use Rattle.std.specs.Prelude.{List, [], ◌∷◌}
use Rattle.c_tree.specs.declared.tree.Top.{Top}

-- the lists have the same length, and the fact holds of what stands at one place of them
abbrev pub AtEachPlace : (Top → Top → Top → Type 0) → List Top → List Top → List Top → Type 0
AtEachPlace P [] [] [] = Unit {0}
AtEachPlace P (t ∷ ts) (u ∷ us) (v ∷ vs) = P t u v × AtEachPlace P ts us vs
AtEachPlace P _ _ _ = ⊥

-- the two lists have the same length, and the fact holds of what stands at one place of them
abbrev pub AtEachPair : (Top → Top → Type 0) → List Top → List Top → Type 0
AtEachPair P [] [] = Unit {0}
AtEachPair P (t ∷ ts) (u ∷ us) = P t u × AtEachPair P ts us
AtEachPair P _ _ = ⊥
