-- The guards of two lists: counted by the variables that the functions of the first had, and none behind the end of one.
use Rattle.std.proofs.Common.{◌≡◌, ℕ, ◌+◌, ◌≤◌, List, [], ◌∷◌, Option, length, drop, map, refl, ap, ◌∙◌}
use mathlib.Core.Path.{ap₂}
use Rattle.std.proofs.lemmas.List.{at_drop_all}
use Rattle.c_tree.specs.declared.tree.Top.{Top}
use Rattle.c_tree.specs.declared.tree.Top.TheVariants as T
use Rattle.c_tree.specs.declared.tree.Program.{Program}
use Rattle.move_driver.specs.Counts.{counted, guards_between, guards_from, slot_count, guards_behind, guards_past}

none_behind : (ns : List (Option ℕ)) → guards_past ns [] ≡ 0
none_behind [] = refl
none_behind (n ∷ ns) = refl

pub none_left : (ns : List (Option ℕ)) (us : List Top) (i : ℕ) → length ns ≤ i → guards_past (drop i ns) (drop i us) ≡ 0
none_left ns us i l = at_drop_all (λ z. guards_past z (drop i us)) ns i l

pub none_beside : (ns : List (Option ℕ)) (us : List Top) (i : ℕ) → length us ≤ i → guards_past (drop i ns) (drop i us) ≡ 0
none_beside ns us i l = at_drop_all (guards_past (drop i ns)) us i l ∙ none_behind (drop i ns)

same_between : (t u : Top) → guards_behind (slot_count t) u ≡ guards_between t u
same_between (T.Function f) (T.Function g) = refl
same_between _ _ = refl

same_from : (ts us : List Top) → guards_past (map slot_count ts) us ≡ guards_from ts us
same_from [] us = refl
same_from (t ∷ ts) [] = refl
same_from (t ∷ ts) (u ∷ us) = ap₂ {A = ℕ} {B = ℕ} (λ m n. m + n) (same_between t u) (same_from ts us)

pub counted_before : (ns : List (Option ℕ)) (moved plain : Program) (n : ℕ) → n ≡ counted (guards_past ns plain.tops) → ns ≡ map slot_count moved.tops
    → n ≡ counted (guards_from moved.tops plain.tops)
counted_before ns moved plain n e h = e ∙ ap (λ z. counted (guards_past z plain.tops)) h ∙ ap counted (same_from moved.tops plain.tops)
