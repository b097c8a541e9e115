-- The names of guards: one for each label, each new.
use Rattle.std.proofs.Common.{◌≡◌, ℕ, suc, ◌||◌, false, List, [], ◌∷◌, ◌++◌, length, refl, sym, ap, ◌∙◌, subst}
use Rattle.std.proofs.Math.Bool.{or_assoc}
use Rattle.std.specs.Str.{bytes_eq}
use Rattle.c_tree.specs.declared.tree.Function.{Function}
use Rattle.c_copies.specs.Names.{has_name, with_name, with_names}
use Rattle.c_copies.proofs.Rising.{has_name-with_name}
use Rattle.c_fresh_names.proofs.NameSets.{in_either}
use Rattle.guard_vars.specs.GuardNames.{guard_name, named_guards, guard_names, AreNew}

pub length-named_guards : (used labels : List (List ℕ)) → length (named_guards used labels) ≡ length labels
length-named_guards used [] = refl
length-named_guards used (l ∷ ls) = ap suc (length-named_guards (with_name used (guard_name l used)) ls)

-- a name for each label
pub length-guard_names : (ns : List (List ℕ)) (f : Function) → length (guard_names ns f) ≡ length f.labels
length-guard_names ns f = length-named_guards _ f.labels

-- what is used after these names are given
abbrev pub used_after : List (List ℕ) → List (List ℕ) → List (List ℕ)
used_after used [] = used
used_after used (g ∷ gs) = used_after (g ∷ used) gs

used_after-more : (used gs : List (List ℕ)) (g : List ℕ) → used_after used (gs ++ g ∷ []) ≡ g ∷ used_after used gs
used_after-more used [] g = refl
used_after-more used (h ∷ gs) g = used_after-more (h ∷ used) gs g

new_more : (used gs : List (List ℕ)) (g : List ℕ) → AreNew used gs → has_name (used_after used gs) g ≡ false → AreNew used (gs ++ g ∷ [])
new_more used [] g n h = (h, tt)
new_more used (x ∷ gs) g n h = (n.0, new_more (x ∷ used) gs g n.1 h)

-- two lists have the same names
abbrev pub AreSameNames : List (List ℕ) → List (List ℕ) → Type 0
AreSameNames us vs = (q : List ℕ) → has_name us q ≡ has_name vs q

-- one name more, in a loop that gives names
pub used_step : (first used more out next : List (List ℕ)) (g : List ℕ) → more ≡ with_name used g → next ≡ out ++ g ∷ []
    → AreSameNames used (used_after first out) → AreSameNames more (used_after first next)
used_step first used more out next g added pushed same q =
    ap (λ u. has_name u q) added ∙ has_name-with_name used g q ∙ ap (λ b. bytes_eq q g || b) (same q)
    ∙ sym (ap (λ u. has_name u q) (ap (used_after first) pushed ∙ used_after-more first out g))

pub new_step : (first used out next : List (List ℕ)) (g : List ℕ) → has_name used g ≡ false → next ≡ out ++ g ∷ []
    → AreSameNames used (used_after first out) → AreNew first out → AreNew first next
new_step first used out next g unused pushed same new =
    subst (AreNew first) (sym pushed) (new_more first out g new (sym (same g) ∙ unused))

same_more : (us vs : List (List ℕ)) (g : List ℕ) → AreSameNames us vs → AreSameNames (g ∷ us) (g ∷ vs)
same_more us vs g same q = ap (λ b. bytes_eq q g || b) (same q)

-- names that are new are so where the same names are used
pub new_where_same : (us vs gs : List (List ℕ)) → AreSameNames us vs → AreNew us gs → AreNew vs gs
new_where_same us vs [] same new = tt
new_where_same us vs (g ∷ gs) same new = (sym (same g) ∙ new.0, new_where_same (g ∷ us) (g ∷ vs) gs (same_more us vs g same) new.1)

-- what stands in one of two lists stands in both together
name_in_both : (us vs : List (List ℕ)) (q : List ℕ) → has_name (us ++ vs) q ≡ (has_name us q || has_name vs q)
name_in_both [] vs q = refl
name_in_both (u ∷ us) vs q = ap (λ b. bytes_eq q u || b) (name_in_both us vs q) ∙ sym (or_assoc (bytes_eq q u) (has_name us q) (has_name vs q))

-- the names that are used in a function, as one list
pub same_beside : (file own : List (List ℕ)) → AreSameNames (with_names file own) (file ++ own)
same_beside file own q = in_either file own q ∙ sym (name_in_both file own q)

-- and with those of the file
pub same_in_file : (ns own : List (List ℕ)) → AreSameNames (with_names [] ns ++ own) (ns ++ own)
same_in_file ns own q = name_in_both (with_names [] ns) own q ∙ ap (λ b. b || has_name own q) (in_either [] ns q) ∙ sym (name_in_both ns own q)
