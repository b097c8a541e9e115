-- A program has one end: each change is the first, and lists of items with the same trees are the same.
use Rattle.std.proofs.Common.{◌≡◌, ℕ, zero, suc, List, [], ◌∷◌, Option, Some, None, option_map, inl, inr, refl, sym, ap, ◌∙◌, subst}
use Rattle.std.proofs.lemmas.List.Elements.{recursion_from_All}
use Rattle.c_tree.specs.declared.tree.Function.{Function}
use Rattle.c_tree.specs.declared.tree.Item.{Item}
use Rattle.c_tree.specs.declared.tree.Top.{Top}
use Rattle.c_tree.specs.declared.tree.Top.TheVariants as T
use Rattle.c_tree.specs.Trees.{Forest, trees_of}
use Rattle.c_resolved_defs.specs.Within.{Each}
use Rattle.jump_meaning.specs.Code.{FunctionTree, function_tree}
use Rattle.reread_parts_laws.proofs.ItemMirrors.{forest_in, items_whole}
use Rattle.tidy_laws.specs.Changes.{changes_of, changed}
use Rattle.tidy_laws.specs.Ends.{IsChangedFirst, TopIsSettled, AreChangedFirst, AreChangedTimes, with_sections}
use Rattle.tidy_result_laws.specs.TidyRereadLaws.{OneEnd}

-- ---- a function

same_items : (f : Function) (xs ys : List Item) → trees_of xs ≡ trees_of ys → xs ≡ ys
same_items f xs ys e = sym (items_whole f xs) ∙ ap forest_in e ∙ items_whole f ys

abbrev tree_or : Forest → Option Forest → Forest
tree_or d (Some a) = a
tree_or d None = d

same_some : (a b : Forest) → Some a ≡ Some b → a ≡ b
same_some a b e = ap (tree_or a) e

same_body : (f : Function) (o u : Option (List Item)) → option_map trees_of o ≡ option_map trees_of u → o ≡ u
same_body f None None e = refl
same_body f (Some xs) (Some ys) e = ap Some (same_items f xs ys (same_some (trees_of xs) (trees_of ys) e))
same_body f None (Some ys) e = cc
same_body f (Some xs) None e = cc

abbrev first_or : ℕ × Forest → List (ℕ × Forest) → ℕ × Forest
first_or d [] = d
first_or d (c ∷ cs) = c

module _ (f h k : Function) (s : IsChangedFirst f h) (t : IsChangedFirst f k) where
  same_first : s.first ≡ t.first
  same_first = ap (first_or s.first) (sym s.changes ∙ t.changes)

  same_tree : function_tree h ≡ function_tree k
  same_tree = s.tree ∙ ap (changed (function_tree f)) same_first ∙ sym t.tree

  same_function : h ≡ k
  same_function =
      let slots = ap (λ (t : FunctionTree). t.slots) same_tree in
      let body = same_body f h.body k.body (ap (λ (t : FunctionTree). t.body) same_tree) in
      s.kept ∙ (λ i. record f { slots = slots i; body = body i }) ∙ sym t.kept

-- a change applies where none does
no_change : (f h : Function) → IsChangedFirst f h → changes_of (function_tree f) ≡ [] → ⊥
no_change f h s e = nothing (sym s.changes ∙ e)
  where
    nothing : {c : ℕ × Forest} {cs : List (ℕ × Forest)} → c ∷ cs ≡ [] → ⊥
    nothing e = cc

-- ---- files

only_step : (ts us vs : List Top) → AreChangedFirst ts us → AreChangedFirst ts vs → us ≡ vs
only_step (T.Function f ∷ ts) (T.Function h ∷ us) (T.Function k ∷ vs) (inl c) (inl d) = (λ i. T.Function (same_function f h k c.0 d.0 i) ∷ (c.1 ∙ sym d.1) i)
only_step (T.Function f ∷ ts) (T.Function h ∷ us) (y ∷ vs) (inl c) (inr d) = absurd (no_change f h c.0 d.0)
only_step (T.Function f ∷ ts) (y ∷ us) (T.Function k ∷ vs) (inr c) (inl d) = absurd (no_change f k d.0 c.0)
only_step (T.Function f ∷ ts) (T.Include b ∷ us) vs (inl c) d = absurd c.0
only_step (T.Function f ∷ ts) (T.Enum xs ∷ us) vs (inl c) d = absurd c.0
only_step (T.Function f ∷ ts) (T.Global g ∷ us) vs (inl c) d = absurd c.0
only_step (T.Function f ∷ ts) (T.Note b ∷ us) vs (inl c) d = absurd c.0
only_step (T.Function f ∷ ts) us (T.Include b ∷ vs) c (inl d) = absurd d.0
only_step (T.Function f ∷ ts) us (T.Enum xs ∷ vs) c (inl d) = absurd d.0
only_step (T.Function f ∷ ts) us (T.Global g ∷ vs) c (inl d) = absurd d.0
only_step (T.Function f ∷ ts) us (T.Note b ∷ vs) c (inl d) = absurd d.0
only_step (T.Include b ∷ ts) (y ∷ us) vs (inl c) d = absurd c.0
only_step (T.Enum xs ∷ ts) (y ∷ us) vs (inl c) d = absurd c.0
only_step (T.Global g ∷ ts) (y ∷ us) vs (inl c) d = absurd c.0
only_step (T.Note b ∷ ts) (y ∷ us) vs (inl c) d = absurd c.0
only_step (T.Include b ∷ ts) us (z ∷ vs) c (inl d) = absurd d.0
only_step (T.Enum xs ∷ ts) us (z ∷ vs) c (inl d) = absurd d.0
only_step (T.Global g ∷ ts) us (z ∷ vs) c (inl d) = absurd d.0
only_step (T.Note b ∷ ts) us (z ∷ vs) c (inl d) = absurd d.0
only_step (x ∷ ts) (y ∷ us) (z ∷ vs) (inr c) (inr d) = (λ i. (c.1 ∙ sym d.1) i ∷ only_step ts us vs c.2 d.2 i)
only_step [] us vs c d = absurd c
only_step (x ∷ ts) [] vs c d = absurd c
only_step (x ∷ ts) (y ∷ us) [] c d = absurd d

-- where nothing applies there is no change
none_first : (ts us : List Top) → Each TopIsSettled ts → AreChangedFirst ts us → ⊥
none_first (T.Function f ∷ ts) (T.Function h ∷ us) s (inl c) = no_change f h c.0 s.0
none_first (T.Function f ∷ ts) (T.Include b ∷ us) s (inl c) = c.0
none_first (T.Function f ∷ ts) (T.Enum xs ∷ us) s (inl c) = c.0
none_first (T.Function f ∷ ts) (T.Global g ∷ us) s (inl c) = c.0
none_first (T.Function f ∷ ts) (T.Note b ∷ us) s (inl c) = c.0
none_first (T.Include b ∷ ts) (y ∷ us) s (inl c) = c.0
none_first (T.Enum xs ∷ ts) (y ∷ us) s (inl c) = c.0
none_first (T.Global g ∷ ts) (y ∷ us) s (inl c) = c.0
none_first (T.Note b ∷ ts) (y ∷ us) s (inl c) = c.0
none_first (x ∷ ts) (y ∷ us) s (inr c) = none_first ts us s.1 c.2
none_first [] us s h = h
none_first (x ∷ ts) [] s h = h

only_times : (n m : ℕ) (ts us vs : List Top) → AreChangedTimes n ts us → AreChangedTimes m ts vs → Each TopIsSettled us → Each TopIsSettled vs →
    (m ≡ n) × (vs ≡ us)
only_times zero zero ts us vs c d s t = (refl, d ∙ sym c)
only_times zero (suc m) ts us vs c d s t = absurd (none_first ts d.0 (subst (Each TopIsSettled) c s) d.1)
only_times (suc n) zero ts us vs c d s t = absurd (none_first ts c.0 (subst (Each TopIsSettled) d t) c.1)
only_times (suc n) (suc m) ts us vs c d s t =
    let same = only_step ts c.0 d.0 c.1 d.1 in
    let k = only_times n m c.0 us vs c.2 (subst (λ ws. AreChangedTimes m ws vs) (sym same) d.2) s t in (ap suc k.0, k.1)

pub one_end : OneEnd
one_end p q r n m s t =
    let k = only_times n m p.tops s.last.tops t.last.tops s.changes t.changes (recursion_from_All TopIsSettled s.last.tops s.settled)
    (recursion_from_All TopIsSettled t.last.tops t.settled) in
    (k.0, t.sections ∙ (λ i. with_sections (record { tops = k.1 i })) ∙ sym s.sections)
