-- What the relation of two paths says of their steps.
use Rattle.std.proofs.Common.{◌≡◌, ℕ, ◌<◌, ◌≤◌, List, [], ◌∷◌, Bool, true, false, cond, ◌==◌, nat_lt, refl, sym, ap, ◌∙◌}
use Rattle.std.proofs.lemmas.Bool.{eqb-true, ltb-true, ltb-false, and_parts}
use Rattle.c_tree.specs.declared.tree.Branch.{Branch}
use Rattle.c_tree.specs.declared.tree.Branch.TheVariants as B
use Rattle.c_tree.specs.declared.tree.Step.{Step}
use Rattle.label_offsets.specs.declared.places.Rule.{Rule}
use Rattle.label_offsets.specs.declared.places.Rule.TheVariants.{SiblingBefore, SiblingAfter, InwardOf, LiftOf, Outward}
use Rattle.label_offsets.specs.Relation.{same_branch, same_step, relation, IsFurther, IsNested, Means}

same_branch-is : (a b : Branch) → same_branch a b ≡ true → a ≡ b
same_branch-is B.Body B.Body e = refl
same_branch-is B.Then B.Then e = refl
same_branch-is B.Else B.Else e = refl
same_branch-is (B.Section i) (B.Section j) e = ap (λ (k : ℕ). B.Section k) (eqb-true i j e)
same_branch-is _ _ e = cc

pub same_step-is : (s t : Step) → same_step s t ≡ true → s ≡ t
same_step-is s t e =
    let h = and_parts (s.item == t.item) (same_branch s.branch t.branch) e in
    let f = eqb-true s.item t.item h.0 in
    let g = same_branch-is s.branch t.branch h.1 in
    ap (λ (i : ℕ). record { item = i; branch = s.branch }) f ∙ ap (λ (b : Branch). record { item = t.item; branch = b }) g

last_of : (s : Step) (ss : List Step) → IsNested (s ∷ ss)
last_of s [] = record { outer = []; last = s; steps = refl }
last_of s (t ∷ ss) = let n = last_of t ss in record { outer = s ∷ n.outer; last = n.last; steps = ap (λ z. s ∷ z) n.steps }

further : (P : ℕ → Type 0) (s t : Step) (ss ts : List Step) → s ≡ t → IsFurther P ss ts → IsFurther P (s ∷ ss) (t ∷ ts)
further P s t ss ts e f = record { next = f.next; rest = f.rest; steps = ap (λ z. z ∷ ts) (sym e) ∙ ap (λ z. s ∷ z) f.steps; item = f.item }

alike : (s t : Step) (ss ts : List Step) → s ≡ t → ts ≡ ss → t ∷ ts ≡ s ∷ ss
alike s t ss ts e f = ap (λ z. z ∷ ts) (sym e) ∙ ap (λ z. s ∷ z) f

one_more : (r : Rule) (s t : Step) (ss ts : List Step) (i j : ℕ) → s ≡ t → Means r ss i ts j → Means r (s ∷ ss) i (t ∷ ts) j
one_more SiblingBefore s t ss ts i j e m = (alike s t ss ts e m.0, m.1)
one_more SiblingAfter s t ss ts i j e m = (alike s t ss ts e m.0, m.1)
one_more LiftOf s t ss ts i j e m = further (λ k. k < i) s t ss ts e m
one_more InwardOf s t ss ts i j e m = further (λ k. i ≤ k) s t ss ts e m
one_more Outward s t ss ts i j e m = last_of s ss

pub means : (ss : List Step) (i : ℕ) (ts : List Step) (j : ℕ) → Means (relation ss i ts j) ss i ts j
means [] i [] j = put (nat_lt i j) refl where
  put : (b : Bool) → nat_lt i j ≡ b → Means (cond b SiblingBefore SiblingAfter) [] i [] j
  put true e = (refl, ltb-true i j e)
  put false e = (refl, ltb-false i j e)
means [] i (t ∷ ts) j = put (nat_lt t.item i) refl where
  put : (b : Bool) → nat_lt t.item i ≡ b → Means (cond b LiftOf InwardOf) [] i (t ∷ ts) j
  put true e = record { next = t; rest = ts; steps = refl; item = ltb-true t.item i e }
  put false e = record { next = t; rest = ts; steps = refl; item = ltb-false t.item i e }
means (s ∷ ss) i [] j = last_of s ss
means (s ∷ ss) i (t ∷ ts) j = put (means ss i ts j) (same_step s t) refl where
  put : Means (relation ss i ts j) ss i ts j → (b : Bool) → same_step s t ≡ b → Means (cond b (relation ss i ts j) Outward) (s ∷ ss) i (t ∷ ts) j
  put m true e = one_more (relation ss i ts j) s t ss ts i j (same_step-is s t e) m
  put m false e = last_of s ss
