-- Two paths are equal where neither place is before the other in one list.
use Rattle.std.proofs.Common.{◌≡◌, ℕ, true, cond, ◌&&◌, List, [], ◌∷◌, refl, sym, ap, subst, ◌∙◌, arith}
use Rattle.std.proofs.lemmas.Bool.{eq-eqb, le-ltb}
use Rattle.c_tree.specs.declared.tree.Branch.{Branch}
use Rattle.c_tree.specs.declared.tree.Branch.TheVariants as B
use Rattle.c_tree.specs.declared.tree.Path.{Path}
use Rattle.c_tree.specs.declared.tree.Step.{Step}
use Rattle.label_offsets.specs.declared.places.Rule.TheVariants.{SiblingBefore, SiblingAfter, Outward}
use Rattle.label_offsets.specs.Relation.{same_branch, same_step, relation, Means}
use Rattle.label_offsets.proofs.RelationLaws.{means}

pub same_by : (p q : Path) → p.item ≡ q.item → relation p.steps p.item q.steps q.item ≡ SiblingAfter → p ≡ q
same_by p q e h =
    let m : Means SiblingAfter p.steps p.item q.steps q.item = subst (λ r. Means r p.steps p.item q.steps q.item) h (means p.steps p.item q.steps q.item) in
    let one : p ≡ record { steps = q.steps; item = p.item } = ap (λ (ss : List Step). record { steps = ss; item = p.item }) (sym m.0) in
    one ∙ ap (λ (n : ℕ). record { steps = q.steps; item = n }) e

itself_branch : (b : Branch) → same_branch b b ≡ true
itself_branch B.Body = refl
itself_branch B.Then = refl
itself_branch B.Else = refl
itself_branch (B.Section i) = eq-eqb i i refl

itself_step : (s : Step) → same_step s s ≡ true
itself_step s = ap (λ b. b && same_branch s.branch s.branch) (eq-eqb s.item s.item refl) ∙ itself_branch s.branch

itself : (ss : List Step) (i : ℕ) → relation ss i ss i ≡ SiblingAfter
itself [] i = ap (λ b. cond b SiblingBefore SiblingAfter) (le-ltb i i (omega arith))
itself (s ∷ ss) i = ap (λ b. cond b (relation ss i ss i) Outward) (itself_step s) ∙ itself ss i

pub same_after : (p q : Path) → p ≡ q → relation p.steps p.item q.steps q.item ≡ SiblingAfter
same_after p q e = ap (λ (z : Path). relation p.steps p.item z.steps z.item) (sym e) ∙ itself p.steps p.item
