-- How a Leap stands to its Land.
use Rattle.std.specs.Prelude.{◌≡◌, ℕ, ◌<◌, ◌≤◌, List, [], ◌∷◌, ◌++◌, Bool, true, false, ◌&&◌, ◌==◌, nat_lt, cond}
use Rattle.c_tree.specs.declared.tree.Branch.{Branch}
use Rattle.c_tree.specs.declared.tree.Branch.TheVariants as B
use Rattle.c_tree.specs.declared.tree.Step.{Step}
use Rattle.label_offsets.specs.declared.places.Rule.{Rule}
use Rattle.label_offsets.specs.declared.places.Rule.TheVariants.{SiblingBefore, SiblingAfter, InwardOf, LiftOf, Outward}

abbrev pub same_branch : Branch → Branch → Bool
same_branch B.Body B.Body = true
same_branch B.Then B.Then = true
same_branch B.Else B.Else = true
same_branch (B.Section i) (B.Section j) = i == j
same_branch _ _ = false

abbrev pub same_step : Step → Step → Bool
same_step s t = s.item == t.item && same_branch s.branch t.branch

abbrev pub relation : List Step → ℕ → List Step → ℕ → Rule
relation [] i [] j = cond (nat_lt i j) SiblingBefore SiblingAfter
relation [] i (t ∷ ts) j = cond (nat_lt t.item i) LiftOf InwardOf
relation (s ∷ ss) i [] j = Outward
relation (s ∷ ss) i (t ∷ ts) j = cond (same_step s t) (relation ss i ts j) Outward

-- the second steps are the first and then more, by an item of the list there of whose place the fact holds
pub record IsFurther (P : ℕ → Type 0) (ss ts : List Step) : Type 0 where
  pub next : Step
  pub rest : List Step
  pub steps : ts ≡ ss ++ next ∷ rest
  pub item : P next.item

-- there is a last step
pub record IsNested (ss : List Step) : Type 0 where
  pub outer : List Step
  pub last : Step
  pub steps : ss ≡ outer ++ last ∷ []

-- what the rule says of a Leap at i after the steps ss, and a Land at j after the steps ts
abbrev pub Means : Rule → List Step → ℕ → List Step → ℕ → Type 0
Means SiblingBefore ss i ts j = (ts ≡ ss) × (i < j)
Means SiblingAfter ss i ts j = (ts ≡ ss) × (j ≤ i)
Means LiftOf ss i ts j = IsFurther (λ k. k < i) ss ts
Means InwardOf ss i ts j = IsFurther (λ k. i ≤ k) ss ts
Means Outward ss i ts j = IsNested ss
