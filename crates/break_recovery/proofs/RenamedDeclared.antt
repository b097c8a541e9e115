-- Declarations where slots have other numbers, each its own.
use mathlib.Core.Path.{ap₂}
use Rattle.std.proofs.Common.{ℕ, Bool, true, false, cond, ◌&&◌, ◌||◌, eqb, List, [], ◌∷◌, Option, Some, ◌≡◌, refl, ◌∙◌}
use Rattle.c_tree.specs.ExpressionTrees.{ExpressionTree}
use Rattle.c_tree.specs.Trees.{Tree, Forest, Nil, Then, Local}
use Rattle.tidy_laws.specs.Changes.{is_zero_value, is_declaration, undeclared, declares}
use Rattle.tidy_laws.specs.Renamed.{renamed_values, renamed_list, renamed_item}
use Rattle.break_recovery.proofs.RenamedExits.{number_same}

module _ (s : ℕ → ℕ) (same : (x y : ℕ) → eqb (s x) (s y) ≡ eqb x y) where
  zero_same : (es : Option (List ExpressionTree)) → is_zero_value (renamed_values s es) ≡ is_zero_value es
  zero_same (Some (e ∷ [])) = number_same s same 0 e
  zero_same _ = refl

  declaration_same : (g : ℕ) (x : Tree) → is_declaration (s g) (renamed_item s x) ≡ is_declaration g x
  declaration_same g (Local x es) = ap₂ (λ a b. a && b) (same x g) (zero_same es)
  declaration_same g _ = refl

  pub declares_same : (g : ℕ) (a : Forest) → declares (s g) (renamed_list s a) ≡ declares g a
  declares_same g Nil = refl
  declares_same g (Then x xs) = ap₂ (λ a b. a || b) (declaration_same g x) (declares_same g xs)

  pub undeclared_same : (g : ℕ) (a : Forest) → undeclared (s g) (renamed_list s a) ≡ renamed_list s (undeclared g a)
  undeclared_same g Nil = refl
  undeclared_same g (Then x xs) =
      ap₂ (λ b z. cond b (renamed_list s xs) (Then (renamed_item s x) z)) (declaration_same g x) (undeclared_same g xs) ∙ by (is_declaration g x)
    where
      by : (b : Bool) → cond b (renamed_list s xs) (Then (renamed_item s x) (renamed_list s (undeclared g xs))) ≡ renamed_list s
          (cond b xs (Then x (undeclared g xs)))
      by true = refl
      by false = refl
