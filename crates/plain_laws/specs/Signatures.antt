-- Programs whose functions have the same signatures.
use Rattle.std.specs.Prelude.{◌≡◌, is_some, List, [], ◌∷◌}
use Rattle.c_tree.specs.declared.tree.Function.{Function}
use Rattle.c_tree.specs.declared.tree.Top.{Top}
use Rattle.c_tree.specs.declared.tree.Top.TheVariants as T
use Rattle.plain_laws.specs.Kinded.{Grown}

-- the same name, kind and parameters; the second may have more slots
pub record SameSignature (f g : Function) : Type 0 where
  pub name : g.name ≡ f.name
  pub result : g.result ≡ f.result
  pub body : is_some g.body ≡ is_some f.body
  pub slots : Grown f.slots g.slots

-- functions of the same signature, or the same
abbrev pub SameTop : Top → Top → Type 0
SameTop (T.Function f) (T.Function g) = SameSignature f g
SameTop (T.Function f) y = ⊥
SameTop x y = x ≡ y

-- each two at one place of two lists are alike: functions by their signatures, and all else entirely
abbrev pub SameTops : List Top → List Top → Type 0
SameTops [] [] = Unit {0}
SameTops [] (y ∷ ys) = ⊥
SameTops (x ∷ xs) [] = ⊥
SameTops (x ∷ xs) (y ∷ ys) = SameTop x y × SameTops xs ys
