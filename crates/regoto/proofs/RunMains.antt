-- In a resolved program a `main` takes no arguments, so that a run may begin there.
use Rattle.std.proofs.Common.{rules, ◌≡◌, ℕ, Bool, true, false, ◌&&◌, cond, List, [], ◌∷◌, take, codes, Option, Some, None, Result, Ok, Err, refl, sym}
use Rattle.std.specs.Prelude.{IfSome, IfOk, IsNone, All}
use Rattle.std.specs.Str.{bytes_eq}
use Rattle.c_types.specs.declared.refusal.ReadStop.{ReadStop}
use Rattle.c_tree.specs.declared.tree.Function.{Function}
use Rattle.c_tree.specs.declared.tree.Program.{Program}
use Rattle.c_tree.specs.declared.tree.Slot.{Slot}
use Rattle.c_tree.specs.declared.tree.Top.{Top}
use Rattle.c_tree.specs.declared.tree.Top.TheVariants as T
use Rattle.c_resolved_defs.specs.Within.{Each}
use Rattle.c_resolved_defs.specs.Files.{IsMainForm, MainIsFormed}
use Rattle.c_resolved_laws.specs.Counts.{IsResolved}
use Rattle.jump_meaning.specs.Code.{FunctionTree, function_tree, function_in, first_of, undeclared, function_named}
use Rattle.regoto.specs.Runnable.{EntersMain}

abbrev TakesNone : FunctionTree → Type 0
TakesNone g = g.params ≡ 0

here : (b c : Bool) (f : Function) (o : Option FunctionTree) → (b ≡ true → IsMainForm f) → IfSome o TakesNone →
    IfSome (cond (b && c) (Some (function_tree f)) o) TakesNone
here true true f o h rest = (h refl).parameters
here true false f o h rest = rest
here false c f o h rest = rest

found : (q : Function → Bool) (ts : List Top) → Each MainIsFormed ts → IfSome (function_in q (codes "main") ts) TakesNone
found q [] h = tt
found q (T.Function f ∷ ts) h = here (bytes_eq f.name (codes "main")) (q f) f (function_in q (codes "main") ts) h.0 (found q ts h.1)
found q (T.Include bs ∷ ts) h = found q ts h.1
found q (T.Enum es ∷ ts) h = found q ts h.1
found q (T.Global g ∷ ts) h = found q ts h.1
found q (T.Note bs ∷ ts) h = found q ts h.1

first : (a b : Option FunctionTree) → IfSome a TakesNone → IfSome b TakesNone → TakesNone (first_of a b undeclared)
first (Some g) b h k = h
first None (Some g) h k = k
first None None h k = refl

no_slot : (ss : List Slot) (n : ℕ) → n ≡ 0 → All (λ (s : Slot). IsNone s.cells) (take n ss)
no_slot ss n e = rw e (search rules)

pub enters : (p : Program) → IsResolved p → EntersMain p
enters p h main =
    let none = first (function_in _ (codes "main") p.tops) (function_in _ (codes "main") p.tops) (found _ p.tops h.main) (found _ p.tops h.main) in
    record {
      defined = main;
      numbers = no_slot (function_named (codes "main") p.tops).slots (function_named (codes "main") p.tops).params none;
      given = sym none;
    }

pub enters_of : (r : Result Program ReadStop) → IfOk r IsResolved → IfOk r EntersMain
enters_of (Ok p) h = enters p h
enters_of (Err stop) h = tt
