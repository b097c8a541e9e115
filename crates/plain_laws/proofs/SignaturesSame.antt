-- Programs whose functions have the same signatures have functions and variables of the same kinds.
use Rattle.std.proofs.Common.{◌≡◌, ℕ, Bool, true, false, ◌&&◌, cond, Option, Some, None, option_map, is_some, List, [], ◌∷◌, refl, sym, ap, subst, ◌∙◌, bytes_eq}
use mathlib.Core.Path.{ap₂}
use Rattle.std.specs.Option.{option_map_or}
use Rattle.c_types.specs.declared.kinds.IntKind.{IntKind}
use Rattle.c_tree.specs.declared.tree.Function.{Function}
use Rattle.c_tree.specs.declared.tree.Top.{Top}
use Rattle.c_tree.specs.declared.tree.Top.TheVariants as T
use Rattle.c_tree.specs.declared.tree.Program.{Program}
use Rattle.c_tree.specs.Trees.{Forest, trees_of}
use Rattle.jump_meaning.specs.World.{kind_held}
use Rattle.jump_meaning.specs.Code.{FunctionTree, function_tree, undeclared, function_named, global_named, initial_variable, code_of}
use Rattle.plain_laws.specs.Kinded.{Grown, SameKinds, kind_called}
use Rattle.plain_laws.specs.Signatures.{SameSignature, SameTops}
use Rattle.plain_laws.proofs.PlainLookup.{found, first, picked, named_tree}

abbrev Alike : Option Function → Option Function → Type 0
Alike None None = Unit {0}
Alike None (Some g) = ⊥
Alike (Some f) None = ⊥
Alike (Some f) (Some g) = SameSignature f g

choice_alike : (b c : Bool) (f g : Function) (o p : Option Function) → c ≡ b → SameSignature f g → Alike o p → Alike (cond b (Some f) o) (cond c (Some g) p)
choice_alike true true f g o p e s h = s
choice_alike true false f g o p e s h = cc
choice_alike false true f g o p e s h = cc
choice_alike false false f g o p e s h = h

found_alike : (r : Function → Bool) → ((f g : Function) → SameSignature f g → r g ≡ r f) → (m : List ℕ) (ts us : List Top) → SameTops ts us →
    Alike (found r m ts) (found r m us)
found_alike r h m [] [] s = tt
found_alike r h m [] (y ∷ us) s = absurd s
found_alike r h m (x ∷ ts) [] s = absurd s
found_alike r h m (T.Function f ∷ ts) (T.Function g ∷ us) s =
    choice_alike (bytes_eq f.name m && r f) (bytes_eq g.name m && r g) f g (found r m ts) (found r m us)
    (ap₂ (λ n b. bytes_eq n m && b) s.0.name (h f g s.0)) s.0 (found_alike r h m ts us s.1)
found_alike r h m (T.Function f ∷ ts) _ s = absurd s.0
found_alike r h m (T.Include b ∷ ts) (y ∷ us) s = subst (λ z. Alike (found r m ts) (found r m (z ∷ us))) s.0 (found_alike r h m ts us s.1)
found_alike r h m (T.Enum es ∷ ts) (y ∷ us) s = subst (λ z. Alike (found r m ts) (found r m (z ∷ us))) s.0 (found_alike r h m ts us s.1)
found_alike r h m (T.Global g ∷ ts) (y ∷ us) s = subst (λ z. Alike (found r m ts) (found r m (z ∷ us))) s.0 (found_alike r h m ts us s.1)
found_alike r h m (T.Note b ∷ ts) (y ∷ us) s = subst (λ z. Alike (found r m ts) (found r m (z ∷ us))) s.0 (found_alike r h m ts us s.1)

first_alike : (a b c d : Option Function) → Alike a b → Alike c d → Alike (first a c) (first b d)
first_alike None None c d h i = i
first_alike None (Some g) c d h i = absurd h
first_alike (Some f) None c d h i = absurd h
first_alike (Some f) (Some g) c d h i = h

picked_alike : (m : List ℕ) (ts us : List Top) → SameTops ts us → Alike (picked m ts) (picked m us)
picked_alike m ts us s =
    first_alike (found (λ f. is_some f.body) m ts) (found (λ f. is_some f.body) m us) (found (λ f. true) m ts) (found (λ f. true) m us)
    (found_alike (λ f. is_some f.body) (λ f g e. e.body) m ts us s) (found_alike (λ f. true) (λ f g e. refl) m ts us s)

-- ---- their trees

record SameTrees (a b : FunctionTree) : Type 0 where
  result : b.result ≡ a.result
  body : is_some b.body ≡ is_some a.body
  slots : Grown a.slots b.slots

pub some_mapped : {A B : Type 0} (h : A → B) (o : Option A) → is_some (option_map h o) ≡ is_some o
some_mapped h None = refl
some_mapped h (Some x) = refl

trees_same : (o p : Option Function) → Alike o p → SameTrees (option_map_or function_tree o undeclared) (option_map_or function_tree p undeclared)
trees_same None None h = record { result = refl; body = refl; slots = tt }
trees_same None (Some g) h = absurd h
trees_same (Some f) None h = absurd h
trees_same (Some f) (Some g) h = record {
  result = h.result;
  body = some_mapped trees_of g.body ∙ (h.body ∙ sym (some_mapped trees_of f.body));
  slots = h.slots;
}

named_same : (m : List ℕ) (ts us : List Top) → SameTops ts us → SameTrees (function_named m ts) (function_named m us)
named_same m ts us s =
    subst (λ a. SameTrees a (function_named m us)) (sym (named_tree m ts))
    (subst (λ b. SameTrees (option_map_or function_tree (picked m ts) undeclared) b) (sym (named_tree m us))
    (trees_same (picked m ts) (picked m us) (picked_alike m ts us s)))

called_same : (m : List ℕ) (a b : Option Forest) (r : Option IntKind) → is_some b ≡ is_some a → kind_called m b r ≡ kind_called m a r
called_same m None None r e = refl
called_same m None (Some b) r e = cc
called_same m (Some a) None r e = cc
called_same m (Some a) (Some b) r e = refl

global_same : (m : List ℕ) (ts us : List Top) → SameTops ts us → global_named m us ≡ global_named m ts
global_same m [] [] s = refl
global_same m [] (y ∷ us) s = absurd s
global_same m (x ∷ ts) [] s = absurd s
global_same m (T.Function f ∷ ts) (T.Function g ∷ us) s = global_same m ts us s.1
global_same m (T.Function f ∷ ts) _ s = absurd s.0
global_same m (T.Include b ∷ ts) (y ∷ us) s = subst (λ z. global_named m (z ∷ us) ≡ global_named m ts) s.0 (global_same m ts us s.1)
global_same m (T.Enum es ∷ ts) (y ∷ us) s = subst (λ z. global_named m (z ∷ us) ≡ global_named m ts) s.0 (global_same m ts us s.1)
global_same m (T.Global g ∷ ts) (y ∷ us) s =
    subst (λ z. global_named m (z ∷ us) ≡ global_named m (T.Global g ∷ ts)) s.0
    (ap (λ v. cond (bytes_eq g.slot.name m) (initial_variable g) v) (global_same m ts us s.1))
global_same m (T.Note b ∷ ts) (y ∷ us) s = subst (λ z. global_named m (z ∷ us) ≡ global_named m ts) s.0 (global_same m ts us s.1)

pub signatures_same : (p q : Program) → SameTops p.tops q.tops → SameKinds (code_of p) (code_of q)
signatures_same p q s = record {
  slots = λ m. (named_same m p.tops q.tops s).slots;
  calls = λ m.
      let h = named_same m p.tops q.tops s in
      let a = function_named m p.tops in
      let b = function_named m q.tops in
      ap (λ r. kind_called m b.body r) h.result ∙ called_same m a.body b.body a.result h.body;
  globals = λ m. ap kind_held (global_same m p.tops q.tops s);
}
