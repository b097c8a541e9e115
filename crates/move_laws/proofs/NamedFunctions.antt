-- What holds of the function of each name, where one body of a program is changed.
use Rattle.std.proofs.Common.{◌≡◌, ℕ, ◌+◌, Bool, true, false, ◌&&◌, cond, List, Option, Some, None, is_some, bytes_eq, refl, ap}
use Rattle.c_tree.specs.declared.tree.Item.{Item}
use Rattle.c_tree.specs.declared.tree.Function.{Function}
use Rattle.c_tree.specs.declared.tree.Top.{Top}
use Rattle.c_tree.specs.declared.tree.Top.TheVariants as T
use Rattle.jump_meaning.specs.Code.{FunctionTree, function_tree, undeclared, function_in, first_of, function_named, global_named, global_cells, initial_variable, cell_count}
use Rattle.move_laws.specs.Bodies.{with_body, OneBodyChanged, this_function, later_function}

some_body : (f : Function) (a b : List Item) → f.body ≡ Some a → is_some f.body ≡ true
some_body f a b e = ap is_some e

-- E holds of a function and itself, and of a function and it with its body changed
module _ (E : FunctionTree → FunctionTree → Type 0) (itself : (f : FunctionTree) → E f f) {R : List Item → List Item → Type 0}
    (changed : (f : Function) (a b : List Item) → f.body ≡ Some a → R a b → E (function_tree f) (function_tree (with_body f b))) where
  -- two functions, where there is one
  abbrev AreFound : Option FunctionTree → Option FunctionTree → Type 0
  AreFound None None = Unit {0}
  AreFound (Some f) (Some h) = E f h
  AreFound _ _ = ⊥

  found_refl : (o : Option FunctionTree) → AreFound o o
  found_refl None = tt
  found_refl (Some f) = itself f

  found_here : (b c : Bool) (f h : FunctionTree) (o p : Option FunctionTree) → b ≡ c → E f h → AreFound o p → AreFound (cond b (Some f) o) (cond c (Some h) p)
  found_here true true f h o p e l k = l
  found_here false false f h o p e l k = k
  found_here true false f h o p e l k = cc
  found_here false true f h o p e l k = cc

  found_first : (o p o' p' : Option FunctionTree) (d : FunctionTree) → AreFound o o' → AreFound p p' → E (first_of o p d) (first_of o' p' d)
  found_first (Some f) p (Some h) p' d k l = k
  found_first (Some f) p None p' d k l = absurd k
  found_first None p (Some h) p' d k l = absurd k
  found_first None (Some f) None (Some h) d k l = l
  found_first None (Some f) None None d k l = absurd l
  found_first None None None (Some h) d k l = absurd l
  found_first None None None None d k l = itself d

  found : (p : Function → Bool) → ((f : Function) (a b : List Item) → f.body ≡ Some a → p f ≡ p (with_body f b)) → (m : List ℕ) {ts us : List Top} →
      OneBodyChanged R ts us → AreFound (function_in p m ts) (function_in p m us)
  found p same m (this_function f a b ts e h) =
      found_here (bytes_eq f.name m && p f) (bytes_eq f.name m && p (with_body f b)) _ _ (function_in p m ts) (function_in p m ts)
      (ap (λ c. bytes_eq f.name m && c) (same f a b e)) (changed f a b e h)
      (found_refl (function_in p m ts))
  found p same m (later_function (T.Function f) r) = found_here (bytes_eq f.name m && p f) (bytes_eq f.name m && p f) _ _ _ _ refl
      (itself (function_tree f)) (found p same m r)
  found p same m (later_function (T.Include bs) r) = found p same m r
  found p same m (later_function (T.Enum es) r) = found p same m r
  found p same m (later_function (T.Global g) r) = found p same m r
  found p same m (later_function (T.Note bs) r) = found p same m r

  pub named : (m : List ℕ) {ts us : List Top} → OneBodyChanged R ts us → E (function_named m ts) (function_named m us)
  named m {ts = ts} {us = us} r =
      found_first (function_in (λ f. is_some f.body) m ts) (function_in (λ f. true) m ts) (function_in (λ f. is_some f.body) m us)
      (function_in (λ f. true) m us) undeclared
      (found (λ f. is_some f.body) some_body m r) (found (λ f. true) (λ f a b e. refl) m r)

-- ---- what stands beside the functions

pub globals_same : {R : List Item → List Item → Type 0} (m : List ℕ) {ts us : List Top} → OneBodyChanged R ts us → global_named m ts ≡ global_named m us
globals_same m (this_function f a b ts e h) = refl
globals_same m (later_function (T.Global g) r) = ap (cond (bytes_eq g.slot.name m) (initial_variable g)) (globals_same m r)
globals_same m (later_function (T.Function f) r) = globals_same m r
globals_same m (later_function (T.Include bs) r) = globals_same m r
globals_same m (later_function (T.Enum es) r) = globals_same m r
globals_same m (later_function (T.Note bs) r) = globals_same m r

pub cells_same : {R : List Item → List Item → Type 0} {ts us : List Top} → OneBodyChanged R ts us → global_cells ts ≡ global_cells us
cells_same (this_function f a b ts e h) = refl
cells_same (later_function (T.Global g) r) = ap (λ n. cell_count g.slot + n) (cells_same r)
cells_same (later_function (T.Function f) r) = cells_same r
cells_same (later_function (T.Include bs) r) = cells_same r
cells_same (later_function (T.Enum es) r) = cells_same r
cells_same (later_function (T.Note bs) r) = cells_same r
