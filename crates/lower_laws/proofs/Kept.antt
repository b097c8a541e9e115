-- The functions of names, the variables and the cells of two programs of which each function is the same or related.
use Rattle.std.proofs.Common.{ℕ, ◌+◌, Bool, true, false, cond, ◌&&◌, List, [], ◌∷◌, Option, Some, None, is_some, option_map, ◌≡◌, refl, sym, ◌∙◌, ap, subst, bytes_eq, IsSome}
use Rattle.c_tree.specs.declared.tree.Item.{Item}
use Rattle.c_tree.specs.declared.tree.Function.{Function}
use Rattle.c_tree.specs.declared.tree.Top.{Top}
use Rattle.c_tree.specs.declared.tree.Top.TheVariants as T
use Rattle.c_tree.specs.declared.tree.Program.{Program}
use Rattle.c_tree.specs.Trees.{trees_of}
use Rattle.jump_meaning.specs.Code.{FunctionTree, cell_count, function_tree, undeclared, function_in, first_of, function_named, initial_variable, global_named, global_cells, code_of}
use Rattle.jump_meaning.specs.Values.{Variable}
use Rattle.jump_meaning.specs.Laws.{HoldsNumbers}
use Rattle.lower_laws.specs.Rewritten.{Rewritten, rw_same, rw_by, RewrittenCode, rt_same, rt_by, RewrittenTops, rs_none, rs_more}

either_holds : (b : Bool) (v w : Variable) → HoldsNumbers v → HoldsNumbers w → HoldsNumbers (cond b v w)
either_holds true v w h k = h
either_holds false v w h k = k

-- variables of file scope hold numbers
pub globals_hold : (m : List ℕ) (ts : List Top) → HoldsNumbers (global_named m ts)
globals_hold m [] = tt
globals_hold m (T.Global g ∷ ts) = either_holds (bytes_eq g.slot.name m) (initial_variable g) (global_named m ts) tt (globals_hold m ts)
globals_hold m (_ ∷ ts) = globals_hold m ts

module _ (R : FunctionTree → FunctionTree → Type 0) (defined : (f h : FunctionTree) → R f h → IsSome f.body)
    (new_defined : (f h : FunctionTree) → R f h → IsSome h.body) where
  data Found : Option FunctionTree → Option FunctionTree → Type 0 where
    fd_none : Found None None
    fd_some : {f h : FunctionTree} → Rewritten R f h → Found (Some f) (Some h)

  found_refl : (o : Option FunctionTree) → Found o o
  found_refl None = fd_none
  found_refl (Some f) = fd_some (rw_same refl)

  found_if : (b : Bool) {o o' p p' : Option FunctionTree} → Found o o' → Found p p' → Found (cond b o p) (cond b o' p')
  found_if true h k = h
  found_if false h k = k

  first_kept : {o o' p p' : Option FunctionTree} → Found o o' → Found p p' → Rewritten R (first_of o p undeclared) (first_of o' p' undeclared)
  first_kept (fd_some l) k = l
  first_kept fd_none (fd_some l) = l
  first_kept fd_none fd_none = rw_same refl

  -- a test that holds of both functions or of neither
  abbrev Alike : (Function → Bool) → Type 0
  Alike test = (f h : Function) → R (function_tree f) (function_tree h) → test f ≡ test h

  same_top : (test : Function → Bool) (m : List ℕ) (t : Top) (ts us : List Top) → Found (function_in test m ts) (function_in test m us) →
      Found (function_in test m (t ∷ ts)) (function_in test m (t ∷ us))
  same_top test m (T.Function f) ts us h = found_if (bytes_eq f.name m && test f) (found_refl (Some (function_tree f))) h
  same_top test m _ ts us h = h

  found_kept : (test : Function → Bool) → Alike test → (m : List ℕ) {ts us : List Top} → RewrittenTops R ts us →
      Found (function_in test m ts) (function_in test m us)
  found_kept test same m rs_none = fd_none
  found_kept test same m (rs_more {t = t} {ts = ts} {us = us} (rt_same e) h) =
      subst (λ u. Found (function_in test m (t ∷ ts)) (function_in test m (u ∷ us))) e (same_top test m t ts us (found_kept test same m h))
  found_kept test same m (rs_more {ts = ts} {us = us} (rt_by {f = f} {h = g} n l) h) =
      subst (λ b. Found (function_in test m (T.Function f ∷ ts)) (cond b (Some (function_tree g)) (function_in test m us)))
      (ap (λ z. bytes_eq z m && test f) n ∙ ap (λ b. bytes_eq g.name m && b) (same f g l))
      (found_if (bytes_eq f.name m && test f) (fd_some (rw_by l)) (found_kept test same m h))

  mapped_body : (b : Option (List Item)) → IsSome (option_map trees_of b) → is_some b ≡ true
  mapped_body None h = h
  mapped_body (Some xs) h = refl

  with_body : Alike (λ f. is_some f.body)
  with_body f h l = mapped_body f.body (defined (function_tree f) (function_tree h) l) ∙
      sym (mapped_body h.body (new_defined (function_tree f) (function_tree h) l))

  function_kept : (m : List ℕ) {ts us : List Top} → RewrittenTops R ts us → Rewritten R (function_named m ts) (function_named m us)
  function_kept m h = first_kept (found_kept (λ f. is_some f.body) with_body m h) (found_kept (λ f. true) (λ f g l. refl) m h)

  global_same : (m : List ℕ) (t : Top) (ts us : List Top) → global_named m ts ≡ global_named m us → global_named m (t ∷ ts) ≡ global_named m (t ∷ us)
  global_same m (T.Global g) ts us e = ap (λ v. cond (bytes_eq g.slot.name m) (initial_variable g) v) e
  global_same m _ ts us e = e

  globals_kept : (m : List ℕ) {ts us : List Top} → RewrittenTops R ts us → global_named m ts ≡ global_named m us
  globals_kept m rs_none = refl
  globals_kept m (rs_more {t = t} {ts = ts} {us = us} (rt_same e) h) = global_same m t ts us (globals_kept m h) ∙ ap (λ u. global_named m (u ∷ us)) e
  globals_kept m (rs_more (rt_by n l) h) = globals_kept m h

  cells_same : (t : Top) (ts us : List Top) → global_cells ts ≡ global_cells us → global_cells (t ∷ ts) ≡ global_cells (t ∷ us)
  cells_same (T.Global g) ts us e = ap (λ n. cell_count g.slot + n) e
  cells_same _ ts us e = e

  cells_kept : {ts us : List Top} → RewrittenTops R ts us → global_cells ts ≡ global_cells us
  cells_kept rs_none = refl
  cells_kept (rs_more {t = t} {ts = ts} {us = us} (rt_same e) h) = cells_same t ts us (cells_kept h) ∙ ap (λ u. global_cells (u ∷ us)) e
  cells_kept (rs_more (rt_by n l) h) = cells_kept h

  pub code_kept : (p q : Program) → RewrittenTops R p.tops q.tops → RewrittenCode R (code_of p) (code_of q)
  code_kept p q lo = record { functions = λ m. function_kept m lo; globals = λ m. globals_kept m lo; cells = cells_kept lo }
