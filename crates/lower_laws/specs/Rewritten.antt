-- Programs of which each function is the same, or related to that of the same name.
use Rattle.std.specs.Prelude.{ℕ, List, [], ◌∷◌, ◌≡◌}
use Rattle.c_tree.specs.declared.tree.Function.{Function}
use Rattle.c_tree.specs.declared.tree.Top.{Top}
use Rattle.c_tree.specs.declared.tree.Top.TheVariants as T
use Rattle.jump_meaning.specs.Code.{FunctionTree, Code, function_tree}

-- a function and the same one, or a related one
pub data Rewritten (R : FunctionTree → FunctionTree → Type 0) : FunctionTree → FunctionTree → Type 0 where
  rw_same : {f h : FunctionTree} → f ≡ h → Rewritten R f h
  rw_by : {f h : FunctionTree} → R f h → Rewritten R f h

-- each function of the second program is that of the first, or a related one
pub record RewrittenCode (R : FunctionTree → FunctionTree → Type 0) (p q : Code) : Type 0 where
  pub functions : (m : List ℕ) → Rewritten R (p.functions m) (q.functions m)
  pub globals : (m : List ℕ) → p.globals m ≡ q.globals m
  pub cells : p.cells ≡ q.cells

-- of two file-scope items
pub data RewrittenTop (R : FunctionTree → FunctionTree → Type 0) : Top → Top → Type 0 where
  rt_same : {t u : Top} → t ≡ u → RewrittenTop R t u
  rt_by : {f h : Function} → f.name ≡ h.name → R (function_tree f) (function_tree h) → RewrittenTop R (T.Function f) (T.Function h)

-- of two lists of them, in order
pub data RewrittenTops (R : FunctionTree → FunctionTree → Type 0) : List Top → List Top → Type 0 where
  rs_none : RewrittenTops R [] []
  rs_more : {t u : Top} {ts us : List Top} → RewrittenTop R t u → RewrittenTops R ts us → RewrittenTops R (t ∷ ts) (u ∷ us)
