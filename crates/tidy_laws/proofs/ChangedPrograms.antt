-- A program of which some functions are changed, as the meaning reads it.
use Rattle.std.proofs.Common.{ℕ, ◌+◌, Bool, true, false, cond, ◌&&◌, List, [], ◌∷◌, Option, Some, None, bytes_eq, ◌≡◌, refl, sym, ap, ◌∙◌, subst, inl}
use Rattle.std.specs.Prelude.{is_some}
use Rattle.c_tree.specs.declared.tree.Function.{Function}
use Rattle.c_tree.specs.declared.tree.Top.{Top}
use Rattle.c_tree.specs.declared.tree.Top.TheVariants as T
use Rattle.c_tree.specs.declared.tree.Program.{Program}
use Rattle.jump_meaning.specs.Code.{FunctionTree, cell_count, function_tree, undeclared, function_in, first_of, initial_variable, global_named, global_cells, code_of}
use Rattle.tidy_laws.specs.TidyBehaviourLaws.{IsChanged, IsChangedCode, IsChangedFunction, AreChangedTops}

abbrev MaybeChanged : Option FunctionTree → Option FunctionTree → Type 0
MaybeChanged None None = Unit {0}
MaybeChanged (Some f) (Some h) = IsChanged f h
MaybeChanged _ _ = ⊥

chosen : (b : Bool) (f h : FunctionTree) (o q : Option FunctionTree) → IsChanged f h → MaybeChanged o q → MaybeChanged (cond b (Some f) o) (cond b (Some h) q)
chosen true f h o q i k = i
chosen false f h o q i k = k

-- whether a function is the one that is sought
abbrev sought : (Bool → Bool) → List ℕ → Function → Bool
sought r m f = bytes_eq f.name m && r (is_some f.body)

same_sought : (r : Bool → Bool) (m : List ℕ) (f h : Function) → IsChangedFunction f h → sought r m h ≡ sought r m f
same_sought r m f h i = ap (λ n. bytes_eq n m && r (is_some h.body)) i.name ∙ ap (λ b. bytes_eq f.name m && r b) i.body

found : (r : Bool → Bool) (m : List ℕ) (ts us : List Top) → AreChangedTops ts us →
    MaybeChanged (function_in (λ f. r (is_some f.body)) m ts) (function_in (λ f. r (is_some f.body)) m us)
found r m [] [] h = tt
found r m (T.Function f ∷ ts) (T.Function g ∷ us) h =
    subst (λ b. MaybeChanged (cond (sought r m f) (Some (function_tree f)) (function_in (λ f. r (is_some f.body)) m ts))
    (cond b (Some (function_tree g)) (function_in (λ f. r (is_some f.body)) m us))) (sym (same_sought r m f g h.0))
    (chosen (sought r m f) (function_tree f) (function_tree g) (function_in (λ f. r (is_some f.body)) m ts)
    (function_in (λ f. r (is_some f.body)) m us) h.0.tree (found r m ts us h.1))
found r m (T.Function f ∷ ts) (T.Include b ∷ us) h = absurd h.0
found r m (T.Function f ∷ ts) (T.Enum b ∷ us) h = absurd h.0
found r m (T.Function f ∷ ts) (T.Global b ∷ us) h = absurd h.0
found r m (T.Function f ∷ ts) (T.Note b ∷ us) h = absurd h.0
found r m (T.Include b ∷ ts) (y ∷ us) h = subst (λ y. MaybeChanged (function_in (λ f. r (is_some f.body)) m ts)
    (function_in (λ f. r (is_some f.body)) m (y ∷ us))) (sym h.0) (found r m ts us h.1)
found r m (T.Enum b ∷ ts) (y ∷ us) h = subst (λ y. MaybeChanged (function_in (λ f. r (is_some f.body)) m ts)
    (function_in (λ f. r (is_some f.body)) m (y ∷ us))) (sym h.0) (found r m ts us h.1)
found r m (T.Global b ∷ ts) (y ∷ us) h = subst (λ y. MaybeChanged (function_in (λ f. r (is_some f.body)) m ts)
    (function_in (λ f. r (is_some f.body)) m (y ∷ us))) (sym h.0) (found r m ts us h.1)
found r m (T.Note b ∷ ts) (y ∷ us) h = subst (λ y. MaybeChanged (function_in (λ f. r (is_some f.body)) m ts)
    (function_in (λ f. r (is_some f.body)) m (y ∷ us))) (sym h.0) (found r m ts us h.1)
found r m [] (y ∷ us) h = absurd h
found r m (x ∷ ts) [] h = absurd h

first_changed : (o q o' q' : Option FunctionTree) → MaybeChanged o o' → MaybeChanged q q' → IsChanged (first_of o q undeclared) (first_of o' q' undeclared)
first_changed (Some f) q (Some h) q' i k = i
first_changed None (Some f) None (Some h) i k = k
first_changed None None None None i k = inl refl
first_changed (Some f) q None q' i k = absurd i
first_changed None q (Some h) q' i k = absurd i
first_changed None (Some f) None None i k = absurd k
first_changed None None None (Some h) i k = absurd k

same_global : (m : List ℕ) (ts us : List Top) → AreChangedTops ts us → global_named m us ≡ global_named m ts
same_global m [] [] h = refl
same_global m (T.Function f ∷ ts) (T.Function g ∷ us) h = same_global m ts us h.1
same_global m (T.Function f ∷ ts) (T.Include b ∷ us) h = absurd h.0
same_global m (T.Function f ∷ ts) (T.Enum b ∷ us) h = absurd h.0
same_global m (T.Function f ∷ ts) (T.Global b ∷ us) h = absurd h.0
same_global m (T.Function f ∷ ts) (T.Note b ∷ us) h = absurd h.0
same_global m (T.Include b ∷ ts) (y ∷ us) h = ap (λ y. global_named m (y ∷ us)) h.0 ∙ same_global m ts us h.1
same_global m (T.Enum b ∷ ts) (y ∷ us) h = ap (λ y. global_named m (y ∷ us)) h.0 ∙ same_global m ts us h.1
same_global m (T.Global b ∷ ts) (y ∷ us) h = ap (λ y. global_named m (y ∷ us)) h.0 ∙ ap (cond (bytes_eq b.slot.name m) (initial_variable b))
    (same_global m ts us h.1)
same_global m (T.Note b ∷ ts) (y ∷ us) h = ap (λ y. global_named m (y ∷ us)) h.0 ∙ same_global m ts us h.1
same_global m [] (y ∷ us) h = absurd h
same_global m (x ∷ ts) [] h = absurd h

same_cells : (ts us : List Top) → AreChangedTops ts us → global_cells us ≡ global_cells ts
same_cells [] [] h = refl
same_cells (T.Function f ∷ ts) (T.Function g ∷ us) h = same_cells ts us h.1
same_cells (T.Function f ∷ ts) (T.Include b ∷ us) h = absurd h.0
same_cells (T.Function f ∷ ts) (T.Enum b ∷ us) h = absurd h.0
same_cells (T.Function f ∷ ts) (T.Global b ∷ us) h = absurd h.0
same_cells (T.Function f ∷ ts) (T.Note b ∷ us) h = absurd h.0
same_cells (T.Include b ∷ ts) (y ∷ us) h = ap (λ y. global_cells (y ∷ us)) h.0 ∙ same_cells ts us h.1
same_cells (T.Enum b ∷ ts) (y ∷ us) h = ap (λ y. global_cells (y ∷ us)) h.0 ∙ same_cells ts us h.1
same_cells (T.Global b ∷ ts) (y ∷ us) h = ap (λ y. global_cells (y ∷ us)) h.0 ∙ ap (λ n. cell_count b.slot + n) (same_cells ts us h.1)
same_cells (T.Note b ∷ ts) (y ∷ us) h = ap (λ y. global_cells (y ∷ us)) h.0 ∙ same_cells ts us h.1
same_cells [] (y ∷ us) h = absurd h
same_cells (x ∷ ts) [] h = absurd h

pub programs_changed : (p q : Program) → AreChangedTops p.tops q.tops → IsChangedCode (code_of p) (code_of q)
programs_changed p q h = record {
  functions = λ m. first_changed (function_in (λ f. is_some f.body) m p.tops) (function_in (λ f. true) m p.tops)
      (function_in (λ f. is_some f.body) m q.tops) (function_in (λ f. true) m q.tops)
      (found (λ b. b) m p.tops q.tops h) (found (λ b. true) m p.tops q.tops h);
  globals = λ i m. same_global m p.tops q.tops h i;
  cells = same_cells p.tops q.tops h;
}
