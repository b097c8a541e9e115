-- What the name of a printed function is bound to (ISO/IEC 9899:2011, 6.9.1).
use Rattle.std.proofs.Common.{◌≡◌, ℕ, Bool, true, false, cond, not, ◌&&◌, List, [], ◌∷◌, map, take, Option, Some, None, is_some, refl, ap, sym, subst, ◌∙◌, bytes_eq, ◌⊎◌, inl, inr}
use Rattle.std.specs.Prelude.{codes, IfSome}
use Rattle.c_types.specs.declared.kinds.IntKind.{IntKind}
use Rattle.c_types.specs.declared.kinds.IntKind.TheVariants.{Int}
use Rattle.c_types.specs.Words.{is_known}
use Rattle.c_tree.specs.declared.tree.Slot.{Slot}
use Rattle.c_tree.specs.declared.tree.Function.{Function}
use Rattle.c_tree.specs.declared.tree.Top.{Top}
use Rattle.c_tree.specs.declared.tree.Top.TheVariants as T
use Rattle.c_grammar.specs.Tops as tops
use Rattle.c_kinds.specs.declared.binding.Want.TheVariants as want
use Rattle.c_kinds.specs.declared.binding.Signature.{Signature}
use Rattle.c_kinds.specs.declared.binding.Binding.{Binding}
use Rattle.c_kinds.specs.declared.binding.Binding.TheVariants as binding
use Rattle.c_kinds.specs.Scopes.{Faults, fault_if, Scope, found, with_entry, with_name, bind, bound}
use Rattle.c_statements.specs.Functions.{result_kind, want_of}
use Rattle.c_scopes.specs.FunctionNames.{has_function, has_body, signature_in, same_result, same_want, same_wants, same_signature, again_faults, is_empty, is_main_form}
use Rattle.c_resolved_defs.specs.Names.{Names, known, declared_or}
use Rattle.c_resolved_defs.specs.Files.{SameParameters, IsMainForm}
use Rattle.c_resolved_defs.specs.Scopes.{Meaning, AFunction, behind_top, IsFunctionName}
use Rattle.c_resolved_defs.specs.Scopes as resolved
use Rattle.reread_parts_laws.specs.Bindings.{IsInScope, function_of, want_of as want_for, binding_of, IsSame, IsSameScope, AreSameScopes}
use Rattle.reread_parts_laws.specs.Laws.{wants_in, IsWrittenAs, IsDeclared, NameReads}
use Rattle.c_kinds.proofs.Entries.{same_names, by_bool}
use Rattle.reread_parts_laws.proofs.SameScopes.{bind_same}
use Rattle.reread_parts_laws.proofs.ArgumentsRead.{same_kind_is, same_truth_is}

-- ---- a signature agrees with itself

result_is : (o : Option IntKind) → same_result o o ≡ true
result_is None = refl
result_is (Some k) = same_kind_is k

want_is : (slots : List Slot) (external : Bool) → same_wants (wants_in external slots) (wants_in external slots) ≡ true
want_is [] external = refl
want_is (s ∷ slots) external = (λ i. one s.cells i && want_is slots external i)
  where
    one : (cells : Option ℕ) → same_want (cond (is_some cells) (want.Array s.kind s.constant external) (want.Number s.kind s.constant))
        (cond (is_some cells) (want.Array s.kind s.constant external) (want.Number s.kind s.constant)) ≡ true
    one None = (λ i. same_kind_is s.kind i && same_truth_is s.constant i)
    one (Some c) = (λ i. same_kind_is s.kind i && same_truth_is s.constant i)

-- ---- the declarations of one function have one signature

wants_agree : (xs ys : List Slot) (defined : Bool) → SameParameters xs ys → wants_in (not defined) xs ≡ map (want_for defined) ys
wants_agree [] [] defined h = refl
wants_agree (x ∷ xs) (y ∷ ys) defined h =
    (λ i. cond ((h.0).array i) (want.Array ((h.0).kind i) ((h.0).constant i) (not defined))
    (want.Number ((h.0).kind i) ((h.0).constant i)) ∷ wants_agree xs ys defined (h.1) i)
wants_agree [] (y ∷ ys) defined h = absurd h
wants_agree (x ∷ xs) [] defined h = absurd h

module _ (ts : List Top) (f g : Function) (word : ℕ → List ℕ) (x : tops.Function) (bodies before : List (List ℕ)) (ss : List resolved.Scope)
    (d : IsDeclared ts f g bodies before ss) where
  abbrev file : Names
  file = record { tops = ts; slots = [] }

  abbrev external : Bool
  external = not (is_some g.body)

  abbrev pub sig : Signature
  sig = record { result = f.result; wants = wants_in external (take f.params f.slots) }

  sig_is : IsWrittenAs word x f → signature_in bodies word x ≡ sig
  sig_is w =
      let e : not (has_function bodies (word x.name)) ≡ external = ap (λ m. not (has_function bodies m)) (w.name) ∙ ap not (d.defined) in
      (λ i. record { result = w.result i; wants = map (want_of word (e i)) x.parameters }) ∙ (λ i. record { result = f.result; wants = w.wants external i })

  called : Some (binding.Function sig) ≡ binding_of file f.name AFunction
  called =
      (λ i. Some (binding.Function (record {
        result = d.result i;
        wants = wants_agree (take f.params f.slots) (take g.params g.slots) (is_some g.body)
            (d.parameters) i;
      })))
      ∙ sym (ap (λ o. function_of (declared_or (known f.name) o)) (d.is))

  -- ---- its scopes

  -- a name that is bound already keeps what it is bound to
  again_same : (s : resolved.Scope) (t : Scope) → IsSameScope file s t → resolved.found f.name s ≡ Some AFunction →
      IsSameScope file ((f.name, AFunction) ∷ s) (with_name f.name (binding.Function sig) t)
  again_same s t h e m =
      let there : is_some (found f.name t) ≡ true = (subst (λ o. IsSame file f.name o (found f.name t)) e (h f.name)).1 in
      subst (λ z. IsSame file m (cond (bytes_eq m f.name) (Some AFunction) (resolved.found m s)) (found m z)) (sym (kept there))
      (by_bool (bytes_eq m f.name)
      (λ y. subst (λ o. IsSame file m o (found m t)) (ap (λ k. resolved.found k s) (same_names m f.name y) ∙ e ∙
      (λ i. cond (sym y i) (Some AFunction) (resolved.found m s))) (h m))
      (λ n. subst (λ b. IsSame file m (cond b (Some AFunction) (resolved.found m s)) (found m t)) (sym n) (h m)))
    where
      kept : is_some (found f.name t) ≡ true → with_name f.name (binding.Function sig) t ≡ t
      kept e = ap (λ b. cond b t (with_entry f.name (binding.Function sig) t)) e

  pub bound_same : (scopes : List Scope) → IsInScope ss → AreSameScopes file ss scopes →
      AreSameScopes file (behind_top ss (T.Function f)) (bind f.name (binding.Function sig) scopes)
  bound_same scopes there h = by_scopes ss scopes (d.named) there h
    where
      by_found : (o : Option Meaning) (s : resolved.Scope) (ss : List resolved.Scope) (t : Scope) (ts : List Scope) → resolved.found f.name s ≡ o →
          IfSome o (λ b. b ≡ AFunction) → AreSameScopes file (s ∷ ss) (t ∷ ts)
          → AreSameScopes file (((f.name, AFunction) ∷ s) ∷ ss) (with_name f.name (binding.Function sig) t ∷ ts)
      by_found None s ss t ts e k h = bind_same file f.name AFunction (binding.Function sig) (s ∷ ss) (t ∷ ts) h tt e called
      by_found (Some b) s ss t ts e k h = (again_same s t (h.0) (e ∙ ap Some k), h.1)

      by_scopes : (ss : List resolved.Scope) (scopes : List Scope) → IsFunctionName f.name ss → IsInScope ss → AreSameScopes file ss scopes →
          AreSameScopes file (resolved.bind f.name AFunction ss) (bind f.name (binding.Function sig) scopes)
      by_scopes [] [] k there h = absurd there
      by_scopes (s ∷ ss) (t ∷ scopes) k there h = by_found (resolved.found f.name s) s ss t scopes refl k h
      by_scopes [] (t ∷ scopes) k there h = absurd h
      by_scopes (s ∷ ss) [] k there h = absurd h

  -- ---- no violation

  again_clear : (o : Option Binding) (again : Bool) (vs : Faults) → again ≡ false → (o ≡ None) ⊎ (o ≡ Some (binding.Function sig)) →
      again_faults x.name again sig o vs ≡ vs
  again_clear o again vs e (inl h) = ap (λ z. again_faults x.name again sig z vs) h
  again_clear o again vs e (inr h) =
      let same : same_signature sig sig ≡ true = (λ i. result_is f.result i && want_is (take f.params f.slots) external i) in
      ap (λ z. again_faults x.name again sig z vs) h ∙ (λ i. fault_if (e i) x.name 21 (fault_if (not (same i)) x.name 37 vs))

  bound_to : (scopes : List Scope) → AreSameScopes file ss scopes → (bound f.name scopes ≡ None) ⊎ (bound f.name scopes ≡ Some (binding.Function sig))
  bound_to scopes h = by_scopes ss scopes (d.named) h
    where
      by_found : (o : Option Meaning) (p : Option Binding) → IfSome o (λ b. b ≡ AFunction) → IsSame file f.name o p →
          (p ≡ None) ⊎ (p ≡ Some (binding.Function sig))
      by_found None p k h = inl h
      by_found (Some b) p k h = inr (h.0 ∙ ap (binding_of file f.name) k ∙ sym called)

      by_scopes : (ss : List resolved.Scope) (scopes : List Scope) → IsFunctionName f.name ss → AreSameScopes file ss scopes →
          (bound f.name scopes ≡ None) ⊎ (bound f.name scopes ≡ Some (binding.Function sig))
      by_scopes [] [] k h = inl refl
      by_scopes (s ∷ ss) (t ∷ scopes) k h = by_found (resolved.found f.name s) (found f.name t) k (h.0 f.name)
      by_scopes [] (t ∷ scopes) k h = absurd h
      by_scopes (s ∷ ss) [] k h = absurd h

  main_formed : IsWrittenAs word x f → (bytes_eq (word x.name) (codes "main") && not (is_main_form word x)) ≡ false
  main_formed w = ap (λ m. bytes_eq m (codes "main") && not (is_main_form word x)) (w.name) ∙
      by_bool (bytes_eq f.name (codes "main")) (λ y. let m = is_main (d.formed y) in (λ i. y i && not (m i))) (λ n. (λ i. n i && not (is_main_form word x)))
    where
      empty_of : (xs : List tops.Parameter) → map (want_of word false) xs ≡ [] → is_empty xs ≡ true
      empty_of [] e = refl
      empty_of (y ∷ xs) e = cc

      is_main : IsMainForm f → is_main_form word x ≡ true
      is_main m =
          let r : same_result (result_kind word x) (Some Int) ≡ true = ap (λ o. same_result o (Some Int)) (w.result ∙ m.result) in
          let s : not x.static ≡ true = ap not (w.static ∙ m.public) in
          let p : is_empty x.parameters ≡ true = empty_of x.parameters (w.wants false ∙ ap (λ k. wants_in false (take k f.slots)) (m.parameters)) in
          (λ i. r i && s i && p i)

  pub name_reads : IsWrittenAs word x f → (scopes : List Scope) → IsInScope ss → AreSameScopes file ss scopes →
      NameReads ts f bodies before x (record { word = word; scopes = scopes }) ss
  name_reads w scopes there h =
      let again : (has_body x && has_function before (word x.name)) ≡ false = (λ i. w.body i && has_function before (w.name i)) ∙ d.single in
      let unknown : is_known (word x.name) ≡ false = ap is_known (w.name) ∙ d.unknown in
      record {
        same = subst (λ z. AreSameScopes file (behind_top ss (T.Function f)) z)
            (λ i. bind (sym (w.name) i) (binding.Function (sym (sig_is w) i)) scopes) (bound_same scopes there h);
        clear = λ vs.
            (λ i. again_faults x.name (has_body x && has_function before (word x.name)) (sig_is w i) (bound (w.name i) scopes)
            (fault_if (main_formed w i) x.name 36 (fault_if (unknown i) x.name 21 vs)))
            ∙ again_clear (bound f.name scopes) (has_body x && has_function before (word x.name)) vs again (bound_to scopes h);
      }
