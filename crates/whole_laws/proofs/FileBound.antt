-- The names of the plain form of a resolved program are bound.
use Rattle.std.proofs.Common.{◌≡◌, ℕ, List, [], Option, Some, None, refl, sym, ap, subst}
use Rattle.c_tree.specs.declared.tree.EnumItem.{EnumItem}
use Rattle.c_tree.specs.declared.tree.Function.{Function}
use Rattle.c_tree.specs.declared.tree.Item.{Item}
use Rattle.c_tree.specs.declared.tree.Top.{Top}
use Rattle.c_tree.specs.declared.tree.Top.TheVariants as T
use Rattle.c_tree.specs.declared.tree.Program.{Program}
use Rattle.c_tree.specs.Slots.{ItemSlots}
use Rattle.c_tree.specs.Trees.{Tree}
use Rattle.c_tree.specs.Everywhere.{Everywhere}
use Rattle.c_tree.specs.InRange.{body_of}
use Rattle.c_resolved_defs.specs.Within.{Each}
use Rattle.c_resolved_defs.specs.Scopes.{Meaning, AConstant, AFunction, Scope, bind, inside, AreBound, with_parameters, AreNewParameters, BodyIsBound, behind_top, IsFunctionName, FunctionIsBound, TopIsBound, TopsAreBound, at_start}
use Rattle.c_resolved_defs.specs.Limits.{FlatCounts}
use Rattle.c_resolved_defs.specs.Resolved.{IsResolvedFunction, IsResolvedTop}
use Rattle.c_resolved_laws.proofs.SourceGiven.{Declared}
use Rattle.whole_laws.specs.Names.{TopIsOther, IsFreeIn, HasOwnNames}
use Rattle.whole_laws.proofs.FactsMoved.{left_trees}
use Rattle.whole_laws.proofs.FileScopes.{IsFree, AreOfFile, top_file, start_file, body_bound, bound_body, declares_in, function_over}
use Rattle.whole_laws.proofs.PlainBound.{moved_bound}
use Rattle.whole_laws.proofs.PlainTops.{IsMovedForm, IsUnmovedForm, PlainTop, pt_moved, pt_unmoved, pt_declared, pt_other, PlainTops, pt_none, pt_more}
use Rattle.whole_laws.proofs.SameFile.{SameDeclaration}
use Rattle.whole_laws.proofs.SameTops.{moved_declared, unmoved_declared, unmoved_slots}
use Rattle.whole_laws.proofs.ScopeLists.{IsNoSlot}
use Rattle.whole_laws.proofs.SourceBound.{DeclaresIn}
use Rattle.whole_laws.proofs.UnmovedBound.{bound_unmoved}

module _ (counts : FlatCounts) (p : Program) (Own : Function → Function → Type 0) (own : (f h : Function) → Own f h → HasOwnNames p.tops h) where
  module _ (ss : List Scope) (o : AreOfFile p.tops ss) where
    moved_top : (f h : Function) (m : IsMovedForm f h) → IsResolvedFunction counts p.tops f → HasOwnNames p.tops h →
        ((n : List ℕ) → IsFree p.tops n → TopIsOther n (T.Function f)) → FunctionIsBound f ss → FunctionIsBound h ss
    moved_top f h m r n d b =
        let params = r.form.parameters in
        let file = behind_top ss (T.Function f) in
        let is_file = top_file p.tops (T.Function f) ss d o in
        let same = (moved_declared f h m params).name in
        let bound = moved_bound f h m params p.tops n file is_file.no_slots (λ k i j. is_file.unbound k (i, j)) (body_bound f file f.body refl b.body)
        (declares_in counts p.tops f r) in
        function_over f h ss (moved_declared f h m params) b
        (subst (λ k. BodyIsBound h (bind k AFunction ss) h.body) (sym same) (bound_body h file h.body refl bound))

    unmoved_top : (f h : Function) (m : IsUnmovedForm f h) → FunctionIsBound f ss → FunctionIsBound h ss
    unmoved_top f h m b =
        let file = behind_top ss (T.Function f) in
        let d = unmoved_declared f h m in
        let before = body_bound f file f.body refl b.body in
        let same = unmoved_slots f h m in
        let bound : AreBound h.slots (with_parameters h.params 0 h.slots (inside file)) (body_of h) =
        subst (λ n. AreBound h.slots (with_parameters n 0 h.slots (inside file)) (body_of h)) (sym d.params)
        (subst (λ ts. AreBound ts (with_parameters f.params 0 ts (inside file)) (body_of h)) (sym same)
        (subst (AreBound f.slots (with_parameters f.params 0 f.slots (inside file))) (sym (left_trees f h m))
        (bound_unmoved f.slots (body_of f) (with_parameters f.params 0 f.slots (inside file)) before))) in
        function_over f h ss d b (subst (λ k. BodyIsBound h (bind k AFunction ss) h.body) (sym d.name) (bound_body h file h.body refl bound))

    top_bound : {t u : Top} → PlainTop Own t u → IsResolvedTop counts p.tops t → ((n : List ℕ) → IsFree p.tops n → TopIsOther n t) → TopIsBound ss t →
        TopIsBound ss u
    top_bound (pt_moved {f = f} {h = h} m q) r d b = moved_top f h m r (own f h q) d b
    top_bound (pt_unmoved {f = f} {h = h} m) r d b = unmoved_top f h m b
    top_bound (pt_declared f e) r d b = b
    top_bound (pt_other t n) r d b = b

    same_behind : {t u : Top} → PlainTop Own t u → IsResolvedTop counts p.tops t → behind_top ss u ≡ behind_top ss t
    same_behind (pt_moved {f = f} {h = h} m q) r = ap (λ n. bind n AFunction ss) (moved_declared f h m r.form.parameters).name
    same_behind (pt_unmoved {f = f} {h = h} m) r = ap (λ n. bind n AFunction ss) (unmoved_declared f h m).name
    same_behind (pt_declared f e) r = refl
    same_behind (pt_other t n) r = refl

  tops_bound : {ts us : List Top} (ss : List Scope) → AreOfFile p.tops ss → PlainTops Own ts us → Each (IsResolvedTop counts p.tops) ts →
      ((n : List ℕ) → IsFree p.tops n → IsFreeIn ts n) → TopsAreBound ss ts → TopsAreBound ss us
  tops_bound ss o pt_none r d b = tt
  tops_bound ss o (pt_more {t = t} {u = u} {us = us} w s) r d b = (
    top_bound ss o w r.0 (λ n f. (d n f).0) b.0,
    subst (λ sc. TopsAreBound sc us) (sym (same_behind ss o w r.0))
        (tops_bound (behind_top ss t) (top_file p.tops t ss (λ n f. (d n f).0) o) s r.1 (λ n f. (d n f).1) b.1),
  )

  pub names_bound : {us : List Top} → PlainTops Own p.tops us → Each (IsResolvedTop counts p.tops) p.tops → TopsAreBound at_start p.tops →
      TopsAreBound at_start us
  names_bound s r b = tops_bound at_start (start_file p.tops) s r (λ n f. f.0) b
