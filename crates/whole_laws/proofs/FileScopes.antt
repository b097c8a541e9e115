-- The scopes of a file, and functions with the same declarations in them.
use Rattle.std.proofs.Common.{◌≡◌, ◌≢◌, ℕ, ◌<◌, ◌≤◌, Bool, true, false, true≢false, cond, ◌||◌, List, [], ◌∷◌, length, map, take, Option, Some, None, refl, sym, ap, subst, ◌∙◌, bytes_eq}
use Rattle.std.specs.List.{list_any}
use Rattle.std.specs.Option.{option_or, option_map_or}
use Rattle.std.proofs.lemmas.Slice.Eq.{bytes_eq-Decides}
use Rattle.c_types.specs.Words.{is_known, known_functions}
use Rattle.c_tree.specs.declared.tree.EnumItem.{EnumItem}
use Rattle.c_tree.specs.declared.tree.Function.{Function}
use Rattle.c_tree.specs.declared.tree.Item.{Item}
use Rattle.c_tree.specs.declared.tree.Top.{Top}
use Rattle.c_tree.specs.declared.tree.Top.TheVariants as T
use Rattle.c_tree.specs.Slots.{ItemSlots}
use Rattle.c_tree.specs.Trees.{Tree, Nil, Local, trees_of}
use Rattle.c_tree.specs.Everywhere.{Everywhere}
use Rattle.c_tree.specs.InRange.{body_of}
use Rattle.c_tree.proofs.WellMoved.{everywhere_map, everywhere_both}
use Rattle.c_resolved_defs.specs.Within.{Each}
use Rattle.c_resolved_defs.specs.Scopes.{Meaning, AConstant, AFunction, Scope, found, look_up, bind, inside, AreBound, with_parameters, AreNewParameters, BodyIsBound, bind_constants, behind_top, IsFunctionName, FunctionIsBound, at_start}
use Rattle.c_resolved_defs.specs.Limits.{FlatCounts}
use Rattle.c_resolved_defs.specs.Resolved.{IsResolvedFunction}
use Rattle.c_resolved_laws.proofs.Ranged.{function_ranged}
use Rattle.c_resolved_laws.proofs.SourceGiven.{Declared, function_declared}
use Rattle.c_resolved_laws.proofs.Scoped.{other_name}
use Rattle.whole_laws.specs.Names.{TopIsOther, IsFreeIn}
use Rattle.whole_laws.proofs.SameFile.{SameDeclaration}
use Rattle.whole_laws.proofs.ScopeLists.{slot_in, IsNoSlot, new_take}
use Rattle.whole_laws.proofs.SourceBound.{DeclaresIn}

-- ---- the scopes of the file

module _ (all : List Top) where
  -- a name that is none of the file and no known function
  abbrev pub IsFree : List ℕ → Type 0
  IsFree n = IsFreeIn all n × (is_known n ≡ false)

  pub record AreOfFile (ss : List Scope) : Type 0 where
    pub no_slots : (n : List ℕ) → IsNoSlot (look_up ss n)
    pub unbound : (n : List ℕ) → IsFree n → look_up ss n ≡ None

  bind_file : (name : List ℕ) (b : Meaning) (ss : List Scope) → slot_in b ≡ None → ((n : List ℕ) → IsFree n → name ≢ n) → AreOfFile ss →
      AreOfFile (bind name b ss)
  bind_file name b [] g d o = record {
    no_slots = λ n. at n (bytes_eq n name);
    unbound = λ n f. ap (λ t. option_or (cond t (Some b) None) None) (other_name n name (λ e. d n f (sym e)));
  }
    where
      at : (n : List ℕ) (t : Bool) → IsNoSlot (option_or (cond t (Some b) None) None)
      at n true = g
      at n false = tt
  bind_file name b (s ∷ ss) g d o = record {
    no_slots = λ n. at n (bytes_eq n name);
    unbound = λ n f. ap (λ t. option_or (cond t (Some b) (found n s)) (look_up ss n)) (other_name n name (λ e. d n f (sym e))) ∙ o.unbound n f;
  }
    where
      at : (n : List ℕ) (t : Bool) → IsNoSlot (option_or (cond t (Some b) (found n s)) (look_up ss n))
      at n true = g
      at n false = o.no_slots n

  constants_file : (xs : List EnumItem) (ss : List Scope) → ((n : List ℕ) → IsFree n → Each (λ (x : EnumItem). x.name ≢ n) xs) → AreOfFile ss →
      AreOfFile (bind_constants xs ss)
  constants_file [] ss d o = o
  constants_file (x ∷ xs) ss d o = constants_file xs (bind x.name (AConstant x.value) ss) (λ n f. (d n f).1)
      (bind_file x.name (AConstant x.value) ss refl (λ n f. (d n f).0) o)

  pub top_file : (t : Top) (ss : List Scope) → ((n : List ℕ) → IsFree n → TopIsOther n t) → AreOfFile ss → AreOfFile (behind_top ss t)
  top_file (T.Enum xs) ss d o = constants_file xs ss d o
  top_file (T.Global g) ss d o = bind_file g.slot.name _ ss refl d o
  top_file (T.Function f) ss d o = bind_file f.name AFunction ss refl d o
  top_file _ ss d o = o

  -- the library alone
  library_found : (ms : List (List ℕ)) (n : List ℕ) → IsNoSlot (found n (map (λ m. (m, AFunction)) ms))
  library_found [] n = tt
  library_found (m ∷ ms) n = at (bytes_eq n m) (library_found ms n)
    where
      at : (t : Bool) → IsNoSlot (found n (map (λ k. (k, AFunction)) ms)) → IsNoSlot (cond t (Some AFunction) (found n (map (λ k. (k, AFunction)) ms)))
      at true rest = refl
      at false rest = rest

  library_none : (ms : List (List ℕ)) (n : List ℕ) → list_any (λ w. bytes_eq w n) ms ≡ false → found n (map (λ m. (m, AFunction)) ms) ≡ None
  library_none [] n e = refl
  library_none (m ∷ ms) n e =
      let p = parts (bytes_eq m n) (list_any (λ w. bytes_eq w n) ms) e in
      ap (λ t. cond t (Some AFunction) (found n (map (λ k. (k, AFunction)) ms)))
      (other_name n m (λ q. true≢false (sym ((bytes_eq-Decides m n).1 (sym q)) ∙ p.0))) ∙ library_none ms n p.1
    where
      parts : (x y : Bool) → (x || y) ≡ false → (x ≡ false) × (y ≡ false)
      parts true y e = cc
      parts false y e = (refl, e)

  pub start_file : AreOfFile at_start
  start_file = record {
    no_slots = λ n. either (found n (map (λ m. (m, AFunction)) known_functions)) (library_found known_functions n);
    unbound = λ n f. ap (λ o. option_or o None) (library_none known_functions n f.1);
  }
    where
      either : (o : Option Meaning) → IsNoSlot o → IsNoSlot (option_or o None)
      either None h = tt
      either (Some b) h = h

-- ---- functions

pub body_bound : (f : Function) (ss : List Scope) (o : Option (List Item)) → f.body ≡ o → BodyIsBound f ss f.body →
    AreBound f.slots (with_parameters f.params 0 f.slots (inside ss)) (body_of f)
body_bound f ss None e h = subst (AreBound f.slots (with_parameters f.params 0 f.slots (inside ss))) (sym (ap (λ b. option_map_or trees_of b Nil) e)) tt
body_bound f ss (Some a) e h = subst (AreBound f.slots (with_parameters f.params 0 f.slots (inside ss)))
    (sym (ap (λ b. option_map_or trees_of b Nil) e)) (subst (BodyIsBound f ss) e h)

pub bound_body : (f : Function) (ss : List Scope) (o : Option (List Item)) → f.body ≡ o →
    AreBound f.slots (with_parameters f.params 0 f.slots (inside ss)) (body_of f) → BodyIsBound f ss o
bound_body f ss None e h = tt
bound_body f ss (Some a) e h = subst (AreBound f.slots (with_parameters f.params 0 f.slots (inside ss))) (ap (λ b. option_map_or trees_of b Nil) e) h

both_local : (p n : ℕ) (x : Tree) → Declared (λ y. p ≤ y) x × ItemSlots (λ y. y < n) x → DeclaresIn p n x
both_local p n (Local k es) h = (h.0.0, h.1.0)
both_local p n _ h = tt

pub declares_in : (counts : FlatCounts) (ts : List Top) (f : Function) → IsResolvedFunction counts ts f →
    Everywhere (DeclaresIn f.params (length f.slots)) (body_of f)
declares_in counts ts f r =
    everywhere_map (λ x. Declared (λ y. f.params ≤ y) x × ItemSlots (λ y. y < length f.slots) x) (DeclaresIn f.params (length f.slots))
    (both_local f.params (length f.slots)) (body_of f)
    (everywhere_both (Declared (λ y. f.params ≤ y)) (ItemSlots (λ y. y < length f.slots)) (body_of f) (function_declared counts ts f r)
    (function_ranged counts ts f r).slots)

-- a function with the same declaration is bound where its body is
pub function_over : (f h : Function) (ss : List Scope) → SameDeclaration f h → FunctionIsBound f ss →
    BodyIsBound h (behind_top ss (T.Function h)) h.body → FunctionIsBound h ss
function_over f h ss d b body = record {
  named = subst (λ n. IsFunctionName n ss) (sym d.name) b.named;
  unknown = ap is_known d.name ∙ b.unknown;
  parameters = subst (λ n. AreNewParameters h.params 0 h.slots (inside (bind n AFunction ss))) (sym d.name)
      (subst (λ n. AreNewParameters n 0 h.slots (inside (behind_top ss (T.Function f)))) (sym d.params)
      (new_take f.params 0 f.slots h.slots (inside (behind_top ss (T.Function f))) (ap (λ n. take n h.slots) (sym d.params) ∙ d.parameters) b.parameters));
  body = body;
}
