-- What the links of the proof take of a source program, and that a resolved program has it.
use Rattle.std.proofs.Common.{ℕ, zero, suc, ◌≡◌, ◌≤◌, false, List, [], ◌∷◌, length, Option, Some, None, All, slice_get, refl}
use Rattle.std.specs.Prelude.{IfSome, IsSomeAnd}
use Rattle.std.proofs.lemmas.List.Elements.{All-from_recursion, recursion_from_All}
use Rattle.c_tree.specs.declared.tree.Slot.{Slot}
use Rattle.c_tree.specs.declared.tree.Function.{Function}
use Rattle.c_tree.specs.declared.tree.Top.{Top}
use Rattle.c_tree.specs.declared.tree.Top.TheVariants as T
use Rattle.c_tree.specs.declared.tree.Program.{Program}
use Rattle.c_tree.specs.Constants.{kind_of, HasKind}
use Rattle.c_tree.specs.ExpressionTrees.{ExpressionTree}
use Rattle.c_tree.specs.Trees.{Tree, For, Local}
use Rattle.c_tree.specs.Everywhere.{Everywhere}
use Rattle.c_tree.specs.InRange.{body_of, IsInRange}
use Rattle.c_tree.proofs.WellMoved.{everywhere_map}
use Rattle.jump_meaning.specs.Code.{entry_or, code_of}
use Rattle.jump_meaning.specs.World.{no_slot}
use Rattle.flat_laws.specs.Parts.{is_named}
use Rattle.flat_laws.specs.Source.{IsSourceItem}
use Rattle.flat_laws.specs.FlatWellMadeLaws.{IsGoodSource}
use Rattle.whole_laws.specs.WholeKindsLaws.{IsKindedTop, IsKindedProgram}
use Rattle.c_resolved_defs.specs.Files.{AreInitialisers}
use Rattle.c_resolved_defs.specs.Kinds.{HasValue, ItemAgrees}
use Rattle.c_resolved_defs.specs.Limits.{FlatCounts}
use Rattle.c_resolved_defs.specs.Resolved.{IsInitialised, IsResolvedFunction, IsResolvedTop, IsResolvedWith, names_in}
use Rattle.c_resolved_laws.specs.Laws.{IsTopKinded}
use Rattle.c_resolved_laws.proofs.Ranged.{each_map, function_ranged}
use Rattle.c_resolved_laws.proofs.ItemsGiven.{resolved_kinded}
use Rattle.c_resolved_laws.proofs.GoodSource.{good_source}
use Rattle.c_resolved_laws.proofs.SourceGiven.{function_source}
use Rattle.whole_laws.specs.Rewritten.{setting}

-- the test of a `for` has a value, as that of a `while` has, which it becomes
abbrev pub HasForKind : Tree → Type 0
HasForKind (For first t u a) = IfSome t (λ e. HasKind (kind_of e))
HasForKind _ = Unit {0}

-- an array that is initialised has a cell for each initialiser, and so few that the constants that name its cells are ints
abbrev pub HasFewCells : List Slot → Tree → Type 0
HasFewCells ss (Local x es) = IfSome es (λ gs. IfSome (entry_or no_slot ss x).cells (λ n. (length gs ≤ n) × (n ≤ 1024)))
HasFewCells ss _ = Unit {0}

-- a function of a source
pub record IsSourceFunction (f : Function) : Type 0 where
  pub unflat : f.flat ≡ false
  pub ranged : IsInRange f
  -- its items, with the slots that it has
  pub items : Everywhere (IsSourceItem (setting f f) (is_named (body_of f))) (body_of f)
  -- its body can be flattened
  pub good : IsGoodSource (length f.labels) (body_of f)
  -- tests of `for`, and arrays
  pub for_kinds : Everywhere HasForKind (body_of f)
  pub few_cells : Everywhere (HasFewCells f.slots) (body_of f)

abbrev pub IsSourceTop : Top → Type 0
IsSourceTop (T.Function f) = IsSourceFunction f
IsSourceTop _ = Unit {0}

pub record IsSource (p : Program) : Type 0 where
  pub tops : All IsSourceTop p.tops
  pub kinded : IsKindedProgram p

-- ---- of a resolved program

for_kind : (o : Option ExpressionTree) → IfSome o HasValue → IfSome o (λ e. HasKind (kind_of e))
for_kind None h = tt
for_kind (Some e) h = h.kind

item_for : (ts : List Top) (f : Function) (x : Tree) → ItemAgrees (names_in ts f) x → HasForKind x
item_for ts f (For first t u a) h = let v = h.values in for_kind t v.0
item_for ts f x h = tt

few : (ss : List Slot) (x : ℕ) (es : List ExpressionTree) → IsSomeAnd (slice_get ss x) (λ (r : Slot). AreInitialisers 1024 r.cells es)
    → IfSome (entry_or no_slot ss x).cells (λ n. (length es ≤ n) × (n ≤ 1024))
few [] x es h = tt
few (s ∷ ss) zero es h = of_cells s.cells h
  where
    of_cells : (c : Option ℕ) → AreInitialisers 1024 c es → IfSome c (λ n. (length es ≤ n) × (n ≤ 1024))
    of_cells None h = tt
    of_cells (Some n) h = h
few (s ∷ ss) (suc x) es h = few ss x es h

item_few : (f : Function) (x : Tree) → IsInitialised f.slots x → HasFewCells f.slots x
item_few f (Local x None) h = tt
item_few f (Local x (Some es)) h = few f.slots x es h
item_few f x h = tt

module _ (counts : FlatCounts) (p : Program) (r : IsResolvedWith counts p) where
  pub source_function : (f : Function) → IsResolvedFunction counts p.tops f → IsSourceFunction f
  source_function f g = record {
    unflat = g.form.unflat;
    ranged = function_ranged counts p.tops f g;
    items = function_source counts p.tops f (setting f f) g (record { old = refl; params = refl; cells = λ x h. refl });
    good = good_source counts p.tops f g;
    for_kinds = everywhere_map (ItemAgrees (names_in p.tops f)) HasForKind (item_for p.tops f) (body_of f) g.kinds;
    few_cells = everywhere_map (IsInitialised f.slots) (HasFewCells f.slots) (item_few f) (body_of f) g.initialised;
  }

  source_top : (t : Top) → IsResolvedTop counts p.tops t → IsSourceTop t
  source_top (T.Function f) g = source_function f g
  source_top _ g = tt

  kinded_top : (t : Top) → IsTopKinded p t → IsKindedTop (code_of p) t
  kinded_top (T.Function f) g = g
  kinded_top _ g = tt

  pub resolved_source : IsSource p
  resolved_source = record {
    tops = All-from_recursion IsSourceTop p.tops (each_map (IsResolvedTop counts p.tops) IsSourceTop source_top p.tops r.tops);
    kinded = All-from_recursion (IsKindedTop (code_of p)) p.tops
        (each_map (IsTopKinded p) (IsKindedTop (code_of p)) kinded_top p.tops (recursion_from_All (IsTopKinded p) p.tops (resolved_kinded counts p r)));
  }
