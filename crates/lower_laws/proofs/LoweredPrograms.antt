-- A program and one whose functions have flat lists of gotos for their bodies behave the same.
use Rattle.std.proofs.Common.{ℕ, zero, suc, inr, List, [], Some, None, refl, sym, ◌∙◌, subst, All}
use Rattle.c_tree.specs.declared.tree.Program.{Program}
use Rattle.c_tree.specs.InRange.{IsUnguarded, IsProgramInRange}
use Rattle.c_tree.specs.Trees.{Tree, Forest, Arm, Leap, Land, join}
use Rattle.c_tree.proofs.WellMoved.{everywhere_map}
use Rattle.jump_meaning.specs.Code.{FunctionTree, Code, items_of, code_of}
use Rattle.jump_meaning.specs.Laws.{HoldsNumbers, IsTopUnflat}
use Rattle.jump_meaning.specs.Runs.{SameBehaviour, BehaveTheSame}
use Rattle.jump_meaning.specs.Steady.{IsUnarmed, IsSteadyCode}
use Rattle.jump_meaning.proofs.RunFacts.{same_trans}
use Rattle.jump_meaning.proofs.UnguardedPrograms.{unflat_steady}
use Rattle.core_laws.specs.Laws.{IsMadeBody, HasMadeBodies}
use Rattle.core_laws.proofs.Programs.{made_bodies}
use Rattle.flat_laws.specs.Pieces.{Stays}
use Rattle.flat_laws.specs.Placed.{IsOnce}
use Rattle.flat_laws.specs.Loose.{NoArrival, Open, Looser, IsLooser, LooserFunction, lf_same, lf_looser}
use Rattle.flat_laws.proofs.Lifted.{loose_laws}
use Rattle.flat_laws.proofs.Placing.{once_placed}
use Rattle.flat_laws.proofs.Plain.{new_unguarded}
use Rattle.flat_laws.specs.FlatForm.{place_in}
use Rattle.flat_laws.proofs.Flattened.{live_if}
use Rattle.lower_laws.specs.Straight.{Straight, sl_declares, IsStraight}
use Rattle.lower_laws.specs.Rewritten.{Rewritten, rw_same, rw_by, RewrittenCode, RewrittenTops}
use Rattle.lower_laws.specs.Lowered.{declarations}
use Rattle.lower_laws.specs.Opened.{opened}
use Rattle.lower_laws.specs.Functions.{IsLowered}
use Rattle.lower_laws.proofs.Loosened.{loosened}
use Rattle.lower_laws.proofs.Flattened.{flattened, sa_none}
use Rattle.lower_laws.proofs.Standing.{named}
use Rattle.lower_laws.proofs.Sources.{stays, once_before}
use Rattle.lower_laws.proofs.Straightened.{of_codes, of_programs}
use Rattle.lower_laws.specs.Laws.{LoweredLaws}
use Rattle.lower_laws.proofs.Once.{lowered_once}
use Rattle.lower_laws.proofs.Flat.{are_flat}
use Rattle.lower_laws.proofs.Kept.{globals_hold, code_kept}

unarmed : (x : Tree) → IsUnguarded x → IsUnarmed x
unarmed (Arm l e) h = h
unarmed (Leap l) h = h
unarmed (Land l) h = h
unarmed _ h = tt

declared : (A : Forest) (x n : ℕ) {xs ys : Forest} → Straight A (place_in []) None xs ys → Straight A (place_in []) None xs (join (declarations x n) ys)
declared A x zero f = f
declared A x (suc n) f = sl_declares x (declared A (suc x) n f)

-- ---- one function

module _ (f h : FunctionTree) (l : IsLowered f h) where
  -- its body on the way
  abbrev body : Forest
  body = opened l.layout l.here Stays Stays NoArrival (items_of f)

  -- the function with it
  abbrev pub middle : FunctionTree
  middle = record { result = h.result; params = h.params; slots = h.slots; body = Some body }

  looser : Looser l.setting Open Stays Stays NoArrival (items_of f) body
  looser = loosened l.layout l.setting l.source.labels l.source.slots l.source.number (items_of f) l.here Stays Stays NoArrival
      (l.source.items, l.source.variables, l.source.bound, tt) tt

  straight : Straight body (place_in []) None body (items_of h)
  straight =
      subst (λ z. Straight body (place_in []) None body z) (sym l.body)
      (declared body l.first l.count
      (flattened body [] l.layout l.setting (items_of f) l.here Stays Stays Stays Stays NoArrival NoArrival refl refl sa_none l.source.items
      l.source.bound l.unbroken l.uncontinued
      (λ m n. named l.layout l.setting body (λ k e. stays l.layout k e (items_of f) l.here Stays Stays NoArrival (l.named k e)) m (items_of f) l.here
      Stays Stays NoArrival tt tt l.source.items (λ k i. i) n)))

  once : IsOnce body
  once = once_before body body (items_of h) straight l.new_once

  pub to_middle : IsLooser f middle
  to_middle = record {
    setting = l.setting;
    defined = l.defined;
    new_defined = refl;
    related = looser;
    placed = once_placed (items_of f) l.once;
    new_placed = once_placed body once;
    named = λ m n e. l.named m (live_if (l.layout.plan.live m) (l.layout.plan.source m) n (sym (l.source.labels m) ∙ e));
    result = l.result;
    params = l.params;
    slots = l.slots;
    same_params = l.same_params;
    same_old = l.same_old;
    same_new = l.same_new;
  }

  pub from_middle : IsStraight middle h
  from_middle = record {
    labels = place_in [];
    defined = refl;
    new_defined = l.new_defined;
    related = straight;
    placed = once_placed body once;
    new_placed = once_placed (items_of h) l.new_once;
    result = refl;
    params = refl;
    slots = refl;
  }

  pub middle_made : IsMadeBody (items_of middle)
  middle_made = inr (everywhere_map IsUnguarded IsUnarmed unarmed body (new_unguarded l.setting looser))

-- ---- programs

abbrev between : {f h : FunctionTree} → Rewritten IsLowered f h → FunctionTree
between {f} (rw_same e) = f
between {f} {h} (rw_by l) = middle f h l

to_between : {f h : FunctionTree} (l : Rewritten IsLowered f h) → LooserFunction f (between l)
to_between (rw_same e) = lf_same refl
to_between {f} {h} (rw_by l) = lf_looser (to_middle f h l)

from_between : {f h : FunctionTree} (l : Rewritten IsLowered f h) → Rewritten IsStraight (between l) h
from_between (rw_same e) = rw_same e
from_between {f} {h} (rw_by l) = rw_by (from_middle f h l)

between_made : {f h : FunctionTree} (l : Rewritten IsLowered f h) → IsMadeBody (items_of f) → IsMadeBody (items_of (between l))
between_made (rw_same e) b = b
between_made {f} {h} (rw_by l) b = middle_made f h l

pub of_lowered : (p q : Code) → ((m : List ℕ) → HoldsNumbers (p.globals m)) → HasMadeBodies p → IsSteadyCode p → RewrittenCode IsLowered p q → SameBehaviour p q
of_lowered p q held made steady lo =
    let r : Code = record { functions = λ m. between (lo.functions m); globals = q.globals; cells = q.cells } in
    same_trans p r q
    (loose_laws.of_codes p r held made (λ m. between_made (lo.functions m) (made m))
    (record { functions = λ m. to_between (lo.functions m); globals = lo.globals; cells = lo.cells }) steady).1
    (of_codes r q (record { functions = λ m. from_between (lo.functions m); globals = λ m. refl; cells = refl }))

pub of_lowered_programs : (p q : Program) → IsProgramInRange p → All IsTopUnflat p.tops → RewrittenTops IsLowered p.tops q.tops → BehaveTheSame p q
of_lowered_programs p q ranged unflat lo =
    let st = unflat_steady p ranged unflat in
    record {
      codes = of_lowered (code_of p) (code_of q) (λ m. globals_hold m p.tops) (made_bodies p st.made) st.states
          (code_kept IsLowered (λ f h l. l.defined) (λ f h l. l.new_defined) p q lo);
    }

pub lowered_laws : LoweredLaws
lowered_laws = record {
  straight_codes = of_codes;
  straight_programs = of_programs;
  codes = of_lowered;
  programs = of_lowered_programs;
  flat = λ f h l. are_flat (straight f h l);
  once = lowered_once;
}
