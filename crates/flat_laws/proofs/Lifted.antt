-- The law of looser bodies, of steady programs as the meaning reads them and of resolved programs.
use Rattle.std.proofs.Common.{ℕ, ◌+◌, Bool, true, false, cond, ◌&&◌, List, [], ◌∷◌, Option, Some, None, is_some, ◌≡◌, refl, sym, ◌∙◌, ap, subst, All, bytes_eq, IsSome, option_map}
use Rattle.c_tree.specs.declared.tree.Item.{Item}
use Rattle.c_tree.specs.declared.tree.Function.{Function}
use Rattle.c_tree.specs.declared.tree.Top.{Top}
use Rattle.c_tree.specs.declared.tree.Top.TheVariants as T
use Rattle.c_tree.specs.declared.tree.Program.{Program}
use Rattle.c_tree.specs.Trees.{trees_of}
use Rattle.c_tree.specs.InRange.{IsProgramInRange}
use Rattle.jump_meaning.specs.Code.{FunctionTree, Code, cell_count, function_tree, undeclared, function_in, first_of, function_named, initial_variable, global_named, global_cells, code_of}
use Rattle.jump_meaning.specs.Values.{Variable}
use Rattle.jump_meaning.specs.Laws.{HoldsNumbers}
use Rattle.jump_meaning.specs.Runs.{SameBehaviour, BehaveTheSame}
use Rattle.jump_meaning.specs.Steady.{IsTopMadeWell, IsSteadyCode, IsSteady}
use Rattle.core_laws.specs.Core.{core_function, core_code}
use Rattle.core_laws.specs.Laws.{HasMadeBodies}
use Rattle.core_laws.proofs.Made.{placed}
use Rattle.core_laws.proofs.Programs.{made_bodies}
use Rattle.core_laws.proofs.Theorem.{between}
use Rattle.flat_laws.specs.Loose.{IsLooser, LooserFunction, lf_same, lf_looser, LooserCode, lt_same, lt_function, LooserTops, lt_none, lt_more}
use Rattle.flat_laws.specs.LooserLaws.{LooseLaws}
use Rattle.flat_laws.proofs.Behave.{loosened, still_no_arm}
use Rattle.flat_laws.proofs.Plain.{core_before, core_after}
use Rattle.flat_laws.proofs.Spelled.{spelled_numbers}

-- the cores of looser programs are looser
cores : {f h : FunctionTree} → LooserFunction f h → LooserFunction (core_function f) (core_function h)
cores (lf_same e) = lf_same (ap core_function e)
cores {f} {h} (lf_looser l) = subst (λ x. LooserFunction x (core_function h)) (sym (core_before l))
    (subst (λ y. LooserFunction f y) (sym (core_after l)) (lf_looser l))

core_looser : (p q : Code) → LooserCode p q → LooserCode (core_code p) (core_code q)
core_looser p q lo = record { functions = λ m. cores (lo.functions m); globals = lo.globals; cells = lo.cells }

of_codes : (p q : Code) → ((m : List ℕ) → HoldsNumbers (p.globals m)) → HasMadeBodies p → HasMadeBodies q → LooserCode p q → IsSteadyCode p →
    IsSteadyCode q × SameBehaviour p q
of_codes p q held b d lo st =
    let c = core_looser p q lo in
    between p q (placed p b) (placed q d) (λ safe. loosened (core_code p) (core_code q) c held safe)
    (λ safe. still_no_arm (core_code p) (core_code q) c held safe) st

-- ---- resolved programs

data LooserFound : Option FunctionTree → Option FunctionTree → Type 0 where
  fd_none : LooserFound None None
  fd_some : {f h : FunctionTree} → LooserFunction f h → LooserFound (Some f) (Some h)

found_refl : (o : Option FunctionTree) → LooserFound o o
found_refl None = fd_none
found_refl (Some f) = fd_some (lf_same refl)

found_if : (b : Bool) {o o' p p' : Option FunctionTree} → LooserFound o o' → LooserFound p p' → LooserFound (cond b o p) (cond b o' p')
found_if true h k = h
found_if false h k = k

first_looser : {o o' p p' : Option FunctionTree} → LooserFound o o' → LooserFound p p' → LooserFunction (first_of o p undeclared) (first_of o' p' undeclared)
first_looser (fd_some l) k = l
first_looser fd_none (fd_some l) = l
first_looser fd_none fd_none = lf_same refl

-- a test that holds of a function and of a looser one
abbrev Alike : (Function → Bool) → Type 0
Alike test = (f h : Function) → IsLooser (function_tree f) (function_tree h) → test f ≡ test h

same_top : (test : Function → Bool) (m : List ℕ) (t : Top) (ts us : List Top) → LooserFound (function_in test m ts) (function_in test m us) →
    LooserFound (function_in test m (t ∷ ts)) (function_in test m (t ∷ us))
same_top test m (T.Function f) ts us h = found_if (bytes_eq f.name m && test f) (found_refl (Some (function_tree f))) h
same_top test m _ ts us h = h

found_looser : (test : Function → Bool) → Alike test → (m : List ℕ) {ts us : List Top} → LooserTops ts us →
    LooserFound (function_in test m ts) (function_in test m us)
found_looser test same m lt_none = fd_none
found_looser test same m (lt_more {t = t} {ts = ts} {us = us} (lt_same e) h) =
    subst (λ u. LooserFound (function_in test m (t ∷ ts)) (function_in test m (u ∷ us))) e (same_top test m t ts us (found_looser test same m h))
found_looser test same m (lt_more {ts = ts} {us = us} (lt_function {f = f} {h = g} n l) h) =
    subst (λ b. LooserFound (function_in test m (T.Function f ∷ ts)) (cond b (Some (function_tree g)) (function_in test m us)))
    (ap (λ z. bytes_eq z m && test f) n ∙ ap (λ b. bytes_eq g.name m && b) (same f g l))
    (found_if (bytes_eq f.name m && test f) (fd_some (lf_looser l)) (found_looser test same m h))

some_body : (b : Option (List Item)) → IsSome (option_map trees_of b) → is_some b ≡ true
some_body None h = h
some_body (Some xs) h = refl

with_body : Alike (λ f. is_some f.body)
with_body f h l = some_body f.body l.defined ∙ sym (some_body h.body l.new_defined)

function_looser : (m : List ℕ) {ts us : List Top} → LooserTops ts us → LooserFunction (function_named m ts) (function_named m us)
function_looser m h = first_looser (found_looser (λ f. is_some f.body) with_body m h) (found_looser (λ f. true) (λ f g l. refl) m h)

global_same : (m : List ℕ) (t : Top) (ts us : List Top) → global_named m ts ≡ global_named m us → global_named m (t ∷ ts) ≡ global_named m (t ∷ us)
global_same m (T.Global g) ts us e = ap (λ v. cond (bytes_eq g.slot.name m) (initial_variable g) v) e
global_same m _ ts us e = e

globals_looser : (m : List ℕ) {ts us : List Top} → LooserTops ts us → global_named m ts ≡ global_named m us
globals_looser m lt_none = refl
globals_looser m (lt_more {t = t} {ts = ts} {us = us} (lt_same e) h) = global_same m t ts us (globals_looser m h) ∙ ap (λ u. global_named m (u ∷ us)) e
globals_looser m (lt_more (lt_function n l) h) = globals_looser m h

cells_same : (t : Top) (ts us : List Top) → global_cells ts ≡ global_cells us → global_cells (t ∷ ts) ≡ global_cells (t ∷ us)
cells_same (T.Global g) ts us e = ap (λ n. cell_count g.slot + n) e
cells_same _ ts us e = e

cells_looser : {ts us : List Top} → LooserTops ts us → global_cells ts ≡ global_cells us
cells_looser lt_none = refl
cells_looser (lt_more {t = t} {ts = ts} {us = us} (lt_same e) h) = cells_same t ts us (cells_looser h) ∙ ap (λ u. global_cells (u ∷ us)) e
cells_looser (lt_more (lt_function n l) h) = cells_looser h

either_holds : (b : Bool) (v w : Variable) → HoldsNumbers v → HoldsNumbers w → HoldsNumbers (cond b v w)
either_holds true v w h k = h
either_holds false v w h k = k

globals_hold : (m : List ℕ) (ts : List Top) → HoldsNumbers (global_named m ts)
globals_hold m [] = tt
globals_hold m (T.Global g ∷ ts) = either_holds (bytes_eq g.slot.name m) (initial_variable g) (global_named m ts) tt (globals_hold m ts)
globals_hold m (_ ∷ ts) = globals_hold m ts

of_programs : (p q : Program) → IsProgramInRange q → All IsTopMadeWell q.tops → LooserTops p.tops q.tops → IsSteady p → IsSteady q × BehaveTheSame p q
of_programs p q ranged made lo st =
    let c : LooserCode (code_of p) (code_of q) = record {
      functions = λ m. function_looser m lo;
      globals = λ m. globals_looser m lo;
      cells =
          cells_looser lo;
    } in
    let r = of_codes (code_of p) (code_of q) (λ m. globals_hold m p.tops) (made_bodies p st.made) (made_bodies q made) c st.states in
    (record { ranged = ranged; made = made; states = r.0 }, record { codes = r.1 })

pub loose_laws : LooseLaws
loose_laws = record { of_codes = of_codes; of_programs = of_programs; numbers = spelled_numbers }
