-- Tasks of expressions that store a number in a variable.
use Rattle.std.proofs.Common.{ℕ, suc, ℤ, pos, Bool, true, false, cond, List, [], ◌∷◌, Ok, ◌≡◌, refl, sym, ap, ◌∙◌, subst, FitsSigned, arith}
use Rattle.std.specs.Int.{w128}
use Rattle.std.proofs.lemmas.Int.{fits_signed_from_abs}
use Rattle.c_types.proofs.Results.{abs_below}
use Rattle.c_types.specs.declared.kinds.IntKind.{IntKind}
use Rattle.c_types.specs.Numbers.{IsInRange, converted, promoted, arith_result}
use Rattle.c_tree.specs.ExpressionTrees.{ExpressionTree}
use Rattle.jump_meaning.specs.Values as Meant
use Rattle.jump_meaning.specs.World.{World, kind_at, load, store}
use Rattle.jump_meaning.specs.Operations.{count_mark, counted}
use Rattle.jump_meaning.specs.Effects.{Does, Stores, Counts, Sets, initialise, effect, top, rest, left}
use Rattle.step_memory.specs.declared.store.Store.{Store}
use Rattle.step_memory.specs.declared.value.Owner.{Owner}
use Rattle.step_memory.specs.declared.value.Value.{Value}
use Rattle.step_memory.specs.Stores.{names_of, HasKind, HasNumber, StoresIn}
use Rattle.step_memory.specs.Values.{owner_of, values_of}
use Rattle.step_tasks.specs.declared.work.Work.{Work}
use Rattle.step_tasks.specs.Effects.{Comes, Effects, Changes, LeavesIn}
use Rattle.step_tasks.specs.Tasks.{tasks_of}

pub assigned : (s t : Store) (values new : List Value) (o : Owner) (i : ℕ) (z : ℤ) (k : IntKind)
    → z ≡ Meant.integer (top (values_of (names_of s) values)) → Meant.Designates (owner_of (names_of s) o) i ≡ top
    (rest (values_of (names_of s) values)) → HasKind s o k → StoresIn o i z s t
    → values_of (names_of s) new ≡ Meant.Integer (converted k z) ∷ rest (rest (values_of (names_of s) values)) → LeavesIn Stores s t values new
assigned s t values new o i z k ez ep hk st e tasks w h =
    let v = values_of (names_of s) values in
    let d = Meant.Designates (owner_of (names_of s) o) i in (
      store d z w,
      (
        refl,
        e ∙ ap (λ q. Meant.Integer (converted q z) ∷ rest (rest v)) (sym (hk w h)) ∙ ap (λ p. Meant.Integer (converted (kind_at p w) z) ∷ rest (rest v)) ep
            ∙ ap (λ y. Meant.Integer (converted (kind_at (top (rest v)) w) y) ∷ rest (rest v)) ez,
        ap (λ p. store p z w) ep ∙ ap (λ y. store (top (rest v)) y w) ez,
      ),
      st w h,
      record { calls = refl; cells = refl; input = refl; answers = refl; events = refl },
    )

-- what `++` or `--` leaves
abbrev pub left_by : Bool → IntKind → ℤ → ℤ → ℤ
left_by after k old new = cond after old (converted k new)

counts : (after : Bool) (d : Meant.Value) (w : World) (old new : ℤ) (k : IntKind) → load d w ≡ old → kind_at d w ≡ k →
    cond after (Meant.Integer (load d w)) (Meant.Integer (converted (kind_at d w) new)) ≡ Meant.Integer (left_by after k old new)
counts true d w old new k e h = ap Meant.Integer e
counts false d w old new k e h = ap (λ q. Meant.Integer (converted q new)) h

pub counted_cell : (s t : Store) (up after : Bool) (place values new : List Value) (o : Owner) (i : ℕ) (old z : ℤ) (k : IntKind)
    → values_of (names_of s) place ≡ Meant.Designates (owner_of (names_of s) o) i ∷ values_of (names_of s) values
    → HasNumber s o i old → HasKind s o k → arith_result (count_mark up) (promoted k) old (pos 1) ≡ Ok z → StoresIn o i z s t
    → values_of (names_of s) new ≡ Meant.Integer (left_by after k old z) ∷ values_of (names_of s) values → LeavesIn (Counts up after) s t place new
counted_cell s t up after place values new o i old z k ep hn hk r st e tasks w h =
    let v = values_of (names_of s) values in
    let d = Meant.Designates (owner_of (names_of s) o) i in
    let does : effect (Counts up after) (values_of (names_of s) place) w ≡ Does [] (Meant.Integer (left_by after k old z) ∷ v) (store d z w) =
    ap (λ p. effect (Counts up after) p w) ep
    ∙ ap (λ q. left (counted after d (arith_result (count_mark up) (promoted q) (load d w) (pos 1)) w) v) (hk w h)
    ∙ ap (λ n. left (counted after d (arith_result (count_mark up) (promoted k) n (pos 1)) w) v) (hn w h)
    ∙ ap (λ n. left (counted after d n w) v) r
    ∙ ap (λ x. Does [] (x ∷ v) (store d z w)) (counts after d w old z k (hn w h) (hk w h)) in (
      store d z w,
      subst (λ E. Comes E (tasks_of tasks) (tasks_of tasks) (values_of (names_of s) new) (store d z w)) (sym does) (refl, e, refl),
      st w h,
      record { calls = refl; cells = refl; input = refl; answers = refl; events = refl },
    )

pub set_cell : (s t : Store) (x i : ℕ) (es : List ExpressionTree) (tasks left : List Work) (values mid new : List Value) (o : Owner) (j : ℕ) (z : ℤ)
    → t.names ≡ s.names → z ≡ Meant.integer (top (values_of (names_of s) values)) →
    Meant.Designates (owner_of (names_of s) o) j ≡ top (rest (values_of (names_of s) values)) → StoresIn o j z s t
    → values_of (names_of s) mid ≡ rest (rest (values_of (names_of s) values)) → Effects (initialise x (suc i) es) t tasks left mid new →
    Changes (Sets x i es) s t tasks left values new
set_cell s t x i es tasks left values mid new o j z en ez ep st em k w h =
    let v = values_of (names_of s) values in
    let d = Meant.Designates (owner_of (names_of s) o) j in
    let names : names_of t ≡ names_of s = ap (λ ns. names_of (record t { names = ns })) en in
    let first = k (store d z w) (st w h) in
    let second = subst (λ ns. Comes (initialise x (suc i) es (values_of ns mid) (store d z w)) (tasks_of tasks) (tasks_of left) (values_of ns new)
    (store d z w)) names first in
    let third = subst (λ m. Comes (initialise x (suc i) es m (store d z w)) (tasks_of tasks) (tasks_of left) (values_of (names_of s) new)
    (store d z w)) em second in (
      store d z w,
      subst (λ y. Comes (initialise x (suc i) es (rest (rest v)) y) (tasks_of tasks) (tasks_of left) (values_of (names_of s) new) (store d z w))
          (ap (λ p. store p z w) ep ∙ ap (λ y. store (top (rest v)) y w) ez) third,
      st w h,
      record { calls = refl; cells = refl; input = refl; answers = refl; events = refl },
    )

-- ---- what the answers about `++` and `--` need

pub in_range_fits : (k : IntKind) (z : ℤ) → IsInRange k z → FitsSigned w128 z
in_range_fits k z h = fits_signed_from_abs w128 z (omega (arith, abs_below k z h))

pub with_place : (v r : List Meant.Value) (o : Meant.Owner) (i : ℕ) → Meant.Designates o i ≡ top v → r ≡ rest v → v ≡ Meant.Designates o i ∷ r
with_place [] r o i e h = cc
with_place (x ∷ v) r o i e h = cc
