-- Calls of the functions of a program.
use Rattle.std.proofs.Common.{ℕ, zero, suc, ◌-◌, ◌+◌, ◌<◌, List, [], ◌∷◌, true, false, Option, Some, None, option_map, is_some, ◌≡◌, refl, sym, ap, subst, true≢false, arith}
use Rattle.std.specs.Option.{option_map_or}
use Rattle.c_tree.specs.Trees.{Forest, Nil}
use Rattle.jump_meaning.specs.Calls.{last_values, without_last}
use Rattle.jump_meaning.specs.Code.{Code, FunctionTree}
use Rattle.jump_meaning.specs.Effects.{Invokes}
use Rattle.jump_meaning.specs.Known.{call_without_body}
use Rattle.jump_meaning.specs.Step.{Guards, Frame, Waits, begin_call, settle, invoke, perform}
use Rattle.jump_meaning.specs.Tasks.{Task}
use Rattle.jump_meaning.specs.Values.{Value}
use Rattle.jump_meaning.specs.World.{World, push}
use Rattle.step_interp.specs.declared.machine.Machine.{Machine}
use Rattle.step_interp.specs.declared.machine.Next.{Next}
use Rattle.step_interp.specs.Calls.{QuietlyReaches, IsGetchar}

-- ---- arguments

pub none_left : (n : ℕ) (a : List Value) → last_values n a [] ≡ a
none_left zero a = refl
none_left (suc n) a = refl

pub none_without : (n : ℕ) → without_last n [] ≡ []
none_without zero = refl
none_without (suc n) = refl

pub one_taken : (n i : ℕ) (a : List Value) (x : Value) (v : List Value) → i < n → last_values (n - i) a (x ∷ v) ≡ last_values (n - (i + 1)) (x ∷ a) v
one_taken n i a x v h = ap (λ k. last_values k a (x ∷ v)) (the_rest n i h) where
  the_rest : (n i : ℕ) → i < n → n - i ≡ suc (n - (i + 1))
  the_rest n i h = omega arith

pub one_without : (n i : ℕ) (x : Value) (v : List Value) → i < n → without_last (n - i) (x ∷ v) ≡ without_last (n - (i + 1)) v
one_without n i x v h = ap (λ k. without_last k (x ∷ v)) (the_rest n i h) where
  the_rest : (n i : ℕ) → i < n → n - i ≡ suc (n - (i + 1))
  the_rest n i h = omega arith

pub all_taken : (n : ℕ) (a v : List Value) → last_values (n - n) a v ≡ a
all_taken n a v = ap (λ k. last_values k a v) (nothing n) where
  nothing : (n : ℕ) → n - n ≡ 0
  nothing n = omega arith

pub all_without : (n : ℕ) (v : List Value) → without_last (n - n) v ≡ v
all_without n v = ap (λ k. without_last k v) (nothing n) where
  nothing : (n : ℕ) → n - n ≡ 0
  nothing n = omega arith

-- ---- bodies

pub with_body : {A : Type 0} (o : Option A) (t : A → Forest) (h : FunctionTree) (m : List ℕ) (vs : List Value) (f : List ℕ) (g : Guards)
    (k : List Task) (v : List Value) (cs : List Frame) (w : World)
    → is_some o ≡ true
    → begin_call m (option_map_or (λ a. a) (option_map t o) Nil) (push h vs w) (Waits f g k v ∷ cs) w ≡ invoke (option_map t o) h m vs f g k v cs w
with_body (Some a) t h m vs f g k v cs w e = refl
with_body None t h m vs f g k v cs w e = absurd (true≢false (sym e))

pub no_body : {A : Type 0} (o : Option A) (t : A → Forest) (h : FunctionTree) (m : List ℕ) (vs : List Value) (f : List ℕ) (g : Guards) (k : List Task)
    (v : List Value) (cs : List Frame) (w : World)
    → is_some o ≡ false
    → settle (call_without_body m h vs w) f g k v cs ≡ invoke (option_map t o) h m vs f g k v cs w
no_body (Some a) t h m vs f g k v cs w e = absurd (true≢false e)
no_body None t h m vs f g k v cs w e = refl

pub is_none : {A : Type 0} (o : Option A) (t : A → Forest) → is_some o ≡ false → option_map t o ≡ None
is_none (Some a) t e = absurd (true≢false e)
is_none None t e = refl

-- ---- the function of a name

pub with_function : (P : Code) (m n : List ℕ) (h : FunctionTree) (xs bs us vs : List Value) (f : List ℕ) (g : Guards) (k : List Task)
    (cs : List Frame) (w : World) (next : Next) (new : Machine)
    → m ≡ n → P.functions n ≡ h → bs ≡ xs → us ≡ vs
    → QuietlyReaches (IsGetchar m h) (invoke h.body h m bs f g k us cs w) w next new
    → QuietlyReaches (IsGetchar n (P.functions n)) (perform P (Invokes n xs vs w) f g k cs) w next new
with_function P m n h xs bs us vs f g k cs w next new en eh ea ev r =
    subst (λ i. QuietlyReaches (IsGetchar n i) (invoke i.body i n xs f g k vs cs w) w next new) (sym eh)
    (subst (λ ys. QuietlyReaches (IsGetchar n h) (invoke h.body h n ys f g k vs cs w) w next new) ea
    (subst (λ ys. QuietlyReaches (IsGetchar n h) (invoke h.body h n bs f g k ys cs w) w next new) ev
    (subst (λ x. QuietlyReaches (IsGetchar x h) (invoke h.body h x bs f g k us cs w) w next new) en r)))
