-- Calls of functions with a slot, and of those without it, come to the same.
use Rattle.std.proofs.Common.{ℕ, suc, ◌+◌, pos, Bool, true, false, cond, not, ◌&&◌, nat_lt, List, map, codes, bytes_eq, Option, Some, None, Result, Ok, Err, ◌≡◌, refl, sym, ap, ◌∙◌, subst}
use Rattle.std.specs.Option.{option_map_or}
use Rattle.c_types.specs.declared.kinds.IntKind.{IntKind}
use Rattle.c_types.specs.declared.trap.Trap.{Trap}
use Rattle.c_types.specs.Numbers.{converted}
use Rattle.c_types.proofs.Residues.{converted-in_range}
use Rattle.c_tree.specs.Trees.{Forest}
use Rattle.jump_meaning.specs.Values.{Value, Integer, Missing, integer}
use Rattle.jump_meaning.specs.Code.{FunctionTree, Code, cells_of}
use Rattle.jump_meaning.specs.World.{World, Outcome, Gives, Traps, enter_call, most_calls, most_cells, push, pop}
use Rattle.jump_meaning.specs.Known.{call_without_body}
use Rattle.jump_meaning.specs.Calls.{fallen, lacks, leave_call}
use Rattle.struct_meaning.specs.Structural.{Completion, Normal, Broken, Continued, Returned, Meaning, LessFuel, given, execs, value_left, call_body, called}
use Rattle.plain_laws.specs.Kinded.{kind_called}
use Rattle.plain_laws.proofs.Memories.{Shape, Shapes}
use Rattle.plain_laws.proofs.Sorts.{Num, HasSort}
use Rattle.plain_laws.proofs.Entering.{AreArguments}
use Rattle.tidy_laws.specs.Renumbered.{without}
use Rattle.tidy_laws.proofs.Evaluations.{Alike, bind_alike}
use Rattle.tidy_laws.proofs.TidyChangesNumbers.{same_cells}
use Rattle.tidy_laws.proofs.Apart.{Apart, new_lending}
use Rattle.tidy_laws.proofs.Operations.{Post, zero_in, known_alike}
use Rattle.tidy_laws.proofs.KnownCalls.{without_body_stays}
use Rattle.tidy_laws.proofs.Completions.{breaking, Done, Ends}
use Rattle.tidy_laws.specs.Settles.{Items}
use Rattle.tidy_laws.specs.Settled.{MayGo, SettledBody}
use Rattle.tidy_laws.proofs.TidyZeroStatements.{Less}
use Rattle.tidy_laws.proofs.Running.{items_end}
use Rattle.tidy_laws.proofs.Calls.{narrowed, gone_cells, grown, bored, shape_here, hole_here, enter_apart, leave_apart}

either : {A : Type 0} (P : A → Type 0) (b : Bool) (x y : A) → P x → P y → P (cond b x y)
either P true x y h k = h
either P false x y h k = k

-- ---- calls

value_in : (m : List ℕ) (f : FunctionTree) (e : Completion) (p : Code) (sh : Shapes) (c : ℕ) → HasSort p sh c (Num f.result) (value_left m f e)
value_in m f e p sh c = at e
  where
    fallen_in : HasSort p sh c (Num f.result) (fallen m)
    fallen_in = either (HasSort p sh c (Num f.result)) (bytes_eq m (codes "main")) (Integer (pos 0)) Missing
        (tt, zero_in f.result (Integer (pos 0)) refl) (tt, zero_in f.result Missing refl)

    given_in : (kind : Option IntKind) (v : Value) → HasSort p sh c (Num kind) (option_map_or (λ k. Integer (converted k (integer v))) kind Missing)
    given_in None v = (tt, tt)
    given_in (Some k) v = (tt, converted-in_range k (integer v))

    at : (e : Completion) → HasSort p sh c (Num f.result) (value_left m f e)
    at (Returned (Some v)) = given_in f.result v
    at _ = fallen_in

-- the body in the Worlds of its call, then what its end leaves
module _ (p : Code) (sh : Shapes) (holes : ℕ → ℕ) (n : ℕ) where
  strict : (e : Completion) (w u : World) → Apart p sh holes (breaking false e) n w u → Apart p sh holes false n w u
  strict Normal w u a = a
  strict Broken w u a = a
  strict Continued w u a = a
  strict (Returned v) w u a = a

  abbrev pub Entered : Result World Trap → Result World Trap → Type 0
  Entered (Ok w) (Ok u) = Apart p sh holes false n w u
  Entered (Err s) (Err t) = t ≡ s
  Entered _ _ = ⊥

  pub body_alike : (R : Value → World → Value → World → Type 0) (x y : Meaning) (i j : Completion → World → Outcome) → Ends p sh holes n (breaking false) x y
      → ((e : Completion) (w u : World) → Apart p sh holes false n w u → Alike R (given (i e w)) (given (j e u))) → (w u : World) → u.events ≡ w.events
      → (r s : Result World Trap) → Entered r s → Alike R (call_body x i w r) (call_body y j u s)
  body_alike R x y i j h k w u q (Ok v) (Ok t) e = bind_alike (Done p sh holes n (breaking false)) R (x v) (y t) _ _ (h v t e)
      (λ d w b u l. subst (λ z. Alike R (given (i d w)) (given (j z u))) (sym l.0) (k d w u (strict d w u l.1)))
  body_alike R x y i j h k w u q (Err t) (Err s) e = (e, q)
  body_alike R x y i j h k w u q (Ok v) (Err s) e = absurd e
  body_alike R x y i j h k w u q (Err t) (Ok v) e = absurd e

module _ (p : Code) (L M : LessFuel) (less : Less p L M) (sh : Shapes) (holes : ℕ → ℕ) (n : ℕ) where
  module _ (m : List ℕ) (f : FunctionTree) (g : ℕ) (may : MayGo g f) where
    cells_same : cells_of (without g f.slots) ≡ cells_of f.slots
    cells_same = same_cells g f.slots (gone_cells g f may)

    module _ (vs : List Value) (are : AreArguments p sh n f vs) where
      abbrev pub shapes : Shapes
      shapes = grown p sh holes n g f vs

      abbrev pub gone : ℕ → ℕ
      gone = bored p sh holes n g f vs

      pub push_same : (w u : World) → Apart p sh holes false n w u → Entered p shapes gone (suc n) (push f vs w)
          (push (narrowed g f) (map (new_lending holes) vs) u)
      push_same w u a =
          let ok = λ (i j : ℕ). cond (nat_lt most_calls (suc i)) (Err Trap.Calls)
          (cond (nat_lt most_cells j) (Err Trap.Cells) (Ok (enter_call (narrowed g f) (map (new_lending holes) vs) u))) in
          subst (λ i. Entered p shapes gone (suc n) (push f vs w) (ok i (u.cells + cells_of (without g f.slots)))) (a.calls ∙ sym a.same_calls)
          (subst (λ j. Entered p shapes gone (suc n) (push f vs w) (ok w.calls j))
          (sym (ap (λ k. u.cells + k) cells_same ∙ ap (λ k. k + cells_of f.slots) a.cells))
          (cases (nat_lt most_calls (suc w.calls)) (nat_lt most_cells (w.cells + cells_of f.slots))))
        where
          cases : (b d : Bool) → Entered p shapes gone (suc n) (cond b (Err Trap.Calls) (cond d (Err Trap.Cells) (Ok (enter_call f vs w))))
              (cond b (Err Trap.Calls) (cond d (Err Trap.Cells) (Ok (enter_call (narrowed g f) (map (new_lending holes) vs) u))))
          cases true d = refl
          cases false true = refl
          cases false false = enter_apart p sh holes n g f vs are may w u a cells_same

      pub inside : (a b : Forest) → Items p f.slots g false a b → Ends p shapes gone (suc n) (breaking false) (execs L a) (execs M b)
      inside a b h =
          items_end p shapes gone (suc n) L M less
          (subst (λ (z : Shape). Items p z.slots (gone (suc n)) false a b) (sym (shape_here p sh holes n g f vs))
          (subst (λ k. Items p f.slots k false a b) (sym (hole_here p sh holes n g f vs)) h))

      left_alike : (d : Bool) (x : Value) → HasSort p sh n (Num f.result) x → (w u : World) → Apart p shapes gone false (suc n) w u
          → Alike (Post p sh holes n (Num f.result)) (given (leave_call d f x w)) (given (leave_call d (narrowed g f) x u))
      left_alike d x s w u a = cases (lacks f x && not d)
        where
          cases : (b : Bool) → Alike (Post p sh holes n (Num f.result)) (given (cond b (Traps Trap.NoValue w) (Gives x (pop f w))))
              (given (cond b (Traps Trap.NoValue u) (Gives x (pop (narrowed g f) u))))
          cases true = (refl, a.events)
          cases false = (s, refl, leave_apart p sh holes n g f vs cells_same w u a)

    pub called_alike : (d : Bool) (o b : Option Forest) → SettledBody p f g o b → (vs : List Value) (w u : World) → AreArguments p sh n f vs →
        Apart p sh holes false n w u
        → Alike (Post p sh holes n (Num (kind_called m o f.result))) (called L d m f o vs w)
        (called M d m (record f { slots = without g f.slots; body = b }) b (map (new_lending holes) vs) u)
    called_alike d None None e vs w u are a =
        subst (λ ss. Alike (Post p sh holes n (Num (kind_called m None f.result))) (given (call_without_body m f vs w))
        (given (call_without_body m (record f { slots = ss; body = None }) (map (new_lending holes) vs) u))) (sym e)
        (subst (λ z. Alike (Post p sh holes n (Num (kind_called m None f.result))) (given (call_without_body m f vs w)) (given z))
        (sym (without_body_stays holes m f vs u)) (known_alike p sh holes n m f vs w u a))
    called_alike d (Some x) (Some y) h vs w u are a =
        body_alike p (grown p sh holes n g f vs) (bored p sh holes n g f vs) (suc n) (Post p sh holes n (Num f.result)) (execs L x) (execs M y)
        (λ c w. leave_call d f (value_left m f c) w) (λ c u. leave_call d (narrowed g f) (value_left m f c) u)
        (inside vs are x y h) (λ e w u a. left_alike vs are d (value_left m f e) (value_in m f e p sh n) w u a) w u a.events (push f vs w)
        (push (narrowed g f) (map (new_lending holes) vs) u) (push_same vs are w u a)
    called_alike d None (Some y) e vs w u are a = absurd e
    called_alike d (Some x) None e vs w u are a = absurd e
