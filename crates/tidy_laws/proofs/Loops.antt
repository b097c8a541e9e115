-- A loop and the same with its jumps run alike: while the slot is on, the test stops a loop that a `break` leaves.
use Rattle.std.proofs.Common.{ℕ, Bool, true, false, inl, inr, ◌≡◌, refl, ap, sym, subst, Option, Some, None}
use Rattle.c_tree.specs.ExpressionTrees.{ExpressionTree}
use Rattle.c_tree.specs.TestTrees.{TestTree}
use Rattle.c_tree.specs.Trees.{Tree, Forest, Nil, Then, While, Do, join}
use Rattle.c_tree.specs.Changed.{one}
use Rattle.jump_meaning.specs.World.{World}
use Rattle.jump_meaning.specs.Operations.{holds}
use Rattle.struct_meaning.specs.Structural.{Evaluation, Yields, Completion, Normal, Meaning, LessFuel, and_then, chosen, eval_test, nothing, followed, seq, turned, body_then, third_part, exec, execs, for_turn}
use Rattle.tidy_laws.specs.Likeness.{exchanged}
use Rattle.tidy_laws.specs.Tails.{stops, reset, leaves, by_break, by_continue}
use Rattle.tidy_laws.specs.Steps.{Leaves, breaks_while, breaks_do, continues_while, continues_do, continues_for}
use Rattle.tidy_laws.proofs.Nearness.{Near, bind, bind_at, near_yields}
use Rattle.tidy_laws.proofs.TidyExitExpressions.{Nearly, near_chosen, eval_near, test_near}
use Rattle.tidy_laws.proofs.TidyExitStatements.{LessNear, near_turned, near_followed, itself_near, third_near}
use Rattle.tidy_laws.proofs.Tails.{is_on, stop_is, Left, list_left, break_escapes, continue_escapes}

seq_seq : (e : Evaluation Completion) (m n k : Meaning) → ((u : World) → m u ≡ seq (n u) k) → seq e m ≡ seq (seq e n) k
seq_seq (Yields Normal w) m n k h = h w
seq_seq _ m n k h = refl

-- a list behind another runs after it
pub join_is : (L : LessFuel) (a b : Forest) (w : World) → execs L (join a b) w ≡ seq (execs L a w) (execs L b)
join_is L Nil b w = refl
join_is L (Then x xs) b w = seq_seq (exec L x w) (execs L (join xs b)) (execs L xs) (execs L b) (join_is L xs b)

module _ (R : Tree → Tree → Type 0) (g : ℕ) (into : (x y : Tree) → Leaves g x y → R x y) (s : Bool) (L M : LessFuel) where
  -- a loop that stops comes to its end where a further turn of it is left to less of fuel
  abbrev pub StopsAgain : Type 0
  StopsAgain = (t : TestTree) (a : Forest) → stops g t ≡ true → (w : World) → is_on g w ≡ true → Near s w (L.again (While t a) w) (Yields Normal w)

  -- the body of a loop, and the same with its breaks, before what comes after it in the turn
  module _ (m n : Meaning) (near : Nearly s L M m n) (ended : (w : World) → is_on g w ≡ true → Near s w (m w) (Yields Normal w)) where
    broken_near : (w : World) (x y z : Evaluation Completion) → Near s w x y → Left M g by_break y z → Near s w (body_then x m) (body_then z n)
    broken_near w x y z h (inl q) = subst (λ z. Near s w (body_then x m) (body_then z n)) (sym q) (bind s w x y _ _ h (λ c u. near_turned R s L M c m n near u))
    broken_near w x y z h (inr p) =
        subst (λ z. Near s w (body_then x m) (body_then z n)) (sym p.3)
        (bind_at s w p.0 x Normal (turned m) (Yields Normal p.0) (subst (λ y. Near s w x y) p.1 h) (ended p.0 p.2))

  module _ (less : LessNear R s L M) (stopped : StopsAgain) where
    pub while_near : (t : TestTree) (a : Forest) → stops g t ≡ true → Nearly s L M (exec L (While t a)) (exec M (While t (leaves g by_break a)))
    while_near t a e w =
        let b = leaves g by_break a in
        bind s w _ _ _ _ (test_near s L M less.calls t w)
        (λ v u. near_chosen s L M (holds v) (λ w. body_then (execs L a w) (L.again (While t a))) nothing
        (λ w. body_then (execs M b w) (M.again (While t b))) nothing
        (λ w. broken_near (L.again (While t a)) (M.again (While t b)) (less.again (While t a) (While t b) (exchanged (into _ _ (breaks_while t a e))))
        (stopped t a e)
        w (execs L a w) (execs M a w) (execs M b w) (itself_near R s L M less a w) (list_left M g by_break (break_escapes M g) a w))
        (λ w. near_yields s w _) u)

    do_ended : (t : TestTree) (a : Forest) → stops g t ≡ true → (w : World) → is_on g w ≡ true
        → Near s w (and_then (eval_test L t w) (λ v w. chosen (holds v) (L.again (Do a t)) nothing w)) (Yields Normal w)
    do_ended t a e w on =
        subst (λ z. Near s w z (Yields Normal w))
        (sym (ap (λ z. and_then z (λ v w. chosen (holds v) (L.again (Do a t)) nothing w)) (stop_is L g t e w on))) (near_yields s w Normal)

    do_left_near : (t : TestTree) (a : Forest) → stops g t ≡ true → Nearly s L M (exec L (Do a t)) (exec M (Do (leaves g by_break a) t))
    do_left_near t a e w =
        let b = leaves g by_break a in
        broken_near (λ w. and_then (eval_test L t w) (λ v w. chosen (holds v) (L.again (Do a t)) nothing w))
        (λ w. and_then (eval_test M t w) (λ v w. chosen (holds v) (M.again (Do b t)) nothing w))
        (λ u. bind s u _ _ _ _ (test_near s L M less.calls t u)
        (λ v x. near_chosen s L M (holds v) (L.again (Do a t)) nothing (M.again (Do b t)) nothing
        (less.again (Do a t) (Do b t) (exchanged (into _ _ (breaks_do t a e)))) (λ w. near_yields s w _) x))
        (do_ended t a e)
        w (execs L a w) (execs M a w) (execs M b w) (itself_near R s L M less a w) (list_left M g by_break (break_escapes M g) a w)

    -- ---- turns that end with `g = 0;`

    abbrev zero_last : Forest → Forest
    zero_last a = join a (one (reset g))

    -- the body of a loop that ends with `g = 0;`, and the same with its jumps, before what comes after it in the turn
    continued_near : (m n : Meaning) → Nearly s L M m n → (w : World) (x y z : Evaluation Completion) → Near s w x y → Left M g (by_continue g) y z
        → Near s w (body_then (seq x (execs L (one (reset g)))) m) (body_then (seq z (execs M (one (reset g)))) n)
    continued_near m n near w x y z h q =
        let r = execs L (one (reset g)) in
        let r' = execs M (one (reset g)) in
        let base = bind s w (seq x r) (seq y r') (turned m) (turned n)
        (bind s w x y (followed r) (followed r') h (λ c u. near_followed R s L M c r r' (itself_near R s L M less (one (reset g))) u))
        (λ c u. near_turned R s L M c m n near u) in
        elim q as (λ _. Near s w (body_then (seq x r) m) (body_then (seq z r') n)) [
          | inl e ↦ subst (λ z. Near s w (body_then (seq x r) m) (body_then (seq z r') n)) (sym e) base
          | inr p ↦ subst (λ z. Near s w (body_then (seq x r) m) (body_then (seq z r') n)) (sym p.3)
              (subst (λ y. Near s w (body_then (seq x r) m) (body_then (seq y r') n)) p.1 base)
        ]

    -- such a body, as a list
    turn_near : (a : Forest) (m n : Meaning) → Nearly s L M m n
        → Nearly s L M (λ w. body_then (execs L (zero_last a) w) m) (λ w. body_then (execs M (zero_last (leaves g (by_continue g) a)) w) n)
    turn_near a m n near w =
        let b = leaves g (by_continue g) a in
        subst (λ x. Near s w (body_then x m) (body_then (execs M (zero_last b) w) n)) (sym (join_is L a (one (reset g)) w))
        (subst (λ z. Near s w (body_then (seq (execs L a w) (execs L (one (reset g)))) m) (body_then z n)) (sym (join_is M b (one (reset g)) w))
        (continued_near m n near w (execs L a w) (execs M a w) (execs M b w) (itself_near R s L M less a w)
        (list_left M g (by_continue g) (continue_escapes M g) a w)))

    while_zero : (t : TestTree) (a : Forest) → Nearly s L M (exec L (While t (zero_last a))) (exec M (While t (zero_last (leaves g (by_continue g) a))))
    while_zero t a w =
        let x = While t (zero_last a) in
        let y = While t (zero_last (leaves g (by_continue g) a)) in
        bind s w _ _ _ _ (test_near s L M less.calls t w)
        (λ v u. near_chosen s L M (holds v) (λ w. body_then (execs L (zero_last a) w) (L.again x)) nothing
        (λ w. body_then (execs M (zero_last (leaves g (by_continue g) a)) w) (M.again y)) nothing
        (turn_near a (L.again x) (M.again y) (less.again x y (exchanged (into _ _ (continues_while t a))))) (λ w. near_yields s w _) u)

    do_zero : (t : TestTree) (a : Forest) → Nearly s L M (exec L (Do (zero_last a) t)) (exec M (Do (zero_last (leaves g (by_continue g) a)) t))
    do_zero t a w =
        let x = Do (zero_last a) t in
        let y = Do (zero_last (leaves g (by_continue g) a)) t in
        turn_near a (λ w. and_then (eval_test L t w) (λ v w. chosen (holds v) (L.again x) nothing w))
        (λ w. and_then (eval_test M t w) (λ v w. chosen (holds v) (M.again y) nothing w))
        (λ u. bind s u _ _ _ _ (test_near s L M less.calls t u)
        (λ v i. near_chosen s L M (holds v) (L.again x) nothing (M.again y) nothing (less.again x y (exchanged (into _ _ (continues_do t a))))
        (λ w. near_yields s w _) i)) w

    for_zero : (t u : Option ExpressionTree) (a : Forest) → Nearly s L M (for_turn L t u (zero_last a) (execs L (zero_last a)))
        (for_turn M t u (zero_last (leaves g (by_continue g) a)) (execs M (zero_last (leaves g (by_continue g) a))))
    for_zero None u a w =
        let b = zero_last (leaves g (by_continue g) a) in
        turn_near a (third_part L None u (zero_last a)) (third_part M None u b)
        (third_near R s L M less None u (zero_last a) b (exchanged (into _ _ (continues_for Nil None u a)))) w
    for_zero (Some e) u a w =
        let b = zero_last (leaves g (by_continue g) a) in
        bind s w _ _ _ _ (eval_near s L M less.calls e false w)
        (λ v x. near_chosen s L M (holds v) (λ w. body_then (execs L (zero_last a) w) (third_part L (Some e) u (zero_last a))) nothing
        (λ w. body_then (execs M b w) (third_part M (Some e) u b)) nothing
        (turn_near a (third_part L (Some e) u (zero_last a)) (third_part M (Some e) u b)
        (third_near R s L M less (Some e) u (zero_last a) b (exchanged (into _ _ (continues_for Nil (Some e) u a)))))
        (λ w. near_yields s w _) x)

    -- ---- each exchanged item runs alike
    pub leaves_near : (x y : Tree) → Leaves g x y → Nearly s L M (exec L x) (exec M y)
    leaves_near x y (breaks_while t a e) w = while_near t a e w
    leaves_near x y (breaks_do t a e) w = do_left_near t a e w
    leaves_near x y (continues_while t a) w = while_zero t a w
    leaves_near x y (continues_do t a) w = do_zero t a w
    leaves_near x y (continues_for f t u a) w =
        let b = zero_last (leaves g (by_continue g) a) in
        bind s w _ _ _ _ (itself_near R s L M less f w)
        (λ c v. near_followed R s L M c (for_turn L t u (zero_last a) (execs L (zero_last a))) (for_turn M t u b (execs M b)) (for_zero t u a) v)
