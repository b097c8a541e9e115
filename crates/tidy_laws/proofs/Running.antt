-- A body in which the slot is 0 wherever it is tested comes to the same as the body without the slot.
use Rattle.std.proofs.Common.{ℕ, ℤ, Bool, true, false, refl, sym, subst}
use Rattle.std.specs.List.{list_any}
use Rattle.c_types.specs.declared.kinds.IntKind.{IntKind}
use Rattle.c_tree.specs.declared.tree.BinaryOp.TheVariants.{AndThen}
use Rattle.c_tree.specs.ExpressionTrees.{Typed, Binary}
use Rattle.c_tree.specs.TestTrees.{Source}
use Rattle.c_tree.specs.Trees.{Tree, Forest, Nil, Then, Sections, If, While, Do}
use Rattle.jump_meaning.specs.Values.{integer}
use Rattle.jump_meaning.specs.Code.{Code}
use Rattle.jump_meaning.specs.World.{World}
use Rattle.jump_meaning.specs.Operations.{holds}
use Rattle.jump_meaning.specs.Search.{is_case}
use Rattle.jump_meaning.specs.Step.{switch_kind}
use Rattle.struct_meaning.specs.Structural.{Completion, Normal, Broken, LessFuel, chosen, eval_test, eval_selector, nothing, followed, seq, body_then, fall, entered, for_turn, exec, execs, from_section, from_case, from_default}
use Rattle.tidy_laws.specs.Tails.{reset}
use Rattle.tidy_laws.proofs.Loops.{join_is}
use Rattle.plain_laws.proofs.Memories.{Shapes}
use Rattle.tidy_laws.specs.Renumbered.{renumbered, renumbered_test, renumbered_selector, renumbered_option, renumbered_item}
use Rattle.tidy_laws.proofs.Evaluations.{Alike}
use Rattle.tidy_laws.proofs.Apart.{Apart, loosen}
use Rattle.tidy_laws.proofs.Completions.{breaking, normally, switch_stays, Done, Ends, then_done, weaken, weaken_normal, ends_nothing, chosen_ends, seq_ends, body_ends, body_stops, switch_ends, OptionEnds, entered_ends, here_ends, fall_ends, decide_ends, test_alike, selector_alike}
use Rattle.tidy_laws.specs.Settles.{Items, i_nil, i_then, i_given, i_reset, i_declared, i_stops, i_sets, Item, x_leaf, x_if, x_while, x_do, x_for, x_switch, x_block, x_checked, Parts, p_none, p_more, Stops, s_while, s_do}
use Rattle.tidy_laws.proofs.TidyZeroStatements.{Less, leaf_ends, for_ends}
use Rattle.tidy_laws.proofs.Exchanges.{check_ends, guarded_ends, reset_ends, declared_ends, sets_ends}

module _ (p : Code) (sh : Shapes) (holes : ℕ → ℕ) (c : ℕ) (L M : LessFuel) (less : Less p L M) where
  abbrev g : ℕ
  g = holes c

  -- behind a loop that a `break` may have left
  behind : (b : Bool) (e : Completion) (xs ys : Forest) → Ends p sh holes c (breaking b) (execs L xs) (execs M ys) → (w u : World) →
      Apart p sh holes (normally e) c w u
      → Alike (Done p sh holes c (breaking b)) (followed (execs L (Then (reset g) xs)) e w) (followed (execs M ys) e u)
  behind b Normal xs ys h w u a = reset_ends p sh holes c L M (less.calls sh holes c) (breaking b) true xs ys h w u a
  behind b Broken xs ys h w u a = (refl, loosen p sh holes b c w u a)
  behind b _ xs ys h w u a = (refl, a)

  mutual
    pub items_end : {b : Bool} {a d : Forest} → Items p (sh c).slots g b a d → Ends p sh holes c (breaking b) (execs L a) (execs M d)
    items_end (i_nil b) w u a = (refl, a)
    items_end (i_then {b = b} {x = x} {y = y} {xs = xs} {ys = ys} h k) w u a =
        seq_ends p sh holes c b (exec L x) (exec M y) (execs L xs) (execs M ys) (item_ends h) (items_end k) w u a
    items_end (i_given e {b = b} {a = a} {c = d} {xs = xs} {ys = ys} o h k) w u i =
        subst (λ z. Alike (Done p sh holes c (breaking b)) (seq (exec L (If (Source e) a Nil) w) (execs L xs)) z) (sym (join_is M d ys u))
        (seq_ends p sh holes c b (exec L (If (Source e) a Nil)) (execs M d) (execs L xs) (execs M ys)
        (check_ends p sh holes c L M (less.calls sh holes c) b e o a d (items_end h)) (items_end k) w u i)
    items_end (i_reset {b = b} {xs = xs} {ys = ys} h) w u a = reset_ends p sh holes c L M (less.calls sh holes c) (breaking b) false xs ys (items_end h) w u a
    items_end (i_declared {b = b} {xs = xs} {ys = ys} h) w u a = declared_ends p sh holes c L M (less.calls sh holes c) (breaking b) xs ys (items_end h) w u a
    items_end (i_stops {b = b} {x = x} {y = y} {xs = xs} {ys = ys} h k) w u a =
        then_done p sh holes c normally (Done p sh holes c (breaking b)) (exec L x w) (exec M y u) (followed (execs L (Then (reset g) xs)))
        (followed (execs M ys)) (stops_end h w u a) (λ e w u a. behind b e xs ys (items_end k) w u a)
    items_end (i_sets leave k e {b = b} {xs = xs} {ys = ys} q i l n h) w u a =
        sets_ends p sh holes c L M (less.calls sh holes c) b leave k e q i l n xs ys (items_end h) w u a

    pub item_ends : {b : Bool} {x y : Tree} → Item p (sh c).slots g b x y → Ends p sh holes c (breaking b) (exec L x) (exec M y)
    item_ends (x_leaf b x i k l) = weaken p sh holes c b (exec L x) (exec M (renumbered_item g x)) (leaf_ends p sh holes c L M less x i k l)
    item_ends (x_if t {b = b} {a = a} {c = d} {d = e} {e = f} k l h i) =
        decide_ends p sh holes c L M (breaking b) (eval_test L t) (eval_test M (renumbered_test g t))
        (test_alike p sh holes c L M (less.calls sh holes c) t k l) _ _
        (λ v. chosen_ends p sh holes c (breaking b) (holds v) (execs L a) (execs L e) (execs M d) (execs M f) (items_end h) (items_end i))
    item_ends (x_while b t {a = a} {c = d} k l h) = weaken p sh holes c b _ _
        (decide_ends p sh holes c L M (breaking false) (eval_test L t) (eval_test M (renumbered_test g t))
        (test_alike p sh holes c L M (less.calls sh holes c) t k l) _ _
        (λ v. chosen_ends p sh holes c (breaking false) (holds v) (λ w. body_then (execs L a w) (L.again (While t a))) nothing
        (λ w. body_then (execs M d w) (M.again (While (renumbered_test g t) d))) nothing
        (body_ends p sh holes c (execs L a) (execs M d) (L.again (While t a)) (M.again (While (renumbered_test g t) d)) (items_end h)
        (less.again sh holes c (While t a) (While (renumbered_test g t) d) (x_while false t k l h))) (ends_nothing p sh holes c)))
    item_ends (x_do b t {a = a} {c = d} k l h) = weaken p sh holes c b _ _
        (body_ends p sh holes c (execs L a) (execs M d) _ _ (items_end h)
        (decide_ends p sh holes c L M (breaking false) (eval_test L t) (eval_test M (renumbered_test g t))
        (test_alike p sh holes c L M (less.calls sh holes c) t k l) _ _
        (λ v. chosen_ends p sh holes c (breaking false) (holds v) (L.again (Do a t)) nothing (M.again (Do d (renumbered_test g t))) nothing
        (less.again sh holes c (Do a t) (Do d (renumbered_test g t)) (x_do false t k l h)) (ends_nothing p sh holes c))))
    item_ends (x_for b t v {a = a} {c = d} {d = e} {e = f} kt kv lt lv h i) = weaken p sh holes c b _ _
        (seq_ends p sh holes c false (execs L e) (execs M f) (for_turn L t v a (execs L a))
        (for_turn M (renumbered_option g t) (renumbered_option g v) d (execs M d)) (items_end h)
        (for_ends p sh holes c L M less t v a d (execs L a) (execs M d) kt lt kv lv (x_for false t v kt kv lt lv (i_nil false) i) (items_end i)))
    item_ends (x_switch b s {c = d} {d = e} k l h) = weaken p sh holes c b _ _
        (decide_ends p sh holes c L M (breaking false) (eval_selector L s) (eval_selector M (renumbered_selector g s))
        (selector_alike p sh holes c L M (less.calls sh holes c) s k l) _ _
        (λ v. switch_ends p sh holes c (entered (from_case L (switch_kind s) (integer v) d) (from_default L d))
        (entered (from_case M (switch_kind (renumbered_selector g s)) (integer v) e) (from_default M e))
        (subst (λ k. Ends p sh holes c (breaking false) (entered (from_case L (switch_kind s) (integer v) d) (from_default L d))
        (entered (from_case M k (integer v) e) (from_default M e))) (sym (switch_stays g s))
        (entered_ends p sh holes c (from_case L (switch_kind s) (integer v) d) (from_default L d) (from_case M (switch_kind s) (integer v) e)
        (from_default M e) (case_ends (switch_kind s) (integer v) h) (default_ends h)))))
    item_ends (x_block h) = items_end h
    item_ends (x_checked e {b = b} {a = a} {c = d} o h) = check_ends p sh holes c L M (less.calls sh holes c) b e o a d (items_end h)

    parts_end : {d e : Sections} → Parts p (sh c).slots g d e → Ends p sh holes c (breaking false) (from_section L d) (from_section M e)
    parts_end p_none = ends_nothing p sh holes c
    parts_end (p_more cases default ends {a = a} {b = b} {c = d} {d = e} h k) =
        fall_ends p sh holes c (execs L a) (execs M b) ends (from_section L d) (from_section M e) (items_end h) (parts_end k)

    case_ends : (k : IntKind) (n : ℤ) {d e : Sections} → Parts p (sh c).slots g d e → OptionEnds p sh holes c (from_case L k n d) (from_case M k n e)
    case_ends i n p_none = tt
    case_ends i n (p_more cases default ends {a = a} {b = b} {c = d} {d = e} h k) =
        here_ends p sh holes c (list_any (is_case i n) cases) (fall (execs L a) ends (from_section L d)) (fall (execs M b) ends (from_section M e))
        (from_case L i n d) (from_case M i n e)
        (fall_ends p sh holes c (execs L a) (execs M b) ends (from_section L d) (from_section M e) (items_end h) (parts_end k)) (case_ends i n k)

    default_ends : {d e : Sections} → Parts p (sh c).slots g d e → OptionEnds p sh holes c (from_default L d) (from_default M e)
    default_ends p_none = tt
    default_ends (p_more cases default ends {a = a} {b = b} {c = d} {d = e} h k) =
        here_ends p sh holes c default (fall (execs L a) ends (from_section L d)) (fall (execs M b) ends (from_section M e)) (from_default L d)
        (from_default M e)
        (fall_ends p sh holes c (execs L a) (execs M b) ends (from_section L d) (from_section M e) (items_end h) (parts_end k)) (default_ends k)

    -- a loop that a `break` leaves
    pub stops_end : {x y : Tree} → Stops p (sh c).slots g x y → Ends p sh holes c normally (exec L x) (exec M y)
    stops_end (s_while k e t {a = a} {c = d} o kt lt h) =
        let x = While (Source (Typed k (Binary AndThen e t))) a in
        let y = While (Source (renumbered g t)) d in
        guarded_ends p sh holes c L M (less.calls sh holes c) normally k e t o kt lt
        (λ y w. chosen y (λ w. body_then (execs L a w) (L.again x)) nothing w) (λ z w. chosen z (λ w. body_then (execs M d w) (M.again y)) nothing w)
        (λ z. chosen_ends p sh holes c normally z (λ w. body_then (execs L a w) (L.again x)) nothing (λ w. body_then (execs M d w) (M.again y)) nothing
        (body_stops p sh holes c (execs L a) (execs M d) (L.again x) (M.again y) (items_end h)
        (less.again_stops sh holes c x y (s_while k e t o kt lt h))) (weaken_normal p sh holes c nothing nothing (ends_nothing p sh holes c)))
    stops_end (s_do k e t {a = a} {c = d} o kt lt h) =
        let x = Do a (Source (Typed k (Binary AndThen e t))) in
        let y = Do d (Source (renumbered g t)) in
        body_stops p sh holes c (execs L a) (execs M d) _ _ (items_end h)
        (guarded_ends p sh holes c L M (less.calls sh holes c) normally k e t o kt lt (λ y w. chosen y (L.again x) nothing w)
        (λ z w. chosen z (M.again y) nothing w)
        (λ z. chosen_ends p sh holes c normally z (L.again x) nothing (M.again y) nothing (less.again_stops sh holes c x y (s_do k e t o kt lt h))
        (weaken_normal p sh holes c nothing nothing (ends_nothing p sh holes c))))
