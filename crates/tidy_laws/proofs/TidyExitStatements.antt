-- Like lists run alike where calls and further turns do, and where exchanged items do.
use Rattle.std.proofs.Common.{ℕ, suc, ℤ, Bool, true, false, cond, List, [], ◌∷◌, Option, Some, None}
use Rattle.std.specs.List.{list_any}
use Rattle.c_types.specs.declared.kinds.IntKind.{IntKind}
use Rattle.c_tree.specs.declared.tree.Home.TheVariants as H
use Rattle.c_tree.specs.ExpressionTrees.{ExpressionTree}
use Rattle.c_tree.specs.TestTrees.{TestTree}
use Rattle.c_tree.specs.Trees.{Tree, Forest, Nil, Then, Sections, NoSection, Section, Evaluate, Return, If, While, Do, For, Switch, Block, Local, Break, Continue, Goto, Mark, Arm, Leap, Land, Arrival, Note}
use Rattle.jump_meaning.specs.Values.{integer}
use Rattle.jump_meaning.specs.World.{World, store, clear}
use Rattle.jump_meaning.specs.Operations.{holds}
use Rattle.jump_meaning.specs.Calls.{slot_cell, is_array_slot}
use Rattle.jump_meaning.specs.Search.{is_case}
use Rattle.jump_meaning.specs.Step.{switch_kind}
use Rattle.jump_meaning.proofs.Growth.{grows_refl, Grows}
use Rattle.struct_meaning.specs.Structural.{Evaluation, Yields, Completion, Normal, Broken, Continued, Returned, Meaning, LessFuel, and_then, chosen, eval_test, nothing, followed, turned, body_then, switched, initialise, third_part, for_turn, unless_end, fall, here_or, entered, exec, execs, from_section, from_case, from_default}
use Rattle.tidy_laws.specs.Likeness.{IsLeaf, Like, Likes, LikeSections, exchanged, leaf, like_if, like_while, like_do, like_for, like_switch, like_block, like_nil, like_then, like_none, like_section}
use Rattle.tidy_laws.proofs.Nearness.{Near, bind, near_refl, near_yields, near_from, store_grows, events_in}
use Rattle.tidy_laws.proofs.TidyExitExpressions.{CallsNear, Nearly, near_chosen, eval_near, test_near, selector_near}

-- the cells of a slot from n on become 0, or nothing does
abbrev clearing : Bool → ℕ → ℕ → World → Evaluation Completion
clearing y x n w = Yields Normal (cond y (clear (H.Slot x) n w) w)

mutual
  -- each list is like itself
  pub like_itself : (R : Tree → Tree → Type 0) (x : Tree) → Like R x x
  like_itself R (If t a b) = like_if t (likes_itself R a) (likes_itself R b)
  like_itself R (While t a) = like_while t (likes_itself R a)
  like_itself R (Do a t) = like_do t (likes_itself R a)
  like_itself R (For f t u a) = like_for t u (likes_itself R f) (likes_itself R a)
  like_itself R (Switch s c) = like_switch s (like_sections_itself R c)
  like_itself R (Block a) = like_block (likes_itself R a)
  like_itself R (Evaluate e) = leaf (Evaluate e) tt
  like_itself R (Return e) = leaf (Return e) tt
  like_itself R (Local x es) = leaf (Local x es) tt
  like_itself R Break = leaf Break tt
  like_itself R Continue = leaf Continue tt
  like_itself R (Goto l) = leaf (Goto l) tt
  like_itself R (Mark l) = leaf (Mark l) tt
  like_itself R (Arm l e) = leaf (Arm l e) tt
  like_itself R (Leap l) = leaf (Leap l) tt
  like_itself R (Land l) = leaf (Land l) tt
  like_itself R (Arrival e) = leaf (Arrival e) tt
  like_itself R (Note bs) = leaf (Note bs) tt

  pub likes_itself : (R : Tree → Tree → Type 0) (xs : Forest) → Likes R xs xs
  likes_itself R Nil = like_nil
  likes_itself R (Then x xs) = like_then (like_itself R x) (likes_itself R xs)

  pub like_sections_itself : (R : Tree → Tree → Type 0) (c : Sections) → LikeSections R c c
  like_sections_itself R NoSection = like_none
  like_sections_itself R (Section cases default a ends c) = like_section cases default ends (likes_itself R a) (like_sections_itself R c)

-- no item is exchanged
abbrev pub Never : Tree → Tree → Type 0
Never x y = ⊥

mutual
  -- what is like without an exchange is like with any
  pub like_any : (R : Tree → Tree → Type 0) {x y : Tree} → Like Never x y → Like R x y
  like_any R (exchanged r) = absurd r
  like_any R (leaf x h) = leaf x h
  like_any R (like_if t h k) = like_if t (likes_any R h) (likes_any R k)
  like_any R (like_while t h) = like_while t (likes_any R h)
  like_any R (like_do t h) = like_do t (likes_any R h)
  like_any R (like_for t u h k) = like_for t u (likes_any R h) (likes_any R k)
  like_any R (like_switch i h) = like_switch i (like_sections_any R h)
  like_any R (like_block h) = like_block (likes_any R h)

  pub likes_any : (R : Tree → Tree → Type 0) {a b : Forest} → Likes Never a b → Likes R a b
  likes_any R like_nil = like_nil
  likes_any R (like_then h k) = like_then (like_any R h) (likes_any R k)

  like_sections_any : (R : Tree → Tree → Type 0) {c d : Sections} → LikeSections Never c d → LikeSections R c d
  like_sections_any R like_none = like_none
  like_sections_any R (like_section cases default ends h k) = like_section cases default ends (likes_any R h) (like_sections_any R k)

-- what is left to one less of fuel is alike
pub record LessNear (R : Tree → Tree → Type 0) (s : Bool) (L M : LessFuel) : Type 0 where
  pub again : (x y : Tree) → Like R x y → (w : World) → Near s w (L.again x w) (M.again y w)
  pub again_for : (t u : Option ExpressionTree) (a b : Forest) → Like R (For Nil t u a) (For Nil t u b) → (w : World) →
      Near s w (L.again_for t u a w) (M.again_for t u b w)
  pub calls : CallsNear s L M

module _ (R : Tree → Tree → Type 0) (s : Bool) (L M : LessFuel) where
  -- exchanged items run alike
  abbrev pub ExchangedNear : Type 0
  ExchangedNear = (x y : Tree) → R x y → Nearly s L M (exec L x) (exec M y)

  pub near_followed : (c : Completion) (m n : Meaning) → Nearly s L M m n → Nearly s L M (followed m c) (followed n c)
  near_followed Normal m n h w = h w
  near_followed _ m n h w = near_yields s w _

  pub near_turned : (c : Completion) (m n : Meaning) → Nearly s L M m n → Nearly s L M (turned m c) (turned n c)
  near_turned Normal m n h w = h w
  near_turned Broken m n h w = near_yields s w _
  near_turned Continued m n h w = h w
  near_turned (Returned v) m n h w = near_yields s w _

  near_switched : (c : Completion) (w : World) → Near s w (switched c w) (switched c w)
  near_switched Normal w = near_yields s w _
  near_switched Broken w = near_yields s w _
  near_switched Continued w = near_yields s w _
  near_switched (Returned v) w = near_yields s w _

  abbrev OptionNear : Option Meaning → Option Meaning → Type 0
  OptionNear (Some m) (Some n) = Nearly s L M m n
  OptionNear None None = Unit {0}
  OptionNear _ _ = ⊥

  near_entered : (a b c d : Option Meaning) → OptionNear a c → OptionNear b d → Nearly s L M (entered a b) (entered c d)
  near_entered (Some m) b (Some n) d h k w = h w
  near_entered None (Some m) None (Some n) h k w = k w
  near_entered None None None None h k w = near_yields s w _
  near_entered (Some m) b None d h k w = absurd h
  near_entered None b (Some n) d h k w = absurd h
  near_entered None (Some m) None None h k w = absurd k
  near_entered None None None (Some n) h k w = absurd k

  near_here : (y : Bool) (m n : Meaning) (a b : Option Meaning) → Nearly s L M m n → OptionNear a b → OptionNear (here_or y m a) (here_or y n b)
  near_here true m n a b h k = h
  near_here false m n a b h k = k

  near_end : (y : Bool) (m n : Meaning) → Nearly s L M m n → Nearly s L M (unless_end y m) (unless_end y n)
  near_end true m n h w = near_yields s w _
  near_end false m n h w = h w

  near_fall : (m n : Meaning) (ends : Bool) (i j : Meaning) → Nearly s L M m n → Nearly s L M i j → Nearly s L M (fall m ends i) (fall n ends j)
  near_fall m n ends i j h k w = bind s w _ _ _ _ (h w) (λ c u. near_followed c (unless_end ends i) (unless_end ends j) (near_end ends i j k) u)

  near_cleared : (y : Bool) (x n : ℕ) (w : World) → Grows w.events (events_in (clearing y x n w))
  near_cleared true x n w = grows_refl w.events
  near_cleared false x n w = grows_refl w.events

  pub third_near : (less : LessNear R s L M) (t u : Option ExpressionTree) (a b : Forest) → Like R (For Nil t u a) (For Nil t u b) →
      Nearly s L M (third_part L t u a) (third_part M t u b)
  third_near less t None a b h w = less.again_for t None a b h w
  third_near less t (Some e) a b h w = bind s w _ _ _ _ (eval_near s L M less.calls e true w) (λ v x. less.again_for t (Some e) a b h x)

  module _ (less : LessNear R s L M) (swapped : ExchangedNear) where
    initialise_near : (es : List ExpressionTree) (x i : ℕ) → Nearly s L M (initialise L x i es) (initialise M x i es)
    initialise_near [] x i w = near_refl s w _ (near_cleared (is_array_slot x w) x i w)
    initialise_near (e ∷ es) x i w = bind s w _ _ _ _ (eval_near s L M less.calls e false w)
        (λ v u. near_from s u (store (slot_cell x i w) (integer v) u) _ _ (store_grows (slot_cell x i w) (integer v) u)
        (initialise_near es x (suc i) (store (slot_cell x i w) (integer v) u)))

    pub for_near : (t u : Option ExpressionTree) (a b : Forest) (m n : Meaning) → Like R (For Nil t u a) (For Nil t u b) → Nearly s L M m n →
        Nearly s L M (for_turn L t u a m) (for_turn M t u b n)
    for_near None u a b m n h k w = bind s w _ _ _ _ (k w) (λ c x. near_turned c (third_part L None u a) (third_part M None u b)
        (third_near less None u a b h) x)
    for_near (Some e) u a b m n h k w = bind s w _ _ _ _ (eval_near s L M less.calls e false w)
        (λ v x. near_chosen s L M (holds v) (λ w. body_then (m w) (third_part L (Some e) u a)) nothing
        (λ w. body_then (n w) (third_part M (Some e) u b)) nothing
        (λ w. bind s w _ _ _ _ (k w) (λ c x. near_turned c (third_part L (Some e) u a) (third_part M (Some e) u b) (third_near less (Some e) u a b h)
        x)) (λ w. near_yields s w _) x)

    leaf_near : (x : Tree) → IsLeaf x → Nearly s L M (exec L x) (exec M x)
    leaf_near (Evaluate e) h w = bind s w _ _ _ _ (eval_near s L M less.calls e true w) (λ v u. near_yields s u _)
    leaf_near (Return None) h w = near_yields s w _
    leaf_near (Return (Some e)) h w = bind s w _ _ _ _ (eval_near s L M less.calls e false w) (λ v u. near_yields s u _)
    leaf_near (Local x None) h w = near_yields s w _
    leaf_near (Local x (Some es)) h w = initialise_near es x 0 w
    leaf_near Break h w = near_yields s w _
    leaf_near Continue h w = near_yields s w _
    leaf_near (Note bs) h w = near_yields s w _
    leaf_near (Goto l) h w = near_refl s w _ (grows_refl w.events)
    leaf_near (Mark l) h w = near_refl s w _ (grows_refl w.events)
    leaf_near (Arm l e) h w = near_refl s w _ (grows_refl w.events)
    leaf_near (Leap l) h w = near_refl s w _ (grows_refl w.events)
    leaf_near (Land l) h w = near_refl s w _ (grows_refl w.events)
    leaf_near (Arrival e) h w = near_refl s w _ (grows_refl w.events)
    leaf_near _ h w = absurd h

    -- what comes after the body of a `do`
    pub do_near : (a c : Forest) (t : TestTree) → Like R (Do a t) (Do c t)
        → Nearly s L M (λ w. and_then (eval_test L t w) (λ v w. chosen (holds v) (L.again (Do a t)) nothing w))
        (λ w. and_then (eval_test M t w) (λ v w. chosen (holds v) (M.again (Do c t)) nothing w))
    do_near a c t h w = bind s w _ _ _ _ (test_near s L M less.calls t w)
        (λ v u. near_chosen s L M (holds v) (L.again (Do a t)) nothing (M.again (Do c t)) nothing (less.again (Do a t) (Do c t) h) (λ w. near_yields s w _) u)

    mutual
      pub exec_near : {x y : Tree} → Like R x y → Nearly s L M (exec L x) (exec M y)
      exec_near (exchanged {x = x} {y = y} r) w = swapped x y r w
      exec_near (leaf x h) w = leaf_near x h w
      exec_near (like_if t {a = a} {b = b} {c = c} {d = d} h k) w = bind s w _ _ _ _ (test_near s L M less.calls t w)
          (λ v u. near_chosen s L M (holds v) (execs L a) (execs L b) (execs M c) (execs M d) (execs_near h) (execs_near k) u)
      exec_near (like_while t {a = a} {c = c} h) w = bind s w _ _ _ _ (test_near s L M less.calls t w)
          (λ v u. near_chosen s L M (holds v) (λ w. body_then (execs L a w) (L.again (While t a))) nothing
          (λ w. body_then (execs M c w) (M.again (While t c))) nothing
          (λ w. bind s w _ _ _ _ (execs_near h w) (λ x u. near_turned x (L.again (While t a)) (M.again (While t c))
          (less.again (While t a) (While t c) (like_while t h)) u)) (λ w. near_yields s w _) u)
      exec_near (like_do t {a = a} {c = c} h) w = bind s w _ _ _ _ (execs_near h w) (λ x u. near_turned x _ _ (do_near a c t (like_do t h)) u)
      exec_near (like_for t u {a = a} {b = b} {c = c} {d = d} h k) w = bind s w _ _ _ _ (execs_near h w)
          (λ x v. near_followed x (for_turn L t u b (execs L b)) (for_turn M t u d (execs M d))
          (for_near t u b d (execs L b) (execs M d) (like_for t u like_nil k) (execs_near k)) v)
      exec_near (like_switch i {c = c} {d = d} h) w = bind s w _ _ _ _ (selector_near s L M less.calls i w)
          (λ v u. bind s u _ _ _ _ (near_entered (from_case L (switch_kind i) (integer v) c) (from_default L c)
          (from_case M (switch_kind i) (integer v) d) (from_default M d) (case_near (switch_kind i) (integer v) h) (default_near h) u)
          (λ x t. near_switched x t))
      exec_near (like_block h) w = execs_near h w

      pub execs_near : {a b : Forest} → Likes R a b → Nearly s L M (execs L a) (execs M b)
      execs_near like_nil w = near_yields s w _
      execs_near (like_then {x = x} {y = y} {xs = xs} {ys = ys} h k) w =
          bind s w _ _ _ _ (exec_near h w) (λ c u. near_followed c (execs L xs) (execs M ys) (execs_near k) u)

      section_near : {c d : Sections} → LikeSections R c d → Nearly s L M (from_section L c) (from_section M d)
      section_near like_none w = near_yields s w _
      section_near (like_section cases default ends {a = a} {b = b} {c = c} {d = d} h k) w =
          near_fall (execs L a) (execs M b) ends (from_section L c) (from_section M d) (execs_near h) (section_near k) w

      case_near : (k : IntKind) (n : ℤ) {c d : Sections} → LikeSections R c d → OptionNear (from_case L k n c) (from_case M k n d)
      case_near i n like_none = tt
      case_near i n (like_section cases default ends {a = a} {b = b} {c = c} {d = d} h k) =
          near_here (list_any (is_case i n) cases) (fall (execs L a) ends (from_section L c)) (fall (execs M b) ends (from_section M d))
          (from_case L i n c) (from_case M i n d)
          (near_fall (execs L a) (execs M b) ends (from_section L c) (from_section M d) (execs_near h) (section_near k)) (case_near i n k)

      default_near : {c d : Sections} → LikeSections R c d → OptionNear (from_default L c) (from_default M d)
      default_near like_none = tt
      default_near (like_section cases default ends {a = a} {b = b} {c = c} {d = d} h k) =
          near_here default (fall (execs L a) ends (from_section L c)) (fall (execs M b) ends (from_section M d)) (from_default L c) (from_default M d)
          (near_fall (execs L a) (execs M b) ends (from_section L c) (from_section M d) (execs_near h) (section_near k)) (default_near k)

-- a list runs as itself where what is left to less of fuel is alike
pub never_near : (R : Tree → Tree → Type 0) (s : Bool) (L M : LessFuel) → LessNear R s L M → LessNear Never s L M
never_near R s L M less = record {
  again = λ x y h w. less.again x y (like_any R h) w;
  again_for = λ t u a b h w. less.again_for t u a b (like_any R h) w;
  calls = less.calls;
}

pub itself_near : (R : Tree → Tree → Type 0) (s : Bool) (L M : LessFuel) → LessNear R s L M → (a : Forest) → Nearly s L M (execs L a) (execs M a)
itself_near R s L M less a = execs_near Never s L M (never_near R s L M less) (λ x y r w. absurd r) (likes_itself Never a)
