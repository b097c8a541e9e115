-- The tasks of statements get to what they complete with.
use Rattle.std.proofs.Common.{ℕ, suc, ℤ, Bool, true, false, cond, List, [], ◌∷◌, Option, Some, None, ◌≡◌, refl, ap, sym, ◌∙◌, subst}
use Rattle.std.specs.List.{list_any}
use Rattle.c_types.specs.declared.kinds.IntKind.{IntKind}
use Rattle.c_types.specs.Numbers.{promoted}
use Rattle.c_tree.specs.ExpressionTrees.{ExpressionTree}
use Rattle.c_tree.specs.TestTrees.{TestTree, Source, On, Off, AndOff, OrOn, SelectorTree, Selects, Pick}
use Rattle.c_tree.specs.Trees.{Tree, Forest, Nil, Then, Sections, NoSection, Section, Evaluate, Return, If, While, Do, For, Switch, Block, Local, Break, Continue, Note}
use Rattle.c_tree.specs.Constants.{kind_of}
use Rattle.c_tree.specs.Everywhere.{Everywhere, EverywhereOf, EverywhereIn}
use Rattle.jump_meaning.specs.Values.{Value, integer}
use Rattle.c_tree.specs.declared.tree.Home.TheVariants as H
use Rattle.jump_meaning.specs.World.{World, store, clear}
use Rattle.jump_meaning.specs.Code.{Code}
use Rattle.jump_meaning.specs.Operations.{operand_kind, holds}
use Rattle.jump_meaning.specs.Calls.{slot_cell, is_array_slot}
use Rattle.jump_meaning.specs.Effects.{Drops, Converts, Ends, Sets, Clears, Does}
use Rattle.jump_meaning.specs.Effects as E
use Rattle.jump_meaning.specs.Tasks.{Task, Runs, Works, Asks, Branches, Turns, Loops, Heads, AsksSelector, Enters, WhileLoop, DoLoop, ForLoop, items, end_of, tail_tasks, cut, cut_to}
use Rattle.jump_meaning.specs.Search.{ToCase, ToDefault, is_case, or_else, seek, seek_sections, first_of_three}
use Rattle.jump_meaning.specs.Step.{no_guards, Frame, At, is_dropped, perform, switch_kind}
use Rattle.jump_meaning.proofs.TaskFacts.{cut_items, cut_to_items, cut_end, cut_to_end, cut_tail, cut_to_tail}
use Rattle.struct_meaning.specs.Structured.{IsStructured}
use Rattle.struct_meaning.specs.Structural.{Yields, Completion, Normal, Broken, Continued, Meaning, LessFuel, and_then, chosen, followed, turned, switched, nothing, eval_test, eval_selector, initialise, exec_return, declare, third_part, for_turn, unless_end, fall, here_or, entered, exec, execs, from_section, from_case, from_default}
use Rattle.struct_meaning.proofs.Ran.{Ran, target, valued, landed, Reaches, sooner, next, there, once, bind, bind_twice}
use Rattle.struct_meaning.proofs.Unfound.{unfound}
use Rattle.struct_meaning.proofs.Expressions.{CallsRun, eval_ran}

-- the meaning with one less of fuel is met after at least b steps
pub record Sound (P : Code) (L : LessFuel) (b : ℕ) : Type 0 where
  pub again : (x : Tree) → EverywhereOf IsStructured x → (f : List ℕ) (k : List Task) (v : List Value) (cs : List Frame) →
      Reaches P b (L.again x) (Runs x ∷ k) f k v cs
  pub again_for : (t u : Option ExpressionTree) (a : Forest) → Everywhere IsStructured a →
      (f : List ℕ) (k : List Task) (v : List Value) (cs : List Frame) → Reaches P b (L.again_for t u a) (Heads t u a ∷ k) f k v cs
  pub calls : CallsRun P L b

-- what follows a completion, from the tasks k behind the statement to the tasks j behind the whole

module _ (P : Code) {b : ℕ} (f : List ℕ) (v : List Value) (cs : List Frame) {k : List Task} (j : List Task) where
  -- of a statement in a list
  followed_ran : (m : Meaning) → cut k ≡ cut j → cut_to k ≡ cut_to j → ((w : World) → Ran P b (target (landed P f j v cs) (m w)) (At f no_guards k v cs w))
      → (c : Completion) (w : World) → Ran P b (target (landed P f j v cs) (followed m c w)) (landed P f k v cs c w)
  followed_ran m p q h Normal w = h w
  followed_ran m p q h Broken w = there P 0 _ (ap (λ z. At f no_guards z v cs w) p)
  followed_ran m p q h Continued w = there P 0 _ (ap (λ z. At f no_guards z v cs w) q)
  followed_ran m p q h _ w = there P 0 _ refl

  -- of the body of a loop
  turned_ran : (m : Meaning) → cut k ≡ j → cut_to k ≡ k → ((w : World) → Ran P b (target (landed P f j v cs) (m w)) (At f no_guards k v cs w))
      → (c : Completion) (w : World) → Ran P b (target (landed P f j v cs) (turned m c w)) (landed P f k v cs c w)
  turned_ran m p q h Normal w = h w
  turned_ran m p q h Broken w = there P 0 _ (ap (λ z. At f no_guards z v cs w) p)
  turned_ran m p q h Continued w = sooner P 0 _ (ap (λ z. At f no_guards z v cs w) q) (h w)
  turned_ran m p q h _ w = there P 0 _ refl

  -- of the list of a section
  section_followed_ran : (m : Meaning) → cut k ≡ j → cut_to k ≡ cut_to j →
      ((w : World) → Ran P b (target (landed P f j v cs) (and_then (m w) switched)) (At f no_guards k v cs w))
      → (c : Completion) (w : World) → Ran P b (target (landed P f j v cs) (and_then (followed m c w) switched)) (landed P f k v cs c w)
  section_followed_ran m p q h Normal w = h w
  section_followed_ran m p q h Broken w = there P 0 _ (ap (λ z. At f no_guards z v cs w) p)
  section_followed_ran m p q h Continued w = there P 0 _ (ap (λ z. At f no_guards z v cs w) q)
  section_followed_ran m p q h _ w = there P 0 _ refl

module _ (P : Code) (L : LessFuel) (b : ℕ) (sound : Sound P L b) where
  -- a statement or a list, from tasks j
  abbrev pub Goal : Meaning → List Task → List ℕ → List Task → List Value → List Frame → Type 0
  Goal m j f k v cs = Reaches P (suc b) m j f k v cs

  test_ran : (t : TestTree) (f : List ℕ) (k : List Task) (v : List Value) (cs : List Frame) (w : World) → is_dropped k ≡ false
      → Ran P (suc b) (target (valued f k v cs) (eval_test L t w)) (At f no_guards (Asks t ∷ k) v cs w)
  test_ran (Source e) f k v cs w q = next P _ (eval_ran P L b sound.calls e false f k v cs w q)
  test_ran (On l) f k v cs w q = there P 1 _ refl
  test_ran (Off l) f k v cs w q = there P 1 _ refl
  test_ran (AndOff l t) f k v cs w q = next P _ (test_ran t f k v cs w q)
  test_ran (OrOn l t) f k v cs w q = next P _ (test_ran t f k v cs w q)

  selector_ran : (s : SelectorTree) (f : List ℕ) (k : List Task) (v : List Value) (cs : List Frame) (w : World)
      → Ran P (suc b) (target (valued f k v cs) (eval_selector L s w)) (At f no_guards (AsksSelector s ∷ k) v cs w)
  selector_ran (Selects e) f k v cs w =
      next P _ (bind P (valued f k v cs) _ _ (eval_ran P L b sound.calls e false f (Works (Converts (promoted (operand_kind (kind_of e)))) ∷ k) v cs w
      refl) (λ x w. there P 1 _ refl))
  selector_ran (Pick l n s) f k v cs w = next P _ (selector_ran s f k v cs w)

  cleared_ran : (y : Bool) (x n : ℕ) (f : List ℕ) (k : List Task) (v : List Value) (cs : List Frame) (w : World)
      → Ran P (suc b) (target (landed P f k v cs) (Yields Normal (cond y (clear (H.Slot x) n w) w)))
      (perform P (Does (cond y (Clears x n ∷ []) []) v w) f no_guards k cs)
  cleared_ran true x n f k v cs w = there P 1 _ refl
  cleared_ran false x n f k v cs w = there P 0 _ refl

  initialise_ran : (es : List ExpressionTree) (x i : ℕ) (f : List ℕ) (k : List Task) (v : List Value) (cs : List Frame) (w : World)
      → Ran P (suc b) (target (landed P f k v cs) (initialise L x i es w)) (perform P (E.initialise x i es v w) f no_guards k cs)
  initialise_ran [] x i f k v cs w = cleared_ran (is_array_slot x w) x i f k v cs w
  initialise_ran (e ∷ es) x i f k v cs w =
      bind P (landed P f k v cs) _ _ (eval_ran P L b sound.calls e false f (Works (Sets x i es) ∷ k) (slot_cell x i w ∷ v) cs w refl)
      (λ u w'. next P _ (initialise_ran es x (suc i) f k v cs (store (slot_cell x i w) (integer u) w')))

  declare_ran : (x : ℕ) (es : Option (List ExpressionTree)) (f : List ℕ) (k : List Task) (v : List Value) (cs : List Frame) →
      Goal (declare L x es) (Runs (Local x es) ∷ k) f k v cs
  declare_ran x None f k v cs w = there P 1 _ refl
  declare_ran x (Some es) f k v cs w = next P _ (initialise_ran es x 0 f k v cs w)

  return_ran : (e : Option ExpressionTree) (f : List ℕ) (k : List Task) (v : List Value) (cs : List Frame) →
      Goal (exec_return L e) (Runs (Return e) ∷ k) f k v cs
  return_ran None f k v cs w = there P 2 _ refl
  return_ran (Some e) f k v cs w = next P _ (bind P (landed P f k v cs) _ _ (eval_ran P L b sound.calls e false f (Works (Ends true) ∷ k) v cs w refl)
      (λ u w. there P 1 _ refl))

  chosen_ran : (y : Bool) (m n : Meaning) (i j : List Task) (f : List ℕ) (k : List Task) (v : List Value) (cs : List Frame)
      → Goal m i f k v cs → Goal n j f k v cs → Goal (chosen y m n) (cond y i j) f k v cs
  chosen_ran true m n i j f k v cs p q w = p w
  chosen_ran false m n i j f k v cs p q w = q w

  third_ran : (t u : Option ExpressionTree) (a : Forest) → Everywhere IsStructured a → (f : List ℕ) (k : List Task) (v : List Value) (cs : List Frame)
      → Goal (third_part L t u a) (Loops (ForLoop t u a) ∷ k) f k v cs
  third_ran t None a s f k v cs w = once P _ (sound.again_for t None a s f k v cs w)
  third_ran t (Some e) a s f k v cs w =
      next P _ (bind P (landed P f k v cs) _ _ (eval_ran P L b sound.calls e true f (Works Drops ∷ Heads t (Some e) a ∷ k) v cs w refl)
      (λ u w. once P _ (sound.again_for t (Some e) a s f k v cs w)))

  pub for_ran : (t u : Option ExpressionTree) (a : Forest) → Everywhere IsStructured a →
      (m : Meaning) (f : List ℕ) (k : List Task) (v : List Value) (cs : List Frame)
      → Goal m (items a (Loops (ForLoop t u a) ∷ k)) f (Loops (ForLoop t u a) ∷ k) v cs → Goal (for_turn L t u a m) (Heads t u a ∷ k) f k v cs
  for_ran None u a s m f k v cs h w = next P _ (bind P (landed P f k v cs) (m w) _ (h w) (turned_ran P f v cs k _ refl refl (third_ran None u a s f k v cs)))
  for_ran (Some t) u a s m f k v cs h w =
      next P _ (bind P (landed P f k v cs) _ _ (eval_ran P L b sound.calls t false f (Turns (ForLoop (Some t) u a) ∷ k) v cs w refl)
      (λ x w. next P _ (chosen_ran (holds x) _ nothing (items a (Loops (ForLoop (Some t) u a) ∷ k)) k f k v cs
      (λ w. bind P (landed P f k v cs) (m w) _ (h w) (turned_ran P f v cs k _ refl refl (third_ran (Some t) u a s f k v cs))) (λ w. there P 0 _ refl) w)))

  do_again : (a : Forest) (t : TestTree) → EverywhereOf IsStructured (Do a t) → (y : Bool) (f : List ℕ) (k : List Task) (v : List Value) (cs : List Frame)
      → Reaches P b (chosen y (L.again (Do a t)) nothing) (cond y (Runs (Do a t) ∷ k) k) f k v cs
  do_again a t s true f k v cs w = sound.again (Do a t) s f k v cs w
  do_again a t s false f k v cs w = there P 0 _ refl

  do_ran : (a : Forest) (t : TestTree) → EverywhereOf IsStructured (Do a t) → (f : List ℕ) (k : List Task) (v : List Value) (cs : List Frame)
      → Goal (λ w. and_then (eval_test L t w) (λ x w. chosen (holds x) (L.again (Do a t)) nothing w)) (Loops (DoLoop a t) ∷ k) f k v cs
  do_ran a t s f k v cs w =
      next P _ (bind P (landed P f k v cs) _ _ (test_ran t f (Turns (DoLoop a t) ∷ k) v cs w refl) (λ x w. once P _ (do_again a t s (holds x) f k v cs w)))

  -- ---- switches

  -- the sections of a switch, whose tasks behind are k
  abbrev Tail : Meaning → List Task → List ℕ → List Task → List Value → List Frame → Type 0
  Tail m j f k v cs = Goal (λ w. and_then (m w) switched) j f k v cs

  abbrev OptionTail : Option Meaning → Option (List Task) → List ℕ → List Task → List Value → List Frame → Type 0
  OptionTail (Some m) (Some j) f k v cs = Tail m j f k v cs
  OptionTail None None f k v cs = Unit {0}
  OptionTail _ _ f k v cs = ⊥

  here_ran : (y : Bool) (m : Meaning) (o : Option Meaning) (j : List Task) (i s : Option (List Task)) → s ≡ None →
      (f : List ℕ) (k : List Task) (v : List Value) (cs : List Frame)
      → Tail m j f k v cs → OptionTail o i f k v cs → OptionTail (here_or y m o) (or_else (cond y (Some j) s) i) f k v cs
  here_ran true m o j i s e f k v cs p q = p
  here_ran false m o j i s e f k v cs p q = subst (λ z. OptionTail o (or_else z i) f k v cs) (sym e) q

  entered_ran : (o p : Option Meaning) (i j : Option (List Task)) (f : List ℕ) (k : List Task) (v : List Value) (cs : List Frame)
      → OptionTail o i f k v cs → OptionTail p j f k v cs → Tail (entered o p) (first_of_three i j k) f k v cs
  entered_ran (Some m) p (Some i) j f k v cs h g w = h w
  entered_ran None (Some m) None (Some j) f k v cs h g w = g w
  entered_ran None None None None f k v cs h g w = there P 0 _ refl
  entered_ran (Some m) p None j f k v cs h g w = absurd h
  entered_ran None p (Some i) j f k v cs h g w = absurd h
  entered_ran None (Some m) None None f k v cs h g w = absurd g
  entered_ran None None None (Some j) f k v cs h g w = absurd g

  end_ran : (ends : Bool) (c : Sections) (f : List ℕ) (k : List Task) (v : List Value) (cs : List Frame)
      → Tail (from_section L c) (tail_tasks c k) f k v cs → Tail (unless_end ends (from_section L c)) (end_of ends (tail_tasks c k)) f k v cs
  end_ran true c f k v cs h w = there P 1 _ (ap (λ z. At f no_guards z v cs w) (cut_tail c k))
  end_ran false c f k v cs h w = h w

  section_ran : (a : Forest) (ends : Bool) (c : Sections) (f : List ℕ) (k : List Task) (v : List Value) (cs : List Frame)
      → Goal (execs L a) (items a (end_of ends (tail_tasks c k))) f (end_of ends (tail_tasks c k)) v cs → Tail (from_section L c) (tail_tasks c k) f k v cs
      → Tail (fall (execs L a) ends (from_section L c)) (items a (end_of ends (tail_tasks c k))) f k v cs
  section_ran a ends c f k v cs g h w =
      bind_twice P (landed P f k v cs) (execs L a w) _ switched (g w)
      (section_followed_ran P f v cs k _ (cut_end ends (tail_tasks c k) ∙ cut_tail c k) (cut_to_end ends (tail_tasks c k) ∙ cut_to_tail c k)
      (end_ran ends c f k v cs h))

  mutual
    pub exec_ran : (x : Tree) → EverywhereOf IsStructured x → (f : List ℕ) (k : List Task) (v : List Value) (cs : List Frame) →
        Goal (exec L x) (Runs x ∷ k) f k v cs
    exec_ran (Evaluate e) s f k v cs w = next P _ (bind P (landed P f k v cs) _ _ (eval_ran P L b sound.calls e true f (Works Drops ∷ k) v cs w refl)
        (λ u w. there P 1 _ refl))
    exec_ran (Return e) s f k v cs w = return_ran e f k v cs w
    exec_ran (If t a c) s f k v cs w =
        next P _ (bind P (landed P f k v cs) _ _ (test_ran t f (Branches a c ∷ k) v cs w refl)
        (λ x w. next P _ (chosen_ran (holds x) (execs L a) (execs L c) (items a k) (items c k) f k v cs (execs_ran a s.1 f k v cs)
        (execs_ran c s.2 f k v cs) w)))
    exec_ran (While t a) s f k v cs w =
        next P _ (bind P (landed P f k v cs) _ _ (test_ran t f (Turns (WhileLoop t a) ∷ k) v cs w refl)
        (λ x w. next P _ (chosen_ran (holds x) _ nothing (items a (Loops (WhileLoop t a) ∷ k)) k f k v cs
        (λ w. bind P (landed P f k v cs) (execs L a w) _ (execs_ran a s.1 f (Loops (WhileLoop t a) ∷ k) v cs w)
        (turned_ran P f v cs k _ refl refl (λ w. once P _ (sound.again (While t a) s f k v cs w))))
        (λ w. there P 0 _ refl) w)))
    exec_ran (Do a t) s f k v cs w =
        next P _ (bind P (landed P f k v cs) (execs L a w) _ (execs_ran a s.1 f (Loops (DoLoop a t) ∷ k) v cs w)
        (turned_ran P f v cs k _ refl refl (do_ran a t s f k v cs)))
    exec_ran (For i t u a) s f k v cs w =
        next P _ (bind P (landed P f k v cs) (execs L i w) _ (execs_ran i s.1 f (Heads t u a ∷ k) v cs w)
        (followed_ran P f v cs k _ refl refl (for_ran t u a s.2 (execs L a) f k v cs (execs_ran a s.2 f (Loops (ForLoop t u a) ∷ k) v cs))))
    exec_ran (Switch t c) s f k v cs w =
        next P _ (bind P (landed P f k v cs) _ _ (selector_ran t f (Enters (switch_kind t) c ∷ k) v cs w)
        (λ x w. next P _ (entered_ran (from_case L (switch_kind t) (integer x) c) (from_default L c)
        (seek_sections (ToCase (switch_kind t) (integer x)) c k) (seek_sections ToDefault c k) f k v cs
        (case_ran (switch_kind t) (integer x) c s.1 f k v cs) (default_ran c s.1 f k v cs) w)))
    exec_ran (Block a) s f k v cs w = next P _ (execs_ran a s.1 f k v cs w)
    exec_ran (Local x es) s f k v cs w = declare_ran x es f k v cs w
    exec_ran Break s f k v cs w = there P 1 _ refl
    exec_ran Continue s f k v cs w = there P 1 _ refl
    exec_ran (Note bs) s f k v cs w = there P 1 _ refl
    exec_ran _ s f k v cs w = absurd s

    pub execs_ran : (xs : Forest) → Everywhere IsStructured xs → (f : List ℕ) (k : List Task) (v : List Value) (cs : List Frame) →
        Goal (execs L xs) (items xs k) f k v cs
    execs_ran Nil s f k v cs w = there P 0 _ refl
    execs_ran (Then x xs) s f k v cs w = bind P (landed P f k v cs) (exec L x w) _ (exec_ran x s.0 f (items xs k) v cs w)
        (followed_ran P f v cs k _ (cut_items xs k) (cut_to_items xs k) (execs_ran xs s.1 f k v cs))

    tail_ran : (c : Sections) → EverywhereIn IsStructured c → (f : List ℕ) (k : List Task) (v : List Value) (cs : List Frame) →
        Tail (from_section L c) (tail_tasks c k) f k v cs
    tail_ran NoSection s f k v cs w = there P 1 _ refl
    tail_ran (Section cases default a ends c) s f k v cs w = section_ran a ends c f k v cs (execs_ran a s.0 f (end_of ends (tail_tasks c k)) v cs)
        (tail_ran c s.1 f k v cs) w

    case_ran : (i : IntKind) (n : ℤ) (c : Sections) → EverywhereIn IsStructured c → (f : List ℕ) (k : List Task) (v : List Value) (cs : List Frame)
        → OptionTail (from_case L i n c) (seek_sections (ToCase i n) c k) f k v cs
    case_ran i n NoSection s f k v cs = tt
    case_ran i n (Section cases default a ends c) s f k v cs =
        here_ran (list_any (is_case i n) cases) _ (from_case L i n c) _ (seek_sections (ToCase i n) c k) (seek (ToCase i n) a (end_of ends (tail_tasks c k)))
        (unfound (ToCase i n) refl a s.0 (end_of ends (tail_tasks c k))) f k v cs
        (section_ran a ends c f k v cs (execs_ran a s.0 f (end_of ends (tail_tasks c k)) v cs) (tail_ran c s.1 f k v cs)) (case_ran i n c s.1 f k v cs)

    default_ran : (c : Sections) → EverywhereIn IsStructured c → (f : List ℕ) (k : List Task) (v : List Value) (cs : List Frame)
        → OptionTail (from_default L c) (seek_sections ToDefault c k) f k v cs
    default_ran NoSection s f k v cs = tt
    default_ran (Section cases default a ends c) s f k v cs =
        here_ran default _ (from_default L c) _ (seek_sections ToDefault c k) (seek ToDefault a (end_of ends (tail_tasks c k)))
        (unfound ToDefault refl a s.0 (end_of ends (tail_tasks c k))) f k v cs
        (section_ran a ends c f k v cs (execs_ran a s.0 f (end_of ends (tail_tasks c k)) v cs) (tail_ran c s.1 f k v cs)) (default_ran c s.1 f k v cs)
