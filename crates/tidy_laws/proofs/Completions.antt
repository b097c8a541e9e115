-- How statements complete side by side, in Worlds that are apart.
use Rattle.std.proofs.Common.{ℕ, Bool, true, false, Option, Some, None, ◌≡◌, refl, sym, ap, subst}
use Rattle.c_tree.specs.TestTrees.{TestTree, Source, On, Off, AndOff, OrOn, SelectorTree, Selects, Pick}
use Rattle.c_tree.specs.Constants.{kind_of}
use Rattle.c_types.specs.Numbers.{promoted}
use Rattle.jump_meaning.specs.Values.{Value}
use Rattle.jump_meaning.specs.Code.{Code}
use Rattle.jump_meaning.specs.World.{World}
use Rattle.jump_meaning.specs.Operations.{operand_kind, converted_value}
use Rattle.jump_meaning.specs.Step.{switch_kind}
use Rattle.struct_meaning.specs.Structural.{Evaluation, Completion, Normal, Broken, Continued, Returned, Meaning, LessFuel, and_then, chosen, eval, eval_test, eval_selector, nothing, followed, seq, turned, body_then, switched, unless_end, fall, here_or, entered}
use Rattle.plain_laws.specs.Kinded.{KindedTest, KindedSelector}
use Rattle.plain_laws.proofs.Memories.{Shapes}
use Rattle.plain_laws.proofs.Sorts.{Num}
use Rattle.tidy_laws.specs.Mentions.{test_lacks, selector_lacks}
use Rattle.tidy_laws.specs.Renumbered.{renumbered, renumbered_test, renumbered_selector}
use Rattle.tidy_laws.proofs.Evaluations.{Alike, bind_alike, looser}
use Rattle.tidy_laws.proofs.Apart.{Apart, loosen}
use Rattle.tidy_laws.proofs.Operations.{Post}
use Rattle.tidy_laws.proofs.TidyZeroExpressions.{CallsAlike, Values, then_number, no_kind, value_alike, kind_stays}

-- the slot may be on behind a `break`, where b is true
abbrev pub breaking : Bool → Completion → Bool
breaking b Broken = b
breaking b _ = false

-- it may be on behind a loop that came to its end
abbrev pub normally : Completion → Bool
normally Normal = true
normally _ = false

pub switch_stays : (g : ℕ) (s : SelectorTree) → switch_kind (renumbered_selector g s) ≡ switch_kind s
switch_stays g (Selects e) = ap (λ k. promoted (operand_kind k)) (kind_stays g e)
switch_stays g (Pick l n s) = switch_stays g s

module _ (p : Code) (sh : Shapes) (holes : ℕ → ℕ) (c : ℕ) where
  -- both complete alike; the slot is 0 then, but where `at` says that it may be on
  abbrev pub Done : (Completion → Bool) → Completion → World → Completion → World → Type 0
  Done at x w y u = (y ≡ x) × Apart p sh holes (at x) c w u

  abbrev pub Ends : (Completion → Bool) → Meaning → Meaning → Type 0
  Ends at m n = (w u : World) → Apart p sh holes false c w u → Alike (Done at) (m w) (n u)

  pub then_done : {B : Type 0} (at : Completion → Bool) (R : B → World → B → World → Type 0) (x y : Evaluation Completion)
      (f h : Completion → World → Evaluation B)
      → Alike (Done at) x y → ((e : Completion) (w u : World) → Apart p sh holes (at e) c w u → Alike R (f e w) (h e u)) → Alike R (and_then x f) (and_then y h)
  then_done at R x y f h k l = bind_alike (Done at) R x y f h k (λ e w d u i. subst (λ z. Alike R (f e w) (h z u)) (sym i.0) (l e w u i.1))

  weaker_apart : (b : Bool) (e : Completion) (w u : World) → Apart p sh holes (breaking false e) c w u → Apart p sh holes (breaking b e) c w u
  weaker_apart b Normal w u a = a
  weaker_apart b Broken w u a = loosen p sh holes b c w u a
  weaker_apart b _ w u a = a

  pub weaken : (b : Bool) (m n : Meaning) → Ends (breaking false) m n → Ends (breaking b) m n
  weaken b m n h w u a = looser (Done (breaking false)) (Done (breaking b)) (m w) (n u) (λ e w d u i. (i.0, weaker_apart b e w u i.1)) (h w u a)

  normal_apart : (e : Completion) (w u : World) → Apart p sh holes (breaking false e) c w u → Apart p sh holes (normally e) c w u
  normal_apart Normal w u a = loosen p sh holes true c w u a
  normal_apart _ w u a = a

  pub weaken_normal : (m n : Meaning) → Ends (breaking false) m n → Ends normally m n
  weaken_normal m n h w u a = looser (Done (breaking false)) (Done normally) (m w) (n u) (λ e w d u i. (i.0, normal_apart e w u i.1)) (h w u a)

  pub ends_nothing : Ends (breaking false) nothing nothing
  ends_nothing w u a = (refl, a)

  pub chosen_ends : (at : Completion → Bool) (y : Bool) (i j m n : Meaning) → Ends at i m → Ends at j n → Ends at (chosen y i j) (chosen y m n)
  chosen_ends at true i j m n h k w u a = h w u a
  chosen_ends at false i j m n h k w u a = k w u a

  -- ---- lists

  pub followed_ends : (b : Bool) (e : Completion) (m n : Meaning) → Ends (breaking b) m n → (w u : World) → Apart p sh holes (breaking b e) c w u →
      Alike (Done (breaking b)) (followed m e w) (followed n e u)
  followed_ends b Normal m n h w u a = h w u a
  followed_ends b _ m n h w u a = (refl, a)

  pub seq_ends : (b : Bool) (x y m n : Meaning) → Ends (breaking b) x y → Ends (breaking b) m n → Ends (breaking b) (λ w. seq (x w) m) (λ w. seq (y w) n)
  seq_ends b x y m n h k w u a = then_done (breaking b) (Done (breaking b)) (x w) (y u) (followed m) (followed n) (h w u a)
      (λ e w u a. followed_ends b e m n k w u a)

  -- ---- loops

  turned_ends : (e : Completion) (m n : Meaning) → Ends (breaking false) m n → (w u : World) → Apart p sh holes (breaking false e) c w u →
      Alike (Done (breaking false)) (turned m e w) (turned n e u)
  turned_ends Normal m n h w u a = h w u a
  turned_ends Broken m n h w u a = (refl, a)
  turned_ends Continued m n h w u a = h w u a
  turned_ends (Returned v) m n h w u a = (refl, a)

  pub body_ends : (x y m n : Meaning) → Ends (breaking false) x y → Ends (breaking false) m n →
      Ends (breaking false) (λ w. body_then (x w) m) (λ w. body_then (y w) n)
  body_ends x y m n h k w u a = then_done (breaking false) (Done (breaking false)) (x w) (y u) (turned m) (turned n) (h w u a)
      (λ e w u a. turned_ends e m n k w u a)

  -- a `break` of the body may leave the slot on
  turned_stops : (e : Completion) (m n : Meaning) → Ends normally m n → (w u : World) → Apart p sh holes (breaking true e) c w u →
      Alike (Done normally) (turned m e w) (turned n e u)
  turned_stops Normal m n h w u a = h w u a
  turned_stops Broken m n h w u a = (refl, a)
  turned_stops Continued m n h w u a = h w u a
  turned_stops (Returned v) m n h w u a = (refl, a)

  pub body_stops : (x y m n : Meaning) → Ends (breaking true) x y → Ends normally m n → Ends normally (λ w. body_then (x w) m) (λ w. body_then (y w) n)
  body_stops x y m n h k w u a = then_done (breaking true) (Done normally) (x w) (y u) (turned m) (turned n) (h w u a) (λ e w u a. turned_stops e m n k w u a)

  -- ---- switches

  switched_ends : (e : Completion) (w u : World) → Apart p sh holes (breaking false e) c w u → Alike (Done (breaking false)) (switched e w) (switched e u)
  switched_ends Normal w u a = (refl, a)
  switched_ends Broken w u a = (refl, a)
  switched_ends Continued w u a = (refl, a)
  switched_ends (Returned v) w u a = (refl, a)

  pub switch_ends : (m n : Meaning) → Ends (breaking false) m n → Ends (breaking false) (λ w. and_then (m w) switched) (λ w. and_then (n w) switched)
  switch_ends m n h w u a = then_done (breaking false) (Done (breaking false)) (m w) (n u) switched switched (h w u a) switched_ends

  abbrev pub OptionEnds : Option Meaning → Option Meaning → Type 0
  OptionEnds (Some m) (Some n) = Ends (breaking false) m n
  OptionEnds None None = Unit {0}
  OptionEnds _ _ = ⊥

  pub entered_ends : (a b d e : Option Meaning) → OptionEnds a d → OptionEnds b e → Ends (breaking false) (entered a b) (entered d e)
  entered_ends (Some m) b (Some n) e h k w u a = h w u a
  entered_ends None (Some m) None (Some n) h k w u a = k w u a
  entered_ends None None None None h k w u a = (refl, a)
  entered_ends (Some m) b None e h k w u a = absurd h
  entered_ends None b (Some n) e h k w u a = absurd h
  entered_ends None (Some m) None None h k w u a = absurd k
  entered_ends None None None (Some n) h k w u a = absurd k

  pub here_ends : (y : Bool) (m n : Meaning) (a b : Option Meaning) → Ends (breaking false) m n → OptionEnds a b → OptionEnds (here_or y m a) (here_or y n b)
  here_ends true m n a b h k = h
  here_ends false m n a b h k = k

  end_ends : (y : Bool) (m n : Meaning) → Ends (breaking false) m n → Ends (breaking false) (unless_end y m) (unless_end y n)
  end_ends true m n h w u a = (refl, a)
  end_ends false m n h w u a = h w u a

  pub fall_ends : (m n : Meaning) (ends : Bool) (i j : Meaning) → Ends (breaking false) m n → Ends (breaking false) i j →
      Ends (breaking false) (fall m ends i) (fall n ends j)
  fall_ends m n ends i j h k = seq_ends false m n (unless_end ends i) (unless_end ends j) h (end_ends ends i j k)

  module _ (L M : LessFuel) where
    -- a test, then what it decides
    pub decide_ends : (at : Completion → Bool) (f h : World → Evaluation Value) → Values p sh holes c L M None f h → (i j : Value → Meaning) →
        ((v : Value) → Ends at (i v) (j v)) → Ends at (λ w. and_then (f w) i) (λ w. and_then (h w) j)
    decide_ends at f h k i j l w u a = then_number p sh holes c L M None (Done at) f h i j k (λ v w u s a. l v w u a) w u a

    module _ (calls : CallsAlike p sh holes c L M) where
      pub test_alike : (t : TestTree) → KindedTest p (sh c).slots t → test_lacks (holes c) t ≡ true →
          Values p sh holes c L M None (eval_test L t) (eval_test M (renumbered_test (holes c) t))
      test_alike (Source e) k l w u a = no_kind p sh holes c L M (kind_of e) (eval L false e) (eval M false (renumbered (holes c) e))
          (value_alike p sh holes c L M calls e k.0 l false) w u a
      test_alike (On i) k l w u a = ((tt, tt), refl, a)
      test_alike (Off i) k l w u a = ((tt, tt), refl, a)
      test_alike (AndOff i t) k l w u a = test_alike t k l w u a
      test_alike (OrOn i t) k l w u a = test_alike t k l w u a

      pub selector_alike : (s : SelectorTree) → KindedSelector p (sh c).slots s → selector_lacks (holes c) s ≡ true →
          Values p sh holes c L M None (eval_selector L s) (eval_selector M (renumbered_selector (holes c) s))
      selector_alike (Selects e) k l w u a = then_number p sh holes c L M (kind_of e) (Post p sh holes c (Num None)) (eval L false e)
          (eval M false (renumbered (holes c) e)) _ _ (value_alike p sh holes c L M calls e k l false)
          (λ v w u s a. ((tt, tt), ap (λ k. converted_value (promoted (operand_kind k)) v) (kind_stays (holes c) e), a)) w u a
      selector_alike (Pick i n s) k l w u a = selector_alike s k l w u a
