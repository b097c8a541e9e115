-- Where a guard that is set leads: whether its silent way through a list comes to its Land. No run is needed
-- for that, since on such a way nothing of the source is evaluated.
use Rattle.std.specs.Prelude.{ℕ, ℤ, Bool, true, false, not, cond, eqb, Option, Some, None}
use Rattle.c_tree.specs.ExpressionTrees.{ExpressionTree}
use Rattle.c_tree.specs.TestTrees.{TestTree, Source, On, Off, AndOff, OrOn, SelectorTree, Selects, Pick}
use Rattle.c_tree.specs.Trees.{Tree, Forest, Nil, Then, Sections, NoSection, Section, If, While, Do, Switch, Leap, Land}
use Rattle.jump_meaning.specs.Search.{Goal, ToCase, ToDefault, is_section_goal, first_of_three}
use Rattle.jump_meaning.specs.Step.{Guards, switch_kind}

-- the guards where that of one label alone is set
abbrev pub only : ℕ → Guards
only l m = eqb l m

-- ---- tests and selectors under guards that are known

-- what is left of a test: its source expression, or a truth value that the guards decide
pub data Peeled : Type 0 where
  Ask : ExpressionTree → Peeled
  Known : Bool → Peeled

abbrev pub peel : Guards → TestTree → Peeled
peel g (Source e) = Ask e
peel g (On l) = Known (g l)
peel g (Off l) = Known (not (g l))
peel g (AndOff l t) = cond (g l) (Known false) (peel g t)
peel g (OrOn l t) = cond (g l) (Known true) (peel g t)

-- one thing where the source is asked, others where the guards decide
abbrev pub on_peeled {ℓ} : {A : Type ℓ} → Peeled → A → A → A → A
on_peeled (Ask e) a b c = a
on_peeled (Known true) a b c = b
on_peeled (Known false) a b c = c

-- what is left of a selector: its source expression, or a number that the guards decide
pub data PeeledSelector : Type 0 where
  AskSelector : ExpressionTree → PeeledSelector
  KnownSelector : ℤ → PeeledSelector

abbrev pub peel_selector : Guards → SelectorTree → PeeledSelector
peel_selector g (Selects e) = AskSelector e
peel_selector g (Pick l n s) = cond (g l) (KnownSelector n) (peel_selector g s)

abbrev pub on_selector {ℓ} : {A : Type ℓ} → PeeledSelector → A → (ℤ → A) → A
on_selector (AskSelector e) a f = a
on_selector (KnownSelector n) a f = f n

-- ---- ways

-- the way through a list, or through what follows: it comes to the Land; it comes to the end of the list;
-- or something of the source is in its way, or it goes round for ever
pub data Way : Type 0 where
  Lands : Way
  Past : Way
  Lost : Way

-- one way, and then another
infixr 40 ◌▷◌
abbrev pub ◌▷◌ : Way → Way → Way
Lands ▷ r = Lands
Past ▷ r = r
Lost ▷ r = Lost

-- behind the list of a section: the `break` that ends it leads past the switch
abbrev pub end_way : Bool → Way → Way
end_way true y = Past
end_way false y = y

abbrev mutual
  -- the way of the guard of a label through a list
  pub walks : ℕ → Forest → Way
  walks l Nil = Past
  walks l (Then x xs) = walk l x ▷ walks l xs

  -- through an item
  pub walk : ℕ → Tree → Way
  walk l (If t a b) = on_peeled (peel (only l) t) Lost (walks l a) (walks l b)
  walk l (While t a) = on_peeled (peel (only l) t) Lost (walks l a ▷ Lost) Past
  walk l (Do a t) = walks l a ▷ on_peeled (peel (only l) t) Lost (walks l a ▷ Lost) Past
  walk l (Switch s c) = on_selector (peel_selector (only l) s) Lost
      (λ n. first_of_three (section_way l (ToCase (switch_kind s) n) c) (section_way l ToDefault c) Past)
  walk l (Leap m) = cond (eqb l m) Lands Past
  walk l (Land m) = cond (eqb l m) Lands Past
  walk l _ = Lost

  -- through the lists of sections, which fall into one another
  pub tail_way : ℕ → Sections → Way
  tail_way l NoSection = Past
  tail_way l (Section cases default a ends c) = walks l a ▷ end_way ends (tail_way l c)

  -- from the section on that has the case or the default, if one has
  pub section_way : ℕ → Goal → Sections → Option Way
  section_way l goal NoSection = None
  section_way l goal (Section cases default a ends c) = cond (is_section_goal goal cases default) (Some (walks l a ▷ end_way ends (tail_way l c)))
      (section_way l goal c)

-- from the end of the list of a `do` on
abbrev pub do_end_way : ℕ → Forest → TestTree → Way
do_end_way l a t = on_peeled (peel (only l) t) Lost (walks l a ▷ Lost) Past

-- ---- what follows a list

-- for the guard of each label, its way through what follows
abbrev pub Follow : Type 0
Follow = ℕ → Way

-- nothing but the source follows
abbrev pub lost : Follow
lost l = Lost

-- a list follows, and then w
abbrev pub before : Forest → Follow → Follow
before xs w l = walks l xs ▷ w l

-- behind the list of a `while`
abbrev pub after_while : TestTree → Forest → Follow → Follow
after_while t a w l = walk l (While t a) ▷ w l

-- behind the list of a `do`
abbrev pub after_do : Forest → TestTree → Follow → Follow
after_do a t w l = do_end_way l a t ▷ w l

-- behind the list of a section
abbrev pub after_section : Bool → Sections → Follow → Follow
after_section ends c w l = end_way ends (tail_way l c) ▷ w l
