-- The orders of ways and of goto programs are reflexive and transitive.
use Rattle.std.proofs.Common.{Bool, true, false, ◌≡◌, refl, subst}
use Rattle.c_tree.specs.Trees.{Tree, Forest, Nil, Then, Sections, NoSection, Section, Evaluate, Return, If, While, Do, For, Switch, Block, Local, Break, Continue, Goto, Mark, Arm, Leap, Land, Arrival, Note}
use Rattle.core_laws.specs.Ways.{Peeled, Ask, Known, Way, Lands, Past, Lost, ◌▷◌, on_peeled, end_way, Follow}
use Rattle.core_laws.specs.Better.{LeWay, LeFollow, LeTree, le_leaf, le_arm, le_if, le_while, le_do, le_for, le_switch, le_block, LeAll, le_nil, le_then, LeSections, le_no_section, le_section}

-- ---- ways

pub way_refl : (y : Way) → LeWay y y
way_refl Lands = tt
way_refl Past = tt
way_refl Lost = tt

pub way_trans : (x y z : Way) → LeWay x y → LeWay y z → LeWay x z
way_trans Lost y z p q = tt
way_trans Past Lost z p q = absurd p
way_trans Past Past z p q = q
way_trans Past Lands Lands p q = tt
way_trans Past Lands _ p q = absurd q
way_trans Lands Lands z p q = q
way_trans Lands _ z p q = absurd p

-- to be there is best
pub way_lands : (y : Way) → LeWay y Lands
way_lands Lands = tt
way_lands Past = tt
way_lands Lost = tt

pub way_same : {x y : Way} → x ≡ y → LeWay x y
way_same {x = x} e = subst (LeWay x) e (way_refl x)

pub way_past : (y : Way) → y ▷ Past ≡ y
way_past Lands = refl
way_past Past = refl
way_past Lost = refl

pub way_then : (a a' b b' : Way) → LeWay a a' → LeWay b b' → LeWay (a ▷ b) (a' ▷ b')
way_then Lost a' b b' p q = tt
way_then Past Lost b b' p q = absurd p
way_then Past Past b b' p q = q
way_then Past Lands b b' p q = way_lands b
way_then Lands Lands b b' p q = tt
way_then Lands _ b b' p q = absurd p

-- the same way, and then a better one
pub way_on : (a b b' : Way) → LeWay b b' → LeWay (a ▷ b) (a ▷ b')
way_on a b b' q = way_then a a b b' (way_refl a) q

pub way_peeled : (p : Peeled) (x x' y y' : Way) → LeWay x x' → LeWay y y' → LeWay (on_peeled p Lost x y) (on_peeled p Lost x' y')
way_peeled (Ask e) x x' y y' p q = tt
way_peeled (Known true) x x' y y' p q = p
way_peeled (Known false) x x' y y' p q = q

pub way_end : (ends : Bool) (x y : Way) → LeWay x y → LeWay (end_way ends x) (end_way ends y)
way_end true x y h = tt
way_end false x y h = h

pub follow_refl : (w : Follow) → LeFollow w w
follow_refl w l = way_refl (w l)

-- ---- goto programs

mutual
  pub le_refl : (x : Tree) → LeTree x x
  le_refl (If t a b) = le_if t (all_refl a) (all_refl b)
  le_refl (While t a) = le_while t (all_refl a)
  le_refl (Do a t) = le_do t (all_refl a)
  le_refl (For first t u a) = le_for t u (all_refl first) (all_refl a)
  le_refl (Switch s c) = le_switch s (sections_refl c)
  le_refl (Block a) = le_block (all_refl a)
  le_refl (Evaluate e) = le_leaf (Evaluate e) tt
  le_refl (Return e) = le_leaf (Return e) tt
  le_refl (Local x es) = le_leaf (Local x es) tt
  le_refl Break = le_leaf Break tt
  le_refl Continue = le_leaf Continue tt
  le_refl (Goto l) = le_leaf (Goto l) tt
  le_refl (Mark l) = le_leaf (Mark l) tt
  le_refl (Arm l e) = le_leaf (Arm l e) tt
  le_refl (Leap l) = le_leaf (Leap l) tt
  le_refl (Land l) = le_leaf (Land l) tt
  le_refl (Arrival e) = le_leaf (Arrival e) tt
  le_refl (Note bs) = le_leaf (Note bs) tt

  pub all_refl : (xs : Forest) → LeAll xs xs
  all_refl Nil = le_nil
  all_refl (Then x xs) = le_then (le_refl x) (all_refl xs)

  pub sections_refl : (c : Sections) → LeSections c c
  sections_refl NoSection = le_no_section
  sections_refl (Section cases default a ends c) = le_section cases default ends (all_refl a) (sections_refl c)

mutual
  pub le_trans : {x y z : Tree} → LeTree x y → LeTree y z → LeTree x z
  le_trans (le_leaf x h) q = q
  le_trans (le_arm l) (le_leaf _ h) = le_arm l
  le_trans (le_if t a b) (le_if _ c d) = le_if t (all_trans a c) (all_trans b d)
  le_trans (le_while t a) (le_while _ c) = le_while t (all_trans a c)
  le_trans (le_do t a) (le_do _ c) = le_do t (all_trans a c)
  le_trans (le_for t u a b) (le_for _ _ c d) = le_for t u (all_trans a c) (all_trans b d)
  le_trans (le_switch s a) (le_switch _ c) = le_switch s (sections_trans a c)
  le_trans (le_block a) (le_block c) = le_block (all_trans a c)
  le_trans (le_if t a b) (le_leaf _ h) = absurd h
  le_trans (le_while t a) (le_leaf _ h) = absurd h
  le_trans (le_do t a) (le_leaf _ h) = absurd h
  le_trans (le_for t u a b) (le_leaf _ h) = absurd h
  le_trans (le_switch s a) (le_leaf _ h) = absurd h
  le_trans (le_block a) (le_leaf _ h) = absurd h

  pub all_trans : {xs ys zs : Forest} → LeAll xs ys → LeAll ys zs → LeAll xs zs
  all_trans le_nil q = q
  all_trans (le_then x xs) (le_then y ys) = le_then (le_trans x y) (all_trans xs ys)

  pub sections_trans : {c d e : Sections} → LeSections c d → LeSections d e → LeSections c e
  sections_trans le_no_section q = q
  sections_trans (le_section cases default ends a c) (le_section _ _ _ b d) = le_section cases default ends (all_trans a b) (sections_trans c d)
