-- A well made body has one derivation at most.
use Rattle.std.proofs.Common.{◌≡◌, ℕ, List, [], ◌∷◌, ◌++◌, Option, Some, None, refl, sym, ap, ap₂, subst, ◌∙◌}
use Rattle.c_tree.specs.declared.tree.Item.{Item, Leap}
use Rattle.c_tree.specs.declared.tree.Path.{Path}
use Rattle.c_tree.specs.Paths.{item_at}
use Rattle.c_tree.specs.Trees.{trees_of}
use Rattle.c_tree.specs.WellMade.{IsWellMade}
use Rattle.c_tree.proofs.WellMoved.{well_moved}
use Rattle.c_tree.proofs.MoveLemmas.{some_same}
use Rattle.c_tree.proofs.RuleChanges.{joins_changed}
use Rattle.label_offsets.specs.Leaps.{leaps_from, first}
use Rattle.label_offsets.specs.Marks.{leap_label}
use Rattle.label_offsets.proofs.HeldLaws.{leap_label-Leap}
use Rattle.label_offsets.proofs.ChoiceLaws.{one_land}
use Rattle.report_moves.specs.declared.moves.MoveKind.{MoveKind}
use Rattle.report_moves.specs.declared.moves.MoveKind.TheVariants.{Out, Lift, Inward, Join}
use Rattle.move_order_laws.specs.Next.{Point, IsJoined, MovesBy}
use Rattle.move_order_laws.specs.declared.kept.Kept.{Kept}
use Rattle.move_order_laws.specs.Derivations.{Eliminates, joins, moves, Derives, ends, chooses}
use Rattle.move_order_laws.proofs.MovesLeft.{moved_changed}
use Rattle.move_order_laws.proofs.OneMove.{join_alone, one_join, one_move}

-- the Leap that a move speaks of

pub leap_there : (k : MoveKind) (l : ℕ) (p q : Point) → MovesBy k l p q → item_at p.body p.at.steps p.at.item ≡ Some (Leap l)
leap_there Out l p q h = ap (λ z. item_at p.body z p.at.item) h.steps ∙ h.moves.applies.leap
leap_there Lift l p q h = h.moves.applies.leap
leap_there Inward l p q h = h.moves.applies.leap
leap_there _ l p q h = absurd h

pub leap_first : (l : ℕ) {p : Point} {ms : List Kept} {new : List Item} → Eliminates l p ms new → item_at p.body p.at.steps p.at.item ≡ Some (Leap l)
leap_first l (joins p new j) = j.moves.applies.leap
leap_first l (moves k p q ms new m e) = leap_there k l p q m

-- what is kept

pub well_made_moved : (k : MoveKind) (l : ℕ) (p q : Point) → MovesBy k l p q → IsWellMade (trees_of p.body) → IsWellMade (trees_of q.body)
well_made_moved k l p q m w = well_moved (trees_of p.body) (trees_of q.body) (moved_changed k l p q m) w

pub well_made_joined : (l : ℕ) (p : Point) (new : List Item) → IsJoined l p new → IsWellMade (trees_of p.body) → IsWellMade (trees_of new)
well_made_joined l p new j w = well_moved (trees_of p.body) (trees_of new) (joins_changed l p.at.item j.place p.at.steps p.body new j.moves) w

pub well_made_eliminated : (l : ℕ) {p : Point} {ms : List Kept} {new : List Item} → Eliminates l p ms new → IsWellMade (trees_of p.body) →
    IsWellMade (trees_of new)
well_made_eliminated l (joins p new j) w = well_made_joined l p new j w
well_made_eliminated l (moves k p q ms new m e) w = well_made_eliminated l e (well_made_moved k l p q m w)

pub well_made_derived : {body : List Item} {ms : List Kept} {new : List Item} → Derives body ms new → IsWellMade (trees_of body) → IsWellMade (trees_of new)
well_made_derived (ends body n) w = w
well_made_derived (chooses body at l ms ns mid new f e d) w = well_made_derived d (well_made_eliminated l e w)

-- one way alone

record Same (ms ns : List Kept) (a b : List Item) : Type 0 where
  moves_same : ms ≡ ns
  body_same : a ≡ b

one_elimination : (l : ℕ) {p q : Point} {ms ns : List Kept} {a b : List Item} → Eliminates l p ms a → Eliminates l q ns b → p ≡ q →
    IsWellMade (trees_of p.body) → Same ms ns a b
one_elimination l (joins p new j) (joins q other i) e w =
    let one = one_land p.body w l p.at j.moves.applies.leap in
    let i' = subst (λ (z : Point). IsJoined l z other) (sym e) i in
    record {
      moves_same = ap (λ (z : Point). record { kind = Join; label = l; path = z.at } ∷ []) e;
      body_same = one_join l p one new other j i';
    }
one_elimination l (joins p new j) (moves k q r ms other m d) e w =
    let one = one_land p.body w l p.at j.moves.applies.leap in
    absurd (join_alone l p one k r new (subst (λ (z : Point). MovesBy k l z r) (sym e) m) j)
one_elimination l (moves k p r ms new m d) (joins q other i) e w =
    let one = one_land p.body w l p.at (leap_there k l p r m) in
    absurd (join_alone l p one k r other m (subst (λ (z : Point). IsJoined l z other) (sym e) i))
one_elimination l (moves k p r ms new m d) (moves j q s ns other n f) e w =
    let one = one_land p.body w l p.at (leap_there k l p r m) in
    let same = one_move l p one k j r s m (subst (λ (z : Point). MovesBy j l z s) (sym e) n) in
    let rest = one_elimination l d f same.1 (well_made_moved k l p r m w) in
    record {
      moves_same = ap₂ (λ (z : Kept) (t : List Kept). z ∷ t)
          (ap₂ (λ (a : MoveKind) (z : Point). record { kind = a; label = l; path = z.at }) same.0 e) rest.moves_same;
      body_same = rest.body_same;
    }

pub same_label : (l m : ℕ) (o : Option Item) → o ≡ Some (Leap l) → o ≡ Some (Leap m) → l ≡ m
same_label l m o e f =
    let x : Leap l ≡ Leap m = some_same (sym e ∙ f) in
    some_same (sym (leap_label-Leap l) ∙ ap leap_label x ∙ leap_label-Leap m)

none_some : {A : Type 0} (o : Option A) (x : A) → o ≡ None → o ≡ Some x → ⊥
none_some None x e f = cc
none_some (Some y) x e f = cc

one_derivation : {a b : List Item} {ms ns : List Kept} {c d : List Item} → Derives a ms c → Derives b ns d → a ≡ b → IsWellMade (trees_of a) → Same ms ns c d
one_derivation (ends a n) (ends b m) e w = record { moves_same = refl; body_same = e }
one_derivation (ends a n) (chooses b at l ms ns mid new f x d) e w =
    let g : first (leaps_from 0 a) ≡ Some at = ap (λ z. first (leaps_from 0 z)) e ∙ f in
    absurd (none_some (first (leaps_from 0 a)) at n g)
one_derivation (chooses a at l ms ns mid new f x d) (ends b m) e w =
    let g : first (leaps_from 0 b) ≡ Some at = ap (λ z. first (leaps_from 0 z)) (sym e) ∙ f in
    absurd (none_some (first (leaps_from 0 b)) at m g)
one_derivation (chooses a at l ms ns mid new f x d) (chooses b to k us vs other end g y c) e w =
    let t : at ≡ to = some_same (sym f ∙ ap (λ z. first (leaps_from 0 z)) e ∙ g) in
    let there = ap₂ (λ (z : List Item) (p : Path). item_at z p.steps p.item) e t in
    let n : l ≡ k = same_label l k (item_at a at.steps at.item) (leap_first l x) (there ∙ leap_first k y) in
    let y' = subst (λ z. Eliminates z (record { body = b; at = to }) us other) (sym n) y in
    let here = one_elimination l x y' (ap₂ (λ (z : List Item) (p : Path). record { body = z; at = p }) e t) w in
    let rest = one_derivation d c here.body_same (well_made_eliminated l x w) in
    record { moves_same = ap₂ (λ u v. u ++ v) here.moves_same rest.moves_same; body_same = rest.body_same }

pub unique : (body : List Item) (ms ns : List Kept) (a b : List Item) → IsWellMade (trees_of body) → Derives body ms a → Derives body ns b → (ms ≡ ns) × (a ≡ b)
unique body ms ns a b w d e = let s = one_derivation d e refl w in (s.moves_same, s.body_same)
