-- Well made bodies, and bodies without guards, owe nothing.
use Rattle.std.proofs.Common.{Option, Some, None, ℕ, ◌≤◌, Bool, true, false, cond, List, [], ◌∷◌, ◌≡◌, refl, ap, ◌∙◌, arith, inl, inr, true≢false}
use Rattle.c_tree.specs.Trees.{Tree, Forest, Nil, Then, Sections, NoSection, Section, If, While, Do, For, Switch, Block, Mark, Arm, Leap, Land, Arrival}
use Rattle.c_tree.specs.Everywhere.{total, total_of, total_in, Everywhere, EverywhereOf, EverywhereIn}
use Rattle.c_tree.specs.Labels.{land_of, lands, GuardLabels}
use Rattle.c_tree.specs.WellMade.{IsConverted, IsPlainFor, IsWellMade}
use Rattle.c_tree.proofs.WellMoved.{everywhere_map}
use Rattle.jump_meaning.specs.Code.{Code}
use Rattle.jump_meaning.specs.Steady.{IsUnarmed}
use Rattle.jump_meaning.specs.Tasks.{WhileLoop, DoLoop, ForLoop, Task, Runs, Loops, items}
use Rattle.jump_meaning.specs.Search.{Goal, ToLabel, ToCase, ToDefault, is_goal, enters_switches, seek, seek_in, seek_sections}
use Rattle.core_laws.specs.Laws.{HasMadeBodies}
use Rattle.core_laws.proofs.Reach.{body_in}
use Rattle.core_laws.proofs.Lawful.{HasNoInnerCase}
use Rattle.core_laws.proofs.Lookup.{seek_of}
use Rattle.core_laws.proofs.All.{AllIn}
use Rattle.core_laws.proofs.Places.{spot_of, spots, both_none, Owes, placed_body}
use Rattle.core_laws.proofs.Theorem.{Here, Placed}

-- ---- converted bodies have no inner cases

no_case_goal : (goal : Goal) → enters_switches goal ≡ false → (x : Tree) → IsConverted x → is_goal goal x ≡ false
no_case_goal (ToLabel l) e x h = absurd (true≢false e)
no_case_goal (ToCase kind n) e (Arrival y) h = absurd h
no_case_goal (ToCase kind n) e _ h = refl
no_case_goal ToDefault e (Arrival y) h = absurd h
no_case_goal ToDefault e _ h = refl

neither : (b : Bool) (o p : Option (List Task)) → b ≡ false → p ≡ None → cond b o p ≡ None
neither true o p e h = absurd (true≢false e)
neither false o p e h = h

unentered : (b : Bool) (o : Option (List Task)) → b ≡ false → cond b o None ≡ None
unentered true o e = absurd (true≢false e)
unentered false o e = refl

module _ (goal : Goal) (e : enters_switches goal ≡ false) where
  mutual
    no_case : (a : Forest) → Everywhere IsConverted a → (k : List Task) → seek goal a k ≡ None
    no_case Nil h k = refl
    no_case (Then x a) h k =
        both_none (seek_of goal x (items a k)) (seek goal a k)
        (neither (is_goal goal x) (Some (Runs x ∷ items a k)) (seek_in goal x (items a k)) (no_case_goal goal e x (itself x h.0))
        (no_case_in x h.0 (items a k))) (no_case a h.1 k)

    itself : (x : Tree) → EverywhereOf IsConverted x → IsConverted x
    itself (If t a b) h = h.0
    itself (While t a) h = h.0
    itself (Do a t) h = h.0
    itself (For first t u a) h = h.0
    itself (Switch s c) h = h.0
    itself (Block a) h = h.0
    itself _ h = h

    no_case_in : (x : Tree) → EverywhereOf IsConverted x → (k : List Task) → seek_in goal x k ≡ None
    no_case_in (If t a b) h k = both_none (seek goal a k) (seek goal b k) (no_case a h.1 k) (no_case b h.2 k)
    no_case_in (While t a) h k = no_case a h.1 (Loops (WhileLoop t a) ∷ k)
    no_case_in (Do a t) h k = no_case a h.1 (Loops (DoLoop a t) ∷ k)
    no_case_in (For first t u a) h k = no_case a h.2 (Loops (ForLoop t u a) ∷ k)
    no_case_in (Switch s c) h k = unentered (enters_switches goal) (seek_sections goal c k) e
    no_case_in (Block a) h k = absurd h.0
    no_case_in _ h k = refl

no_inner_case : (c : Sections) → EverywhereIn IsConverted c → HasNoInnerCase c
no_inner_case NoSection h = tt
no_inner_case (Section cases default a ends c) h = ((λ goal e k. no_case goal e a h.0 k), no_inner_case c h.1)

-- ---- well made bodies

module _ (b : Forest) where
  abbrev Labels : Tree → Type 0
  Labels x = GuardLabels (λ l. lands l b ≡ 1) x

  mutual
    owes : (a : Forest) → Everywhere IsConverted a → Everywhere IsPlainFor a → Everywhere Labels a → Everywhere (Owes b) a
    owes Nil c f g = tt
    owes (Then x a) c f g = (owes_of x c.0 f.0 g.0, owes a c.1 f.1 g.1)

    owes_of : (x : Tree) → EverywhereOf IsConverted x → EverywhereOf IsPlainFor x → EverywhereOf Labels x → EverywhereOf (Owes b) x
    owes_of (If t a y) c f g = (tt, owes a c.1 f.1 g.1, owes y c.2 f.2 g.2)
    owes_of (While t a) c f g = (tt, owes a c.1 f.1 g.1)
    owes_of (Do a t) c f g = (tt, owes a c.1 f.1 g.1)
    owes_of (For first t u a) c f g = ((λ l d. ap (λ z. spots l z) f.0.0), owes first c.1 f.1 g.1, owes a c.2 f.2 g.2)
    owes_of (Switch s y) c f g = ((λ l d. no_inner_case y c.1), owes_in y c.1 f.1 g.1)
    owes_of (Block a) c f g = absurd c.0
    owes_of (Arm l e) c f g = g
    owes_of (Leap l) c f g = g
    owes_of _ c f g = tt

    owes_in : (y : Sections) → EverywhereIn IsConverted y → EverywhereIn IsPlainFor y → EverywhereIn Labels y → EverywhereIn (Owes b) y
    owes_in NoSection c f g = tt
    owes_in (Section cases default a ends y) c f g = (owes a c.0 f.0 g.0, owes_in y c.1 f.1 g.1)

-- ---- totals that are the same, or nothing

module _ (f g : Tree → ℕ) where
  mutual
    total_same : (a : Forest) → Everywhere (λ x. f x ≡ g x) a → total f a ≡ total g a
    total_same Nil h = refl
    total_same (Then x a) h = let p = total_same_of x h.0 in let q = total_same a h.1 in omega (arith, p, q)

    total_same_of : (x : Tree) → EverywhereOf (λ x. f x ≡ g x) x → total_of f x ≡ total_of g x
    total_same_of (If t a b) h = let z = h.0 in let p = total_same a h.1 in let q = total_same b h.2 in omega (arith, z, p, q)
    total_same_of (While t a) h = let z = h.0 in let p = total_same a h.1 in omega (arith, z, p)
    total_same_of (Do a t) h = let z = h.0 in let p = total_same a h.1 in omega (arith, z, p)
    total_same_of (For first t u a) h = let z = h.0 in let p = total_same first h.1 in let q = total_same a h.2 in omega (arith, z, p, q)
    total_same_of (Switch s c) h = let z = h.0 in let p = total_same_in c h.1 in omega (arith, z, p)
    total_same_of (Block a) h = let z = h.0 in let p = total_same a h.1 in omega (arith, z, p)
    total_same_of _ h = h

    total_same_in : (c : Sections) → EverywhereIn (λ x. f x ≡ g x) c → total_in f c ≡ total_in g c
    total_same_in NoSection h = refl
    total_same_in (Section cases default a ends c) h = let p = total_same a h.0 in let q = total_same_in c h.1 in omega (arith, p, q)

mutual
  nothing : (a : Forest) → total (λ x. 0) a ≡ 0
  nothing Nil = refl
  nothing (Then x a) = let p = nothing_of x in let q = nothing a in omega (arith, p, q)

  nothing_of : (x : Tree) → total_of (λ x. 0) x ≡ 0
  nothing_of (If t a b) = let p = nothing a in let q = nothing b in omega (arith, p, q)
  nothing_of (While t a) = let p = nothing a in omega (arith, p)
  nothing_of (Do a t) = let p = nothing a in omega (arith, p)
  nothing_of (For first t u a) = let p = nothing first in let q = nothing a in omega (arith, p, q)
  nothing_of (Switch s c) = let p = nothing_in c in omega (arith, p)
  nothing_of (Block a) = let p = nothing a in omega (arith, p)
  nothing_of _ = refl

  nothing_in : (c : Sections) → total_in (λ x. 0) c ≡ 0
  nothing_in NoSection = refl
  nothing_in (Section cases default a ends c) = let p = nothing a in let q = nothing_in c in omega (arith, p, q)

total_none : (f : Tree → ℕ) (a : Forest) → Everywhere (λ x. f x ≡ 0) a → total f a ≡ 0
total_none f a h = total_same f (λ x. 0) a h ∙ nothing a

converted_spot : (l : ℕ) (x : Tree) → IsConverted x → spot_of l x ≡ land_of l x
converted_spot l (Mark m) h = absurd h
converted_spot l _ h = refl

unarmed_land : (l : ℕ) (x : Tree) → IsUnarmed x → land_of l x ≡ 0
unarmed_land l (Land m) h = absurd h
unarmed_land l _ h = refl

made_once : (b : Forest) → IsWellMade b → (l : ℕ) → lands l b ≡ 1 → spots l b ≤ 1
made_once b w l d =
    let e = total_same (spot_of l) (land_of l) b (everywhere_map IsConverted (λ x. spot_of l x ≡ land_of l x) (converted_spot l) b w.converted) in
    omega (arith, d, e)

-- ---- bodies without guards

unarmed_none : (b : Forest) → Everywhere IsUnarmed b → (l : ℕ) → lands l b ≡ 0
unarmed_none b h l = total_none (land_of l) b (everywhere_map IsUnarmed (λ x. land_of l x ≡ 0) (unarmed_land l) b h)

unlanded : {A : Type 0} (b : Forest) → Everywhere IsUnarmed b → (l : ℕ) → lands l b ≡ 1 → A
unlanded b h l d = let e = unarmed_none b h l in absurd (omega (arith, d, e))

unarmed_owes : (b : Forest) → Everywhere IsUnarmed b → (x : Tree) → IsUnarmed x → Owes b x
unarmed_owes b h (For first t u a) z = λ l d. unlanded b h l d
unarmed_owes b h (Switch s c) z = λ l d. unlanded b h l d
unarmed_owes b h (Arm l e) z = absurd z
unarmed_owes b h (Leap l) z = absurd z
unarmed_owes b h _ z = tt

-- ---- programs of such bodies

pub placed : (p : Code) → HasMadeBodies p → Placed p
placed p made = record {
  body = λ f. elim (made f) as (λ _. AllIn (Here p) f (body_in p f) []) [
    | inl w ↦ placed_body p f (owes (body_in p f) (body_in p f) w.converted w.loops w.landed) (made_once (body_in p f) w)
    | inr u ↦ placed_body p f (everywhere_map IsUnarmed (Owes (body_in p f)) (unarmed_owes (body_in p f) u) (body_in p f) u)
        (λ l d. unlanded (body_in p f) u l d)
  ];
}
