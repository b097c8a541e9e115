-- A derivation keeps behaviour.
use Rattle.std.proofs.Common.{◌≡◌, ℕ, List, ◌∷◌, Some, refl, sym, ap, subst, ◌∙◌}
use Rattle.c_tree.specs.declared.tree.Item.{Item}
use Rattle.c_tree.specs.declared.tree.Function.{Function}
use Rattle.c_tree.specs.declared.tree.Top.{Top}
use Rattle.c_tree.specs.declared.tree.Top.TheVariants as T
use Rattle.c_tree.specs.declared.tree.Program.{Program}
use Rattle.c_tree.specs.Trees.{trees_of}
use Rattle.c_tree.specs.WellMade.{IsWellMade}
use Rattle.c_tree.proofs.RuleChanges.{joins_changed}
use Rattle.jump_meaning.specs.Code.{code_of}
use Rattle.jump_meaning.specs.Runs.{BehaveTheSame}
use Rattle.jump_meaning.specs.Steady.{IsSteady}
use Rattle.jump_meaning.proofs.RunFacts.{same_refl, same_trans}
use Rattle.move_laws.specs.Bodies.{with_body, OneBodyChanged, this_function, later_function, IsExchange, KeepsBehaviour}
use Rattle.move_laws.proofs.SteadyMoved.{moved_keeps}
use Rattle.move_order_laws.specs.declared.kept.Kept.{Kept}
use Rattle.move_order_laws.specs.Next.{Point}
use Rattle.move_order_laws.specs.Derivations.{Eliminates, joins, moves, Derives, ends, chooses}
use Rattle.move_order_laws.proofs.MovesLeft.{moved_changed}
use Rattle.move_order_laws.proofs.OneDerivation.{well_made_moved, well_made_eliminated}
use Rattle.move_order_laws.specs.MoveBodyLaws.{DerivedLaws}

-- the same body

own_body : (f : Function) (a : List Item) → f.body ≡ Some a → with_body f a ≡ f
own_body f a e = ap (λ o. record f { body = o }) (sym e)

same_tops : (old : List Item) {ts us : List Top} → OneBodyChanged (IsExchange old old) ts us → us ≡ ts
same_tops old (this_function f a b ts e h) = ap (λ g. T.Function g ∷ ts) (own_body f b (e ∙ ap (λ z. Some z) (h.0 ∙ sym h.1)))
same_tops old (later_function t r) = ap (λ z. t ∷ z) (same_tops old r)

unchanged : (body : List Item) → KeepsBehaviour body body
unchanged body = record { programs = λ p q r s. of_same p q (same_tops body r) s } where
  of_same : (p q : Program) → q.tops ≡ p.tops → IsSteady p → IsSteady q × BehaveTheSame p q
  of_same p q e s =
      let same : p ≡ q = ap (λ (z : List Top). record { tops = z }) (sym e) in
      subst (λ (z : Program). IsSteady z × BehaveTheSame p z) same (s, record { codes = same_refl (code_of p) })

-- one body after another

record Between (a b c : List Item) (ts us : List Top) : Type 0 where
  middle : List Top
  first : OneBodyChanged (IsExchange a b) ts middle
  second : OneBodyChanged (IsExchange b c) middle us

between : (a b c : List Item) {ts us : List Top} → OneBodyChanged (IsExchange a c) ts us → Between a b c ts us
between a b c (this_function f x y ts e h) = record {
  middle = T.Function (with_body f b) ∷ ts;
  first = this_function f x b ts e (h.0, refl);
  second = this_function (with_body f b) b y ts refl (refl, h.1);
}
between a b c (later_function t r) =
    let m = between a b c r in
    record { middle = t ∷ m.middle; first = later_function t m.first; second = later_function t m.second }

keeps_both : (a b c : List Item) → KeepsBehaviour a b → KeepsBehaviour b c → KeepsBehaviour a c
keeps_both a b c h k = record {
  programs = λ p q r s.
      let m = between a b c r in
      let mid : Program = record { tops = m.middle } in
      let x = h.programs p mid m.first s in
      let y = k.programs mid q m.second x.0 in
      (y.0, record { codes = same_trans (code_of p) (code_of mid) (code_of q) x.1.codes y.1.codes });
}

eliminated : (l : ℕ) {p : Point} {ms : List Kept} {new : List Item} → Eliminates l p ms new → IsWellMade (trees_of p.body) → KeepsBehaviour p.body new
eliminated l (joins p new j) w = moved_keeps p.body new (record { made = w; moved = joins_changed l p.at.item j.place p.at.steps p.body new j.moves })
eliminated l (moves k p q ms new m e) w =
    keeps_both p.body q.body new (moved_keeps p.body q.body (record { made = w; moved = moved_changed k l p q m }))
    (eliminated l e (well_made_moved k l p q m w))

derived : {body : List Item} {ms : List Kept} {new : List Item} → Derives body ms new → IsWellMade (trees_of body) → KeepsBehaviour body new
derived (ends body e) w = unchanged body
derived (chooses body at l ms ns mid new f e d) w = keeps_both body mid new (eliminated l e w) (derived d (well_made_eliminated l e w))

pub derived_laws : DerivedLaws
derived_laws = record { behaviour = λ body ms new w d. derived d w }
