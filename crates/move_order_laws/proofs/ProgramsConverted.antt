-- A steady program stays steady, and behaves the same, where a flat function is converted.
use Rattle.std.proofs.Common.{◌≡◌, ◌<◌, length, true, List, ◌∷◌, Option, Some, None, option_map, refl, sym, ap, subst, ◌∙◌, true≢false}
use Rattle.std.specs.List.{AllByRecursion}
use Rattle.std.specs.Option.{option_map_or}
use Rattle.std.proofs.lemmas.List.Elements.{All-from_recursion, recursion_from_All}
use Rattle.c_tree.specs.declared.tree.Item.{Item}
use Rattle.c_tree.specs.declared.tree.Function.{Function}
use Rattle.c_tree.specs.declared.tree.Top.{Top}
use Rattle.c_tree.specs.declared.tree.Top.TheVariants as T
use Rattle.c_tree.specs.declared.tree.Program.{Program}
use Rattle.c_tree.specs.Trees.{Tree, Goto, Mark, Nil, trees_of}
use Rattle.c_tree.specs.Everywhere.{Everywhere}
use Rattle.c_tree.specs.Slots.{ItemSlots}
use Rattle.c_tree.specs.Labels.{ItemLabels}
use Rattle.c_tree.specs.InRange.{body_of, IsInRange, IsTopInRange}
use Rattle.c_tree.specs.WellMade.{IsConverted, IsWellMade}
use Rattle.c_tree.proofs.WellMoved.{everywhere_map}
use Rattle.guard_vars.specs.Conversion.{converted, converted_list}
use Rattle.jump_meaning.specs.Code.{code_of}
use Rattle.jump_meaning.specs.Runs.{BehaveTheSame}
use Rattle.jump_meaning.proofs.RunFacts.{same_refl}
use Rattle.jump_meaning.specs.Steady.{IsUnjumping, IsMadeWell, IsTopMadeWell, IsSteady}
use Rattle.core_laws.specs.Ways.{lost}
use Rattle.core_laws.specs.Better.{Better}
use Rattle.core_laws.proofs.Programs.{same_cores}
use Rattle.move_laws.specs.Bodies.{OneBodyChanged}
use Rattle.move_laws.specs.Bodies as Bodies
use Rattle.move_laws.proofs.Orders.{follow_refl}
use Rattle.move_laws.proofs.BodiesMoved.{CoresAreLe, code_le}
use Rattle.move_order_laws.specs.Exchanged.{OneFunctionExchanged, KeepsBehaviour, IsConvertible}
use Rattle.move_order_laws.specs.Exchanged as Exchanged
use Rattle.move_order_laws.specs.ConvertLaws.{OneFunctionConverted, this_function, later_function, ConversionLaws}
use Rattle.move_order_laws.proofs.ConvertedTrees.{converted_trees}
use Rattle.move_order_laws.proofs.BetterConverted.{convert_better}
use Rattle.move_order_laws.proofs.KeptByConversion.{IsKeptByConversion, convert_kept, slots_kept, labels_kept}

list_better : (xs : List Item) → Better (trees_of xs) (trees_of (converted_list xs))
list_better xs = subst (Better (trees_of xs)) (sym (converted_trees xs)) (convert_better (trees_of xs))

-- ---- one function

converted_body : (f : Function) (a : List Item) → f.body ≡ Some a → body_of (converted f) ≡ trees_of (converted_list a)
converted_body f a e = ap (λ o. option_map_or trees_of (option_map converted_list o) Nil) e

own_body : (f : Function) (a : List Item) → f.body ≡ Some a → body_of f ≡ trees_of a
own_body f a e = ap (λ o. option_map_or trees_of o Nil) e

body_kept : (f : Function) (a : List Item) → f.body ≡ Some a → (P : Tree → Type 0) → IsKeptByConversion P → Everywhere P (body_of f) →
    Everywhere P (body_of (converted f))
body_kept f a e P k h = subst (Everywhere P) (sym (converted_body f a e ∙ converted_trees a))
    (convert_kept P k (trees_of a) (subst (Everywhere P) (own_body f a e) h))

range_kept : (f : Function) (a : List Item) → f.flat ≡ true → f.body ≡ Some a → IsInRange f → IsInRange (converted f)
range_kept f a flat e h = record {
  parameters = h.parameters;
  slots = body_kept f a e (ItemSlots (λ x. x < length f.slots)) (slots_kept (λ x. x < length f.slots)) h.slots;
  labels = body_kept f a e (ItemLabels (λ l. l < length f.labels)) (labels_kept (λ l. l < length f.labels)) h.labels;
  unguarded = λ z. absurd (true≢false (sym flat ∙ z));
}

unjumping : (x : Tree) → IsConverted x → IsUnjumping x
unjumping (Goto l) h = h
unjumping (Mark l) h = h
unjumping _ h = tt

made_kept : (f : Function) (a : List Item) → f.flat ≡ true → f.body ≡ Some a → IsWellMade (trees_of (converted_list a)) → IsMadeWell (converted f)
made_kept f a flat e w =
    let made = subst IsWellMade (sym (converted_body f a e)) w in
    record {
      converted = λ c. made;
      other = λ n. absurd (n (record { flat = flat; unjumping = everywhere_map IsConverted IsUnjumping unjumping (body_of (converted f)) made.converted }));
    }

-- ---- the program

ranges_kept : {ts us : List Top} → OneFunctionConverted ts us → AllByRecursion IsTopInRange ts → AllByRecursion IsTopInRange us
ranges_kept (this_function f a ts flat e w) h = (range_kept f a flat e h.0, h.1)
ranges_kept (later_function t r) h = (h.0, ranges_kept r h.1)

tops_made : {ts us : List Top} → OneFunctionConverted ts us → AllByRecursion IsTopMadeWell ts → AllByRecursion IsTopMadeWell us
tops_made (this_function f a ts flat e w) h = (made_kept f a flat e w, h.1)
tops_made (later_function t r) h = (h.0, tops_made r h.1)

cores_kept : {ts us : List Top} → OneFunctionConverted ts us → OneBodyChanged CoresAreLe ts us
cores_kept (this_function f a ts flat e w) =
    subst (λ h. OneBodyChanged CoresAreLe (T.Function f ∷ ts) (T.Function h ∷ ts)) (sym (ap (λ o. record f { body = option_map converted_list o }) e))
    (Bodies.this_function f a (converted_list a) ts e ((list_better a).cores lost lost (follow_refl lost)))
cores_kept (later_function t r) = Bodies.later_function t (cores_kept r)

pub converted_steady : (p q : Program) → OneFunctionConverted p.tops q.tops → IsSteady p → IsSteady q × BehaveTheSame p q
converted_steady p q r s =
    same_cores p q
    (All-from_recursion IsTopInRange q.tops (ranges_kept r (recursion_from_All IsTopInRange p.tops s.ranged)))
    (All-from_recursion IsTopMadeWell q.tops (tops_made r (recursion_from_All IsTopMadeWell p.tops s.made)))
    (code_le p q (cores_kept r)) s

-- ---- one function, wherever it stands

module _ (f : Function) where
  as_converted : (a : List Item) → f.flat ≡ true → f.body ≡ Some a → IsWellMade (trees_of (converted_list a)) → {ts us : List Top} →
      OneFunctionExchanged f (converted f) ts us → OneFunctionConverted ts us
  as_converted a flat e w (Exchanged.this_function ts) = this_function f a ts flat e w
  as_converted a flat e w (Exchanged.later_function t r) = later_function t (as_converted a flat e w r)

  unchanged : {ts us : List Top} → OneFunctionExchanged f f ts us → ts ≡ us
  unchanged (Exchanged.this_function ts) = refl
  unchanged (Exchanged.later_function t r) = ap (λ z. t ∷ z) (unchanged r)

  keeps_itself : KeepsBehaviour f f
  keeps_itself = record {
    programs = λ p q r s.
        let same : p ≡ q = ap (λ (ts : List Top). record p { tops = ts }) (unchanged r) in
        subst (λ (z : Program). IsSteady z × BehaveTheSame p z) same (s, record { codes = same_refl (code_of p) });
  }

  -- a function without a body stays
  left : f.body ≡ None → converted f ≡ f
  left e = ap (λ (o : Option (List Item)). record f { body = option_map converted_list o }) e ∙ sym (ap (λ (o : Option (List Item)). record f { body = o }) e)

  pub converted_keeps : f.flat ≡ true → IsConvertible f → KeepsBehaviour f (converted f)
  converted_keeps flat c = by f.body refl where
    by : (o : Option (List Item)) → f.body ≡ o → KeepsBehaviour f (converted f)
    by None e = subst (KeepsBehaviour f) (sym (left e)) keeps_itself
    by (Some a) e = record { programs = λ p q r s. converted_steady p q (as_converted a flat e (subst IsWellMade (converted_body f a e) (c flat)) r) s }

pub conversion_laws : ConversionLaws
conversion_laws = record { trees = converted_trees; better = list_better; steady = converted_steady; exchanged = converted_keeps }
