-- What a function without jumps becomes, and one with jumps.
use Rattle.std.proofs.Common.{◌≡◌, ℕ, Bool, false, List, [], Option, Some, None, refl, sym, ap, subst, ◌∙◌}
use Rattle.std.specs.Prelude.{IfSome}
use Rattle.c_tree.specs.declared.tree.Function.{Function}
use Rattle.c_tree.specs.declared.tree.Item.{Item}
use Rattle.c_tree.specs.Trees.{trees_of}
use Rattle.flat_laws.specs.Parts.{has_jumps}
use Rattle.flat_laws.specs.Unlabelled.{unlabelled}
use Rattle.flat_form.specs.Cleared.{jumps_in}
use Rattle.flat_form.specs.Flattened.{IsBodyForm, IsFormBeside, applied, IsFlattenedBeside}
use Rattle.flat_form.specs.declared.forms.Form.{Form}
use Rattle.flat_form.specs.declared.forms.Form.TheVariants.{Same, Calm, Flat}
use Rattle.flat_form.specs.declared.forms.Made.{Made}

abbrev FormBy : List (List ℕ) → List (List ℕ) → Function → Form → Option (List Item) → Type 0
FormBy used taken f form o = elim o [ None ↦ form ≡ Same | Some body ↦ IsBodyForm used taken f body form ]

abbrev jumps_by : Option (List Item) → Bool
jumps_by o = elim o [ None ↦ false | Some body ↦ has_jumps (trees_of body) ]

pub calm_flattened : (used taken : List (List ℕ)) (f : Function) (body new : List Item) (labels : List (List ℕ)) → f.body ≡ Some body →
    jumps_in f ≡ false → trees_of new ≡ unlabelled (trees_of body) → labels ≡ []
    → IsFlattenedBeside used taken f (record f { labels = labels; body = Some new })
calm_flattened used taken f body new labels e h made none = record {
  form = Calm new;
  is = subst (FormBy used taken f (Calm new)) (sym e) (sym (ap jumps_by e) ∙ h, made);
  whole = ap (λ (z : List (List ℕ)). record f { labels = z; body = Some new }) none;
}

pub prototype_flattened : (used taken : List (List ℕ)) (f : Function) (o : Option (List Item)) → f.body ≡ None → o ≡ None →
    IsFlattenedBeside used taken f (record f { body = o })
prototype_flattened used taken f o e none = record {
  form = Same;
  is = subst (FormBy used taken f Same) (sym e) refl;
  whole = ap (λ (z : Option (List Item)). record f { body = z }) (none ∙ sym e);
}

pub flat_flattened : (used taken : List (List ℕ)) (f g : Function) (o : Option Made) (made : Made) → o ≡ Some made →
    IfSome o (λ m. IsFormBeside used taken f (Flat m)) → g ≡ applied (Flat made) f
    → IsFlattenedBeside used taken f g
flat_flattened used taken f g o made e h whole = record {
  form = Flat made;
  is = subst (λ z. IfSome z (λ m. IsFormBeside used taken f (Flat m))) e h;
  whole = whole;
}
