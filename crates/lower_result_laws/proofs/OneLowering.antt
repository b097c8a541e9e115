-- What a program is lowered to is one program.
use Rattle.std.proofs.Common.{◌≡◌, ℕ, false, List, ◌∷◌, Option, Some, None, refl, sym, ap, ◌∙◌}
use Rattle.c_copies.specs.Names.{names, file_names}
use Rattle.c_tree.specs.declared.tree.Function.{Function}
use Rattle.c_tree.specs.declared.tree.Item.{Item}
use Rattle.c_tree.specs.declared.tree.Program.{Program}
use Rattle.c_tree.specs.declared.tree.Top.{Top}
use Rattle.c_tree.specs.declared.tree.Top.TheVariants as T
use Rattle.c_tree.specs.Trees.{trees_of}
use Rattle.flat_names.specs.FlatNames.{with_known}
use Rattle.reread_parts_laws.proofs.ItemMirrors.{forest_in, items_whole}
use Rattle.lower_laws.specs.Lowering.{lowered_names, IsBodyLowered, IsLoweredBeside, IsTopLowered, LoweredTops, lt_none, lt_more, IsLoweredProgram}

-- lists of items with the same trees are the same, whatever function they stand in
same_items : (f : Function) (xs ys : List Item) → trees_of xs ≡ trees_of ys → xs ≡ ys
same_items f xs ys e = sym (items_whole f xs) ∙ ap forest_in e ∙ items_whole f ys

module _ (used taken : List (List ℕ)) (f h k : Function) where
  abbrev Lowers : Option (List Item) → Function → Type 0
  Lowers o g = elim o [ None ↦ g ≡ f | Some body ↦ IsBodyLowered used taken f body g ]

  by_body : (o : Option (List Item)) → Lowers o h → Lowers o k → h ≡ k
  by_body None v w = v ∙ sym w
  by_body (Some body) v w =
      let same = same_items f v.new w.new (v.trees ∙ sym w.trees) in
      let n = lowered_names used taken f (trees_of body) in
      v.whole ∙ (λ i. record f { slots = n.slots; labels = n.labels; body = Some (same i); flat = false }) ∙ sym w.whole

  one_function : IsLoweredBeside used taken f h → IsLoweredBeside used taken f k → h ≡ k
  one_function v w = by_body f.body v w

module _ (all scope : List (List ℕ)) where
  one_top : (t u v : Top) → IsTopLowered all scope t u → IsTopLowered all scope t v → u ≡ v
  one_top (T.Function f) (T.Function h) (T.Function k) v w = ap T.Function (one_function (with_known all) (with_known scope) f h k v.0 w.0)
  one_top (T.Include bytes) u x v w = v ∙ sym w
  one_top (T.Enum xs) u x v w = v ∙ sym w
  one_top (T.Global g) u x v w = v ∙ sym w
  one_top (T.Note bytes) u x v w = v ∙ sym w
  one_top (T.Function f) (T.Function h) _ v w = absurd w
  one_top (T.Function f) _ x v w = absurd v

  one_file : {ts us vs : List Top} → LoweredTops all scope ts us → LoweredTops all scope ts vs → us ≡ vs
  one_file lt_none lt_none = refl
  one_file (lt_more {t = t} {u = u} v vs) (lt_more {u = x} w ws) = let e = one_top t u x v w in let es = one_file vs ws in λ i. e i ∷ es i

pub one_lowering : (p q r : Program) → IsLoweredProgram p q → IsLoweredProgram p r → q ≡ r
one_lowering p q r v w = let e = one_file (names p) (file_names p) v.tops w.tops in λ i. record { tops = e i }
