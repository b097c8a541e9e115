-- Kinds that agree stay so where a flat function is converted.
use Rattle.std.proofs.Common.{◌≡◌, List, Some, option_map, is_some, refl, sym, ap, subst, ◌∙◌}
use Rattle.std.specs.List.{AllByRecursion}
use Rattle.std.specs.Option.{option_map_or}
use Rattle.std.proofs.lemmas.List.Elements.{All-from_recursion, recursion_from_All}
use Rattle.c_tree.specs.declared.tree.Item.{Item}
use Rattle.c_tree.specs.declared.tree.Function.{Function}
use Rattle.c_tree.specs.declared.tree.Slot.{Slot}
use Rattle.c_tree.specs.declared.tree.Top.{Top}
use Rattle.c_tree.specs.declared.tree.Top.TheVariants as T
use Rattle.c_tree.specs.declared.tree.Program.{Program}
use Rattle.c_tree.specs.Trees.{Nil, trees_of}
use Rattle.c_tree.specs.Everywhere.{Everywhere}
use Rattle.c_tree.specs.InRange.{body_of}
use Rattle.jump_meaning.specs.Code.{Code, code_of}
use Rattle.guard_vars.specs.Conversion.{converted, converted_list}
use Rattle.move_order_laws.specs.ConvertLaws.{OneFunctionConverted, this_function, later_function}
use Rattle.move_order_laws.proofs.ConvertedTrees.{converted_trees}
use Rattle.move_order_laws.proofs.KeptByConversion.{IsKeptByConversion, convert_kept}
use Rattle.plain_laws.specs.Kinded.{KindedItem}
use Rattle.plain_laws.specs.Signatures.{SameTops}
use Rattle.plain_laws.proofs.SignaturesSame.{signatures_same}
use Rattle.whole_laws.specs.WholeKindsLaws.{IsKindedTop, IsKindedProgram}
use Rattle.whole_laws.proofs.WholeKindsPrograms.{same_slots, same_top, same_tops, tops_over}

kinds_kept : (p : Code) (ss : List Slot) → IsKeptByConversion (KindedItem p ss)
kinds_kept p ss = record {
  goto = λ l h. (tt, tt);
  conditional = λ l e h i. (h, tt);
  label = λ l h. tt;
  ifs = λ t a b h. h;
  whiles = λ t a h. h;
  dos = λ t a h. h;
  fors = λ first t u a h. h;
  switches = λ s c h. h;
  blocks = λ a h. tt;
}

converted_body : (f : Function) (a : List Item) → f.body ≡ Some a → body_of (converted f) ≡ trees_of (converted_list a)
converted_body f a e = ap (λ o. option_map_or trees_of (option_map converted_list o) Nil) e

own_body : (f : Function) (a : List Item) → f.body ≡ Some a → body_of f ≡ trees_of a
own_body f a e = ap (λ o. option_map_or trees_of o Nil) e

body_kinds : (p : Code) (f : Function) (a : List Item) → f.body ≡ Some a → IsKindedTop p (T.Function f) → IsKindedTop p (T.Function (converted f))
body_kinds p f a e h =
    let P = KindedItem p f.slots in
    subst (Everywhere P) (sym (converted_body f a e ∙ converted_trees a))
    (convert_kept P (kinds_kept p f.slots) (trees_of a) (subst (Everywhere P) (own_body f a e) h))

tops_kinds : (p : Code) {ts us : List Top} → OneFunctionConverted ts us → AllByRecursion (IsKindedTop p) ts → AllByRecursion (IsKindedTop p) us
tops_kinds p (this_function f a ts flat e w) h = (body_kinds p f a e h.0, h.1)
tops_kinds p (later_function t r) h = (h.0, tops_kinds p r h.1)

changed_tops : {ts us : List Top} → OneFunctionConverted ts us → SameTops ts us
changed_tops (this_function f a ts flat e w) = (
  record { name = refl; result = refl; body = ap (λ o. is_some (option_map converted_list o)) e ∙ sym (ap is_some e); slots = same_slots f.slots },
  same_tops ts,
)
changed_tops (later_function t r) = (same_top t, changed_tops r)

pub program_converted : (p q : Program) → OneFunctionConverted p.tops q.tops → IsKindedProgram p → IsKindedProgram q
program_converted p q r h =
    let c = code_of p in
    let i = tops_kinds c r (recursion_from_All (IsKindedTop c) p.tops h) in
    All-from_recursion (IsKindedTop (code_of q)) q.tops (tops_over c (code_of q) (signatures_same p q (changed_tops r)) q.tops i)
