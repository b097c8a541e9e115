-- Kinds that agree stay so in a program where they do in a body that changes.
use Rattle.std.proofs.Common.{◌≡◌, List, [], ◌∷◌, Some, is_some, refl, sym, ap, subst}
use Rattle.std.specs.List.{AllByRecursion}
use Rattle.std.specs.Option.{option_map_or}
use Rattle.std.proofs.lemmas.List.Elements.{All-from_recursion, recursion_from_All}
use Rattle.c_tree.specs.declared.tree.Item.{Item}
use Rattle.c_tree.specs.declared.tree.Function.{Function}
use Rattle.c_tree.specs.declared.tree.Slot.{Slot}
use Rattle.c_tree.specs.declared.tree.Top.{Top}
use Rattle.c_tree.specs.declared.tree.Top.TheVariants as T
use Rattle.c_tree.specs.declared.tree.Program.{Program}
use Rattle.c_tree.specs.Trees.{Nil, trees_of}
use Rattle.c_tree.specs.Everywhere.{Everywhere}
use Rattle.c_tree.specs.InRange.{body_of}
use Rattle.c_tree.proofs.WellMoved.{everywhere_map}
use Rattle.jump_meaning.specs.Code.{Code, code_of}
use Rattle.move_laws.specs.Bodies.{with_body, OneBodyChanged, this_function, later_function}
use Rattle.move_laws.proofs.ProgramsMoved.{tops_kept}
use Rattle.plain_laws.specs.Kinded.{KindedItem, Grown, SameKinds}
use Rattle.plain_laws.specs.Signatures.{SameTop, SameTops}
use Rattle.plain_laws.proofs.KindsKept.{item_kept}
use Rattle.plain_laws.proofs.SignaturesSame.{signatures_same}
use Rattle.whole_laws.specs.WholeKindsLaws.{IsKindedTop, IsKindedProgram}

-- ---- signatures stay

pub same_slots : (ss : List Slot) → Grown ss ss
same_slots [] = tt
same_slots (s ∷ ss) = (refl, same_slots ss)

pub same_top : (t : Top) → SameTop t t
same_top (T.Function f) = record { name = refl; result = refl; body = refl; slots = same_slots f.slots }
same_top (T.Include b) = refl
same_top _ = refl

pub same_tops : (ts : List Top) → SameTops ts ts
same_tops [] = tt
same_tops (t ∷ ts) = (same_top t, same_tops ts)

changed_tops : {R : List Item → List Item → Type 0} {ts us : List Top} → OneBodyChanged R ts us → SameTops ts us
changed_tops (this_function f a b ts e r) = (record { name = refl; result = refl; body = sym (ap is_some e); slots = same_slots f.slots }, same_tops ts)
changed_tops (later_function t r) = (same_top t, changed_tops r)

-- ---- kinds in the other program

pub tops_over : (p q : Code) → SameKinds p q → (ts : List Top) → AllByRecursion (IsKindedTop p) ts → AllByRecursion (IsKindedTop q) ts
tops_over p q same [] h = tt
tops_over p q same (T.Function f ∷ ts) h = (
  everywhere_map (KindedItem p f.slots) (KindedItem q f.slots) (item_kept p q f.slots f.slots same (same_slots f.slots)) (body_of f) h.0,
  tops_over p q same ts h.1,
)
tops_over p q same (T.Include b ∷ ts) h = (tt, tops_over p q same ts h.1)
tops_over p q same (T.Enum es ∷ ts) h = (tt, tops_over p q same ts h.1)
tops_over p q same (T.Global g ∷ ts) h = (tt, tops_over p q same ts h.1)
tops_over p q same (T.Note b ∷ ts) h = (tt, tops_over p q same ts h.1)

-- a change of one body that keeps the kinds of its items
abbrev pub KeepsKinds : (List Item → List Item → Type 0) → Type 0
KeepsKinds R = (p : Code) (ss : List Slot) (a b : List Item) → R a b → Everywhere (KindedItem p ss) (trees_of a) → Everywhere (KindedItem p ss) (trees_of b)

body_kinds : {R : List Item → List Item → Type 0} → KeepsKinds R → (p : Code) (f : Function) (a b : List Item) → f.body ≡ Some a → R a b →
    IsKindedTop p (T.Function f) → IsKindedTop p (T.Function (with_body f b))
body_kinds k p f a b e r h = k p f.slots a b r (subst (λ o. Everywhere (KindedItem p f.slots) (option_map_or trees_of o Nil)) e h)

pub program_kinds : {R : List Item → List Item → Type 0} → KeepsKinds R → (p q : Program) → OneBodyChanged R p.tops q.tops → IsKindedProgram p →
    IsKindedProgram q
program_kinds k p q r h =
    let c = code_of p in
    let i = tops_kept (IsKindedTop c) (body_kinds k c) r (recursion_from_All (IsKindedTop c) p.tops h) in
    All-from_recursion (IsKindedTop (code_of q)) q.tops (tops_over c (code_of q) (signatures_same p q (changed_tops r)) q.tops i)
