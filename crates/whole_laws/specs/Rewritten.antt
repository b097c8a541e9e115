-- A whole program rewritten, on trees: each function gets its flat form, its gotos are converted and moved until
-- no Leap is left, and what that made is simplified. Names of labels, slots and guards aside.
use Rattle.std.specs.Prelude.{◌+◌, ◌≡◌, true, false, List, [], ◌∷◌, length, take, drop, Some, None, cond}
use Rattle.std.specs.List.{AllByRecursion}
use Rattle.c_tree.specs.declared.tree.Item.{Item}
use Rattle.c_tree.specs.declared.tree.Slot.{Slot}
use Rattle.c_tree.specs.declared.tree.Function.{Function}
use Rattle.c_tree.specs.declared.tree.Top.{Top}
use Rattle.c_tree.specs.declared.tree.Top.TheVariants as T
use Rattle.c_tree.specs.declared.tree.Program.{Program}
use Rattle.c_tree.specs.Trees.{trees_of}
use Rattle.c_tree.specs.Everywhere.{total}
use Rattle.c_tree.specs.InRange.{body_of}
use Rattle.flat_laws.specs.Pieces.{Stays}
use Rattle.c_tree.specs.Numerals.{constant}
use Rattle.flat_laws.specs.Loose.{Setting, NoArrival, ExtendSlots}
use Rattle.flat_laws.proofs.Spelled.{spelled_numbers}
use Rattle.flat_laws.specs.Parts.{has_jumps, variables_of}
use Rattle.flat_laws.specs.FlatForm.{Plan, flat, marks, coded, numbered, first_here, flat_body}
use Rattle.flat_laws.specs.Source.{HaveVariables}
use Rattle.flat_laws.specs.Unlabelled.{unlabelled}
use Rattle.flat_laws.specs.FlatWellMadeLaws.{label_count}
use Rattle.report_moves.specs.declared.moves.Move.{Move}
use Rattle.move_order_laws.specs.Moved.{MovedTops}

-- ---- flat forms

-- the numbers of the labels of the flat form of a function
abbrev pub plan_of : Function → Plan
plan_of f =
    let p = coded constant f.slots (length f.labels) (body_of f) in
    numbered (marks (flat p (first_here (length f.slots)) Stays Stays NoArrival (body_of f))) p

-- g has the slots of f and further ones, and the labels of its flat form
abbrev pub setting : Function → Function → Setting
setting f g = record {
  labels = λ l. cond ((plan_of f).live l) (Some ((plan_of f).source l)) None;
  params = f.params;
  old = f.slots;
  new = g.slots;
  number = constant;
  numbers = spelled_numbers;
}

-- g has no labels
abbrev pub without_labels : Function → Function → Setting
without_labels f g = record { labels = λ l. None; params = f.params; old = f.slots; new = g.slots; number = constant; numbers = spelled_numbers }

-- g is the flat form of f
pub record IsFlatForm (f g : Function) : Type 0 where
  pub old : List Item
  pub new : List Item
  pub old_body : f.body ≡ Some old
  pub new_body : g.body ≡ Some new
  pub trees : trees_of new ≡ flat_body constant f.slots (length f.labels) (trees_of old)
  pub flat : g.flat ≡ true
  pub name : f.name ≡ g.name
  pub result : f.result ≡ g.result
  pub params : f.params ≡ g.params
  pub file_only : f.file_only ≡ g.file_only
  -- its parameters are those of f; its other variables, none of them const, have the kinds and cells of those of f, and
  -- there is a number more for each scattered switch
  pub parameters : take f.params g.slots ≡ take f.params f.slots
  pub constants : AllByRecursion (λ (s : Slot). s.constant ≡ false) (drop f.params g.slots)
  pub slots : ExtendSlots f.slots g.slots
  pub more_slots : length g.slots ≡ length f.slots + total variables_of (trees_of old)
  pub variables : HaveVariables (setting f g) (first_here (length f.slots)) (trees_of old)
  -- and the labels that stand in it
  pub labels : length g.labels ≡ label_count f.slots (length f.labels) (trees_of old)

-- g is f without its labels
pub record IsUnlabelledForm (f g : Function) : Type 0 where
  pub old : List Item
  pub new : List Item
  pub old_body : f.body ≡ Some old
  pub new_body : g.body ≡ Some new
  pub trees : trees_of new ≡ unlabelled (trees_of old)
  pub flat : g.flat ≡ false
  pub name : f.name ≡ g.name
  pub result : f.result ≡ g.result
  pub params : f.params ≡ g.params
  pub file_only : f.file_only ≡ g.file_only
  pub slots : g.slots ≡ f.slots
  pub labels : g.labels ≡ []

abbrev pub IsNoFunction : Top → Type 0
IsNoFunction (T.Function f) = ⊥
IsNoFunction _ = Unit {0}

pub data FlatTop : Top → Top → Type 0 where
  ft_flat : {f g : Function} → has_jumps (body_of f) ≡ true → IsFlatForm f g → FlatTop (T.Function f) (T.Function g)
  ft_unlabelled : {f g : Function} → has_jumps (body_of f) ≡ false → IsUnlabelledForm f g → FlatTop (T.Function f) (T.Function g)
  ft_declared : (f : Function) → f.body ≡ None → FlatTop (T.Function f) (T.Function f)
  ft_other : (t : Top) → IsNoFunction t → FlatTop t t

pub data FlatTops : List Top → List Top → Type 0 where
  ft_none : FlatTops [] []
  ft_more : {t u : Top} {ts us : List Top} → FlatTop t u → FlatTops ts us → FlatTops (t ∷ ts) (u ∷ us)

-- q is what p is rewritten to, by these moves in this order
pub record IsRewritten (p q : Program) (ms : List Move) : Type 0 where
  pub flat : Program
  pub flattened : FlatTops p.tops flat.tops
  pub moved : MovedTops flat.tops q.tops ms
