-- Programs made from one another by conversions, moves and simplifications, one function at a time.
use Rattle.std.proofs.Common.{◌≡◌, true, List, [], ◌∷◌, Some, option_map, refl, sym, ap, subst}
use Rattle.c_tree.specs.declared.tree.Item.{Item}
use Rattle.c_tree.specs.declared.tree.Slot.{Slot}
use Rattle.c_tree.specs.declared.tree.Function.{Function}
use Rattle.c_tree.specs.declared.tree.Top.{Top}
use Rattle.c_tree.specs.declared.tree.Top.TheVariants as T
use Rattle.c_tree.specs.declared.tree.Program.{Program}
use Rattle.c_tree.specs.Trees.{trees_of}
use Rattle.c_tree.specs.Everywhere.{Everywhere}
use Rattle.c_tree.specs.WellMade.{IsWellMade}
use Rattle.jump_meaning.specs.Code.{Code, code_of}
use Rattle.jump_meaning.specs.Runs.{BehaveTheSame}
use Rattle.jump_meaning.specs.Steady.{IsSteady}
use Rattle.jump_meaning.proofs.RunFacts.{same_refl, same_trans}
use Rattle.guard_vars.specs.Conversion.{converted, converted_list}
use Rattle.move_laws.specs.Bodies.{with_body, OneBodyChanged, this_function, later_function, IsExchange, KeepsBehaviour}
use Rattle.move_laws.proofs.ProgramsMoved.{change_map}
use Rattle.move_order_laws.specs.ConvertLaws as C
use Rattle.move_order_laws.specs.ConvertLaws.{OneFunctionConverted}
use Rattle.move_order_laws.proofs.ProgramsConverted.{converted_steady}
use Rattle.move_order_laws.proofs.OneDerivation.{well_made_derived}
use Rattle.move_order_laws.proofs.Behaviour.{derived_laws}
use Rattle.guard_simplify.proofs.Next.{choice_laws}
use Rattle.plain_laws.specs.Kinded.{KindedItem}
use Rattle.whole_laws.specs.WholeKindsLaws.{IsKindedProgram}
use Rattle.whole_laws.proofs.WholeKindsPrograms.{program_kinds}
use Rattle.whole_laws.proofs.Converted.{program_converted}
use Rattle.report_moves.specs.declared.moves.Move.{Move}
use Rattle.move_order_laws.specs.Moved.{IsMoved, MovedTop, mt_moved, mt_other, MovedTops, mt_none, mt_more}
use Rattle.whole_laws.proofs.BodiesKept.{kinds_derived, kinds_reached}

abbrev pub program : List Top → Program
program ts = record { tops = ts }

-- ---- one function

abbrev pub KeepsKindsOf : List Item → List Item → Type 0
KeepsKindsOf a b = (p : Code) (ss : List Slot) → Everywhere (KindedItem p ss) (trees_of a) → Everywhere (KindedItem p ss) (trees_of b)

pub data Step (ts us : List Top) : Type 0 where
  converts : OneFunctionConverted ts us → Step ts us
  changes : (a b : List Item) → OneBodyChanged (IsExchange a b) ts us → KeepsBehaviour a b → KeepsKindsOf a b → Step ts us

later_step : (t : Top) {ts us : List Top} → Step ts us → Step (t ∷ ts) (t ∷ us)
later_step t (converts r) = converts (C.later_function t r)
later_step t (changes a b r h k) = changes a b (later_function t r) h k

step_steady : {ts us : List Top} → Step ts us → IsSteady (program ts) → IsSteady (program us) × BehaveTheSame (program ts) (program us)
step_steady {ts} {us} (converts r) s = converted_steady (program ts) (program us) r s
step_steady {ts} {us} (changes a b r h k) s = h.programs (program ts) (program us) r s

exchanged_kinds : (a b : List Item) → KeepsKindsOf a b → (x y : List Item) → IsExchange a b x y → KeepsKindsOf x y
exchanged_kinds a b k x y e p ss h = subst (λ z. Everywhere (KindedItem p ss) (trees_of z)) (sym e.1)
    (k p ss (subst (λ z. Everywhere (KindedItem p ss) (trees_of z)) e.0 h))

step_kinds : {ts us : List Top} → Step ts us → IsKindedProgram (program ts) → IsKindedProgram (program us)
step_kinds {ts} {us} (converts r) h = program_converted (program ts) (program us) r h
step_kinds {ts} {us} (changes a b r s k) h = program_kinds {R = KeepsKindsOf} (λ p ss x y m i. m p ss i) (program ts) (program us)
    (change_map (exchanged_kinds a b k) r) h

-- ---- many

pub data Chain : List Top → List Top → Type 0 where
  done : {ts : List Top} → Chain ts ts
  next : {ts us vs : List Top} → Step ts us → Chain us vs → Chain ts vs

chain_both : {ts us vs : List Top} → Chain ts us → Chain us vs → Chain ts vs
chain_both done d = d
chain_both (next s c) d = next s (chain_both c d)

later_chain : (t : Top) {ts us : List Top} → Chain ts us → Chain (t ∷ ts) (t ∷ us)
later_chain t done = done
later_chain t (next s c) = next (later_step t s) (later_chain t c)

pub chain_steady : {ts us : List Top} → Chain ts us → IsSteady (program ts) → IsSteady (program us) × BehaveTheSame (program ts) (program us)
chain_steady (done {ts = ts}) s = (s, record { codes = same_refl (code_of (program ts)) })
chain_steady (next {ts = ts} {us = us} {vs = vs} t c) s =
    let a = step_steady t s in
    let b = chain_steady c a.0 in
    (b.0, record { codes = same_trans (code_of (program ts)) (code_of (program us)) (code_of (program vs)) a.1.codes b.1.codes })

pub chain_kinds : {ts us : List Top} → Chain ts us → IsKindedProgram (program ts) → IsKindedProgram (program us)
chain_kinds done h = h
chain_kinds (next t c) h = chain_kinds c (step_kinds t h)

-- ---- all moves of a program

-- the conversion of a flat function is well made
abbrev pub IsConvertible : Top → Type 0
IsConvertible (T.Function f) = f.flat ≡ true → (a : List Item) → f.body ≡ Some a → IsWellMade (trees_of (converted_list a))
IsConvertible _ = Unit {0}

abbrev pub AreConvertible : List Top → Type 0
AreConvertible [] = Unit {0}
AreConvertible (t ∷ ts) = IsConvertible t × AreConvertible ts

moved_function : (f g : Function) (ms : List Move) (ts : List Top) → f.flat ≡ true → IsConvertible (T.Function f) → IsMoved f g ms →
    Chain (T.Function f ∷ ts) (T.Function g ∷ ts)
moved_function f g ms ts flat w m =
    let made = w flat m.body m.body_is in
    let first = C.this_function f m.body ts flat m.body_is made in
    let a = converted_list m.body in
    let e : (converted f).body ≡ Some a = ap (option_map converted_list) m.body_is in
    let second : OneBodyChanged (IsExchange a m.middle) (T.Function (converted f) ∷ ts) (T.Function (with_body (converted f) m.middle) ∷ ts) =
    this_function (converted f) a m.middle ts e (refl, refl) in
    let third : OneBodyChanged (IsExchange m.middle m.new) (T.Function (with_body (converted f) m.middle) ∷ ts)
    (T.Function (with_body (converted f) m.new) ∷ ts) = this_function (with_body (converted f) m.middle) m.middle m.new ts refl (refl, refl) in
    let chain : Chain (T.Function f ∷ ts) (T.Function (with_body (converted f) m.new) ∷ ts) =
    next (converts first)
    (next (changes a m.middle second (derived_laws.behaviour a m.moves m.middle made m.derives) (λ p ss h. kinds_derived p ss m.derives h))
    (next (changes m.middle m.new third (choice_laws.reached_keeps m.middle m.new m.choices m.reaches (well_made_derived m.derives made))
    (λ p ss h. kinds_reached p ss m.reaches h))
    done)) in
    subst (λ z. Chain (T.Function f ∷ ts) (T.Function z ∷ ts)) (sym m.result) chain

moved_top : {t u : Top} {ms : List Move} (ts : List Top) → IsConvertible t → MovedTop t u ms → Chain (t ∷ ts) (u ∷ ts)
moved_top ts w (mt_moved {f = f} {g = g} {ms = ms} flat m) = moved_function f g ms ts flat w m
moved_top ts w (mt_other t n) = done

pub moved_tops : {ts us : List Top} {ms : List Move} → AreConvertible ts → MovedTops ts us ms → Chain ts us
moved_tops w mt_none = done
moved_tops w (mt_more {u = u} {ts = ts} m r) = chain_both (moved_top ts w.0 m) (later_chain u (moved_tops w.1 r))
