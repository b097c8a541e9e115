-- Lawful moves in the functions of a program: what they keep, and that they make one program.
use Rattle.std.proofs.Common.{◌≡◌, ◌⊎◌, true, false, cond, List, [], ◌∷◌, Option, Some, None, option_map, refl, sym, ap, subst, ◌∙◌}
use Rattle.std.specs.List.{AllByRecursion}
use Rattle.c_tree.specs.declared.tree.Item.{Item}
use Rattle.c_tree.specs.declared.tree.Function.{Function}
use Rattle.c_tree.specs.declared.tree.Top.{Top}
use Rattle.c_tree.specs.declared.tree.Top.TheVariants as T
use Rattle.c_tree.specs.Trees.{trees_of}
use Rattle.c_tree.specs.WellMade.{IsWellMade}
use Rattle.c_tree.proofs.MoveLemmas.{some_same}
use Rattle.guard_vars.specs.Conversion.{converted, converted_list}
use Rattle.move_laws.specs.Bodies.{with_body, this_function, later_function}
use Rattle.move_order_laws.specs.ConvertLaws as C
use Rattle.report_moves.specs.declared.moves.Move.{Move}
use Rattle.whole_laws.proofs.Chains.{Step, converts, changes, Chain, done, next, IsConvertible, AreConvertible}
use Rattle.whole_laws.proofs.Flattened.{body_is}
use Rattle.restructure_laws.specs.Lawful as L
use Rattle.restructure_laws.specs.Lawful.{IsMovedBy, OneMoved, Moves, none, more}
use Rattle.restructure_laws.specs.Replayed.{converted_top, converted_tops, IsTopWellMade}
use Rattle.restructure_laws.proofs.ReplayedBodies.{kept}
use Rattle.restructure_laws.proofs.OneBody.{one_body}

-- ---- well made

abbrev pub AreWellMade : List Top → Type 0
AreWellMade ts = AllByRecursion IsTopWellMade ts

pub made_body : (f : Function) (a : List Item) → f.body ≡ Some a → f.flat ≡ true → IsTopWellMade (T.Function f) → IsWellMade (trees_of a)
made_body f a e flat w = subst IsWellMade (body_is f a e) (w flat)

pub moved_made : (m : Move) (f g : Function) → IsTopWellMade (T.Function f) → IsMovedBy m f g → IsTopWellMade (T.Function g)
moved_made m f g w h =
    let k = kept f.name f.labels m h.body h.new (made_body f h.body h.body_is h.flat w) h.made in
    subst (λ (z : Function). IsTopWellMade (T.Function z)) (sym h.result) (λ flat. subst IsWellMade (sym (body_is (with_body f h.new) h.new refl)) k.made)

pub one_made : {m : Move} {ts us : List Top} → AreWellMade ts → OneMoved m ts us → AreWellMade us
one_made {m = m} w (L.this_function {f = f} {g = g} ts h) = (moved_made m f g w.0 h, w.1)
one_made w (L.later_function t o h) = (w.0, one_made w.1 h)

pub all_made : {ts us : List Top} {ms : List Move} → AreWellMade ts → Moves ts ms us → AreWellMade us
all_made w none = w
all_made w (more h r) = all_made (one_made w h) r

-- ---- one program

same_function : (m : Move) (f g h : Function) → IsTopWellMade (T.Function f) → IsMovedBy m f g → IsMovedBy m f h → g ≡ h
same_function m f g h w a b =
    let e = some_same (sym a.body_is ∙ b.body_is) in
    let made = made_body f a.body a.body_is a.flat w in
    let new = one_body f f.name f.labels m a.body a.new b.new made a.made
    (subst (λ z. L.IsLeapMoved f.labels m z b.new ⊎ L.IsSimplifiedBy f.name f.labels m z b.new) (sym e) b.made) in
    a.result ∙ ap (with_body f) new ∙ sym b.result

pub one_moved : {m : Move} {ts us vs : List Top} → AreWellMade ts → OneMoved m ts us → OneMoved m ts vs → us ≡ vs
one_moved {m = m} w (L.this_function {f = f} {g = g} ts a) (L.this_function {g = h} xs b) =
    ap (λ (z : Function). T.Function z ∷ ts) (same_function m f g h w.0 a b)
one_moved w (L.this_function ts a) (L.later_function t o h) = absurd (o a.flat a.name)
one_moved w (L.later_function t o h) (L.this_function ts a) = absurd (o a.flat a.name)
one_moved w (L.later_function t o h) (L.later_function u p k) = ap (λ z. t ∷ z) (one_moved w.1 h k)

pub one_end : {ts us vs : List Top} {ms : List Move} → AreWellMade ts → Moves ts ms us → Moves ts ms vs → us ≡ vs
one_end w none none = refl
one_end w (more {ms = ms} {us = us} {vs = vs} h r) (more {us = xs} {vs = ys} k s) =
    let e = one_moved w h k in
    one_end (one_made w h) r (subst (λ z. Moves z ms ys) (sym e) s)

-- ---- chains

later_step : (t : Top) {ts us : List Top} → Step ts us → Step (t ∷ ts) (t ∷ us)
later_step t (converts r) = converts (C.later_function t r)
later_step t (changes a b r h k) = changes a b (later_function t r) h k

pub later_chain : (t : Top) {ts us : List Top} → Chain ts us → Chain (t ∷ ts) (t ∷ us)
later_chain t done = done
later_chain t (next s c) = next (later_step t s) (later_chain t c)

pub chain_both : {ts us vs : List Top} → Chain ts us → Chain us vs → Chain ts vs
chain_both done d = d
chain_both (next s c) d = next s (chain_both c d)

one_step : {m : Move} {ts us : List Top} → AreWellMade ts → OneMoved m ts us → Step ts us
one_step {m = m} w (L.this_function {f = f} {g = g} ts h) =
    let k = kept f.name f.labels m h.body h.new (made_body f h.body h.body_is h.flat w.0) h.made in
    subst (λ (z : Function). Step (T.Function f ∷ ts) (T.Function z ∷ ts)) (sym h.result)
    (changes h.body h.new (this_function f h.body h.new ts h.body_is (refl, refl)) k.behaviour k.kinds)
one_step w (L.later_function t o h) = later_step t (one_step w.1 h)

pub moves_chain : {ts us : List Top} {ms : List Move} → AreWellMade ts → Moves ts ms us → Chain ts us
moves_chain w none = done
moves_chain w (more h r) = next (one_step w h) (moves_chain (one_made w h) r)

-- ---- all conversions first

convert_by : (f : Function) (ts : List Top) (b : _) → f.flat ≡ b → (o : Option (List Item)) → f.body ≡ o → IsConvertible (T.Function f) →
    Chain (T.Function f ∷ ts) (T.Function (cond b (converted f) f) ∷ ts)
convert_by f ts false e o i w = done
convert_by f ts true e None i w =
    let same : f ≡ converted f = ap (λ (o : Option (List Item)). record f { body = o }) i ∙
    sym (ap (λ (o : Option (List Item)). record f { body = option_map converted_list o }) i) in
    subst (λ (z : Function). Chain (T.Function f ∷ ts) (T.Function z ∷ ts)) same done
convert_by f ts true e (Some a) i w = next (converts (C.this_function f a ts e i (w e a i))) done

convert_top : (t : Top) (ts : List Top) → IsConvertible t → Chain (t ∷ ts) (converted_top t ∷ ts)
convert_top (T.Function f) ts w = convert_by f ts f.flat refl f.body refl w
convert_top _ ts w = done

pub conversions : (ts : List Top) → AreConvertible ts → Chain ts (converted_tops ts)
conversions [] w = done
conversions (t ∷ ts) w = chain_both (convert_top t ts w.0) (later_chain (converted_top t) (conversions ts w.1))
