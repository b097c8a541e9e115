-- The flat forms of all functions of a source program: it is steady, behaves the same, and its kinds agree.
use Rattle.std.proofs.Common.{◌≡◌, false, true≢false, List, [], ◌∷◌, Option, Some, None, is_some, refl, sym, ap, subst, ◌∙◌}
use Rattle.std.specs.List.{AllByRecursion}
use Rattle.std.specs.Option.{option_map_or}
use Rattle.std.proofs.lemmas.List.Elements.{All-from_recursion, recursion_from_All}
use Rattle.c_tree.specs.declared.tree.Item.{Item}
use Rattle.c_tree.specs.declared.tree.Function.{Function}
use Rattle.c_tree.specs.declared.tree.Top.{Top}
use Rattle.c_tree.specs.declared.tree.Top.TheVariants as T
use Rattle.c_tree.specs.declared.tree.Program.{Program}
use Rattle.c_tree.specs.Trees.{Tree, Nil, Arm, Leap, Land, trees_of}
use Rattle.c_tree.specs.Everywhere.{Everywhere}
use Rattle.c_tree.specs.InRange.{body_of, IsUnguarded, IsTopInRange}
use Rattle.c_tree.specs.WellMade.{IsWellMade}
use Rattle.c_tree.proofs.WellMoved.{everywhere_map}
use Rattle.jump_meaning.specs.Code.{Code, code_of}
use Rattle.jump_meaning.specs.Laws.{IsTopUnflat}
use Rattle.jump_meaning.specs.Runs.{BehaveTheSame}
use Rattle.jump_meaning.specs.Steady.{IsUnarmed, IsMadeWell, IsTopMadeWell, IsSteady}
use Rattle.jump_meaning.proofs.UnguardedPrograms.{steady_laws}
use Rattle.flat_laws.specs.Loose.{LooserTop, lt_same, lt_function, LooserTops, lt_none, lt_more}
use Rattle.flat_laws.proofs.Lifted.{loose_laws}
use Rattle.c_tree.specs.Conversions.{convert}
use Rattle.move_order_laws.proofs.ConvertedTrees.{converted_trees}
use Rattle.plain_laws.specs.Kinded.{Grown}
use Rattle.plain_laws.specs.Signatures.{SameTop, SameTops}
use Rattle.plain_laws.proofs.SignaturesSame.{signatures_same}
use Rattle.whole_laws.specs.WholeKindsLaws.{IsKindedTop, IsKindedProgram}
use Rattle.whole_laws.proofs.WholeKindsPrograms.{same_slots, same_top, tops_over}
use Rattle.whole_laws.specs.Rewritten.{IsNoFunction, FlatTop, ft_flat, ft_unlabelled, ft_declared, ft_other, FlatTops, ft_none, ft_more}
use Rattle.whole_laws.proofs.Source.{IsSourceTop, IsSource}
use Rattle.whole_laws.proofs.Chains.{IsConvertible, AreConvertible}
use Rattle.whole_laws.proofs.KindsFlat.{form_kinded}
use Rattle.whole_laws.proofs.Flattened.{body_is, grown, flat_looser, flat_ranged, flat_made, flat_converted, unlabelled_looser, left_kinded, left_ranged, left_made}

-- ---- made well

unarmed : (x : Tree) → IsUnguarded x → IsUnarmed x
unarmed (Arm l e) h = absurd h
unarmed (Leap l) h = absurd h
unarmed (Land l) h = absurd h
unarmed _ h = tt

unflat_made : (f : Function) → f.flat ≡ false → Everywhere IsUnguarded (body_of f) → IsMadeWell f
unflat_made f e h = record { converted = λ c. absurd (true≢false (sym c.flat ∙ e)); other = λ n. everywhere_map IsUnguarded IsUnarmed unarmed (body_of f) h }

-- ---- what is known of each function of the flat program

pub record IsGoodTop (p : Code) (t u : Top) : Type 0 where
  pub looser : LooserTop t u
  pub ranged : IsTopInRange u
  pub made : IsTopMadeWell u
  pub convertible : IsConvertible u
  pub signature : SameTop t u
  pub kinded : IsKindedTop p u

no_body : (f : Function) → f.body ≡ None → body_of f ≡ Nil
no_body f e = ap (λ o. option_map_or trees_of o Nil) e

other_top : (p : Code) (t : Top) → IsNoFunction t → IsGoodTop p t t
other_top p (T.Function f) n = absurd n
other_top p (T.Include b) n = record { looser = lt_same refl; ranged = tt; made = tt; convertible = tt; signature = refl; kinded = tt }
other_top p _ n = record { looser = lt_same refl; ranged = tt; made = tt; convertible = tt; signature = refl; kinded = tt }

some_both : (a b : Option (List Item)) (x y : List Item) → a ≡ Some x → b ≡ Some y → is_some b ≡ is_some a
some_both a b x y e i = ap is_some i ∙ sym (ap is_some e)

good_top : (p : Code) {t u : Top} → IsSourceTop t → IsKindedTop p t → FlatTop t u → IsGoodTop p t u
good_top p s k (ft_flat {f = f} {g = g} jumps w) =
    record {
      looser = lt_function w.name (flat_looser f g s w);
      ranged = flat_ranged f g s w;
      made = flat_made f g s w;
      convertible = λ e a i. subst IsWellMade (ap convert (body_is g a i) ∙ sym (converted_trees a)) (flat_converted f g s w);
      signature = record {
        name = sym w.name;
        result = sym w.result;
        body = some_both f.body g.body w.old w.new w.old_body w.new_body;
        slots = grown f.slots g.slots w.slots;
      };
      kinded = form_kinded p f g s w k;
    }
good_top p s k (ft_unlabelled {f = f} {g = g} free w) =
    record {
      looser = lt_function w.name (unlabelled_looser f g s free w);
      ranged = left_ranged f g s free w;
      made = left_made f g s free w;
      convertible = λ e a i. absurd (true≢false (sym e ∙ w.flat));
      signature = record {
        name = sym w.name;
        result = sym w.result;
        body = some_both f.body g.body w.old w.new w.old_body w.new_body;
        slots = subst (Grown f.slots) (sym w.slots) (same_slots f.slots);
      };
      kinded = left_kinded f g s free w p k;
    }
good_top p s k (ft_declared f e) =
    record {
      looser = lt_same refl;
      ranged = s.ranged;
      made = unflat_made f s.unflat (subst (Everywhere IsUnguarded) (sym (no_body f e)) tt);
      convertible = λ flat a i. absurd (true≢false (sym flat ∙ s.unflat));
      signature = same_top (T.Function f);
      kinded = k;
    }
good_top p s k (ft_other t n) = other_top p t n

-- ---- of all

data AreGood (p : Code) : List Top → List Top → Type 0 where
  good_none : AreGood p [] []
  good_more : {t u : Top} {ts us : List Top} → IsGoodTop p t u → AreGood p ts us → AreGood p (t ∷ ts) (u ∷ us)

good_tops : (p : Code) {ts us : List Top} → AllByRecursion IsSourceTop ts → AllByRecursion (IsKindedTop p) ts → FlatTops ts us → AreGood p ts us
good_tops p s k ft_none = good_none
good_tops p s k (ft_more w r) = good_more (good_top p s.0 k.0 w) (good_tops p s.1 k.1 r)

module _ (p : Code) where
  are_looser : {ts us : List Top} → AreGood p ts us → LooserTops ts us
  are_looser good_none = lt_none
  are_looser (good_more g r) = lt_more g.looser (are_looser r)

  are_ranged : {ts us : List Top} → AreGood p ts us → AllByRecursion IsTopInRange us
  are_ranged good_none = tt
  are_ranged (good_more g r) = (g.ranged, are_ranged r)

  are_made : {ts us : List Top} → AreGood p ts us → AllByRecursion IsTopMadeWell us
  are_made good_none = tt
  are_made (good_more g r) = (g.made, are_made r)

  are_convertible : {ts us : List Top} → AreGood p ts us → AreConvertible us
  are_convertible good_none = tt
  are_convertible (good_more g r) = (g.convertible, are_convertible r)

  are_signatures : {ts us : List Top} → AreGood p ts us → SameTops ts us
  are_signatures good_none = tt
  are_signatures (good_more g r) = (g.signature, are_signatures r)

  are_kinded : {ts us : List Top} → AreGood p ts us → AllByRecursion (IsKindedTop p) us
  are_kinded good_none = tt
  are_kinded (good_more g r) = (g.kinded, are_kinded r)

-- ---- the program

top_unflat : (t : Top) → IsSourceTop t → IsTopUnflat t
top_unflat (T.Function f) s = s.unflat
top_unflat _ s = tt

top_ranged : (t : Top) → IsSourceTop t → IsTopInRange t
top_ranged (T.Function f) s = s.ranged
top_ranged _ s = tt

all_tops : (P Q : Top → Type 0) → ((t : Top) → P t → Q t) → (ts : List Top) → AllByRecursion P ts → AllByRecursion Q ts
all_tops P Q k [] h = tt
all_tops P Q k (t ∷ ts) h = (k t h.0, all_tops P Q k ts h.1)

pub source_steady : (p : Program) → IsSource p → IsSteady p
source_steady p s =
    let r = recursion_from_All IsSourceTop p.tops s.tops in
    steady_laws.of_programs p (All-from_recursion IsTopInRange p.tops (all_tops IsSourceTop IsTopInRange top_ranged p.tops r))
    (All-from_recursion IsTopUnflat p.tops (all_tops IsSourceTop IsTopUnflat top_unflat p.tops r))

pub record IsFlatProgram (p q : Program) : Type 0 where
  pub steady : IsSteady q
  pub same : BehaveTheSame p q
  pub convertible : AreConvertible q.tops
  pub kinded : IsKindedProgram q

pub flat_program : (p q : Program) → IsSource p → FlatTops p.tops q.tops → IsFlatProgram p q
flat_program p q s w =
    let c = code_of p in
    let g = good_tops c (recursion_from_All IsSourceTop p.tops s.tops) (recursion_from_All (IsKindedTop c) p.tops s.kinded) w in
    let r = loose_laws.of_programs p q (All-from_recursion IsTopInRange q.tops (are_ranged c g))
    (All-from_recursion IsTopMadeWell q.tops (are_made c g)) (are_looser c g) (source_steady p s) in
    record {
      steady = r.0;
      same = r.1;
      convertible = are_convertible c g;
      kinded = All-from_recursion (IsKindedTop (code_of q)) q.tops (tops_over c (code_of q) (signatures_same p q (are_signatures c g)) q.tops (are_kinded c g));
    }
