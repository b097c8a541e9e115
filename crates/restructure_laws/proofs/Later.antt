-- What lawful moves make of each function.
use Rattle.std.proofs.Common.{◌≡◌, inl, inr, true, List, [], ◌∷◌, Some, sym, subst, ◌∙◌}
use Rattle.c_tree.specs.declared.tree.Item.{Item}
use Rattle.c_tree.specs.declared.tree.Function.{Function}
use Rattle.c_tree.specs.declared.tree.Top.{Top}
use Rattle.c_tree.specs.declared.tree.Top.TheVariants as T
use Rattle.c_tree.proofs.MoveLemmas.{some_same}
use Rattle.move_laws.specs.Bodies.{with_body}
use Rattle.report_moves.specs.declared.moves.Move.{Move}
use Rattle.restructure_laws.specs.Lawful.{IsMovedBy, OneMoved, this_function, later_function, Moves, none, more}
use Rattle.restructure_laws.proofs.ReplayedBodies.{IsChanged, leap_changed}
use Rattle.guard_simplify.proofs.Applied.{chosen_simplified}
use Rattle.whole_laws.proofs.Rewrites.{Rewrites, unchanged, moved, simplified, rewrites_both}

-- g is f, a flat function, with another body
pub record IsRewritten (f g : Function) : Type 0 where
  pub old : List Item
  pub new : List Item
  pub flat : f.flat ≡ true
  pub old_body : f.body ≡ Some old
  pub rewritten : Rewrites old new
  pub result : g ≡ with_body f new

pub data LaterTop : Top → Top → Type 0 where
  same_top : (t : Top) → LaterTop t t
  rewritten_top : {f g : Function} → IsRewritten f g → LaterTop (T.Function f) (T.Function g)

pub data LaterTops : List Top → List Top → Type 0 where
  no_more : LaterTops [] []
  one_more : {t u : Top} {ts us : List Top} → LaterTop t u → LaterTops ts us → LaterTops (t ∷ ts) (u ∷ us)

-- ---- one move after another

changed_rewrites : (name : List _) (labels : List (List _)) (m : Move) (old new : List Item) → IsChanged name labels m old new → Rewrites old new
changed_rewrites name labels m old new h = elim h [
  | inl j ↦ moved (leap_changed labels m old new j) (unchanged new)
  | inr z ↦ simplified (chosen_simplified z.made.choice old new z.made.named.among z.made.applied) (unchanged new)
]

one_rewritten : (m : Move) (f g : Function) → IsMovedBy m f g → IsRewritten f g
one_rewritten m f g h = record {
  old = h.body;
  new = h.new;
  flat = h.flat;
  old_body = h.body_is;
  rewritten = changed_rewrites f.name f.labels m h.body h.new h.made;
  result = h.result;
}

both_rewritten : (f g k : Function) → IsRewritten f g → IsRewritten g k → IsRewritten f k
both_rewritten f g k a b =
    let old_same : b.old ≡ a.new = some_same (sym b.old_body ∙ (λ i. (a.result i).body)) in
    record {
      old = a.old;
      new = b.new;
      flat = a.flat;
      old_body = a.old_body;
      rewritten = rewrites_both a.rewritten (subst (λ xs. Rewrites xs b.new) old_same b.rewritten);
      result = b.result ∙ (λ i. with_body (a.result i) b.new);
    }

both_tops : {t u v : Top} → LaterTop t u → LaterTop u v → LaterTop t v
both_tops (same_top t) l = l
both_tops (rewritten_top a) (same_top t) = rewritten_top a
both_tops (rewritten_top {f = f} {g = g} a) (rewritten_top {g = k} b) = rewritten_top (both_rewritten f g k a b)

all_same : (ts : List Top) → LaterTops ts ts
all_same [] = no_more
all_same (t ∷ ts) = one_more (same_top t) (all_same ts)

one_later : {m : Move} {ts us vs : List Top} → OneMoved m ts us → LaterTops us vs → LaterTops ts vs
one_later {m = m} (this_function {f = f} {g = g} ts h) (one_more l r) = one_more (both_tops (rewritten_top (one_rewritten m f g h)) l) r
one_later (later_function t o h) (one_more l r) = one_more l (one_later h r)

pub moves_later : {ts us : List Top} {ms : List Move} → Moves ts ms us → LaterTops ts us
moves_later {ts = ts} none = all_same ts
moves_later (more h r) = one_later h (moves_later r)
