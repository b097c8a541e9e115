-- A function without jumps, without its labels, is looser.
use Rattle.std.proofs.Common.{ℕ, [], Option, Some, None, ◌≡◌, sym, ◌∙◌, subst, true≢false}
use Rattle.c_tree.specs.TestTrees.{Source, On, Off, AndOff, OrOn, Selects, Pick}
use Rattle.c_tree.specs.Everywhere.{Everywhere, EverywhereOf, EverywhereIn}
use Rattle.c_tree.specs.Trees.{Tree, Forest, Nil, Then, Sections, NoSection, Section, Evaluate, Return, If, While, Do, For, Switch, Block, Local, Break, Continue, Goto, Mark, Note, join}
use Rattle.c_tree.specs.Changed.{one}
use Rattle.c_tree.proofs.TreeLaws.{join-nil}
use Rattle.jump_meaning.specs.Code.{FunctionTree, items_of}
use Rattle.flat_laws.specs.Pieces.{Stays}
use Rattle.flat_laws.specs.Placed.{IsUnlabelled, IsUnlabelledAmong, IsOnce}
use Rattle.flat_laws.specs.Loose.{Setting, Open, NoArrival, LooserItem, lo_evaluate, lo_return, lo_return_none, lo_note, lo_if, lo_while, lo_do, lo_keep_block, lo_keep_for, lo_keep_declares, lo_keep_local, lo_break, lo_continue, lo_drop, lo_switch, Looser, la_nil, la_then, LooserSections, lc_none, lc_section, IsLooser}
use Rattle.flat_laws.proofs.ControlFacts.{unlabelled_placed}
use Rattle.flat_laws.proofs.Placing.{once_placed}
use Rattle.flat_laws.specs.Unlabelled.{unlabelled, unlabelled_item, unlabelled_among, IsCalmItem, IsUnlabelledFrom}

unlabelled_join : (a b : Forest) → IsUnlabelled a → IsUnlabelled b → IsUnlabelled (join a b)
unlabelled_join Nil b h k = k
unlabelled_join (Then x a) b h k = (h.0, unlabelled_join a b h.1 k)

mutual
  none_left : (a : Forest) → IsUnlabelled (unlabelled a)
  none_left Nil = tt
  none_left (Then x a) = unlabelled_join (unlabelled_item x) (unlabelled a) (none_left_in x) (none_left a)

  none_left_in : (x : Tree) → IsUnlabelled (unlabelled_item x)
  none_left_in (If t a b) = ((none_left a, none_left b), tt)
  none_left_in (While t a) = (none_left a, tt)
  none_left_in (Do a t) = (none_left a, tt)
  none_left_in (For first t u a) = (none_left a, tt)
  none_left_in (Switch s d) = (none_left_among d, tt)
  none_left_in (Block a) = (none_left a, tt)
  none_left_in (Mark l) = tt
  none_left_in _ = (tt, tt)

  none_left_among : (d : Sections) → IsUnlabelledAmong (unlabelled_among d)
  none_left_among NoSection = tt
  none_left_among (Section cases default a ends d) = (none_left a, none_left_among d)

module _ (s : Setting) (dropped : (l : ℕ) → s.labels l ≡ None) where
  abbrev Stay : Forest → Forest → Type 0
  Stay a b = Looser s Open Stays Stays NoArrival a b

  mutual
    kept : (a : Forest) → Everywhere (IsCalmItem s) a → Stay a (unlabelled a)
    kept Nil g = la_nil
    kept (Then x a) g = la_then (kept_item x g.0) (kept a g.1)

    kept_item : (x : Tree) → EverywhereOf (IsCalmItem s) x → LooserItem s Open Stays Stays NoArrival x (unlabelled_item x)
    kept_item (Evaluate e) g = lo_evaluate e g
    kept_item (Return (Some e)) g = lo_return e g
    kept_item (Return None) g = lo_return_none
    kept_item (Note bs) g = lo_note bs
    kept_item (If (Source t) a b) g = lo_if t g.0 (kept a g.1) (kept b g.2)
    kept_item (If (On l) a b) g = absurd g.0
    kept_item (If (Off l) a b) g = absurd g.0
    kept_item (If (AndOff l t) a b) g = absurd g.0
    kept_item (If (OrOn l t) a b) g = absurd g.0
    kept_item (While (Source t) a) g = subst (λ z. LooserItem s Open Stays Stays NoArrival (While (Source t) a) (one (While (Source t) z)))
        (join-nil (unlabelled a)) (lo_while t Stays Stays g.0 (kept a g.1))
    kept_item (While (On l) a) g = absurd g.0
    kept_item (While (Off l) a) g = absurd g.0
    kept_item (While (AndOff l t) a) g = absurd g.0
    kept_item (While (OrOn l t) a) g = absurd g.0
    kept_item (Do a (Source t)) g = subst (λ z. LooserItem s Open Stays Stays NoArrival (Do a (Source t)) (one (Do z (Source t))))
        (join-nil (unlabelled a)) (lo_do t Stays Stays g.0 (kept a g.1))
    kept_item (Do a (On l)) g = absurd g.0
    kept_item (Do a (Off l)) g = absurd g.0
    kept_item (Do a (AndOff l t)) g = absurd g.0
    kept_item (Do a (OrOn l t)) g = absurd g.0
    kept_item (For first t u a) g =
        subst (λ z. LooserItem s Open Stays Stays NoArrival (For first t u a) (one (For (unlabelled first) t u z))) (join-nil (unlabelled a))
        (lo_keep_for t u Stays Stays (none_left first) g.0.0 g.0.1 (kept first g.1) (kept a g.2))
    kept_item (Switch (Selects e) d) g = lo_switch e Stays g.0 (kept_among d g.1)
    kept_item (Switch (Pick l n t) d) g = absurd g.0
    kept_item (Block a) g = lo_keep_block (kept a g.1)
    kept_item (Local x None) g = lo_keep_declares x
    kept_item (Local x (Some es)) g = lo_keep_local x es g.0.1 g.2
    kept_item Break g = lo_break
    kept_item Continue g = lo_continue
    kept_item (Goto l) g = absurd (true≢false (sym g))
    kept_item (Mark l) g = lo_drop l (dropped l)
    kept_item _ g = absurd g

    kept_among : (d : Sections) → EverywhereIn (IsCalmItem s) d → LooserSections s Stays Stays d (unlabelled_among d)
    kept_among NoSection g = lc_none
    kept_among (Section cases default a ends d) g = lc_section cases default ends (kept a g.0) (kept_among d g.1)

abbrev is_there : Option ℕ → Type 0
is_there (Some n) = Unit {0}
is_there None = ⊥

pub without_labels : (s : Setting) (f g : FunctionTree) → IsUnlabelledFrom s f g → IsOnce (items_of f) → IsLooser f g
without_labels s f g i once = record {
  setting = s;
  defined = i.defined;
  new_defined = i.new_defined;
  related = subst (λ b. Looser s Open Stays Stays NoArrival (items_of f) b) (sym i.body) (kept s i.dropped (items_of f) i.items);
  placed = once_placed (items_of f) once;
  new_placed = unlabelled_placed (items_of g) (items_of g) [] (subst IsUnlabelled (sym i.body) (none_left (items_of f)));
  named = λ l n e. absurd (subst is_there (sym e ∙ i.dropped l) tt);
  result = i.result;
  params = i.params;
  slots = i.slots;
  same_params = i.same_params;
  same_old = i.same_old;
  same_new = i.same_new;
}
