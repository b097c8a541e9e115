-- A body without jumps has nothing that the rewriting would change.
use Rattle.std.proofs.Common.{◌≡◌, Bool, true, false, cond, true≢false, List, refl, sym, ap, ◌∙◌}
use Rattle.c_tree.specs.declared.tree.Function.{Function}
use Rattle.c_tree.specs.ExpressionTrees.{ExpressionTree}
use Rattle.c_tree.specs.Trees.{Tree, Forest, Nil, Then, Sections, NoSection, Section, If, While, Do, For, Switch, Block, Goto, Mark, Arrival}
use Rattle.c_tree.specs.Everywhere.{Everywhere, EverywhereOf, EverywhereIn}
use Rattle.c_tree.proofs.WellMoved.{everywhere_map, everywhere_both}
use Rattle.c_resolved_defs.specs.Form.{ends_with_break, IsKept, AreSections, HasSourceForm}
use Rattle.struct_meaning.specs.Structured.{IsStructured}
use Rattle.flat_laws.specs.Parts.{has_jumps}
use Rattle.plain_laws.specs.Tidied.{last_break, without_last, give, put_section, tidy, tidy_item, tidy_sections}
use Rattle.whole_laws.proofs.Unlabelled.{IsPlainItem}
use Rattle.whole_laws.proofs.PlainLengths.{no_jumps}
use Rattle.whole_laws.proofs.TidyForm.{ends_same}

-- ---- the sections of a source have their plain form

give_same : (cases : List ExpressionTree) (default : Bool) (a : Forest) (ends : Bool) (c : Sections) → IsKept a ends c →
    give cases default a ends c ≡ Section cases default a ends c
give_same cases default Nil false NoSection k = refl
give_same cases default Nil false (Section cases' default' b ends c) k = absurd k
give_same cases default Nil true c k = refl
give_same cases default (Then x a) ends c k = refl

put_by : (cases : List ExpressionTree) (default : Bool) (a : Forest) (ends b : Bool) (c : Sections) → last_break a ≡ b → (b ≡ true → ends ≡ true) →
    IsKept a ends c → put_section cases default a ends c ≡ Section cases default a ends c
put_by cases default a true b c e h k = give_same cases default a true c k
put_by cases default a false true c e h k = absurd (true≢false (sym (h refl)))
put_by cases default a false false c e h k = ap (λ l. cond l (give cases default (without_last a) true c) (give cases default a false c)) e ∙
    give_same cases default a false c k

put_same : (cases : List ExpressionTree) (default : Bool) (a : Forest) (ends : Bool) (c : Sections) → (ends_with_break a ≡ true → ends ≡ true) →
    IsKept a ends c → put_section cases default a ends c ≡ Section cases default a ends c
put_same cases default a ends c h k = put_by cases default a ends (last_break a) c refl (λ e. h (ends_same a ∙ e)) k

module _ (f : Function) where
  abbrev P : Tree → Type 0
  P x = HasSourceForm f x

  mutual
    pub tidy_same : (a : Forest) → Everywhere P a → tidy a ≡ a
    tidy_same Nil h = refl
    tidy_same (Then x a) h = λ i. Then (tidy_same_of x h.0 i) (tidy_same a h.1 i)

    tidy_same_of : (x : Tree) → EverywhereOf P x → tidy_item x ≡ x
    tidy_same_of (If t a b) h = λ i. If t (tidy_same a h.1 i) (tidy_same b h.2 i)
    tidy_same_of (While t a) h = ap (While t) (tidy_same a h.1)
    tidy_same_of (Do a t) h = ap (λ b. Do b t) (tidy_same a h.1)
    tidy_same_of (For first t u a) h = λ i. For (tidy_same first h.1 i) t u (tidy_same a h.2 i)
    tidy_same_of (Switch s c) h = ap (Switch s) (tidy_same_in c h.0.0 h.1)
    tidy_same_of (Block a) h = ap Block (tidy_same a h.1)
    tidy_same_of x h = refl

    tidy_same_in : (c : Sections) → AreSections c → EverywhereIn P c → tidy_sections c ≡ c
    tidy_same_in NoSection s h = refl
    tidy_same_in (Section cases default a ends c) s h = (λ i. put_section cases default (tidy_same a h.0 i) ends (tidy_same_in c s.4 h.1 i)) ∙
        put_same cases default a ends c s.1 s.2

-- ---- a body without jumps

plain_of : (f : Function) (x : Tree) → IsStructured x × HasSourceForm f x → IsPlainItem x
plain_of f (Goto l) h = absurd h.0
plain_of f (Mark l) h = absurd h.0
plain_of f (Arrival e) h = absurd h.0
plain_of f (For first t u a) h = tt
plain_of f (Switch s c) h = h.1.1
plain_of f _ h = h.1

pub plain_items : (f : Function) (a : Forest) → Everywhere IsStructured a → Everywhere (HasSourceForm f) a → Everywhere IsPlainItem a
plain_items f a h k = everywhere_map (λ x. IsStructured x × HasSourceForm f x) IsPlainItem (plain_of f) a (everywhere_both IsStructured (HasSourceForm f) a h k)

pub jumpless : (f : Function) (a : Forest) → Everywhere IsStructured a → Everywhere (HasSourceForm f) a → has_jumps a ≡ false
jumpless f a h k = no_jumps a (plain_items f a h k)
