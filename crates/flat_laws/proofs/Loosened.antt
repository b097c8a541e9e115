-- A program and a looser one behave the same, and the second meets no Arm where the first meets none.
use Rattle.std.proofs.Common.{ℕ, suc, ◌≤◌, ◌<◌, ◌+◌, ℤ, true, false, cond, nat_lt, List, [], ◌∷◌, length, Option, Some, None, ◌≡◌, refl, sym, ◌∙◌, ap, subst, arith}
use Rattle.c_types.specs.declared.kinds.IntKind.{IntKind}
use Rattle.c_types.specs.Numbers.{converted, promoted}
use Rattle.c_tree.specs.ExpressionTrees.{ExpressionTree}
use Rattle.c_tree.specs.Trees.{Forest, Then, Sections, Goto, Mark, join}
use Rattle.jump_meaning.specs.Values.{Owner, OfCall, Variable, Holds, Value, Designates, integer}
use Rattle.jump_meaning.specs.Code.{Code}
use Rattle.jump_meaning.specs.World.{World, put, store, with_number}
use Rattle.jump_meaning.specs.Calls.{is_array_slot, is_array}
use Rattle.jump_meaning.specs.Effects.{Computes, Converts, Drops, Stores, Sets, Clears, Does, initialise}
use Rattle.jump_meaning.specs.Tasks.{Task, Runs, Works, Enters, items}
use Rattle.jump_meaning.specs.Search.{ToCase, ToDefault, seek_sections, first_of_three, find}
use Rattle.jump_meaning.specs.Step.{Guards, Frame, State, At, perform}
use Rattle.jump_meaning.proofs.TaskFacts.{items_join}
use Rattle.core_laws.proofs.Reach.{Reach, stay, more, reach_on}
use Rattle.core_laws.proofs.Match.{SafeAt}
use Rattle.flat_laws.specs.Pieces.{Aim, Becomes, IsMoved, assigned_cells, Names, wanted_among, tests_among}
use Rattle.flat_laws.specs.Placed.{ArePlaced}
use Rattle.flat_laws.specs.Loose.{Setting, AreIn, slot_of, IsLocal, IsNew, Mode, Open, Jumped, Inner, in_open, in_last, IsOtherwise, Spread, ls_falls, IsLooser, lf_looser, LooserCode}
use Rattle.flat_laws.proofs.Worlds.{over, Seen, changed_alike, hidden_alike}
use Rattle.flat_laws.proofs.Effects.{numbers}
use Rattle.flat_laws.proofs.Controls.{Control, ct_skip, Still, st_control, st_clears, wt_cell}
use Rattle.flat_laws.proofs.ControlFacts.{last_mark}
use Rattle.flat_laws.proofs.Scatter.{Where, hit, miss, where_among}
use Rattle.flat_laws.proofs.Tests as tests
use Rattle.flat_laws.proofs.Tests.{turned, GoesTo, goes_among}
use Rattle.flat_laws.proofs.Stores.{put_here, cell_place}
use Rattle.flat_laws.proofs.Names.{opens_of, opens, Shapes, AlikeIn, RefersIn, number_shaped, zeros_shaped}
use Rattle.flat_laws.proofs.Running.{body, rn_still, Stack, Related, rl_at}
use Rattle.std.proofs.Common.{eqb}
use Rattle.flat_laws.proofs.Names.{number_shaped, zeros_shaped}
use Rattle.flat_laws.proofs.Joints.{J, go, go_two, initialised, still, held_new, agree_here, open_here, owner_here, asks}

module _ (p q : Code) (lo : LooserCode p q) where
  module _ (names : ℕ → List ℕ) (f : List ℕ) (g : Guards) (d : ℕ) (l : IsLooser (p.functions f) (q.functions f)) (eq : lo.functions f ≡ lf_looser l)
      (here : names (suc d) ≡ f) {cs cs' : List Frame} (t : Stack p q lo names d cs cs') where
    abbrev S : Setting
    S = l.setting

    abbrev B : Forest
    B = body p q lo f

    -- a store in both, and one of the second alone
    record Stored (w : World) (s : Owner → Variable) (v : Value) (z : ℤ) : Type 0 where
      pub memory : Owner → Variable
      pub is : store v z (over s w) ≡ over memory (store v z w)
      pub calls : (store v z w).calls ≡ suc d
      pub alike : AlikeIn p q lo names (store v z w) memory

    stored : (w : World) (s : Owner → Variable) (c : w.calls ≡ suc d) (a : AlikeIn p q lo names w s) (v : Value) (z : ℤ) →
        RefersIn p q lo names (suc d) v → Stored w s v z
    stored w s c a (Designates o i) z r = record {
      memory = put o (with_number i z (s o)) s;
      is = refl;
      calls = c;
      alike = changed_alike (opens p q lo names) (Shapes p q lo names)
          (numbers (opens p q lo names) (Shapes p q lo names) (number_shaped p q lo names) (zeros_shaped p q lo names) i z) o w s
          (subst (λ n. Seen (opens p q lo names) (Shapes p q lo names) n o) (sym c) r) a;
    }
    stored w s c a _ z r = record { memory = s; is = refl; calls = c; alike = a }

    module _ (w : World) (s : Owner → Variable) (c : w.calls ≡ suc d) (a : AlikeIn p q lo names w s) where
      abbrev JT : List Task → List Task → List Value → List Value → Type 0
      JT k k' v v' = J p q lo (At f g k v cs w) (At f g k' v' cs' (over s w))

      -- the last initialiser of a number
      pub ends_number : {x y : Aim} (v : Value) (x0 : ℕ) (z : Value) {k k' : List Task} → IsLocal S x0 → (slot_of S x0).cells ≡ None →
          RefersIn p q lo names (suc d) v → Control S B Open x y k k'
          → JT (Works (Sets x0 0 []) ∷ k) (Works Stores ∷ Works Drops ∷ k') (z ∷ v ∷ []) (z ∷ v ∷ [])
      ends_number v x0 z {k = k} {k' = k'} b ce r h =
          let n = stored w s c a v (integer z) r in
          let w1 = store v (integer z) w in
          let u = held_new p q lo names f g d l eq here t w1 n.memory n.calls n.alike x0 b.0 None ce in
          let y : is_array_slot x0 w1 ≡ false = ap is_array (agree_here p q lo names f g d l eq here t w1 n.memory n.calls n.alike x0 b.1 ∙ u.1) in
          go p q lo
          (subst (λ b. Related p q lo (perform p (Does (cond b (Clears x0 1 ∷ []) []) [] w1) f g k cs) (At f g k' [] cs' (over n.memory w1))) (sym y)
          (still p q lo names f g d l eq here t w1 n.memory n.calls n.alike (st_control h)))
          tt (more tt (tests.turn q f g cs' (over s w) (ap (λ z. At f g k' [] cs' z) n.is) stay))

      -- an initialiser of an array
      pub ends_cell : {x y : Aim} (v : Value) (ki : IntKind) (x0 i : ℕ) (es : List ExpressionTree) (m : ℕ) (z : Value) {k j : List Task} →
          IsLocal S x0 → (slot_of S x0).cells ≡ Some (suc i + (length es + m)) → AreIn S es → RefersIn p q lo names (suc d) v → Control S B Open x y k j
          → JT (Works (Sets x0 i es) ∷ k) (Works Stores ∷ Works Drops ∷ items (assigned_cells ki x0 (suc i) es m) j) (z ∷ v ∷ []) (z ∷ v ∷ [])
      ends_cell v ki x0 i [] m z {k = k} {j = j} b ce e r h =
          let n = stored w s c a v (integer z) r in
          let w1 = store v (integer z) w in
          let u = held_new p q lo names f g d l eq here t w1 n.memory n.calls n.alike x0 b.0 (Some (suc i + (0 + m))) ce in
          let y : is_array_slot x0 w1 ≡ true = ap is_array (agree_here p q lo names f g d l eq here t w1 n.memory n.calls n.alike x0 b.1 ∙ u.1) in
          let o : suc i + (0 + m) ≡ suc i + m = omega arith in
          go p q lo
          (subst (λ b. Related p q lo (perform p (Does (cond b (Clears x0 (suc i) ∷ []) []) [] w1) f g k cs)
          (At f g (items (assigned_cells ki x0 (suc i) [] m) j) [] cs' (over n.memory w1))) (sym y)
          (still p q lo names f g d l eq here t w1 n.memory n.calls n.alike (st_clears ki x0 (suc i) m b (ce ∙ ap Some o) h)))
          tt (more tt (tests.turn q f g cs' (over s w) (ap (λ z. At f g (items (assigned_cells ki x0 (suc i) [] m) j) [] cs' z) n.is) stay))
      ends_cell v ki x0 i (e ∷ es) m z {k = k} {j = j} b ce e' r h =
          let n = stored w s c a v (integer z) r in
          let w1 = store v (integer z) w in
          let size = suc i + (suc (length es) + m) in
          let u = held_new p q lo names f g d l eq here t w1 n.memory n.calls n.alike x0 b.0 (Some size) ce in
          let o = owner_here p q lo names f g d l eq here t w1 n.memory n.calls n.alike x0 (slot_of S x0).kind (Some size) u.0
          (agree_here p q lo names f g d l eq here t w1 n.memory n.calls n.alike x0 b.1 ∙ u.1) in
          let next : size ≡ suc (suc i) + (length es + m) = omega arith in
          let refers : RefersIn p q lo names (suc d) (Designates (OfCall w1.calls x0) (suc i)) =
          (let y = n.calls in omega (arith, y), open_here p q lo names f g d l eq here t w1 n.memory n.calls n.alike x0 b.1) in
          go p q lo
          (subst (λ z. Related p q lo (At f g (Works (Computes e) ∷ Works (Sets x0 (suc i) es) ∷ k) (Designates z (suc i) ∷ []) cs w1)
          (At f g (Works (Computes e) ∷ Works Stores ∷ Works Drops ∷ items (assigned_cells ki x0 (suc (suc i)) es m) j)
          (Designates (OfCall w1.calls x0) (suc i) ∷ []) cs' (over n.memory w1))) (sym o)
          (asks p q lo names f g d l eq here t w1 n.memory n.calls n.alike e e'.0
          (wt_cell (Designates (OfCall w1.calls x0) (suc i)) ki x0 (suc i) es m b (ce ∙ ap Some next) e'.1 h) (refers, tt)))
          tt (more tt (tests.turn q f g cs' (over s w) (ap (λ z. At f g (items (assigned_cells ki x0 (suc i) (e ∷ es) m) j) [] cs' z) n.is)
          (cell_place q f g cs' (over n.memory w1) ki x0 (suc i) size e (slot_of S x0).kind u.0 (items (assigned_cells ki x0 (suc (suc i)) es m) j)
          u.1 (omega arith))))

      -- an initialiser of a declaration that stays
      pub sets : {x y : Aim} (v : Value) (x0 i : ℕ) (es : List ExpressionTree) (z : Value) {k k' : List Task} → x0 < length S.old → AreIn S es →
          RefersIn p q lo names (suc d) v → Control S B Open x y k k'
          → JT (Works (Sets x0 i es) ∷ k) (Works (Sets x0 i es) ∷ k') (z ∷ v ∷ []) (z ∷ v ∷ [])
      sets v x0 i es z {k = k} {k' = k'} b e r h =
          let n = stored w s c a v (integer z) r in
          let w1 = store v (integer z) w in
          go p q lo
          (subst (λ u. Related p q lo (perform p (initialise x0 (suc i) es [] w1) f g k cs) (perform q (initialise x0 (suc i) es [] u) f g k' cs')) (sym n.is)
          (initialised p q lo names f g d l eq here t w1 n.memory n.calls n.alike x0 (suc i) es b e h)) tt stay

      -- where the second gets to from the tests of a switch, against the tasks of the first
      record Entered (memory : Owner → Variable) (first start : List Task) : Type 0 where
        pub tasks : List Task
        pub reached : Reach q SafeAt (At f g start [] cs' (over memory w)) (At f g tasks [] cs' (over memory w))
        pub related : Still S B first tasks

      module _ (j : IntKind) (v : ℕ) (z : Value) (i : IsNew S v) (ce : (slot_of S v).cells ≡ None) (ke : (slot_of S v).kind ≡ promoted j) where
        abbrev memory : Owner → Variable
        memory = put (OfCall w.calls v) (with_number 0 (integer z) (s (OfCall w.calls v))) s

        beyond : (x n : ℕ) → n ≤ x → nat_lt x n ≡ false
        beyond x n h = grind (arith, h)

        hidden : opens p q lo names w.calls v ≡ false
        hidden = ap (λ n. opens_of (lo.functions (names n)) v) c ∙ ap (λ n. opens_of (lo.functions n) v) here ∙ ap (λ z. opens_of z v) eq ∙
            beyond v (length S.old) i.1

        memory_alike : AlikeIn p q lo names w memory
        memory_alike = hidden_alike (opens p q lo names) (Shapes p q lo names)
            (numbers (opens p q lo names) (Shapes p q lo names) (number_shaped p q lo names) (zeros_shaped p q lo names) 0 (integer z)) w.calls v w s hidden a

        abbrev number : ℤ
        number = converted (promoted j) (integer z)

        selected : (cells : ℕ → ℤ) → s (OfCall w.calls v) ≡ Holds (slot_of S v).kind None cells →
            memory (OfCall w.calls v) ≡ Holds (slot_of S v).kind None (λ i. cond (eqb 0 i) (converted (slot_of S v).kind (integer z)) (cells i))
        selected cells e = put_here (OfCall w.calls v) (with_number 0 (integer z) (s (OfCall w.calls v))) s ∙ ap (with_number 0 (integer z)) e

        selected_number : converted (slot_of S v).kind (integer z) ≡ number
        selected_number = ap (λ k. converted k (integer z)) ke

        module _ {m0 n0 : Mode} {x y : Aim} (b' : Aim) (names' : Names) (m : ℕ) {sections : Sections} {ys : Forest} {k k' : List Task}
            (n : IsMoved b') (fits : Inner m0 n0) (o : IsOtherwise (wanted_among ToDefault names' sections) b' m)
            (fs : Spread S n0 b' y names' sections ys) (al : ArePlaced B ys k') (h : Control S B m0 x y k k') where
          abbrev ts : Forest
          ts = tests_among S.number (promoted j) v names' sections

          abbrev after : List Task
          after = Runs (Goto m) ∷ items ys k'

          abbrev at_tasks : List Task → State
          at_tasks k = At f g k [] cs' (over memory w)

          -- the tests lead to the label of the case, or past them
          abbrev Leads : Option ℕ → Type 0
          Leads (Some l) = Reach q SafeAt (at_tasks (items ts after)) (at_tasks (find l B))
          Leads None = Reach q SafeAt (at_tasks (items ts after)) (at_tasks after)

          known : (cells : ℕ → ℤ) (e : s (OfCall w.calls v) ≡ Holds (slot_of S v).kind None cells) (l : Option ℕ)
              → GoesTo q f g cs' (over memory w) v (slot_of S v).kind (λ i. cond (eqb 0 i) (converted (slot_of S v).kind (integer z)) (cells i))
              number (selected cells e) selected_number j ke (integer z) refl S.number S.numbers names' l ts after → Leads l
          known cells e (Some l) r = r
          known cells e None r = r

          leads : Leads (wanted_among (ToCase (promoted j) number) names' sections)
          leads =
              let u = held_new p q lo names f g d l eq here t w s c a v i.0 None ce in
              known u.0 u.1 (wanted_among (ToCase (promoted j) number) names' sections)
              (goes_among q f g cs' (over memory w) v (slot_of S v).kind (λ i. cond (eqb 0 i) (converted (slot_of S v).kind (integer z)) (u.0 i))
              number (selected u.0 u.1) selected_number j ke (integer z) refl S.number S.numbers names' sections after)

          never : {l : ℕ} {y : Aim} {names' : Names} {sections : Sections} {ys : Forest} → Spread S Jumped (Becomes l) y names' sections ys → ⊥
          never (ls_falls cases default fa fs) = never fs

          -- the label behind the switch, where there is one
          behind_it : {m0 n0 : Mode} {x y : Aim} {k k' : List Task} → Inner m0 n0 → Spread S n0 (Becomes m) y names' sections ys →
              Control S B m0 x y k k' → Control S B Open x y k (Runs (Mark m) ∷ k')
          behind_it in_open fs h = ct_skip m h
          behind_it (in_last last) fs h = absurd (never fs)

          to_default : (r : Option (List Task)) (l : Option ℕ) → Where S B r l → IsOtherwise l b' m → Entered memory (first_of_three None r k) after
          to_default r l (hit i i' u e1 e2 e3 st) ow = record {
            tasks = i';
            reached = more tt (tests.turn q f g cs' (over memory w) (ap at_tasks (ap (λ z. find z B) (subst (λ z. IsOtherwise z b' m) e2 ow) ∙ e3)) stay);
            related = subst (λ z. Still S B (first_of_three None z k) i') (sym e1) st;
          }
          to_default r l (miss e1 e2) ow = record {
            tasks = Runs (Mark m) ∷ k';
            reached = more tt (tests.turn q f g cs' (over memory w)
                (ap at_tasks (last_mark S B (subst (λ z. Spread S n0 z y names' sections ys) (subst (λ z. IsOtherwise z b' m) e2 ow) fs) al)) stay);
            related = subst (λ z. Still S B (first_of_three None z k) (Runs (Mark m) ∷ k')) (sym e1)
                (st_control (behind_it fits (subst (λ z. Spread S n0 z y names' sections ys) (subst (λ z. IsOtherwise z b' m) e2 ow) fs) h));
          }

          to_case : (r : Option (List Task)) (l : Option ℕ) → Where S B r l → Leads l →
              Entered memory (first_of_three r (seek_sections ToDefault sections k) k) (items ts after)
          to_case r l (hit i i' u e1 e2 e3 st) led = record {
            tasks = i';
            reached = tests.turned q f g cs' (over memory w) (subst Leads e2 led) (ap at_tasks e3);
            related = subst (λ z. Still S B (first_of_three z (seek_sections ToDefault sections k) k) i') (sym e1) st;
          }
          to_case r l (miss e1 e2) led =
              let behind = to_default (seek_sections ToDefault sections k) (wanted_among ToDefault names' sections)
              (where_among S B ToDefault refl n fs fits al h) o in
              record {
                tasks = behind.tasks;
                reached = reach_on (subst Leads e2 led) behind.reached;
                related = subst (λ z. Still S B (first_of_three z (seek_sections ToDefault sections k) k) behind.tasks) (sym e1) behind.related;
              }

          pub selects : JT (Works (Converts (promoted j)) ∷ Enters (promoted j) sections ∷ k)
              (Works Stores ∷ Works Drops ∷ items (join ts (Then (Goto m) ys)) k') (z ∷ []) (z ∷ Designates (OfCall w.calls v) 0 ∷ [])
          selects =
              let r = to_case (seek_sections (ToCase (promoted j) number) sections k) (wanted_among (ToCase (promoted j) number) names' sections)
              (where_among S B (ToCase (promoted j) number) refl n fs fits al h) leads in
              go_two p q lo (rl_at names f g d w memory c here memory_alike (rn_still l eq r.related) t) tt
              (more tt (tests.turn q f g cs' (over memory w) (ap at_tasks (items_join ts (Then (Goto m) ys) k')) r.reached))
