-- The declarations of a body declare its slots in text order.
use Rattle.std.proofs.Common.{ℕ, zero, suc, ◌+◌, ◌-◌, List, [], ◌∷◌, ◌++◌, length, ◌≡◌, refl, sym, ap, subst, ◌∙◌, arith, length-append}
use Rattle.c_tree.specs.Trees.{trees_of}
use Rattle.c_tree.proofs.TreeLaws.{tree-Local, trees-none, trees-more}
use Rattle.c_grammar.specs.Items.{Declarator, Label, Named, Case, Default, Start, NoStart, StartValue, StartNames, Item, Declares, States, Plain, From, Statement, Null, Evaluate, If, IfElse, While, DoWhile, For, Switch, Block, Body, Braces, Lone, Items, NoItem}
use Rattle.c_grammar.specs.Items as items
use Rattle.c_statements.specs.declared.extents.Kinded.{Kinded}
use Rattle.c_statements.specs.Context.{Context, Walk, env_in, enter}
use Rattle.c_statements.specs.Declarations.{kinded, declared, all_declared, slot_of, local, locals, initial, value_at}
use Rattle.c_statements.specs.Statements.{behind_start, behind_item, behind_plain, behind_statement, behind_body, behind_items}
use Rattle.c_resolved_defs.specs.Form.{gathered, gathered_of, declared_slot, numbers_from}
use Rattle.c_resolving_laws.proofs.Gathered.{Gathers, of_labels, of_start, of_item, of_plain, of_statement, of_body, of_list}

pub slots_gather : Gathers declared_slot
slots_gather = record { note = λ bs. refl; breaks = refl; arrives = λ e. refl; evaluates = λ e. refl; returns = λ e. refl; continues = refl; gotos = λ l. refl }

-- the numbers from a on, up to b
pub record Run (a b : ℕ) (xs : List ℕ) : Type 0 where
  pub count : ℕ
  pub last : b ≡ a + count
  pub run : xs ≡ numbers_from a count

run_none : (a : ℕ) → Run a a []
run_none a = record { count = 0; last = omega arith; run = refl }

from_both : (a k l : ℕ) → numbers_from a (k + l) ≡ numbers_from a k ++ numbers_from (a + k) l
from_both a zero l = λ i. numbers_from (start i) (none i)
  where
    start : a ≡ a + 0
    start = omega arith

    none : 0 + l ≡ l
    none = omega arith
from_both a (suc k) l =
    let e : suc k + l ≡ suc (k + l) = omega arith in
    let f : suc a + k ≡ a + suc k = omega arith in
    ap (numbers_from a) e ∙ ap (λ x. a ∷ x) (from_both (suc a) k l ∙ ap (λ n. numbers_from (suc a) k ++ numbers_from n l) f)

run_both : (a b c : ℕ) (xs ys : List ℕ) → Run a b xs → Run b c ys → Run a c (xs ++ ys)
run_both a b c xs ys r s =
    record {
      count = r.count + s.count;
      last = let h = r.last in let k = s.last in omega arith;
      run = (λ i. r.run i ++ (s.run ∙ ap (λ n. numbers_from n s.count) r.last) i) ∙ sym (from_both a r.count s.count);
    }

run_as : (a b : ℕ) (xs ys : List ℕ) → xs ≡ ys → Run a b ys → Run a b xs
run_as a b xs ys e r = subst (Run a b) (sym e) r

module _ (ctx : Context) where
  abbrev at : Walk → ℕ
  at w = length w.slots

  abbrev Runs : Walk → Walk → List ℕ → Type 0
  Runs v w xs = Run (at v) (at w) xs

  labels_none : (ls : List Label) → of_labels ctx declared_slot slots_gather ls ≡ []
  labels_none [] = refl
  labels_none (Named x after ∷ ls) = labels_none ls
  labels_none (Case x after t ∷ ls) = labels_none ls
  labels_none (Default x after ∷ ls) = labels_none ls

  one_slot : (k : Kinded) (d : Declarator) (w : Walk) → Runs w (declared ctx.word k d w) (at w ∷ [])
  one_slot k d w = record { count = 1; last = length-append w.slots (slot_of (env_in ctx.word w) k d ∷ []); run = refl }

  locals_run : (k : Kinded) (ds : List Declarator) (w : Walk) → Runs w (all_declared ctx.word k ds w)
      (gathered declared_slot (trees_of (locals ctx.word k ds w)))
  locals_run k [] w = run_as (at w) (at w) _ [] (ap (gathered declared_slot) trees-none) (run_none (at w))
  locals_run k (d ∷ ds) w =
      let v = declared ctx.word k d w in
      let x = local ctx.word k d w in
      let rest = gathered declared_slot (trees_of (locals ctx.word k ds v)) in
      let e = tree-Local (length w.slots) (initial (value_at (env_in ctx.word v)) d.value) in
      run_as (at w) (at (all_declared ctx.word k (d ∷ ds) w)) _ ((at w ∷ []) ++ rest)
      (ap (gathered declared_slot) (trees-more x (locals ctx.word k ds v)) ∙ ap (λ t. gathered_of declared_slot t ++ rest) e)
      (run_both (at w) (at v) (at (all_declared ctx.word k ds v)) (at w ∷ []) rest (one_slot k d w) (locals_run k ds v))

  start_runs : (start : Start) (w : Walk) → Runs w (behind_start ctx start w) (of_start ctx declared_slot slots_gather start w)
  start_runs NoStart w = run_none (at w)
  start_runs (StartValue t) w = run_none (at w)
  start_runs (StartNames d) w = locals_run (kinded ctx.word d) d.names w

  mutual
    pub item_runs : (x : Item) (w : Walk) → Runs w (behind_item ctx x w) (of_item ctx declared_slot slots_gather x w)
    item_runs (Declares first after d) w = locals_run (kinded ctx.word d) d.names w
    item_runs (States ls p) w = run_as (at w) (at (behind_plain ctx p w)) _ (of_plain ctx declared_slot slots_gather p w)
        (ap (λ l. l ++ of_plain ctx declared_slot slots_gather p w) (labels_none ls)) (plain_runs p w)

    plain_runs : (p : Plain) (w : Walk) → Runs w (behind_plain ctx p w) (of_plain ctx declared_slot slots_gather p w)
    plain_runs (From first after s) w = statement_runs s w

    statement_runs : (s : Statement) (w : Walk) → Runs w (behind_statement ctx s w) (of_statement ctx declared_slot slots_gather s w)
    statement_runs Null w = run_none (at w)
    statement_runs (Evaluate t) w = run_none (at w)
    statement_runs (If t b) w = body_runs b w
    statement_runs (IfElse t b c) w = let v = behind_body ctx b w in run_both (at w) (at v) (at (behind_body ctx c v)) _ _ (body_runs b w) (body_runs c v)
    statement_runs (While t b) w = body_runs b w
    statement_runs (DoWhile b t) w = body_runs b w
    statement_runs (For start t u b) w = let v = behind_start ctx start (enter w) in
        run_both (at w) (at v) (at (behind_body ctx b v)) _ _ (start_runs start (enter w)) (body_runs b v)
    statement_runs (Switch t b) w = body_runs b w
    statement_runs (Block b) w = body_runs b w
    statement_runs _ w = run_none (at w)

    body_runs : (b : Body) (w : Walk) → Runs w (behind_body ctx b w) (of_body ctx declared_slot slots_gather b w)
    body_runs (Braces first after xs) w = list_runs xs (enter w)
    body_runs (Lone first after x) w = item_runs x (enter w)

    pub list_runs : (xs : Items) (w : Walk) → Runs w (behind_items ctx xs w) (of_list ctx declared_slot slots_gather xs w)
    list_runs NoItem w = run_none (at w)
    list_runs (items.Then x xs) w = let v = behind_item ctx x w in run_both (at w) (at v) (at (behind_items ctx xs v)) _ _ (item_runs x w) (list_runs xs v)

pub run_is : (a b : ℕ) (xs : List ℕ) → Run a b xs → xs ≡ numbers_from a (b - a)
run_is a b xs r = let e : r.count ≡ b - a = (let h = r.last in omega arith) in r.run ∙ ap (numbers_from a) e
