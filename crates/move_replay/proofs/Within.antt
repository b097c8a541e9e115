-- The printed text of a resolved program is within the limits.
use Rattle.std.proofs.Common.{◌≡◌, ℕ, ◌≤◌, max, List, [], ◌∷◌, Option, Some, None, option_map, refl, ap, arith}
use Rattle.std.specs.Prelude.{IfSome}
use Rattle.std.specs.List.{AllByRecursion}
use Rattle.std.specs.Option.{option_map_or}
use Rattle.std.proofs.lemmas.List.Elements.{All-from_recursion}
use Rattle.c_tree.specs.declared.tree.EnumItem.{EnumItem}
use Rattle.c_tree.specs.declared.tree.Expression.{Expression}
use Rattle.c_tree.specs.declared.tree.Function.{Function}
use Rattle.c_tree.specs.declared.tree.Item.{Item}
use Rattle.c_tree.specs.declared.tree.Program.{Program}
use Rattle.c_tree.specs.declared.tree.Slot.{Slot}
use Rattle.c_tree.specs.declared.tree.Top.{Top}
use Rattle.c_tree.specs.declared.tree.Top.TheVariants as T
use Rattle.c_tree.specs.ExpressionTrees.{ExpressionTree, expression_tree}
use Rattle.c_tree.specs.InRange.{body_of}
use Rattle.c_tree.specs.TestTrees.{TestTree, Source, SelectorTree, Selects, Pick}
use Rattle.c_tree.specs.Cases.{selector_source}
use Rattle.c_tree.specs.Trees.{Tree, Forest, Nil, Then, Sections, NoSection, Section, Evaluate, Return, If, While, Do, For, Switch, Block, Local, Arrival, trees_of, expression_trees}
use Rattle.c_resolved_defs.specs.Limits.{most_of, most_if, most_case, most_listed, most_tested, most_counted, most_counted_of, most_counted_in}
use Rattle.c_resolved_defs.specs.PrintableExpressions.{counted, counted_at}
use Rattle.c_resolved_defs.specs.PrintableStatements.{most, FullPrints, OptionPrints, ListPrints, ValuesPrint, SlotPrints, TestPrints, SelectorPrints, StartPrints, FurtherPrint, depth}
use Rattle.c_resolved_defs.specs.PrintablePrograms.{GivenPrints, EnumeratorsPrint, EnumPrints}
use Rattle.c_resolved_defs.specs.Spelling.{ItemIsSpelled, AreSpelled, SectionsAreSpelled, BodyIsSpelled, TopIsSpelled}
use Rattle.c_resolved_defs.specs.Within.{Each}
use Rattle.c_resolved_laws.specs.Counts.{IsResolved}
use Rattle.whole_laws.proofs.Flattened.{body_is}
use Rattle.print_limits.specs.Limits.{FunctionIsWithin, EnumItemIsWithin, TopIsWithin, IsWithinLimits}

both : (a b : ℕ) → a ≤ most → b ≤ most → max a b ≤ most
both a b h k = omega (arith, h, k)

-- ---- expressions

full : (slots : List Slot) (need : ℕ) (x : ExpressionTree) → FullPrints slots need x → counted x ≤ most
full slots need x h = let f = h.few in omega (arith, f)

option : (slots : List Slot) (o : Option ExpressionTree) → OptionPrints slots o → most_if o ≤ most
option slots None h = omega arith
option slots (Some x) h = full slots 1 x h

listed : (slots : List Slot) (need : ℕ) (xs : List ExpressionTree) → ListPrints slots need xs → most_of need xs ≤ most
listed slots need [] h = omega arith
listed slots need (x ∷ xs) h = both (counted_at need x) (most_of need xs) h.0.few (listed slots need xs h.1)

values : (slots : List Slot) (cells : Option ℕ) (given : Option (List ExpressionTree)) → ValuesPrint slots cells given → most_listed given ≤ most
values slots cells None h = omega arith
values slots None (Some []) h = absurd h
values slots None (Some (x ∷ [])) h = both (counted_at 2 x) 0 h.few (omega arith)
values slots None (Some (x ∷ y ∷ xs)) h = absurd h
values slots (Some n) (Some []) h = absurd h
values slots (Some n) (Some (x ∷ xs)) h = listed slots 2 (x ∷ xs) h

slot : (slots : List Slot) (o : Option Slot) (given : Option (List ExpressionTree)) → SlotPrints slots o given → most_listed given ≤ most
slot slots None given h = absurd h
slot slots (Some s) given h = values slots s.cells given h.values

test : (slots : List Slot) (t : TestTree) → TestPrints slots t → most_tested t ≤ most
test slots (Source x) h = full slots 1 x h
test slots _ h = absurd h

selector : (slots : List Slot) (s : SelectorTree) → SelectorPrints slots s → counted (selector_source s) ≤ most
selector slots (Selects x) h = full slots 1 x h
selector slots (Pick l k s) h = absurd h

-- ---- items

further : (slots : List Slot) (a : Forest) → FurtherPrint slots a → most_counted a ≤ most
further slots Nil h = omega arith
further slots (Then (Local k given) a) h = both (most_listed given) (most_counted a) (slot slots _ given h.0) (further slots a h.1)
further slots (Then _ a) h = absurd h

start : (slots : List Slot) (a : Forest) → StartPrints slots a → most_counted a ≤ most
start slots Nil h = omega arith
start slots (Then (Evaluate x) Nil) h = both (counted x) 0 (full slots 1 x h) (omega arith)
start slots (Then (Evaluate x) (Then y a)) h = absurd h
start slots (Then (Local k given) a) h = both (most_listed given) (most_counted a) (slot slots _ given h.0) (further slots a h.1)
start slots (Then _ a) h = absurd h

arrival : (slots : List Slot) (o : Option ExpressionTree) → IfSome o (FullPrints slots 3) → most_case o ≤ most
arrival slots None h = omega arith
arrival slots (Some x) h = h.few

module _ (f : Function) where
  mutual
    items : (a : Forest) → AreSpelled f a → most_counted a ≤ most
    items Nil h = omega arith
    items (Then x a) h = both (most_counted_of x) (most_counted a) (item x h.0) (items a h.1)

    item : (x : Tree) → ItemIsSpelled f x → most_counted_of x ≤ most
    item (Evaluate x) h = full f.slots 1 x h
    item (Return x) h = option f.slots x h
    item (If t a b) h = both (most_tested t) (max (most_counted a) (most_counted b)) (test f.slots t h.0)
        (both (most_counted a) (most_counted b) (items a h.1) (items b h.2))
    item (While t a) h = both (most_tested t) (most_counted a) (test f.slots t h.0) (items a h.1)
    item (Do a t) h = both (most_counted a) (most_tested t) (items a h.0) (test f.slots t h.1)
    item (For first t u a) h =
        both (most_counted first) (max (most_if t) (max (most_if u) (most_counted a))) (start f.slots first h.0)
        (both (most_if t) (max (most_if u) (most_counted a)) (option f.slots t h.1) (both (most_if u) (most_counted a) (option f.slots u h.2) (items a h.3)))
    item (Switch s c) h = both (counted (selector_source s)) (most_counted_in c) (selector f.slots s h.0) (sections c h.1)
    item (Block a) h = items a h
    item (Local k given) h = slot f.slots _ given h
    item (Arrival e) h = arrival f.slots e h
    item _ h = omega arith

    sections : (c : Sections) → SectionsAreSpelled f c → most_counted_in c ≤ most
    sections NoSection h = omega arith
    sections (Section cases default a ends c) h =
        both (most_of 3 cases) (max (most_counted a) (most_counted_in c)) (listed f.slots 3 cases h.0)
        (both (most_counted a) (most_counted_in c) (items a h.1) (sections c h.2))

-- ---- files

function : (f : Function) (o : Option (List Item)) → f.body ≡ o → IfSome o (BodyIsSpelled f) → FunctionIsWithin f
function f None e h =
    let b : body_of f ≡ Nil = ap (λ o. option_map_or trees_of o Nil) e in
    let x = ap depth b in
    let y = ap most_counted b in
    record { depth = omega (arith, x); counted = omega (arith, y) }
function f (Some a) e h =
    let b = body_is f a e in
    let x = ap depth b in
    let y = ap most_counted b in
    let s = h.shallow in
    let n = items f (trees_of a) h.items in
    record { depth = omega (arith, x, s); counted = omega (arith, y, n) }

given : (o : Option Expression) → GivenPrints o → most_case (option_map expression_tree o) ≤ most
given None h = omega arith
given (Some e) h = h.few

enumerators : (xs : List EnumItem) → EnumeratorsPrint xs → AllByRecursion EnumItemIsWithin xs
enumerators [] h = tt
enumerators (x ∷ xs) h = (given x.given h.0.given, enumerators xs h.1)

enum : (xs : List EnumItem) → EnumPrints xs → AllByRecursion EnumItemIsWithin xs
enum [] h = absurd h
enum (x ∷ xs) h = enumerators (x ∷ xs) h

top : (t : Top) → TopIsSpelled t → TopIsWithin t
top (T.Function f) h = function f f.body refl h.body
top (T.Enum xs) h = All-from_recursion EnumItemIsWithin xs (enum xs h)
top (T.Global g) h = values [] g.slot.cells (option_map expression_trees g.init) h.values
top _ h = tt

tops : (ts : List Top) → Each TopIsSpelled ts → AllByRecursion TopIsWithin ts
tops [] h = tt
tops (t ∷ ts) h = (top t h.0, tops ts h.1)

pub resolved_within : (p : Program) → IsResolved p → IsWithinLimits p
resolved_within p r = All-from_recursion TopIsWithin p.tops (tops p.tops r.spelled)
