-- The variables of a function climb, if its tokens are in order.
use Rattle.std.proofs.Common.{◌+◌, ℕ, List, [], ◌∷◌, ◌++◌, map, Option, Some, None, arith}
use Rattle.c_grammar.specs.Items.{Declarator, Start, NoStart, StartValue, StartNames, Item, Declares, States, Plain, From, Statement, Null, Evaluate, If, IfElse, While, DoWhile, For, Switch, Block, Goto, Break, Continue, Return, Unread, Body, Braces, Lone, Items, NoItem, Then}
use Rattle.c_grammar.specs.Tops.{Parameter, Function, Form, Line, Enum, Globals, Defines, Top}
use Rattle.c_grammar.specs.Tops as tops
use Rattle.c_reading_defs.specs.Symbols.{Symbol}
use Rattle.c_reading_defs.specs.DerivedTops.{IsFunction, IsFile}
use Rattle.c_reading_defs.specs.Variables.{name_tokens, start_variables, item_variables, plain_variables, statement_variables, body_variables, list_variables, variables_within, variables_of}
use Rattle.c_violation_laws.proofs.Rising.{Rising, rising_ends, parted, Climbing, climbing_wider, climbing_both, Apart, climbing_apart}
use Rattle.c_violation_laws.proofs.Ordered.{function, file}
use Rattle.c_violation_laws.proofs.Marks.{each_marks, term_marks, option_marks, value_marks, declarator_marks, label_marks, start_marks, item_marks, plain_marks, statement_marks, body_marks, list_marks, name_marks, parameter_marks, within_marks, inner_marks, form_marks, top_marks}

names_climb : (lo : ℕ) (ds : List Declarator) (hi : ℕ) → Rising lo (each_marks declarator_marks ds) hi → Climbing lo (name_tokens ds) hi
names_climb lo [] hi r = r
names_climb lo (d ∷ ds) hi r =
    let s = parted lo (declarator_marks d) (each_marks declarator_marks ds) hi r in
    let next = rising_ends (d.name + 1) (value_marks d.value) s.0 s.1.1.1 in
    (s.1.0, climbing_wider (d.name + 1) s.0 (name_tokens ds) hi hi next (omega arith) (names_climb s.0 ds hi s.2))

start_climbs : (lo : ℕ) (s : Start) (hi : ℕ) → Rising lo (start_marks s) hi → Climbing lo (start_variables s) hi
start_climbs lo NoStart hi r = r
start_climbs lo (StartValue t) hi r = rising_ends lo (term_marks t) hi r
start_climbs lo (StartNames d) hi r = names_climb lo d.names hi r

-- of two parts, one of them without variables
second : (lo : ℕ) (ms ns vs : List ℕ) (hi : ℕ) → Rising lo (ms ++ ns) hi → ((mid : ℕ) → Rising mid ns hi → Climbing mid vs hi) → Climbing lo vs hi
second lo ms ns vs hi r k = let s = parted lo ms ns hi r in let h = rising_ends lo ms s.0 s.1 in climbing_wider lo s.0 vs hi hi h (omega arith) (k s.0 s.2)

both : (lo : ℕ) (ms ns vs us : List ℕ) (hi : ℕ) → Rising lo (ms ++ ns) hi → ((mid : ℕ) → Rising lo ms mid → Climbing lo vs mid) →
    ((mid : ℕ) → Rising mid ns hi → Climbing mid us hi) → Climbing lo (vs ++ us) hi
both lo ms ns vs us hi r f k = let s = parted lo ms ns hi r in climbing_both lo vs s.0 us hi (f s.0 s.1) (k s.0 s.2)

mutual
  item_climbs : (lo : ℕ) (x : Item) (hi : ℕ) → Rising lo (item_marks x) hi → Climbing lo (item_variables x) hi
  item_climbs lo (Declares first after d) hi r = names_climb lo d.names hi r
  item_climbs lo (States ls s) hi r = second lo (each_marks label_marks ls) (plain_marks s) (plain_variables s) hi r (λ mid q. plain_climbs mid s hi q)

  plain_climbs : (lo : ℕ) (s : Plain) (hi : ℕ) → Rising lo (plain_marks s) hi → Climbing lo (plain_variables s) hi
  plain_climbs lo (From first after s) hi r = statement_climbs lo s hi r

  statement_climbs : (lo : ℕ) (s : Statement) (hi : ℕ) → Rising lo (statement_marks s) hi → Climbing lo (statement_variables s) hi
  statement_climbs lo Null hi r = r
  statement_climbs lo (Evaluate t) hi r = rising_ends lo (term_marks t) hi r
  statement_climbs lo (If t b) hi r = second lo (term_marks t) (body_marks b) (body_variables b) hi r (λ mid q. body_climbs mid b hi q)
  statement_climbs lo (IfElse t b c) hi r =
      second lo (term_marks t) (body_marks b ++ body_marks c) (body_variables b ++ body_variables c) hi r
      (λ mid q. both mid (body_marks b) (body_marks c) (body_variables b) (body_variables c) hi q (λ m p. body_climbs mid b m p) (λ m p. body_climbs m c hi p))
  statement_climbs lo (While t b) hi r = second lo (term_marks t) (body_marks b) (body_variables b) hi r (λ mid q. body_climbs mid b hi q)
  statement_climbs lo (DoWhile b t) hi r =
      let s = parted lo (body_marks b) (term_marks t) hi r in
      let h = rising_ends s.0 (term_marks t) hi s.2 in
      climbing_wider lo lo (body_variables b) s.0 hi (omega arith) h (body_climbs lo b s.0 s.1)
  statement_climbs lo (For start t u b) hi r =
      both lo (start_marks start) (option_marks t ++ (option_marks u ++ body_marks b)) (start_variables start) (body_variables b) hi r
      (λ m p. start_climbs lo start m p)
      (λ mid q. second mid (option_marks t) (option_marks u ++ body_marks b) (body_variables b) hi q
      (λ m p. second m (option_marks u) (body_marks b) (body_variables b) hi p (λ n o. body_climbs n b hi o)))
  statement_climbs lo (Switch t b) hi r = second lo (term_marks t) (body_marks b) (body_variables b) hi r (λ mid q. body_climbs mid b hi q)
  statement_climbs lo (Block b) hi r = body_climbs lo b hi r
  statement_climbs lo (Goto at) hi r = r
  statement_climbs lo Break hi r = r
  statement_climbs lo Continue hi r = r
  statement_climbs lo (Return t) hi r = rising_ends lo (option_marks t) hi r
  statement_climbs lo Unread hi r = r

  body_climbs : (lo : ℕ) (b : Body) (hi : ℕ) → Rising lo (body_marks b) hi → Climbing lo (body_variables b) hi
  body_climbs lo (Braces first after xs) hi r = list_climbs lo xs hi r
  body_climbs lo (Lone first after x) hi r = item_climbs lo x hi r

  list_climbs : (lo : ℕ) (xs : Items) (hi : ℕ) → Rising lo (list_marks xs) hi → Climbing lo (list_variables xs) hi
  list_climbs lo NoItem hi r = r
  list_climbs lo (Then x xs) hi r = both lo (item_marks x) (list_marks xs) (item_variables x) (list_variables xs) hi r
      (λ mid p. item_climbs lo x mid p) (λ mid p. list_climbs mid xs hi p)

-- ---- functions

parameters_climb : (lo : ℕ) (ps : List Parameter) (hi : ℕ) → Rising lo (each_marks parameter_marks ps) hi → Climbing lo (map (λ x. x.first) ps) hi
parameters_climb lo [] hi r = r
parameters_climb lo (x ∷ xs) hi r =
    let s = parted lo (parameter_marks x) (each_marks parameter_marks xs) hi r in
    let next = rising_ends (x.first + 1) (name_marks x.name) s.0 s.1.1.1 in
    (s.1.0, climbing_wider (x.first + 1) s.0 (map (λ x. x.first) xs) hi hi next (omega arith) (parameters_climb s.0 xs hi s.2))

within_climb : (lo : ℕ) (o : Option Body) (hi : ℕ) → Rising lo (within_marks o) hi → Climbing lo (variables_within o) hi
within_climb lo None hi r = r
within_climb lo (Some b) hi r = body_climbs lo b hi r

pub variables_climb : (lo : ℕ) (f : Function) (hi : ℕ) → Rising lo (inner_marks f) hi → Climbing lo (variables_of f) hi
variables_climb lo f hi r =
    both lo (each_marks parameter_marks f.parameters) (within_marks f.body) (map (λ x. x.first) f.parameters) (variables_within f.body) hi r
    (λ mid p. parameters_climb lo f.parameters mid p) (λ mid p. within_climb mid f.body hi p)

-- ---- files

abbrev pub IsApart : Form → Type 0
IsApart (Defines f) = Apart (variables_of f)
IsApart _ = Unit {0}

abbrev pub AreApart : List Top → Type 0
AreApart [] = Unit {0}
AreApart (tops.From first after form ∷ xs) = IsApart form × AreApart xs

pub function_apart : (at : ℕ) (es : List Symbol) (f : Function) → IsFunction at es f → Apart (variables_of f)
function_apart at es f h = let r = function at es f h in climbing_apart (f.name + 1) (variables_of f) _ (variables_climb (f.name + 1) f _ r.1.1)

form_apart : (lo : ℕ) (form : Form) (hi : ℕ) → Rising lo (form_marks form) hi → IsApart form
form_apart lo Line hi r = tt
form_apart lo (Enum es) hi r = tt
form_apart lo (Globals static d) hi r = tt
form_apart lo (Defines f) hi r = climbing_apart (f.name + 1) (variables_of f) hi (variables_climb (f.name + 1) f hi r.1.1)
form_apart lo tops.Unread hi r = tt

are_apart : (lo : ℕ) (xs : List Top) (hi : ℕ) → Rising lo (each_marks top_marks xs) hi → AreApart xs
are_apart lo [] hi r = tt
are_apart lo (tops.From first after form ∷ xs) hi r = let s = parted lo (form_marks form) (each_marks top_marks xs) hi r in
    (form_apart lo form s.0 s.1, are_apart s.0 xs hi s.2)

pub file_apart : (at : ℕ) (es : List Symbol) (xs : List Top) → IsFile at es xs → AreApart xs
file_apart at es xs h = are_apart at xs _ (file at es xs h)
