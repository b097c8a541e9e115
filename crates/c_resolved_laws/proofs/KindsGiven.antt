-- Kinds that agree as C has them agree as the meaning needs it.
use Rattle.std.proofs.Common.{ℕ, zero, suc, ℤ, pos, Bool, true, false, cond, ◌&&◌, ◌||◌, List, [], ◌∷◌, take, codes, Option, Some, None, is_some, option_map, ◌≡◌, refl, sym, ap, subst, ◌∙◌, true≢false, slice_get, bytes_eq, arith}
use Rattle.std.specs.Prelude.{IfSome, IsSomeAnd}
use Rattle.std.proofs.lemmas.Slice.Eq.{bytes_eq-Decides}
use Rattle.std.proofs.lemmas.Option.{slice_get_within}
use Rattle.std.proofs.lemmas.Int.{ints}
use Rattle.std.specs.Option.{option_or}
use Rattle.std.proofs.lemmas.Bool.{or_from}
use Rattle.c_types.specs.declared.kinds.IntKind.{IntKind}
use Rattle.c_types.specs.declared.kinds.IntKind.TheVariants.{Char, Int}
use Rattle.c_types.specs.Numbers.{converted, IsInRange}
use Rattle.c_types.specs.Words.{is_known}
use Rattle.c_types.proofs.Residues.{converted-in_range}
use Rattle.c_tree.specs.declared.tree.Slot.{Slot}
use Rattle.c_tree.specs.declared.tree.Home.{Home}
use Rattle.c_tree.specs.declared.tree.Home.TheVariants as H
use Rattle.c_tree.specs.declared.tree.Item.{Item}
use Rattle.c_tree.specs.declared.tree.UnaryOp.{UnaryOp}
use Rattle.c_tree.specs.declared.tree.UnaryOp.TheVariants.{Plus, Minus, Not, Flip}
use Rattle.c_tree.specs.declared.tree.BinaryOp.{BinaryOp}
use Rattle.c_tree.specs.declared.tree.BinaryOp.TheVariants.{Arith, Less, Greater, AtMost, AtLeast, Equal, Unequal, AndThen, OrElse}
use Rattle.c_tree.specs.declared.tree.Function.{Function}
use Rattle.c_tree.specs.declared.tree.GlobalVariable.{GlobalVariable}
use Rattle.jump_meaning.specs.Values.{Variable}
use Rattle.c_tree.specs.declared.tree.Top.{Top}
use Rattle.c_tree.specs.declared.tree.Top.TheVariants as T
use Rattle.c_tree.specs.declared.tree.Program.{Program}
use Rattle.c_tree.specs.Constants.{kind_of, HasKind}
use Rattle.c_tree.specs.ExpressionTrees.{ExpressionTree, PlaceTree, Arguments, Typed, Var, Cell, Number, Character, EnumName, Text, Array, Read, Unary, Cast, Binary, Conditional, Assign, Update, Count, Comma, Call, NoArgument, Argument}
use Rattle.c_tree.specs.Trees.{trees_of}
use Rattle.jump_meaning.specs.Code.{Code, FunctionTree, entry_or, function_tree, undeclared, function_in, first_of, function_named, global_named, initial_variable, code_of}
use Rattle.jump_meaning.specs.World.{no_slot, kind_held}
use Rattle.jump_meaning.specs.Operations.{operand_kind}
use Rattle.plain_laws.specs.Kinded.{Kinded, k_number, k_character, k_enum, k_text, k_read, k_unary, k_cast, k_binary, k_conditional, k_assign, k_update, k_count, k_comma, k_call, KindedPlace, k_var, k_cell, KindedArguments, k_none, k_argument, k_array, IsHome, home_kind, place_kind, call_kind, kind_called, gives_int}
use Rattle.plain_laws.specs.Kinded as K
use Rattle.plain_laws.proofs.PlainShown.{first_true}
use Rattle.c_resolved_defs.specs.Within.{Within, PlaceWithin, ArgumentsWithin}
use Rattle.c_resolved_defs.specs.Names.{Names, Printf, Unknown, variable, first_function, the_function, the_global, declared_or, known, library, an_int, callee}
use Rattle.c_resolved_defs.specs.Kinds.{IsOperand, HasValue, unary_kind, binary_kind, of_both, KindAgrees, PlaceAgrees, ArgumentsFit, FitsCells, IsArrayFor, wanted, ValuesFit, FormatFits, CallFits}
use Rattle.c_resolved_defs.specs.Scopes.{Scope, TopsAreBound, NamesAreBound, behind_top, at_start}
use Rattle.c_resolved_laws.proofs.Ranged.{the_some}

-- ---- truth values

when : {A : Type 0} (P : A → Type 0) (b : Bool) (x y : A) → (b ≡ true → P x) → P y → P (cond b x y)
when P true x y f g = f refl
when P false x y f g = g

or_left : (a b : Bool) → (a || b) ≡ false → a ≡ false
or_left true b e = absurd (true≢false e)
or_left false b e = refl

or_right : (a b : Bool) → (a || b) ≡ false → b ≡ false
or_right true b e = absurd (true≢false e)
or_right false b e = e

decided : (b c : Bool) → (b ≡ true → c ≡ true) → c ≡ false → b ≡ false
decided true c f e = absurd (true≢false (sym (f refl) ∙ e))
decided false c f e = refl

turned : (a m : List ℕ) → bytes_eq a m ≡ false → bytes_eq m a ≡ false
turned a m e = decided (bytes_eq m a) (bytes_eq a m) (λ t. (bytes_eq-Decides a m).1 (sym ((bytes_eq-Decides m a).0 t))) e

-- ---- names of the file

-- the kind of a variable
abbrev kind_or : Option Slot → IntKind
kind_or None = Int
kind_or (Some s) = s.kind

slot_kind : (ss : List Slot) (x : ℕ) → (entry_or no_slot ss x).kind ≡ kind_or (slice_get ss x)
slot_kind [] x = refl
slot_kind (s ∷ ss) zero = refl
slot_kind (s ∷ ss) (suc x) = slot_kind ss x

one_global : (g : GlobalVariable) (v : Variable) (o : Option Slot) → kind_held v ≡ kind_or o → (b : Bool) →
    kind_held (cond b (initial_variable g) v) ≡ kind_or (cond b (Some g.slot) o)
one_global g v o e true = refl
one_global g v o e false = e

global_kind : (m : List ℕ) (ts : List Top) → kind_held (global_named m ts) ≡ kind_or (the_global m ts)
global_kind m [] = refl
global_kind m (T.Global g ∷ ts) = one_global g (global_named m ts) (the_global m ts) (global_kind m ts) (bytes_eq g.slot.name m)
global_kind m (T.Include bytes ∷ ts) = global_kind m ts
global_kind m (T.Enum xs ∷ ts) = global_kind m ts
global_kind m (T.Function f ∷ ts) = global_kind m ts
global_kind m (T.Note bytes ∷ ts) = global_kind m ts

abbrev tree_or : Option Function → FunctionTree
tree_or None = undeclared
tree_or (Some f) = function_tree f

one_function : (f : Function) (v : Option FunctionTree) (o : Option Function) → v ≡ option_map function_tree o → (b : Bool) →
    cond b (Some (function_tree f)) v ≡ option_map function_tree (cond b (Some f) o)
one_function f v o e true = refl
one_function f v o e false = e

function_there : (q : Function → Bool) (m : List ℕ) (ts : List Top) → function_in q m ts ≡ option_map function_tree (first_function q m ts)
function_there q m [] = refl
function_there q m (T.Function f ∷ ts) = one_function f (function_in q m ts) (first_function q m ts) (function_there q m ts) (bytes_eq f.name m && q f)
function_there q m (T.Include bytes ∷ ts) = function_there q m ts
function_there q m (T.Enum xs ∷ ts) = function_there q m ts
function_there q m (T.Global g ∷ ts) = function_there q m ts
function_there q m (T.Note bytes ∷ ts) = function_there q m ts

first_there : (a b : Option Function) → first_of (option_map function_tree a) (option_map function_tree b) undeclared ≡ tree_or (option_or a b)
first_there (Some f) b = refl
first_there None (Some f) = refl
first_there None None = refl

the_function_there : (m : List ℕ) (ts : List Top) → function_named m ts ≡ tree_or (the_function m ts)
the_function_there m ts =
    let a = first_function (λ f. is_some f.body) m ts in
    let b = first_function (λ f. true) m ts in
    subst (λ (o : Option FunctionTree). first_of o (function_in (λ f. true) m ts) undeclared ≡ tree_or (option_or a b))
    (sym (function_there (λ f. is_some f.body) m ts))
    (subst (λ (o : Option FunctionTree). first_of (option_map function_tree a) o undeclared ≡ tree_or (option_or a b))
    (sym (function_there (λ f. true) m ts)) (first_there a b))

-- ---- no function of the file has the name of one of the library

abbrev IsUnknown : List ℕ → Option Function → Type 0
IsUnknown m o = IfSome o (λ f. is_known m ≡ false)

first_unknown : (q : Function → Bool) (m : List ℕ) (ts : List Top) (ss : List Scope) → TopsAreBound ss ts → IsUnknown m (first_function q m ts)
first_unknown q m [] ss h = tt
first_unknown q m (T.Function f ∷ ts) ss h =
    when (IsUnknown m) (bytes_eq f.name m && q f) (Some f) (first_function q m ts)
    (λ e. subst (λ w. is_known w ≡ false) ((bytes_eq-Decides f.name m).0 (first_true (bytes_eq f.name m) (q f) e)) h.0.unknown)
    (first_unknown q m ts (behind_top ss (T.Function f)) h.1)
first_unknown q m (T.Include bytes ∷ ts) ss h = first_unknown q m ts ss h.1
first_unknown q m (T.Enum xs ∷ ts) ss h = first_unknown q m ts (behind_top ss (T.Enum xs)) h.1
first_unknown q m (T.Global g ∷ ts) ss h = first_unknown q m ts (behind_top ss (T.Global g)) h.1
first_unknown q m (T.Note bytes ∷ ts) ss h = first_unknown q m ts ss h.1

either_unknown : (m : List ℕ) (a b : Option Function) → IsUnknown m a → IsUnknown m b → IsUnknown m (option_or a b)
either_unknown m (Some f) b h k = h
either_unknown m None b h k = k

gives_no_int : (m : List ℕ) → is_known m ≡ false → gives_int m ≡ false
gives_no_int m e =
    let g = bytes_eq (codes "getchar") m in
    let c = bytes_eq (codes "putchar") m in
    let f = bytes_eq (codes "printf") m in
    let e1 = or_right g _ e in
    let e2 = or_right c _ e1 in
    or_from (bytes_eq m (codes "getchar")) (bytes_eq m (codes "putchar") || bytes_eq m (codes "printf")) (turned (codes "getchar") m (or_left g _ e))
    (or_from (bytes_eq m (codes "putchar")) (bytes_eq m (codes "printf")) (turned (codes "putchar") m (or_left c _ e1))
    (turned (codes "printf") m (or_left f _ e2)))

pub unknown_named : (ts : List Top) → NamesAreBound ts → (m : List ℕ) → IfSome (the_function m ts) (λ f. gives_int m ≡ false)
unknown_named ts h m =
    each (the_function m ts)
    (either_unknown m (first_function (λ f. is_some f.body) m ts) (first_function (λ f. true) m ts)
    (first_unknown (λ f. is_some f.body) m ts at_start h) (first_unknown (λ f. true) m ts at_start h))
  where
    each : (o : Option Function) → IsUnknown m o → IfSome o (λ f. gives_int m ≡ false)
    each None i = tt
    each (Some f) i = gives_no_int m i

-- ---- kinds by the kinds of operands

unary_same : (op : UnaryOp) (o : Option IntKind) → HasKind o → option_map (unary_kind op) o ≡ Some (K.unary_kind op (operand_kind o))
unary_same op None h = absurd h
unary_same Not (Some k) h = refl
unary_same Plus (Some k) h = refl
unary_same Minus (Some k) h = refl
unary_same Flip (Some k) h = refl

binary_same : (op : BinaryOp) (o u : Option IntKind) → HasKind o → HasKind u →
    of_both (binary_kind op) o u ≡ Some (K.binary_kind op (operand_kind o) (operand_kind u))
binary_same op None u h k = absurd h
binary_same op (Some i) None h k = absurd k
binary_same (Arith o) (Some i) (Some j) h k = refl
binary_same Less (Some i) (Some j) h k = refl
binary_same Greater (Some i) (Some j) h k = refl
binary_same AtMost (Some i) (Some j) h k = refl
binary_same AtLeast (Some i) (Some j) h k = refl
binary_same Equal (Some i) (Some j) h k = refl
binary_same Unequal (Some i) (Some j) h k = refl
binary_same AndThen (Some i) (Some j) h k = refl
binary_same OrElse (Some i) (Some j) h k = refl

of_int : (kind : Option IntKind) (z : ℤ) → kind ≡ Some Int → IsInRange Int z → K.IsNumberOf kind z
of_int kind z e h = subst (λ k. K.IsNumberOf k z) (sym e) h

-- each char is an int
char_is_int : (z : ℤ) → IsInRange Char z → IsInRange Int z
char_is_int z h = let least = h.from_least in let greatest = h.to_greatest in record { from_least = grind (arith, ints); to_greatest = grind (arith, ints) }

-- ---- expressions

module _ (p : Program) (ss : List Slot) (unknown : (m : List ℕ) → IfSome (the_function m p.tops) (λ f. gives_int m ≡ false)) where
  abbrev pub names : Names
  names = record { tops = p.tops; slots = ss }

  abbrev code : Code
  code = code_of p

  home_kind_is : (h : Home) → home_kind code ss h ≡ kind_or (variable names h)
  home_kind_is (H.Slot x) = slot_kind ss x
  home_kind_is (H.Global m) = global_kind m p.tops

  is_home : (P : Slot → Type 0) (h : Home) → IsSomeAnd (variable names h) P → IsHome ss h
  is_home P (H.Global m) i = tt
  is_home P (H.Slot x) i = let s = the_some P (slice_get ss x) i in slice_get_within ss x s.0 s.1

  kind_is : (h : Home) (s : Slot) → variable names h ≡ Some s → s.kind ≡ home_kind code ss h
  kind_is h s e = sym (home_kind_is h ∙ ap kind_or e)

  place_kind_is : (kind : Option IntKind) (at : PlaceTree) → PlaceAgrees names kind at → kind ≡ Some (place_kind code ss at)
  place_kind_is kind (Var h) i = let s = the_some _ (variable names h) i in s.2.1 ∙ ap Some (kind_is h s.0 s.1)
  place_kind_is kind (Cell h a) i = let s = the_some _ (variable names h) i.0 in s.2.1 ∙ ap Some (kind_is h s.0 s.1)

  -- a call of a function of the file
  file_call : (m : List ℕ) (f : Function) → gives_int m ≡ false → (b : Option (List Item)) → kind_called m (option_map trees_of b) f.result ≡ f.result
  file_call m f e (Some xs) = refl
  file_call m f e None = ap (λ c. cond c (Some Int) f.result) e

  -- arguments that fit, by what is called
  pub record Given (xs : Arguments) : Type 0 where
    of_function : (d : Bool) (k : ℕ) (ts : List Slot) → ArgumentsFit names d (take k ts) xs → KindedArguments code ss ts xs
    of_library : (ts : List Slot) → ArgumentsFit names false ts xs → KindedArguments code ss [] xs
    of_format : FormatFits xs → KindedArguments code ss [] xs

  library_call : (a b c d e : Bool) (kind : Option IntKind) (xs : Arguments) → Given xs
      → CallFits names kind (cond a (library (Some Int) []) (cond b (library (Some Int) (an_int ∷ []))
      (cond c Printf (cond d (library None (an_int ∷ [])) (cond e (library None []) Unknown))))) xs
      → (kind ≡ cond (a || (b || c)) (Some Int) None) × KindedArguments code ss [] xs
  library_call true b c d e kind xs g h = (h.0, g.of_library [] h.1)
  library_call false true c d e kind xs g h = (h.0, g.of_library (an_int ∷ []) h.1)
  library_call false false true d e kind xs g h = (h.0, g.of_format h.1)
  library_call false false false true e kind xs g h = (h.0, g.of_library (an_int ∷ []) h.1)
  library_call false false false false true kind xs g h = (h.0, g.of_library [] h.1)
  library_call false false false false false kind xs g h = absurd h

  called : (m : List ℕ) (kind : Option IntKind) (xs : Arguments) → Given xs → (o : Option Function) → IfSome o (λ f. gives_int m ≡ false) →
      CallFits names kind (declared_or (known m) o) xs
      → (kind ≡ kind_called m (tree_or o).body (tree_or o).result) × KindedArguments code ss (tree_or o).slots xs
  called m kind xs g (Some f) u h = (h.0 ∙ sym (file_call m f u f.body), g.of_function (is_some f.body) f.params f.slots h.1)
  called m kind xs g None u h =
      library_call (bytes_eq m (codes "getchar")) (bytes_eq m (codes "putchar")) (bytes_eq m (codes "printf")) (bytes_eq m (codes "exit"))
      (bytes_eq m (codes "abort")) kind xs g h

  call_kinded : (m : List ℕ) (kind : Option IntKind) (xs : Arguments) → Given xs → CallFits names kind (callee names m) xs →
      Kinded code ss (Typed kind (Call m xs))
  call_kinded m kind xs g h =
      let c = called m kind xs g (the_function m p.tops) (unknown m) h in
      let e = sym (the_function_there m p.tops) in
      let k = subst (λ (t : FunctionTree). kind ≡ kind_called m t.body t.result) e c.0 in
      let a = subst (λ (t : FunctionTree). KindedArguments code ss t.slots xs) e c.1 in
      subst (λ i. Kinded code ss (Typed i (Call m xs))) (sym k) (k_call m xs a)

  -- an array for a parameter
  array_argument : (d : Bool) (t : Slot) (ts : List Slot) (x : ExpressionTree) (xs : Arguments) → IsArrayFor names d t x →
      KindedArguments code ss ts xs → KindedArguments code ss (t ∷ ts) (Argument x xs)
  array_argument d t ts (Typed kind (Array h)) xs i rest =
      let v = the_some _ (variable names h) i.1 in
      k_array (t ∷ ts) kind h xs (is_home _ h i.1) (grind (arith)) (sym (kind_is h v.0 v.1) ∙ v.2.0) rest
  array_argument d t ts _ xs i rest = absurd i

  one_argument : (d : Bool) (t : Slot) (ts : List Slot) (x : ExpressionTree) (xs : Arguments) (c : Option ℕ) → FitsCells c (HasValue x) (IsArrayFor names d t x)
      → (IsOperand x → Kinded code ss x) → KindedArguments code ss ts xs → KindedArguments code ss (t ∷ ts) (Argument x xs)
  one_argument d t ts x xs None h k rest = k_argument (t ∷ ts) x xs (k h.operand) rest
  one_argument d t ts x xs (Some n) h k rest = array_argument d t ts x xs h rest

  no_array : (t : Slot) (x : ExpressionTree) → IsArrayFor names false t x → ⊥
  no_array t (Typed kind (Array h)) i = true≢false (sym i.0)
  no_array t _ i = i

  library_argument : (t : Slot) (x : ExpressionTree) (xs : Arguments) (c : Option ℕ) → FitsCells c (HasValue x) (IsArrayFor names false t x)
      → (IsOperand x → Kinded code ss x) → KindedArguments code ss [] xs → KindedArguments code ss [] (Argument x xs)
  library_argument t x xs None h k rest = k_argument [] x xs (k h.operand) rest
  library_argument t x xs (Some n) h k rest = absurd (no_array t x h)

  mutual
    pub kinded : (x : ExpressionTree) → IsOperand x → Within (KindAgrees names) x → Kinded code ss x
    kinded (Typed (Some k) (Number z)) o h = k_number (Some k) z h.0
    kinded (Typed None (Number z)) o h = absurd h.0
    kinded (Typed kind (Character b)) o h = k_character kind b
        (of_int kind (converted Char (pos b)) h.0 (char_is_int (converted Char (pos b)) (converted-in_range Char (pos b))))
    kinded (Typed kind (EnumName m z)) o h = k_enum kind m z (of_int kind z h.0.0 h.0.1)
    kinded (Typed kind (Text bs)) o h = absurd o
    kinded (Typed kind (Array a)) o h = absurd o
    kinded (Typed kind (Read at)) o h = subst (λ i. Kinded code ss (Typed i (Read at))) (sym (place_kind_is kind at h.0))
        (k_read at (place_kinded at kind h.0 h.1))
    kinded (Typed kind (Unary op a)) o h =
        subst (λ i. Kinded code ss (Typed i (Unary op a))) (sym (h.0.1 ∙ unary_same op (kind_of a) h.0.0.kind)) (k_unary op a (kinded a h.0.0.operand h.1))
    kinded (Typed (Some k) (Cast a)) o h = k_cast (Some k) a (kinded a h.0.operand h.1)
    kinded (Typed None (Cast a)) o h = k_cast None a (kinded a h.0 h.1)
    kinded (Typed kind (Binary op a b)) o h =
        subst (λ i. Kinded code ss (Typed i (Binary op a b))) (sym (h.0.2 ∙ binary_same op (kind_of a) (kind_of b) h.0.0.kind h.0.1.kind))
        (k_binary op a b (kinded a h.0.0.operand h.1.0) (kinded b h.0.1.operand h.1.1))
    kinded (Typed kind (Conditional a b c)) o h = k_conditional kind a b c (kinded a h.0.0.operand h.1.0) (kinded b h.0.1.operand h.1.1)
        (kinded c h.0.2.operand h.1.2)
    kinded (Typed kind (Assign at a)) o h =
        subst (λ i. Kinded code ss (Typed i (Assign at a))) (sym (place_kind_is kind at h.0.0))
        (k_assign at a (place_kinded at kind h.0.0 h.1.0) (kinded a h.0.1.operand h.1.1))
    kinded (Typed kind (Update op at a)) o h =
        subst (λ i. Kinded code ss (Typed i (Update op at a))) (sym (place_kind_is kind at h.0.0))
        (k_update op at a (place_kinded at kind h.0.0 h.1.0) (kinded a h.0.1.operand h.1.1))
    kinded (Typed kind (Count at up after)) o h = subst (λ i. Kinded code ss (Typed i (Count at up after))) (sym (place_kind_is kind at h.0))
        (k_count at up after (place_kinded at kind h.0 h.1))
    kinded (Typed kind (Comma a b)) o h =
        subst (λ i. Kinded code ss (Typed i (Comma a b))) (sym h.0.2) (k_comma a b (kinded a h.0.0 h.1.0) (kinded b h.0.1 h.1.1))
    kinded (Typed kind (Call m xs)) o h =
        call_kinded m kind xs (record {
          of_function = λ d k ts i. function_arguments xs d k ts i h.1;
          of_library = λ ts i. library_arguments xs ts i h.1;
          of_format = λ i. format_arguments xs i h.1;
        }) h.0

    place_kinded : (at : PlaceTree) (kind : Option IntKind) → PlaceAgrees names kind at → PlaceWithin (KindAgrees names) at → KindedPlace code ss at
    place_kinded (Var h) kind i w = k_var h (is_home _ h i)
    place_kinded (Cell h a) kind i w = k_cell h a (is_home _ h i.0) (kinded a i.1.operand w)

    function_arguments : (xs : Arguments) (d : Bool) (k : ℕ) (ts : List Slot) → ArgumentsFit names d (take k ts) xs →
        ArgumentsWithin (KindAgrees names) xs → KindedArguments code ss ts xs
    function_arguments NoArgument d k ts h w = k_none ts
    function_arguments (Argument x xs) d zero ts h w = absurd h
    function_arguments (Argument x xs) d (suc k) [] h w = absurd h
    function_arguments (Argument x xs) d (suc k) (t ∷ ts) h w = one_argument d t ts x xs t.cells h.0 (λ o. kinded x o w.0)
        (function_arguments xs d k ts h.1 w.1)

    library_arguments : (xs : Arguments) (ts : List Slot) → ArgumentsFit names false ts xs → ArgumentsWithin (KindAgrees names) xs →
        KindedArguments code ss [] xs
    library_arguments NoArgument ts h w = k_none []
    library_arguments (Argument x xs) [] h w = absurd h
    library_arguments (Argument x xs) (t ∷ ts) h w = library_argument t x xs t.cells h.0 (λ o. kinded x o w.0) (library_arguments xs ts h.1 w.1)

    format_arguments : (xs : Arguments) → FormatFits xs → ArgumentsWithin (KindAgrees names) xs → KindedArguments code ss [] xs
    format_arguments NoArgument h w = absurd h
    format_arguments (Argument (Typed kind (Text bs)) xs) h w =
        let v = the_some _ (wanted bs) h in
        k_argument [] (Typed kind (Text bs)) xs (k_text kind bs) (value_arguments xs v.0 v.2 w.1)
    format_arguments _ h w = absurd h

    value_arguments : (xs : Arguments) (ws : List Bool) → ValuesFit ws xs → ArgumentsWithin (KindAgrees names) xs → KindedArguments code ss [] xs
    value_arguments NoArgument ws h w = k_none []
    value_arguments (Argument x xs) [] h w = absurd h
    value_arguments (Argument x xs) (b ∷ ws) h w = k_argument [] x xs (kinded x h.0.operand w.0) (value_arguments xs ws h.2 w.1)
