-- Operations on values in Worlds that are apart.
use Rattle.std.proofs.Common.{ℕ, ℤ, pos, negsuc, ◌<◌, Bool, true, false, cond, ◌||◌, nat_lt, List, [], ◌∷◌, ◌++◌, map, codes, bytes_eq, Option, Some, None, Result, Ok, Err, ◌≡◌, refl, sym, ap, ◌∙◌, subst, arith}
use Rattle.std.proofs.lemmas.Int.{ints}
use Rattle.c_types.specs.declared.kinds.IntKind.{IntKind}
use Rattle.c_types.specs.declared.kinds.IntKind.TheVariants.{UChar, Int}
use Rattle.c_types.specs.declared.trap.Trap.{Trap}
use Rattle.c_types.specs.Numbers.{promoted, converted, residue, IsInRange, arith_result}
use Rattle.c_types.proofs.Residues.{converted-in_range, residue_below}
use Rattle.c_tree.specs.declared.tree.UnaryOp.{UnaryOp}
use Rattle.c_tree.specs.declared.tree.BinaryOp.{BinaryOp}
use Rattle.c_tree.specs.declared.tree.Home.{Home}
use Rattle.c_tree.specs.ExpressionTrees.{ExpressionTree, Typed, Unary, Binary, Number}
use Rattle.c_tree.specs.Operators.{unary_result, binary_result}
use Rattle.jump_meaning.specs.Values.{Owner, Value, Integer, Designates, Event, Byte, Called, integer}
use Rattle.jump_meaning.specs.Code.{FunctionTree, Code}
use Rattle.jump_meaning.specs.World.{World, Outcome, Gives, Traps, owner, kind_held, cells_held, number_held, with_number, kind_at, load, store, cell_of, cell, emit}
use Rattle.jump_meaning.specs.Operations.{outcome, loaded, assign, counted, count_mark, count, converted_value}
use Rattle.jump_meaning.specs.Known.{next, printed_bytes, read_byte, answered, converted_arguments, call_declared, call_without_body}
use Rattle.struct_meaning.specs.Structural.{Evaluation, given, and_then}
use Rattle.plain_laws.specs.Kinded.{unary_kind, binary_kind, kind_called, IsHome, home_kind}
use Rattle.plain_laws.proofs.Memories.{Shapes, zero_in_range, owner_kind, Target, own_kind, own_number}
use Rattle.plain_laws.proofs.Sorts.{Sort, Num, Spot, ForSlot, HasSort, InKind, ResultHas, Under, under, under_kind, unary_sort, mark_sort, unary_has, binary_has}
use Rattle.tidy_laws.specs.Mentions.{home_lacks}
use Rattle.tidy_laws.specs.Renumbered.{renumbered_home}
use Rattle.tidy_laws.proofs.Evaluations.{Alike, bind_alike}
use Rattle.tidy_laws.proofs.Apart.{Apart, new_owner, new_value, new_lending, number_keeps, target_own, target_same, home_reached, home_same, put_apart}

-- what the second has in place of a value
abbrev pub image : (ℕ → ℕ) → Sort → Value → Value
image holes (Spot k) v = new_value holes v
image holes (ForSlot k) v = new_lending holes v
image holes _ v = v

-- a number that is 0 is one of each kind
pub zero_in : (kind : Option IntKind) → (v : Value) → integer v ≡ pos 0 → InKind kind v
zero_in None v e = tt
zero_in (Some k) v e = subst (IsInRange k) (sym e) (zero_in_range k)

pub converted_in : (k : IntKind) (v : Value) → InKind (Some k) (converted_value k v)
converted_in k v = converted-in_range k (integer v)

module _ (p : Code) (sh : Shapes) (holes : ℕ → ℕ) (c : ℕ) where
  abbrev Same : World → World → Type 0
  Same w u = Apart p sh holes false c w u

  -- both give a value of the sort
  abbrev pub Post : Sort → Value → World → Value → World → Type 0
  Post s a w b u = HasSort p sh c s a × (b ≡ image holes s a) × Apart p sh holes false c w u

  pub then_alike : {A B : Type 0} (s : Sort) (R : A → World → B → World → Type 0) (x y : Evaluation Value) (f : Value → World → Evaluation A)
      (g : Value → World → Evaluation B)
      → Alike (Post s) x y → ((v : Value) (w u : World) → HasSort p sh c s v → Apart p sh holes false c w u →
      Alike R (f v w) (g (image holes s v) u)) → Alike R (and_then x f) (and_then y g)
  then_alike s R x y f g h k = bind_alike (Post s) R x y f g h (λ a w b u i. subst (λ z. Alike R (f a w) (g z u)) (sym i.1) (k a w u i.0 i.2))

  -- the result of a mark
  pub result_alike : (k : IntKind) (r : Result ℤ Trap) → ResultHas p sh c (Num (Some k)) r → (w u : World) → Same w u →
      Alike (Post (Num (Some k))) (given (outcome r w)) (given (outcome r u))
  result_alike k (Ok n) h w u a = (h, refl, a)
  result_alike k (Err t) h w u a = (refl, a.events)

  lowered : (s : Sort) (k : IntKind) (r : Result ℤ Trap) → Under s (Num (Some k)) → ResultHas p sh c s r → ResultHas p sh c (Num (Some k)) r
  lowered s k (Ok n) u h = under p sh c s (Num (Some k)) (Integer n) u h
  lowered s k (Err t) u h = tt

  abbrev nought : ExpressionTree
  nought = Typed None (Number (pos 0))

  pub unary_alike : (op : UnaryOp) (j : IntKind) (v : Value) (w u : World) → Same w u →
      Alike (Post (Num (Some (unary_kind op j)))) (given (outcome (unary_result op j (integer v)) w)) (given (outcome (unary_result op j (integer v)) u))
  unary_alike op j v w u a =
      let k = unary_kind op j in
      result_alike k _ (lowered (unary_sort op (Some k)) k _ (under_kind (Typed (Some k) (Unary op nought)) (Some k) (Unary op nought) refl)
      (unary_has p sh c op j (integer v))) w u a

  pub binary_alike : (op : BinaryOp) (i j : IntKind) (x y : Value) (w u : World) → Same w u
      → Alike (Post (Num (Some (binary_kind op i j)))) (given (outcome (binary_result op i j (integer x) (integer y)) w))
      (given (outcome (binary_result op i j (integer x) (integer y)) u))
  binary_alike op i j x y w u a =
      let k = binary_kind op i j in
      result_alike k _ (lowered (mark_sort op (Some k)) k _ (under_kind (Typed (Some k) (Binary op nought nought)) (Some k) (Binary op nought nought)
      refl) (binary_has p sh c op i j (integer x) (integer y))) w u a

  -- ---- cells

  chosen_cell : (b : Bool) (o : Owner) (i : ℕ) (k : IntKind) → HasSort p sh c (Spot k) (Designates o i) → (w u : World) → Same w u
      → Alike (Post (Spot k)) (given (cond b (Gives (Designates o i) w) (Traps Trap.Index w)))
      (given (cond b (Gives (Designates (new_owner holes o) i) u) (Traps Trap.Index u)))
  chosen_cell true o i k h w u a = (h, refl, a)
  chosen_cell false o i k h w u a = (refl, a.events)

  cell_at : (o : Owner) (z : ℤ) (k : IntKind) → Target p sh c o → owner_kind p sh o ≡ k → (w u : World) → Same w u →
      Alike (Post (Spot k)) (given (cell_of o z w)) (given (cell_of (new_owner holes o) z u))
  cell_at o (pos i) k t e w u a =
      subst (λ v. Alike (Post (Spot k)) (given (cell_of o (pos i) w))
      (given (cond (nat_lt i (cells_held v)) (Gives (Designates (new_owner holes o) i) u) (Traps Trap.Index u))))
      (sym (target_same p sh holes false c w u a o t))
      (chosen_cell (nat_lt i (cells_held (w.variables o))) o i k (t, e) w u a)
  cell_at o (negsuc i) k t e w u a = (refl, a.events)

  pub cell_alike : (h : Home) (z : ℤ) → IsHome (sh c).slots h → home_lacks (holes c) h ≡ true → (w u : World) → Same w u
      → Alike (Post (Spot (home_kind p (sh c).slots h))) (given (cell h z w)) (given (cell (renumbered_home (holes c) h) z u))
  cell_alike h z i l w u a =
      let r = home_reached p sh holes false c w u a h i l in
      subst (λ o. Alike (Post (Spot (home_kind p (sh c).slots h))) (given (cell h z w)) (given (cell_of o z u)))
      (sym (home_same p sh holes false c w u a h i l))
      (cell_at (owner h w) z (home_kind p (sh c).slots h) r.0 r.1 w u a)

  pub load_in : (k : IntKind) (x : Value) → HasSort p sh c (Spot k) x → (w u : World) → Same w u → HasSort p sh c (Num (Some k)) (loaded x w)
  load_in k (Designates o i) h w u a = (
    tt,
    subst (λ j. IsInRange j (number_held (w.variables o) i)) h.1
        (own_number (owner_kind p sh o) (w.variables o) i (target_own p sh holes false c w u a o h.0)),
  )
  load_in k _ h w u a = absurd h

  pub load_same : (k : IntKind) (x : Value) → HasSort p sh c (Spot k) x → (w u : World) → Same w u → loaded (new_value holes x) u ≡ loaded x w
  load_same k (Designates o i) h w u a = ap (λ v. Integer (number_held v i)) (target_same p sh holes false c w u a o h.0)
  load_same k _ h w u a = absurd h

  -- the World after a store
  pub store_apart : (k : IntKind) (x : Value) (z : ℤ) → HasSort p sh c (Spot k) x → (w u : World) → Same w u →
      Same (store x z w) (store (new_value holes x) z u)
  store_apart k (Designates o i) z h w u a = put_apart p sh holes false c w u a (with_number i z) (number_keeps p sh holes i z) o h.0
  store_apart k _ z h w u a = absurd h

  kind_is : (k : IntKind) (x : Value) → HasSort p sh c (Spot k) x → (w u : World) → Same w u → kind_at x w ≡ k
  kind_is k (Designates o i) h w u a = own_kind (owner_kind p sh o) (w.variables o) (target_own p sh holes false c w u a o h.0) ∙ h.1
  kind_is k _ h w u a = absurd h

  kind_same : (k : IntKind) (x : Value) → HasSort p sh c (Spot k) x → (w u : World) → Same w u → kind_at (new_value holes x) u ≡ kind_at x w
  kind_same k (Designates o i) h w u a = ap kind_held (target_same p sh holes false c w u a o h.0)
  kind_same k _ h w u a = absurd h

  stored_in : (k : IntKind) (x y : Value) → HasSort p sh c (Spot k) x → (w u : World) → Same w u →
      HasSort p sh c (Num (Some k)) (converted_value (kind_at x w) y)
  stored_in k x y h w u a = (tt, subst (λ j. IsInRange k (converted j (integer y))) (sym (kind_is k x h w u a)) (converted-in_range k (integer y)))

  pub assign_alike : (k : IntKind) (x y : Value) → HasSort p sh c (Spot k) x → (w u : World) → Same w u →
      Alike (Post (Num (Some k))) (given (assign x y w)) (given (assign (new_value holes x) y u))
  assign_alike k x y h w u a = (stored_in k x y h w u a, ap (λ j. converted_value j y) (kind_same k x h w u a), store_apart k x (integer y) h w u a)

  counted_alike : (after : Bool) (k : IntKind) (x : Value) (r : Result ℤ Trap) → HasSort p sh c (Spot k) x → (w u : World) → Same w u
      → Alike (Post (Num (Some k))) (given (counted after x r w)) (given (counted after (new_value holes x) r u))
  counted_alike true k x (Ok n) h w u a = (load_in k x h w u a, load_same k x h w u a, store_apart k x n h w u a)
  counted_alike false k x (Ok n) h w u a = (
    stored_in k x (Integer n) h w u a,
    ap (λ j. converted_value j (Integer n)) (kind_same k x h w u a),
    store_apart k x n h w u a,
  )
  counted_alike after k x (Err t) h w u a = (refl, a.events)

  pub count_alike : (up after : Bool) (k : IntKind) (x : Value) → HasSort p sh c (Spot k) x → (w u : World) → Same w u →
      Alike (Post (Num (Some k))) (given (count up after x w)) (given (count up after (new_value holes x) u))
  count_alike up after k x h w u a =
      subst (λ j. Alike (Post (Num (Some k))) (given (count up after x w))
      (given (counted after (new_value holes x) (arith_result (count_mark up) (promoted j) (load (new_value holes x) u) (pos 1)) u)))
      (sym (kind_same k x h w u a))
      (subst (λ n. Alike (Post (Num (Some k))) (given (count up after x w))
      (given (counted after (new_value holes x) (arith_result (count_mark up) (promoted (kind_at x w)) n (pos 1)) u)))
      (sym (ap integer (load_same k x h w u a)))
      (counted_alike after k x (arith_result (count_mark up) (promoted (kind_at x w)) (load x w) (pos 1)) h w u a))

  -- ---- calls that enter no body

  emit_apart : (es : List Event) (w u : World) → Same w u → Same (emit es w) (emit es u)
  emit_apart es w u a = record {
    calls = a.calls;
    same_calls = a.same_calls;
    cells = a.cells;
    input = a.input;
    answers = a.answers;
    events = ap (λ x. x ++ es) a.events;
    sealed = a.sealed;
    file_same = a.file_same;
    file_good = a.file_good;
    call_same = a.call_same;
    call_good = a.call_good;
    older = a.older;
    newest = a.newest;
  }

  input_apart : (bs : List ℕ) (w u : World) → Same w u → Same (record w { input = bs }) (record u { input = bs })
  input_apart bs w u a = record {
    calls = a.calls;
    same_calls = a.same_calls;
    cells = a.cells;
    input = refl;
    answers = a.answers;
    events = a.events;
    sealed = a.sealed;
    file_same = a.file_same;
    file_good = a.file_good;
    call_same = a.call_same;
    call_good = a.call_good;
    older = a.older;
    newest = a.newest;
  }

  answers_apart : (ns : List ℤ) (w u : World) → Same w u → Same (record w { answers = ns }) (record u { answers = ns })
  answers_apart ns w u a = record {
    calls = a.calls;
    same_calls = a.same_calls;
    cells = a.cells;
    input = a.input;
    answers = refl;
    events = a.events;
    sealed = a.sealed;
    file_same = a.file_same;
    file_good = a.file_good;
    call_same = a.call_same;
    call_good = a.call_good;
    older = a.older;
    newest = a.newest;
  }

  byte_in : (b : ℕ) → b < 256 → IsInRange Int (pos b)
  byte_in b h = record { from_least = grind (arith, ints); to_greatest = grind (arith, ints) }

  minus_one_in : IsInRange Int (negsuc 0)
  minus_one_in = record { from_least = grind (arith, ints); to_greatest = grind (arith, ints) }

  abbrev Known : Option IntKind → Outcome → Outcome → Type 0
  Known kind o r = Alike (Post (Num kind)) (given o) (given r)

  read_alike : (bs : List ℕ) (w u : World) → Same w u → Known (Some Int) (read_byte bs w) (read_byte bs u)
  read_alike [] w u a = ((tt, minus_one_in), refl, a)
  read_alike (b ∷ bs) w u a = ((tt, byte_in (residue UChar (pos b)) (residue_below UChar (pos b))), refl, input_apart bs w u a)

  getchar_alike : (w u : World) → Same w u → Known (Some Int) (read_byte w.input w) (read_byte u.input u)
  getchar_alike w u a = subst (λ bs. Known (Some Int) (read_byte w.input w) (read_byte bs u)) (sym a.input) (read_alike w.input w u a)

  answered_alike : (kind : Option IntKind) (ns : List ℤ) (w u : World) → Same w u → Known kind (answered kind ns w) (answered kind ns u)
  answered_alike None ns w u a = ((tt, tt), refl, a)
  answered_alike (Some k) [] w u a = (refl, a.events)
  answered_alike (Some k) (n ∷ ns) w u a = ((tt, converted-in_range k n), refl, answers_apart ns w u a)

  declared_alike : (m : List ℕ) (f : FunctionTree) (vs : List Value) (w u : World) → Same w u → Known f.result (call_declared m f vs w) (call_declared m f vs u)
  declared_alike m f vs w u a =
      let es = Called m (converted_arguments f.slots vs) ∷ [] in
      subst (λ ns. Known f.result (call_declared m f vs w) (answered f.result ns (emit es u))) (sym a.answers)
      (answered_alike f.result w.answers (emit es w) (emit es u) (emit_apart es w u a))

  choose : (b d e i j : Bool) (result : Option IntKind) (o1 o2 o3 o4 o5 o6 p1 p2 p3 p4 p5 p6 : Outcome) → Known (Some Int) o1 p1 →
      Known (Some Int) o2 p2 → Known (Some Int) o3 p3 → Known result o4 p4 → Known result o5 p5 → Known result o6 p6
      → Known (cond (b || (d || e)) (Some Int) result) (cond b o1 (cond d o2 (cond e o3 (cond i o4 (cond j o5 o6)))))
      (cond b p1 (cond d p2 (cond e p3 (cond i p4 (cond j p5 p6)))))
  choose true d e i j result o1 o2 o3 o4 o5 o6 p1 p2 p3 p4 p5 p6 h1 h2 h3 h4 h5 h6 = h1
  choose false true e i j result o1 o2 o3 o4 o5 o6 p1 p2 p3 p4 p5 p6 h1 h2 h3 h4 h5 h6 = h2
  choose false false true i j result o1 o2 o3 o4 o5 o6 p1 p2 p3 p4 p5 p6 h1 h2 h3 h4 h5 h6 = h3
  choose false false false true j result o1 o2 o3 o4 o5 o6 p1 p2 p3 p4 p5 p6 h1 h2 h3 h4 h5 h6 = h4
  choose false false false false true result o1 o2 o3 o4 o5 o6 p1 p2 p3 p4 p5 p6 h1 h2 h3 h4 h5 h6 = h5
  choose false false false false false result o1 o2 o3 o4 o5 o6 p1 p2 p3 p4 p5 p6 h1 h2 h3 h4 h5 h6 = h6

  pub known_alike : (m : List ℕ) (f : FunctionTree) (vs : List Value) (w u : World) → Same w u →
      Known (kind_called m None f.result) (call_without_body m f vs w) (call_without_body m f vs u)
  known_alike m f vs w u a =
      choose (bytes_eq m (codes "getchar")) (bytes_eq m (codes "putchar")) (bytes_eq m (codes "printf")) (bytes_eq m (codes "exit"))
      (bytes_eq m (codes "abort")) f.result _ _ _ _ _ _ _ _ _ _ _ _
      (getchar_alike w u a)
      ((tt, byte_in (residue UChar (next vs)) (residue_below UChar (next vs))), refl, emit_apart (Byte (residue UChar (next vs)) ∷ []) w u a)
      ((tt, converted-in_range Int _), refl, emit_apart (map Byte (printed_bytes vs)) w u a)
      (refl, a.events)
      (refl, a.events)
      (declared_alike m f vs w u a)
