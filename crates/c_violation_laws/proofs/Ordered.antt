-- What is derived has its tokens in text order.
use Rattle.std.proofs.Common.{◌≡◌, ◌≤◌, ◌+◌, ℕ, Bool, false, List, [], ◌∷◌, ◌++◌, length, Option, arith}
use Rattle.c_grammar.specs.Terms.{Term}
use Rattle.c_grammar.specs.Items.{Initialiser, Declarator, Declaration, Label, Start, Item, States, Statement, Body, Items}
use Rattle.c_grammar.specs.Tops.{Enumerator, Parameter, Function, Form, Top}
use Rattle.c_grammar.specs.declared.class.Class.{Class}
use Rattle.c_grammar.specs.declared.class.Class.TheVariants as c
use Rattle.c_reading_defs.specs.Symbols.{Symbol, Counted, Uncounted, Outside, OpensLevel, EndsLevel, classes_in, token_behind}
use Rattle.c_reading_defs.specs.DerivedTerms.{IsBase, IsType}
use Rattle.c_reading_defs.specs.DerivedItems.{AreMore, AreEach, IsValue, IsInitialiser, IsGiven, IsDeclarator, IsDeclaration, IsOptional, IsLabel, IsStart, IsTested, nested, IsBlock, AreItems, IsStatement, IsBody, IsPlain}
use Rattle.c_reading_defs.specs.DerivedTops.{IsEnumerator, IsNamed, IsParameter, AreParameters, IsDefined, IsFunction, IsTop, IsFile}
use Rattle.c_violation_laws.proofs.Rising.{Rising, wider, rising_both}
use Rattle.c_violation_laws.proofs.Marks.{each_marks, term_marks, option_marks, value_marks, declarator_marks, declaration_marks, label_marks, start_marks, item_marks, plain_marks, statement_marks, body_marks, list_marks, name_marks, parameter_marks, within_marks, inner_marks, enumerator_marks, form_marks, top_marks}

-- how many tokens they spell
abbrev pub size : List Symbol → ℕ
size xs = length (classes_in xs)

pub size_both : (xs ys : List Symbol) → size (xs ++ ys) ≡ size xs + size ys
size_both [] ys = omega arith
size_both (Counted k ∷ xs) ys = let h = size_both xs ys in omega (arith, h)
size_both (Uncounted k ∷ xs) ys = let h = size_both xs ys in omega (arith, h)
size_both (Outside k ∷ xs) ys = let h = size_both xs ys in omega (arith, h)
size_both (OpensLevel ∷ xs) ys = size_both xs ys
size_both (EndsLevel ∷ xs) ys = size_both xs ys

size_three : (xs ys zs : List Symbol) → size (xs ++ ys ++ zs) ≡ size xs + size ys + size zs
size_three xs ys zs = let g = size_both (xs ++ ys) zs in let h = size_both xs ys in omega (arith, g, h)

size_four : (xs ys zs ws : List Symbol) → size (xs ++ ys ++ zs ++ ws) ≡ size xs + size ys + size zs + size ws
size_four xs ys zs ws = let g = size_both (xs ++ ys ++ zs) ws in let h = size_three xs ys zs in omega (arith, g, h)

-- behind these and one token more
size_then : (xs : List Symbol) (k : Class) → size (xs ++ Outside k ∷ []) ≡ size xs + 1
size_then xs k = size_both xs (Outside k ∷ [])

size_nested : (xs : List Symbol) → size (nested xs) ≡ size xs
size_nested xs = let h = size_both xs (EndsLevel ∷ []) in omega (arith, h)

-- these tokens stand in order among those of the symbols
abbrev pub InOrder : ℕ → List ℕ → List Symbol → Type 0
InOrder at ms es = Rising at ms (token_behind at es)

-- ---- in a list

module _ {W : Type 0} (Is : ℕ → List Symbol → W → Type 0) (marks : W → List ℕ)
    (one : (at : ℕ) (es : List Symbol) (w : W) → Is at es w → InOrder at (marks w) es) where
  more : (at : ℕ) (es : List Symbol) (ws : List W) → AreMore Is at es ws → InOrder at (each_marks marks ws) es
  more at us vs AreMore.none = omega arith
  more at us vs (AreMore.more {xs = xs} {ys = ys} {w = w} {ws = ws} i m) =
      let n = size_both xs ys in
      wider at (at + 1) (marks w ++ each_marks marks ws) (at + 1 + size xs + size ys) _ (omega arith) (omega (arith, n))
      (rising_both (at + 1) (marks w) (at + 1 + size xs) (each_marks marks ws) (at + 1 + size xs + size ys) (one (at + 1) xs w i)
      (more (at + 1 + size xs) ys ws m))

  each : (at : ℕ) (es : List Symbol) (ws : List W) → AreEach Is at es ws → InOrder at (each_marks marks ws) es
  each at us vs (AreEach.each {xs = xs} {ys = ys} {w = w} {ws = ws} i m) =
      let n = size_both xs ys in
      wider at at (marks w ++ each_marks marks ws) (at + size xs + size ys) _ (omega arith) (omega (arith, n))
      (rising_both at (marks w) (at + size xs) (each_marks marks ws) (at + size xs + size ys) (one at xs w i) (more (at + size xs) ys ws m))

-- ---- declarations

value : (at : ℕ) (es : List Symbol) (t : Term) → IsValue at es t → InOrder at (term_marks t) es
value at es t (IsValue.value i) = (omega arith, omega arith)

initialiser : (at : ℕ) (es : List Symbol) (i : Initialiser) → IsInitialiser at es i → InOrder at (value_marks i) es
initialiser at us i (IsInitialiser.one {xs = xs} {t = t} v) = value at xs t v
initialiser at us i (IsInitialiser.list {xs = xs} {ys = ys} {ts = ts} e m) =
    let n = size_three xs ys (Outside c.CloseBlock ∷ []) in
    wider at (at + 1) (each_marks term_marks ts) (at + 1 + size xs) _ (omega arith) (omega (arith, n)) (each IsValue term_marks value (at + 1) xs ts e)

given : (at : ℕ) (es : List Symbol) (i : Initialiser) → IsGiven at es i → InOrder at (value_marks i) es
given at us i IsGiven.not_given = omega arith
given at us j (IsGiven.given {xs = xs} {i = i} v) = wider at (at + 1) (value_marks i) (at + 1 + size xs) _ (omega arith) (omega arith)
    (initialiser (at + 1) xs i v)

declarator : (at : ℕ) (es : List Symbol) (d : Declarator) → IsDeclarator at es d → InOrder at (declarator_marks d) es
declarator at us d (IsDeclarator.declared {xs = xs} {ys = ys} {z = z} {i = i} s g) =
    let n = size_both xs ys in (
      omega arith,
      (
        omega arith,
        wider (at + 1) (at + 1 + size xs) (value_marks i) (at + 1 + size xs + size ys) _ (omega arith) (omega (arith, n))
            (given (at + 1 + size xs) ys i g),
      ),
    )

declaration : (at : ℕ) (es : List Symbol) (d : Declaration) → IsDeclaration at es d → InOrder at (declaration_marks d) es
declaration at us d (IsDeclaration.declares {xs = xs} {ys = ys} {zs = zs} {ds = ds} m t e) =
    let n = size_four xs ys zs (Outside c.Semicolon ∷ []) in
    wider at (at + size xs + size ys) (each_marks declarator_marks ds) (at + size xs + size ys + size zs) _ (omega arith) (omega (arith, n))
    (each IsDeclarator declarator_marks declarator (at + size xs + size ys) zs ds e)

-- ---- statements

grouped : (lo : ℕ) (xs ys zs : List ℕ) (hi : ℕ) → Rising lo (xs ++ (ys ++ zs)) hi → Rising lo ((xs ++ ys) ++ zs) hi
grouped lo [] ys zs hi r = r
grouped lo (x ∷ xs) ys zs hi r = (r.0, grouped x xs ys zs hi r.1)

optional : (at : ℕ) (es : List Symbol) (o : Option Term) → IsOptional at es o → InOrder at (option_marks o) es
optional at us o IsOptional.nothing = omega arith
optional at us o (IsOptional.some i) = (omega arith, omega arith)

label : (at : ℕ) (es : List Symbol) (l : Label) → IsLabel at es l → InOrder at (label_marks l) es
label at us l IsLabel.named = omega arith
label at us l (IsLabel.case {xs = xs} i) = (omega arith, omega arith)
label at us l IsLabel.default = omega arith

start : (at : ℕ) (es : List Symbol) (i : Start) → IsStart at es i → InOrder at (start_marks i) es
start at us i (IsStart.names {xs = xs} {d = d} h) = declaration at xs d h
start at us i IsStart.no_start = omega arith
start at us i (IsStart.started {xs = xs} h) = (omega arith, omega arith)

tested : (k : Class) (at : ℕ) (es : List Symbol) (t : Term) → IsTested k at es t → InOrder at (term_marks t) es
tested k at us t (IsTested.tested {xs = xs} i) = let n = size_then xs c.Close in (omega arith, omega (arith, n))

-- a label in front of the rest
labelled : (at : ℕ) (xs ys : List Symbol) (ms ns ks : List ℕ) → InOrder at ms xs → InOrder (token_behind at xs) (ns ++ ks) ys →
    InOrder at ((ms ++ ns) ++ ks) (xs ++ ys)
labelled at xs ys ms ns ks g h =
    let n = size_both xs ys in
    wider at at ((ms ++ ns) ++ ks) (at + size xs + size ys) _ (omega arith) (omega (arith, n))
    (grouped at ms ns ks (at + size xs + size ys) (rising_both at ms (at + size xs) (ns ++ ks) (at + size xs + size ys) g h))

-- two parts, the second behind one token more
pair : (at : ℕ) (xs ys : List Symbol) (ms ns : List ℕ) → InOrder at ms xs → InOrder (at + size xs + 1) ns ys → Rising at (ms ++ ns) (at + size xs + 1 + size ys)
pair at xs ys ms ns g h = rising_both at ms (at + size xs + 1) ns (at + size xs + 1 + size ys)
    (wider at at ms (at + size xs) (at + size xs + 1) (omega arith) (omega arith) g) h

mutual
  block : (at : ℕ) (es : List Symbol) (b : Body) → IsBlock at es b → InOrder at (body_marks b) es
  block at us b (IsBlock.braces {xs = xs} {is = is} h) =
      let n = size_nested (Outside c.OpenBlock ∷ xs ++ Outside c.CloseBlock ∷ []) in
      let k = size_then xs c.CloseBlock in
      wider at (at + 1) (list_marks is) (at + 1 + size xs) _ (omega arith) (omega (arith, n, k)) (items (at + 1) xs is h)

  items : (at : ℕ) (es : List Symbol) (is : Items) → AreItems at es is → InOrder at (list_marks is) es
  items at us is AreItems.no_item = omega arith
  items at us vs (AreItems.local {xs = xs} {ys = ys} {d = d} {is = is} g h) =
      let n = size_both xs ys in
      wider at at (declaration_marks d ++ list_marks is) (at + size xs + size ys) _ (omega arith) (omega (arith, n))
      (rising_both at (declaration_marks d) (at + size xs) (list_marks is) (at + size xs + size ys) (declaration at xs d g) (items (at + size xs) ys is h))
  items at us vs (AreItems.statement {dangling = o} {xs = xs} {ys = ys} {i = i} {is = is} g h) =
      let n = size_both xs ys in
      wider at at (item_marks i ++ list_marks is) (at + size xs + size ys) _ (omega arith) (omega (arith, n))
      (rising_both at (item_marks i) (at + size xs) (list_marks is) (at + size xs + size ys) (statement o at xs i g) (items (at + size xs) ys is h))

  statement : (o : Bool) (at : ℕ) (es : List Symbol) (i : Item) → IsStatement o at es i → InOrder at (item_marks i) es
  statement o at us i (IsStatement.block_alone {xs = xs} {b = b} h) = block at xs b h
  statement o at us i (IsStatement.unlabelled {xs = xs} {p = p} h) = plain o at xs p h
  statement o at us i (IsStatement.labelled {xs = xs} {ys = ys} {l = l} {ls = ls} {p = p} g h) =
      labelled at xs ys (label_marks l) (each_marks label_marks ls) (plain_marks p) (label at xs l g) (statement o (at + size xs) ys (States ls p) h)

  body : (o : Bool) (at : ℕ) (es : List Symbol) (b : Body) → IsBody o at es b → InOrder at (body_marks b) es
  body o at us b (IsBody.block_list {xs = xs} h) = block at xs b h
  body o at us b (IsBody.unlabelled_list {xs = xs} {p = p} h) = let n = size_nested xs in
      wider at at (statement_marks p) (at + size xs) _ (omega arith) (omega (arith, n)) (plain o at xs p h)
  body o at us b (IsBody.labelled_list {xs = xs} {ys = ys} {l = l} {ls = ls} {p = p} g h) =
      let n = size_nested (xs ++ ys) in
      wider at at ((label_marks l ++ each_marks label_marks ls) ++ plain_marks p) (at + size (xs ++ ys)) _ (omega arith) (omega (arith, n))
      (labelled at xs ys (label_marks l) (each_marks label_marks ls) (plain_marks p) (label at xs l g) (statement o (at + size xs) ys (States ls p) h))

  plain : (o : Bool) (at : ℕ) (es : List Symbol) (s : Statement) → IsPlain o at es s → InOrder at (statement_marks s) es
  plain o at us s IsPlain.null = omega arith
  plain o at us s (IsPlain.evaluate {xs = xs} i) = (omega arith, omega arith)
  plain o at us s (IsPlain.if_alone {dangling = q} {xs = xs} {ys = ys} {t = t} {b = b} g h) =
      let n = size_both xs ys in
      wider at at (term_marks t ++ body_marks b) (at + size xs + size ys) _ (omega arith) (omega (arith, n))
      (rising_both at (term_marks t) (at + size xs) (body_marks b) (at + size xs + size ys) (tested c.If at xs t g) (body q (at + size xs) ys b h))
  plain o at us s (IsPlain.if_else {xs = xs} {ys = ys} {zs = zs} {t = t} {b = b} {d = d} g h k) =
      let n = size_three xs ys (Outside c.Else ∷ zs) in
      let mid = at + size xs in
      let hi = mid + size ys + 1 + size zs in
      wider at at (term_marks t ++ (body_marks b ++ body_marks d)) hi _ (omega arith) (omega (arith, n))
      (rising_both at (term_marks t) mid (body_marks b ++ body_marks d) hi (tested c.If at xs t g)
      (pair mid ys zs (body_marks b) (body_marks d) (body false mid ys b h) (body o (mid + size ys + 1) zs d k)))
  plain o at us s (IsPlain.while {xs = xs} {ys = ys} {t = t} {b = b} g h) =
      let n = size_both xs ys in
      wider at at (term_marks t ++ body_marks b) (at + size xs + size ys) _ (omega arith) (omega (arith, n))
      (rising_both at (term_marks t) (at + size xs) (body_marks b) (at + size xs + size ys) (tested c.While at xs t g) (body o (at + size xs) ys b h))
  plain o at us s (IsPlain.do_while {dangling = q} {xs = xs} {ys = ys} {t = t} {b = b} g h) =
      let n = size_three xs ys (Outside c.Semicolon ∷ []) in
      wider at (at + 1) (body_marks b ++ term_marks t) (at + 1 + size xs + size ys) _ (omega arith) (omega (arith, n))
      (rising_both (at + 1) (body_marks b) (at + 1 + size xs) (term_marks t) (at + 1 + size xs + size ys) (body q (at + 1) xs b g)
      (tested c.While (at + 1 + size xs) ys t h))
  plain o at us s (IsPlain.for {xs = xs} {ys = ys} {zs = zs} {ws = ws} {i = i} {t = t} {u = u} {b = b} f g h k) =
      let n = size_four xs ys (Outside c.Semicolon ∷ zs) (Outside c.Close ∷ ws) in
      let first = at + 1 + 1 in
      let second = first + size xs in
      let third = second + size ys + 1 in
      let hi = third + size zs + 1 + size ws in
      wider at first (start_marks i ++ (option_marks t ++ (option_marks u ++ body_marks b))) hi _ (omega arith) (omega (arith, n))
      (rising_both first (start_marks i) second (option_marks t ++ (option_marks u ++ body_marks b)) hi (start first xs i f)
      (rising_both second (option_marks t) third (option_marks u ++ body_marks b) hi
      (wider second second (option_marks t) (second + size ys) third (omega arith) (omega arith) (optional second ys t g))
      (pair third zs ws (option_marks u) (body_marks b) (optional third zs u h) (body o (third + size zs + 1) ws b k))))
  plain o at us s (IsPlain.switch {xs = xs} {ys = ys} {t = t} {b = b} g h) =
      let n = size_both xs ys in
      wider at at (term_marks t ++ body_marks b) (at + size xs + size ys) _ (omega arith) (omega (arith, n))
      (rising_both at (term_marks t) (at + size xs) (body_marks b) (at + size xs + size ys) (tested c.Switch at xs t g) (body o (at + size xs) ys b h))
  plain o at us s IsPlain.goto = omega arith
  plain o at us s IsPlain.break = omega arith
  plain o at us s IsPlain.continue = omega arith
  plain o at us s (IsPlain.return {xs = xs} {t = t} i) =
      let n = size_then xs c.Semicolon in wider at (at + 1) (option_marks t) (at + 1 + size xs) _ (omega arith) (omega (arith, n)) (optional (at + 1) xs t i)

-- ---- functions

some_type : (xs : List Symbol) → IsType xs → 1 ≤ size xs
some_type us (IsType.base IsBase.char) = omega arith
some_type us (IsType.base IsBase.int) = omega arith
some_type us (IsType.base IsBase.long) = omega arith
some_type us (IsType.base IsBase.long_int) = omega arith
some_type us IsType.signed = omega arith
some_type us (IsType.signed_base b) = omega arith
some_type us IsType.unsigned = omega arith
some_type us (IsType.unsigned_base b) = omega arith

named : (at : ℕ) (es : List Symbol) (n : Option ℕ) → IsNamed at es n → InOrder at (name_marks n) es
named at us n IsNamed.no = omega arith
named at us n IsNamed.yes = (omega arith, (omega arith, omega arith))

parameter : (at : ℕ) (es : List Symbol) (x : Parameter) → IsParameter at es x → InOrder at (parameter_marks x) es
parameter at us x (IsParameter.parameter {xs = xs} {ys = ys} {zs = zs} {ws = ws} {n = n} {z = z} m t g h) =
    let k = size_four xs ys zs ws in
    let some = some_type ys t in
    let mid = at + size xs + size ys in
    (omega arith, (omega arith, wider (at + 1) mid (name_marks n) (mid + size zs) _ (omega (arith, some)) (omega (arith, k)) (named mid zs n g)))

parameters : (at : ℕ) (es : List Symbol) (ps : List Parameter) → AreParameters at es ps → InOrder at (each_marks parameter_marks ps) es
parameters at us ps AreParameters.none = omega arith
parameters at us ps AreParameters.void = omega arith
parameters at us ps (AreParameters.some {xs = xs} h) = each IsParameter parameter_marks parameter at xs ps h

defined : (at : ℕ) (es : List Symbol) (o : Option Body) → IsDefined at es o → InOrder at (within_marks o) es
defined at us o IsDefined.declared = omega arith
defined at us o (IsDefined.defined {xs = xs} {b = b} h) = block at xs b h

pub function : (at : ℕ) (es : List Symbol) (f : Function) → IsFunction at es f → InOrder at (f.name ∷ (f.name + 1) ∷ inner_marks f) es
function at us f (IsFunction.function {xs = xs} {ys = ys} {zs = zs} {ws = ws} {ps = ps} {b = b} s r p d) =
    let n = size_four xs ys (Outside c.Name ∷ Outside c.Open ∷ zs) (Outside c.Close ∷ ws) in
    let name = at + size xs + size ys in
    let first = name + 1 + 1 in
    let second = first + size zs + 1 in (
      omega arith,
      (
        omega arith,
        wider (name + 1) first (each_marks parameter_marks ps ++ within_marks b) (second + size ws) _ (omega arith) (omega (arith, n))
            (rising_both first (each_marks parameter_marks ps) second (within_marks b) (second + size ws)
            (wider first first (each_marks parameter_marks ps) (first + size zs) second (omega arith) (omega arith) (parameters first zs ps p))
            (defined second ws b d)),
      ),
    )

-- ---- files

enumerator : (at : ℕ) (es : List Symbol) (e : Enumerator) → IsEnumerator at es e → InOrder at (enumerator_marks e) es
enumerator at us e IsEnumerator.alone = (omega arith, (omega arith, omega arith))
enumerator at us e (IsEnumerator.given {xs = xs} h) = (omega arith, (omega arith, omega arith))

top : (at : ℕ) (es : List Symbol) (f : Form) → IsTop at es f → InOrder at (form_marks f) es
top at us f IsTop.line = omega arith
top at us f (IsTop.enum {xs = xs} {ys = ys} {es = es} e m) =
    let n = size_three xs ys (Outside c.CloseBlock ∷ Outside c.Semicolon ∷ []) in
    wider at (at + 1 + 1) (each_marks enumerator_marks es) (at + 1 + 1 + size xs) _ (omega arith) (omega (arith, n))
    (each IsEnumerator enumerator_marks enumerator (at + 1 + 1) xs es e)
top at us f (IsTop.globals {xs = xs} {ys = ys} {d = d} m h) =
    let n = size_both xs ys in
    wider at (at + size xs) (declaration_marks d) (at + size xs + size ys) _ (omega arith) (omega (arith, n)) (declaration (at + size xs) ys d h)
top at us f (IsTop.defines {xs = xs} {f = g} h) = function at xs g h

pub file : (at : ℕ) (es : List Symbol) (xs : List Top) → IsFile at es xs → InOrder at (each_marks top_marks xs) es
file at us xs IsFile.no_top = omega arith
file at us vs (IsFile.top {xs = xs} {ys = ys} {f = f} {ts = ts} g h) =
    let n = size_both xs ys in
    wider at at (form_marks f ++ each_marks top_marks ts) (at + size xs + size ys) _ (omega arith) (omega (arith, n))
    (rising_both at (form_marks f) (at + size xs) (each_marks top_marks ts) (at + size xs + size ys) (top at xs f g) (file (at + size xs) ys ts h))
