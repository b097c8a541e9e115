-- A call is what its arguments make of it.
use Rattle.std.proofs.Common.{◌≡◌, ◌≢◌, ◌||◌, ◌&&◌, ◌==◌, not, ℕ, suc, Bool, true, false, cond, List, [], ◌∷◌, ◌++◌, map, length, Option, Some, None, refl, ap, sym, subst, ◌∙◌, arith, eqb-true, eq-eqb, ne_eqb}
use Rattle.c_types.specs.declared.kinds.IntKind.{IntKind}
use Rattle.c_types.specs.declared.kinds.IntKind.TheVariants as K
use Rattle.c_tree.specs.declared.tree.Expression.{Expression}
use Rattle.c_tree.specs.declared.tree.Node as node
use Rattle.c_kinds.specs.declared.binding.Want.{Want}
use Rattle.c_kinds.specs.declared.binding.Want.TheVariants as want
use Rattle.c_kinds.specs.declared.binding.Binding.{Binding}
use Rattle.c_kinds.specs.declared.binding.Binding.TheVariants as binding
use Rattle.c_kinds.specs.declared.typed.Typed.{Typed}
use Rattle.c_kinds.specs.declared.typed.Typed.TheVariants.{Value, Void, Text, Array, Wrong}
use Rattle.c_kinds.specs.declared.typed.ArrayName.{ArrayName}
use Rattle.c_kinds.specs.declared.typed.Given.{Given}
use Rattle.c_kinds.specs.Formats.{wanted}
use Rattle.c_kinds.specs.Marks.{is_wide}
use Rattle.c_kinds.specs.Values.{of_result, expression, expression_of}
use Rattle.c_kinds.specs.Calls.{same_kind, same_truth, array_fits, fits, each_fits, all_fit, handed, all_handed, call, text_of, printing, formatted, called}
use Rattle.c_reading_defs.specs.Meanings.{AreHanded, none, number, array, sized, IsCall}
use Rattle.c_violation_laws.proofs.Formats.{format_is, is_format}

-- ---- tests

pub same_kind_is : (j k : IntKind) → same_kind j k ≡ true → j ≡ k
same_kind_is K.Char K.Char e = refl
same_kind_is K.UChar K.UChar e = refl
same_kind_is K.Int K.Int e = refl
same_kind_is K.UInt K.UInt e = refl
same_kind_is K.Long K.Long e = refl
same_kind_is K.ULong K.ULong e = refl
same_kind_is _ _ e = cc

pub is_same_kind : (k : IntKind) → same_kind k k ≡ true
is_same_kind K.Char = refl
is_same_kind K.UChar = refl
is_same_kind K.Int = refl
is_same_kind K.UInt = refl
is_same_kind K.Long = refl
is_same_kind K.ULong = refl

same_truth_is : (a b : Bool) → same_truth a b ≡ true → a ≡ b
same_truth_is true true e = refl
same_truth_is false false e = refl
same_truth_is true false e = cc
same_truth_is false true e = cc

is_same_truth : (b : Bool) → same_truth b b ≡ true
is_same_truth true = refl
is_same_truth false = refl

both : (a b : Bool) → (a && b) ≡ true → (a ≡ true) × (b ≡ true)
both true b e = (refl, e)
both false b e = cc

const_is : (a c : Bool) → (c || not a) ≡ true → a ≡ true → c ≡ true
const_is true true e f = refl
const_is true false e f = cc
const_is false c e f = cc

is_const : (a c : Bool) → (a ≡ true → c ≡ true) → (c || not a) ≡ true
is_const true c h = ap (λ b. b || false) (h refl)
is_const false true h = refl
is_const false false h = refl

suc_eqb : (m n : ℕ) → (suc m == suc n) ≡ (m == n)
suc_eqb m n = by_test (m == n) refl
  where
    by_test : (t : Bool) → (m == n) ≡ t → (suc m == suc n) ≡ t
    by_test true e = eq-eqb (suc m) (suc n) (ap suc (eqb-true m n e))
    by_test false e = ne_eqb (suc m) (suc n) (λ k. let j : m ≡ n = omega arith in let i : (m == n) ≡ true = eq-eqb m n j in cc)

swapped : (a b c : Bool) → (a && (b && c)) ≡ (b && (a && c))
swapped true true c = refl
swapped true false c = refl
swapped false true c = refl
swapped false false c = refl

fit_more : (w : Want) (ws : List Want) (g : Given) (gs : List Given) → all_fit (w ∷ ws) (g ∷ gs) ≡ (fits w g.typed && all_fit ws gs)
fit_more w ws g gs =
    ap (λ t. t && (fits w g.typed && each_fits ws gs)) (suc_eqb (length ws) (length gs)) ∙ swapped (length ws == length gs) (fits w g.typed) (each_fits ws gs)

none_for : (n : ℕ) → (0 == suc n) ≡ false
none_for n = ne_eqb 0 (suc n) (λ k. absurd (omega arith))

for_none : (n : ℕ) → (suc n == 0) ≡ false
for_none n = ne_eqb (suc n) 0 (λ k. absurd (omega arith))

-- ---- arguments that fit

abbrev pub types : List Given → List Typed
types gs = map (λ g. g.typed) gs

one_array : (k : IntKind) (c x : Bool) (a : ArrayName) {ws : List Want} {xs : List Typed} {es : List Expression} → array_fits k c x a ≡ true
    → AreHanded ws xs es → AreHanded (want.Array k c x ∷ ws) (Array a ∷ xs) (expression_of (Some a.kind) (node.Array a.home) ∷ es)
one_array k c true a e h = let p = both (same_kind k a.kind && (c || not a.constant)) false e in let f : false ≡ true = p.1 in cc
one_array k c false a {ws} {xs} {es} e h =
    let q = both (same_kind k a.kind && (c || not a.constant)) true e in
    let p = both (same_kind k a.kind) (c || not a.constant) q.0 in
    subst (λ j. AreHanded (want.Array j c false ∷ ws) (Array a ∷ xs) (expression_of (Some a.kind) (node.Array a.home) ∷ es)) (sym (same_kind_is k a.kind p.0))
    (array (const_is a.constant c p.1) h)

one_handed : (w : Want) (x : Typed) {ws : List Want} {xs : List Typed} {es : List Expression} → fits w x ≡ true → AreHanded ws xs es →
    AreHanded (w ∷ ws) (x ∷ xs) (handed x ++ es)
one_handed (want.Number k c) (Value v) e h = number h
one_handed (want.Array k c x) (Array a) e h = one_array k c x a e h
one_handed (want.Sized w) (Value v) {ws} {xs} {es} e h = subst (λ b. AreHanded (want.Sized b ∷ ws) (Value v ∷ xs) (expression v ∷ es))
    (sym (same_truth_is w (is_wide v.kind) e)) (sized h)
one_handed _ _ e h = cc

pub handed_of : (ws : List Want) (gs : List Given) → all_fit ws gs ≡ true → AreHanded ws (types gs) (all_handed gs)
handed_of [] [] e = none
handed_of [] (g ∷ gs) e = let f = none_for (length gs) in let k : (false && true) ≡ true = ap (λ t. t && true) (sym f) ∙ e in cc
handed_of (w ∷ ws) [] e = let f = for_none (length ws) in let k : (false && true) ≡ true = ap (λ t. t && true) (sym f) ∙ e in cc
handed_of (w ∷ ws) (g ∷ gs) e =
    let p = both (fits w g.typed) (all_fit ws gs) (sym (fit_more w ws g gs) ∙ e) in
    one_handed w g.typed p.0 (handed_of ws gs p.1)

pub record Fit (ws : List Want) (gs : List Given) (es : List Expression) : Type 0 where
  pub fit : all_fit ws gs ≡ true
  pub handed_is : all_handed gs ≡ es

one_fit : (w : Want) (ws : List Want) (g : Given) (gs : List Given) (es : List Expression) (x : Typed) → g.typed ≡ x → fits w x ≡ true →
    Fit ws gs es → Fit (w ∷ ws) (g ∷ gs) (handed x ++ es)
one_fit w ws g gs es x e f r = record {
  fit = fit_more w ws g gs ∙ ap (λ y. fits w y && all_fit ws gs) e ∙ ap (λ b. b && all_fit ws gs) f ∙ r.fit;
  handed_is = ap (λ y. handed y ++ all_handed gs) e ∙ ap (λ l. handed x ++ l) r.handed_is;
}

pub fit_of : {ws : List Want} {xs : List Typed} {es : List Expression} (gs : List Given) → AreHanded ws xs es → types gs ≡ xs → Fit ws gs es
fit_of [] none e = record { fit = refl; handed_is = refl }
fit_of [] (number h) e = cc
fit_of [] (array c h) e = cc
fit_of [] (sized h) e = cc
fit_of (g ∷ gs) none e = cc
fit_of (g ∷ gs) (number {v} {k} {c} {ws} {xs} {es} h) e =
    let d : g.typed ≡ Value v = cc in let f : types gs ≡ xs = cc in one_fit (want.Number k c) ws g gs es (Value v) d refl (fit_of gs h f)
fit_of (g ∷ gs) (array {a} {constant} {ws} {xs} {es} i h) e =
    let d : g.typed ≡ Array a = cc in
    let f : types gs ≡ xs = cc in
    let s : array_fits a.kind constant false a ≡ true = ap (λ b. (b && (constant || not a.constant)) && true) (is_same_kind a.kind) ∙
    ap (λ b. b && true) (is_const a.constant constant i) in
    one_fit (want.Array a.kind constant false) ws g gs es (Array a) d s (fit_of gs h f)
fit_of (g ∷ gs) (sized {v} {ws} {xs} {es} h) e =
    let d : g.typed ≡ Value v = cc in let f : types gs ≡ xs = cc in one_fit (want.Sized (is_wide v.kind)) ws g gs es (Value v) d
    (is_same_truth (is_wide v.kind)) (fit_of gs h f)

-- ---- each argument means something

abbrev pub AllRight : List Typed → Type 0
AllRight [] = Unit {0}
AllRight (x ∷ xs) = (x ≢ Wrong) × AllRight xs

pub handed_right : {ws : List Want} {xs : List Typed} {es : List Expression} → AreHanded ws xs es → AllRight xs
handed_right none = tt
handed_right (number h) = (λ e. cc, handed_right h)
handed_right (array c h) = (λ e. cc, handed_right h)
handed_right (sized h) = (λ e. cc, handed_right h)

pub call_right : (name : List ℕ) (b : Binding) (xs : List Typed) (y : Typed) → IsCall name b xs y → AllRight xs
call_right name (binding.Function s) xs y h = handed_right h.1
call_right name binding.Printf (Text bytes ∷ xs) y h = (λ e. cc, handed_right h.3)
call_right name binding.Printf [] y h = absurd h
call_right name binding.Printf (Value v ∷ xs) y h = absurd h
call_right name binding.Printf (Void v ∷ xs) y h = absurd h
call_right name binding.Printf (Array v ∷ xs) y h = absurd h
call_right name binding.Printf (Wrong ∷ xs) y h = absurd h
call_right name _ xs y h = absurd h

-- ---- calls

abbrev When : Bool → Typed → Typed
When t x = cond t x Wrong

record Called (name : List ℕ) (result : Option IntKind) (front : List Expression) (ws : List Want) (gs : List Given) (x : Typed) : Type 0 where
  fits_all : AreHanded ws (types gs) (all_handed gs)
  is : x ≡ of_result result (node.Call name (front ++ all_handed gs))

call_is : (name : List ℕ) (result : Option IntKind) (front : List Expression) (ws : List Want) (gs : List Given) (x : Typed) (t : Bool) → all_fit ws gs ≡ t
    → cond t (of_result result (node.Call name (front ++ all_handed gs))) Wrong ≡ x → x ≢ Wrong → Called name result front ws gs x
call_is name result front ws gs x true f e n = record { fits_all = handed_of ws gs f; is = sym e }
call_is name result front ws gs x false f e n = absurd (n (sym e))

printed_is : (name bytes : List ℕ) (gs : List Given) (x : Typed) (o : Option (List Want)) → wanted bytes ≡ o → printing name bytes o gs ≡ x →
    x ≢ Wrong → IsCall name binding.Printf (Text bytes ∷ types gs) x
printed_is name bytes gs x (Some ws) w e n =
    let r = call_is name (Some K.Int) (expression_of None (node.Text bytes) ∷ []) ws gs x (all_fit ws gs) refl e n in
    (ws, all_handed gs, format_is bytes ws w, r.fits_all, r.is)
printed_is name bytes gs x None w e n = absurd (n (sym e))

printf_is : (name : List ℕ) (y : Typed) (gs : List Given) (x : Typed) → formatted name (text_of y) gs ≡ x → x ≢ Wrong →
    IsCall name binding.Printf (y ∷ types gs) x
printf_is name (Text bytes) gs x e n = printed_is name bytes gs x (wanted bytes) refl e n
printf_is name _ gs x e n = absurd (n (sym e))

pub called_is : (name : List ℕ) (b : Binding) (gs : List Given) (x : Typed) → called name (Some b) gs ≡ x → x ≢ Wrong → IsCall name b (types gs) x
called_is name (binding.Function s) gs x e n = let r = call_is name s.result [] s.wants gs x (all_fit s.wants gs) refl e n in (all_handed gs, r.fits_all, r.is)
called_is name binding.Printf [] x e n = absurd (n (sym e))
called_is name binding.Printf (g ∷ gs) x e n = printf_is name g.typed gs x e n
called_is name _ gs x e n = absurd (n (sym e))

is_call : (name : List ℕ) (result : Option IntKind) (front es : List Expression) (ws : List Want) (gs : List Given) → Fit ws gs es
    → call result name front ws gs ≡ of_result result (node.Call name (front ++ es))
is_call name result front es ws gs r =
    ap (λ t. cond t (of_result result (node.Call name (front ++ all_handed gs))) Wrong) r.fit ∙
    ap (λ l. of_result result (node.Call name (front ++ l))) r.handed_is

pub is_called : (name : List ℕ) (b : Binding) (gs : List Given) (ys : List Typed) (x : Typed) → types gs ≡ ys → IsCall name b ys x → called name (Some b) gs ≡ x
is_called name (binding.Function s) gs ys x e h = is_call name s.result [] h.0 s.wants gs (fit_of gs h.1 e) ∙ sym h.2
is_called name binding.Printf [] (Text bytes ∷ ys) x e h = cc
is_called name binding.Printf (g ∷ gs) (Text bytes ∷ ys) x e h =
    let d : g.typed ≡ Text bytes = cc in
    let f : types gs ≡ ys = cc in
    ap (λ y. formatted name (text_of y) gs) d
    ∙ ap (λ o. printing name bytes o gs) (is_format bytes h.0 h.2)
    ∙ is_call name (Some K.Int) (expression_of None (node.Text bytes) ∷ []) h.1 h.0 gs (fit_of gs h.3 f)
    ∙ sym h.4
is_called name binding.Printf gs [] x e h = absurd h
is_called name binding.Printf gs (Value v ∷ xs) x e h = absurd h
is_called name binding.Printf gs (Void v ∷ xs) x e h = absurd h
is_called name binding.Printf gs (Array v ∷ xs) x e h = absurd h
is_called name binding.Printf gs (Wrong ∷ xs) x e h = absurd h
is_called name _ gs xs x e h = absurd h
