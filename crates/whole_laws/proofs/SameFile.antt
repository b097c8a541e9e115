-- Files whose functions have the same declarations, and nothing else of which differs: what file scope is known by.
use Rattle.std.proofs.Common.{ℕ, Bool, true, false, cond, ◌&&◌, List, [], ◌∷◌, Option, Some, None, is_some, take, ◌≡◌, refl, sym, ap, subst, ◌∙◌, bytes_eq, codes}
use Rattle.std.specs.Option.{option_or}
use Rattle.c_tree.specs.declared.tree.Slot.{Slot}
use Rattle.c_tree.specs.declared.tree.Function.{Function}
use Rattle.c_tree.specs.declared.tree.Top.{Top}
use Rattle.c_tree.specs.declared.tree.Top.TheVariants as T
use Rattle.c_resolved_defs.specs.Within.{Each}
use Rattle.c_resolved_defs.specs.Names.{first_function, the_function, the_global, Plain, known, declared_or, callee}
use Rattle.c_resolved_defs.specs.Files.{Agree, AgreesWith, DeclarationsAgree, IsMainForm, MainIsFormed, SameParameters}
use Rattle.whole_laws.specs.Rewritten.{IsNoFunction}

-- two functions with one declaration: a body both or neither
pub record SameDeclaration (f h : Function) : Type 0 where
  pub name : h.name ≡ f.name
  pub result : h.result ≡ f.result
  pub file_only : h.file_only ≡ f.file_only
  pub params : h.params ≡ f.params
  pub parameters : take h.params h.slots ≡ take f.params f.slots
  pub body : is_some h.body ≡ is_some f.body

pub data SameFile : List Top → List Top → Type 0 where
  sf_none : SameFile [] []
  sf_function : {f h : Function} {ts us : List Top} → SameDeclaration f h → SameFile ts us → SameFile (T.Function f ∷ ts) (T.Function h ∷ us)
  sf_other : (t : Top) {ts us : List Top} → IsNoFunction t → SameFile ts us → SameFile (t ∷ ts) (t ∷ us)

-- ---- declarations agree

agree_over : (f h g k : Function) → SameDeclaration f h → SameDeclaration g k → Agree f g → Agree h k
agree_over f h g k d e a = record {
  result = d.result ∙ a.result ∙ sym e.result;
  parameters = subst (λ ss. SameParameters ss (take k.params k.slots)) (sym d.parameters)
      (subst (SameParameters (take f.params f.slots)) (sym e.parameters) a.parameters);
  single = λ s. e.body ∙ a.single (sym d.body ∙ s);
}

agrees_over : (f h g k : Function) → SameDeclaration f h → SameDeclaration g k → AgreesWith f (T.Function g) → AgreesWith h (T.Function k)
agrees_over f h g k d e a s = agree_over f h g k d e (a (sym (λ i. bytes_eq (d.name i) (e.name i)) ∙ s))

other_agrees : (h : Function) (t : Top) → IsNoFunction t → AgreesWith h t
other_agrees h (T.Function g) n = absurd n
other_agrees h _ n = tt

agrees_later : {f h : Function} {ts us : List Top} → SameDeclaration f h → SameFile ts us → Each (AgreesWith f) ts → Each (AgreesWith h) us
agrees_later d sf_none a = tt
agrees_later {f} {h} d (sf_function {f = g} {h = k} e r) a = (agrees_over f h g k d e a.0, agrees_later d r a.1)
agrees_later {f} {h} d (sf_other t n r) a = (other_agrees h t n, agrees_later d r a.1)

other_declares : (t : Top) (ts : List Top) → IsNoFunction t → DeclarationsAgree (t ∷ ts) → DeclarationsAgree ts
other_declares (T.Function g) ts n a = absurd n
other_declares _ ts n a = a

also_declares : (t : Top) (ts : List Top) → IsNoFunction t → DeclarationsAgree ts → DeclarationsAgree (t ∷ ts)
also_declares (T.Function g) ts n a = absurd n
also_declares _ ts n a = a

pub declarations_over : {ts us : List Top} → SameFile ts us → DeclarationsAgree ts → DeclarationsAgree us
declarations_over sf_none a = tt
declarations_over (sf_function d r) a = (agrees_later d r a.0, declarations_over r a.1)
declarations_over (sf_other t {ts = ts} {us = us} n r) a = also_declares t us n (declarations_over r (other_declares t ts n a))

-- ---- main

main_form : (f h : Function) → SameDeclaration f h → IsMainForm f → IsMainForm h
main_form f h d m = record { result = d.result ∙ m.result; parameters = d.params ∙ m.parameters; public = d.file_only ∙ m.public }

pub main_over : {ts us : List Top} → SameFile ts us → Each MainIsFormed ts → Each MainIsFormed us
main_over sf_none a = tt
main_over (sf_function {f = f} {h = h} d r) a = (λ e. main_form f h d (a.0 (sym (ap (λ m. bytes_eq m (codes "main")) d.name) ∙ e)), main_over r a.1)
main_over (sf_other t n r) a = (a.0, main_over r a.1)

-- ---- what names stand for

pub global_over : (m : List ℕ) {ts us : List Top} → SameFile ts us → the_global m us ≡ the_global m ts
global_over m sf_none = refl
global_over m (sf_function d r) = global_over m r
global_over m (sf_other t {ts = ts} {us = us} n r) = by_top t (global_over m r)
  where
    by_top : (t : Top) → the_global m us ≡ the_global m ts → the_global m (t ∷ us) ≡ the_global m (t ∷ ts)
    by_top (T.Function g) e = e
    by_top (T.Include bytes) e = e
    by_top (T.Enum xs) e = e
    by_top (T.Global g) e = ap (λ o. cond (bytes_eq g.slot.name m) (Some g.slot) o) e
    by_top (T.Note bytes) e = e

-- the same function, or none
abbrev SameFound : Option Function → Option Function → Type 0
SameFound None None = Unit {0}
SameFound (Some f) (Some h) = SameDeclaration f h
SameFound _ _ = ⊥

found_if : (b : Bool) (f h : Function) (o q : Option Function) → SameDeclaration f h → SameFound o q → SameFound (cond b (Some f) o) (cond b (Some h) q)
found_if true f h o q d r = d
found_if false f h o q d r = r

found_or : (a b c d : Option Function) → SameFound a b → SameFound c d → SameFound (option_or a c) (option_or b d)
found_or (Some f) (Some h) c d r s = r
found_or None None c d r s = s
found_or (Some f) None c d r s = absurd r
found_or None (Some h) c d r s = absurd r

module _ (p : Function → Bool) (same : (f h : Function) → SameDeclaration f h → p h ≡ p f) (m : List ℕ) where
  first_over : {ts us : List Top} → SameFile ts us → SameFound (first_function p m ts) (first_function p m us)
  first_over sf_none = tt
  first_over (sf_function {f = f} {h = h} {ts = ts} {us = us} d r) =
      subst (λ b. SameFound (cond (bytes_eq f.name m && p f) (Some f) (first_function p m ts)) (cond b (Some h) (first_function p m us)))
      (sym (λ i. bytes_eq (d.name i) m && same f h d i))
      (found_if (bytes_eq f.name m && p f) f h (first_function p m ts) (first_function p m us) d (first_over r))
  first_over (sf_other t {ts = ts} {us = us} n r) = by_top t n (first_over r)
    where
      by_top : (t : Top) → IsNoFunction t → SameFound (first_function p m ts) (first_function p m us) →
          SameFound (first_function p m (t ∷ ts)) (first_function p m (t ∷ us))
      by_top (T.Function g) n e = absurd n
      by_top _ n e = e

function_over : (m : List ℕ) {ts us : List Top} → SameFile ts us → SameFound (the_function m ts) (the_function m us)
function_over m {ts} {us} r =
    found_or (first_function (λ f. is_some f.body) m ts) (first_function (λ f. is_some f.body) m us) (first_function (λ f. true) m ts)
    (first_function (λ f. true) m us)
    (first_over (λ f. is_some f.body) (λ f h d. d.body) m r) (first_over (λ f. true) (λ f h d. refl) m r)

called_over : (m : List ℕ) (o q : Option Function) → SameFound o q → declared_or (known m) q ≡ declared_or (known m) o
called_over m None None r = refl
called_over m (Some f) (Some h) r = (λ i. Plain (record { result = r.result i; parameters = r.parameters i; defined = r.body i }))
called_over m None (Some h) r = absurd r
called_over m (Some f) None r = absurd r

-- a call is of the same function
pub callee_over : (m : List ℕ) (ss rs : List Slot) {ts us : List Top} → SameFile ts us →
    callee (record { tops = us; slots = rs }) m ≡ callee (record { tops = ts; slots = ss }) m
callee_over m ss rs {ts} {us} r = called_over m (the_function m ts) (the_function m us) (function_over m r)
