-- How the names of file scope grow: each that is declared is bound once, or is a function that is declared again.
use Rattle.std.proofs.Common.{ℕ, Bool, true, false, cond, List, [], ◌∷◌, ◌++◌, Option, Some, None, is_some, option_map, ◌≡◌, refl, sym, ap, subst, ◌∙◌, true≢false, bytes_eq}
use Rattle.std.specs.Prelude.{IfSome, IsSome, take}
use Rattle.std.specs.Option.{option_or}
use Rattle.c_types.specs.declared.kinds.IntKind.{IntKind}
use Rattle.c_tree.specs.declared.tree.Slot.{Slot}
use Rattle.c_tree.specs.declared.tree.Function.{Function}
use Rattle.c_tree.specs.declared.tree.Top.{Top}
use Rattle.c_tree.specs.declared.tree.Top.TheVariants as T
use Rattle.c_kinds.specs.declared.binding.Want.{Want}
use Rattle.c_kinds.specs.declared.binding.Want.TheVariants as want
use Rattle.c_kinds.specs.declared.binding.Signature.{Signature}
use Rattle.c_kinds.specs.declared.binding.Binding.{Binding}
use Rattle.c_kinds.specs.declared.binding.Binding.TheVariants as B
use Rattle.c_kinds.specs.Calls.{same_kind, same_truth}
use Rattle.c_kinds.specs.Scopes.{Scope, found, with_entry, with_name}
use Rattle.c_scopes.specs.FunctionNames.{same_result, same_want, same_wants, same_signature}
use Rattle.c_resolved_defs.specs.Names.{first_function}
use Rattle.c_resolved_defs.specs.Scopes as Scopes
use Rattle.c_resolved_defs.specs.Scopes.{AFunction}
use Rattle.c_kinds.proofs.Entries.{same_names, names_same, found_new}
use Rattle.c_resolving_laws.proofs.Calls.{same_kind_is, same_truth_is}
use Rattle.c_resolving_laws.proofs.FileNames.{NoF, NoG, Unnamed, unnamed_all, global_stays, function_append, first_named, FunctionAgrees, FileGood, meaning_of, Same}
use Rattle.c_resolving_laws.proofs.Known.{HasShape, WantAgrees, WantsAgree}
use Rattle.c_resolving_laws.proofs.Lists.{and_left, and_right, each_append}

-- ---- signatures that agree

want_again : (defined : Bool) (g s : Want) (p q : Slot) → WantAgrees defined g p → same_want g s ≡ true → WantAgrees defined s q → WantAgrees defined g q
want_again defined (want.Number a b) (want.Number c d) p q h e k = (
  k.0 ∙ sym (same_kind_is a c (and_left (same_kind a c) (same_truth b d) e)),
  k.1 ∙
      sym (same_truth_is b d (and_right (same_kind a c) (same_truth b d) e)),
  k.2,
)
want_again defined (want.Array a b x) (want.Array c d y) p q h e k = (
  k.0 ∙ sym (same_kind_is a c (and_left (same_kind a c) (same_truth b d) e)),
  k.1 ∙
      sym (same_truth_is b d (and_right (same_kind a c) (same_truth b d) e)),
  k.2,
  h.3,
)
want_again defined (want.Number a b) _ p q h e k = absurd (true≢false (sym e))
want_again defined (want.Array a b x) _ p q h e k = absurd (true≢false (sym e))
want_again defined (want.Sized w) s p q h e k = absurd h

wants_again : (defined : Bool) (gs ss : List Want) (ps qs : List Slot) → WantsAgree defined gs ps → same_wants gs ss ≡ true →
    WantsAgree defined ss qs → WantsAgree defined gs qs
wants_again defined [] [] ps [] h e k = tt
wants_again defined [] [] ps (q ∷ qs) h e k = absurd k
wants_again defined [] (s ∷ ss) ps qs h e k = absurd (true≢false (sym e))
wants_again defined (g ∷ gs) [] ps qs h e k = absurd (true≢false (sym e))
wants_again defined (g ∷ gs) (s ∷ ss) [] qs h e k = absurd h
wants_again defined (g ∷ gs) (s ∷ ss) (p ∷ ps) [] h e k = absurd k
wants_again defined (g ∷ gs) (s ∷ ss) (p ∷ ps) (q ∷ qs) h e k = (
  want_again defined g s p q h.0 (and_left (same_want g s) (same_wants gs ss) e) k.0,
  wants_again defined gs ss ps qs h.1 (and_right (same_want g s) (same_wants gs ss) e) k.1,
)

pub result_same : (a b : Option IntKind) → same_result a b ≡ true → a ≡ b
result_same (Some a) (Some b) e = ap Some (same_kind_is a b e)
result_same None None e = refl
result_same (Some a) None e = absurd (true≢false (sym e))
result_same None (Some b) e = absurd (true≢false (sym e))

-- what agrees with a later declaration agrees with the first
agrees_again : (defined : Bool) (g s : Signature) (f h : Function) → FunctionAgrees defined g f → same_signature g s ≡ true →
    FunctionAgrees defined s h → FunctionAgrees defined g h
agrees_again defined g s f h a e b = (
  b.0 ∙ sym (result_same g.result s.result (and_left (same_result g.result s.result) (same_wants g.wants s.wants) e)),
  wants_again defined g.wants s.wants (take f.params f.slots) (take h.params h.slots) a.1
      (and_right (same_result g.result s.result) (same_wants g.wants s.wants) e) b.1,
)

-- ---- scopes that grow

abbrev pub Grows : Scope → Scope → Type 0
Grows a b = (m : List ℕ) (x : Binding) → found m a ≡ Some x → found m b ≡ Some x

pub grows_twice : (a b c : Scope) → Grows a b → Grows b c → Grows a c
grows_twice a b c f g = λ m x e. g m x (f m x e)

pub name_grows : (m : List ℕ) (b : Binding) (s : Scope) → Grows s (with_name m b s)
name_grows m b s = by (is_some (found m s)) refl
  where
    by : (t : Bool) → is_some (found m s) ≡ t → Grows s (with_name m b s)
    by true e = λ q x h. subst (λ t. found q (cond t s (with_entry m b s)) ≡ Some x) (sym e) h
    by false e = λ q x h. found_new q m b s e ∙ other q x h (bytes_eq q m) refl
      where
        other : (q : List ℕ) (x : Binding) → found q s ≡ Some x → (t : Bool) → bytes_eq q m ≡ t → cond t (Some b) (found q s) ≡ Some x
        other q x h true i = absurd (true≢false (sym (ap is_some h) ∙ (ap (λ w. is_some (found w s)) (same_names q m i) ∙ e)))
        other q x h false i = h

-- ---- the names so far

pub record Inv (defined : List ℕ → Bool) (done : List Top) (fs : Scope) (rs : Scopes.Scope) : Type 0 where
  pub same : Same fs rs
  pub good : (m : List ℕ) → IfSome (found m fs) (FileGood defined done m)
  pub fresh : (m : List ℕ) → is_some (found m fs) ≡ false → Unnamed m done

module _ (defined : List ℕ → Bool) where
  some_left : {A : Type 0} (o u : Option A) → IsSome o → IsSome (option_or o u)
  some_left None u h = absurd (true≢false (sym h))
  some_left (Some a) u h = refl

  good_more : (done new : List Top) (m : List ℕ) (b : Binding) → Unnamed m new → FileGood defined done m b → FileGood defined (done ++ new) m b
  good_more done new m (B.Constant v) u h = (h.0, each_append _ done new h.1 u)
  good_more done new m (B.Global shape) u h = (
    global_stays m (HasShape shape) done new h.0,
    each_append _ done new h.1
        (unnamed_all NoF (λ g. Unit {0}) m new u),
  )
  good_more done new m (B.Function s) u h = (
    subst IsSome (sym (function_append (λ f. true) m done new)) (some_left (first_function (λ f. true) m done) (first_function (λ f. true) m new) h.0),
    each_append _ done new h.1 (unnamed_all (FunctionAgrees (defined m) s) NoG m new u),
    h.2,
  )
  good_more done new m _ u h = absurd h

  some_more : (done new : List Top) (m : List ℕ) (o : Option Binding) → Unnamed m new → IfSome o (FileGood defined done m) →
      IfSome o (FileGood defined (done ++ new) m)
  some_more done new m None u h = tt
  some_more done new m (Some b) u h = good_more done new m b u h

  -- what has no name, as a comment
  pub inv_neutral : (done new : List Top) (fs : Scope) (rs : Scopes.Scope) → ((m : List ℕ) → Unnamed m new) → Inv defined done fs rs →
      Inv defined (done ++ new) fs rs
  inv_neutral done new fs rs u i = record {
    same = i.same;
    good = λ m. some_more done new m (found m fs) (u m) (i.good m);
    fresh = λ m e. each_append _ done new (i.fresh m e) (u m);
  }

  -- one more name in both scopes
  same_bound : (fs : Scope) (rs : Scopes.Scope) (m : List ℕ) (b : Binding) → Same fs rs → is_some (found m fs) ≡ false →
      Same (with_name m b fs) ((m, meaning_of m b) ∷ rs)
  same_bound fs rs m b s e q = by (bytes_eq q m) refl ∙ sym (ap (option_map (meaning_of q)) (found_new q m b fs e))
    where
      by : (t : Bool) → bytes_eq q m ≡ t → cond t (Some (meaning_of m b)) (Scopes.found q rs) ≡ option_map (meaning_of q) (cond t (Some b) (found q fs))
      by true i = ap (λ w. Some (meaning_of w b)) (sym (same_names q m i))
      by false i = s q

  pub same_new : (fs : Scope) (rs : Scopes.Scope) (m : List ℕ) (b : Binding) → Same fs rs → is_some (found m fs) ≡ false →
      Same (with_name m b fs) ((m, meaning_of m b) ∷ rs)
  same_new fs rs m b s e = same_bound fs rs m b s e

  -- a new name, and what stands there by it
  pub inv_bound : (done new : List Top) (fs : Scope) (rs : Scopes.Scope) (m : List ℕ) (b : Binding) → is_some (found m fs) ≡ false →
      FileGood defined (done ++ new) m b
      → ((q : List ℕ) → bytes_eq q m ≡ false → Unnamed q new) → Inv defined done fs rs → Inv defined (done ++ new) (with_name m b fs) ((m, meaning_of m b) ∷ rs)
  inv_bound done new fs rs m b e g u i = record {
    same = same_bound fs rs m b i.same e;
    good = λ q. subst (λ o. IfSome o (FileGood defined (done ++ new) q)) (sym (found_new q m b fs e)) (at q (bytes_eq q m) refl);
    fresh = λ q h. not_new q (bytes_eq q m) refl (sym (ap is_some (found_new q m b fs e)) ∙ h);
  }
    where
      at : (q : List ℕ) (t : Bool) → bytes_eq q m ≡ t → IfSome (cond t (Some b) (found q fs)) (FileGood defined (done ++ new) q)
      at q true j = subst (λ w. FileGood defined (done ++ new) w b) (sym (same_names q m j)) g
      at q false j = some_more done new q (found q fs) (u q j) (i.good q)

      not_new : (q : List ℕ) (t : Bool) → bytes_eq q m ≡ t → is_some (cond t (Some b) (found q fs)) ≡ false → Unnamed q (done ++ new)
      not_new q true j h = absurd (true≢false h)
      not_new q false j h = each_append _ done new (i.fresh q h) (u q j)

  -- a function that is declared again
  again_good : (done : List Top) (f : Function) (m : List ℕ) (g s : Signature) → FileGood defined done m (B.Function g) → same_signature g s ≡ true →
      FunctionAgrees (defined m) s f
      → FileGood defined (done ++ T.Function f ∷ []) m (B.Function g)
  again_good done f m g s h e a =
      let first = first_function (λ f. true) m done in (
        subst IsSome (sym (function_append (λ f. true) m done (T.Function f ∷ []))) (some_left first (first_function (λ f. true) m (T.Function f ∷ [])) h.0),
        each_append _ done (T.Function f ∷ []) h.1 (λ k. sample first h.0 (first_named (FunctionAgrees (defined m) g) NoG (λ f. true) m done h.1), tt),
        h.2,
      )
    where
      sample : (o : Option Function) → IsSome o → IfSome o (λ x. FunctionAgrees (defined m) g x × (true ≡ true)) → FunctionAgrees (defined m) g f
      sample None t x = absurd (true≢false (sym t))
      sample (Some x) t y = agrees_again (defined m) g s x f y.0 e a

  pub inv_again : (done : List Top) (f : Function) (fs : Scope) (rs : Scopes.Scope) (g s : Signature) (b : Binding) →
      found f.name fs ≡ Some (B.Function g) → same_signature g s ≡ true → FunctionAgrees (defined f.name) s f
      → Inv defined done fs rs → Inv defined (done ++ T.Function f ∷ []) (with_name f.name b fs) ((f.name, AFunction) ∷ rs)
  inv_again done f fs rs g s b j e a i =
      let kept = ap (λ t. cond t fs (with_entry f.name b fs)) (ap is_some j) in
      subst (λ x. Inv defined (done ++ T.Function f ∷ []) x ((f.name, AFunction) ∷ rs)) (sym kept)
      (record {
        same = λ q. as_before q (bytes_eq q f.name) refl;
        good = λ q. at q (bytes_eq q f.name) refl;
        fresh = λ q h. each_append _ done (T.Function f ∷ []) (i.fresh q h)
            (λ k. true≢false (sym (ap is_some (ap (λ w. found w fs) (sym (same_names f.name q k)) ∙ j)) ∙ h), tt);
      })
    where
      as_before : (q : List ℕ) (t : Bool) → bytes_eq q f.name ≡ t → cond t (Some AFunction) (Scopes.found q rs) ≡ option_map (meaning_of q) (found q fs)
      as_before q true k = sym (ap (option_map (meaning_of q)) (ap (λ w. found w fs) (same_names q f.name k) ∙ j))
      as_before q false k = i.same q

      at : (q : List ℕ) (t : Bool) → bytes_eq q f.name ≡ t → IfSome (found q fs) (FileGood defined (done ++ T.Function f ∷ []) q)
      at q true k =
          subst (λ w. IfSome (found w fs) (FileGood defined (done ++ T.Function f ∷ []) w)) (sym (same_names q f.name k))
          (subst (λ o. IfSome o (FileGood defined (done ++ T.Function f ∷ []) f.name)) (sym j)
          (again_good done f f.name g s (subst (λ o. IfSome o (FileGood defined done f.name)) j (i.good f.name)) e a))
      at q false k = some_more done (T.Function f ∷ []) q (found q fs)
          (λ x. true≢false (sym (names_same q f.name (sym (same_names f.name q x))) ∙ k), tt) (i.good q)
