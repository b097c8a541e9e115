-- The run decides what the grammar says of the tokens of a text: it accepts exactly what derives, and refuses exactly at the first fault.
use Rattle.std.proofs.Common.{◌≡◌, ◌<◌, ◌≤◌, ◌+◌, ℕ, Bool, true, false, nat_lt, List, [], ◌∷◌, ◌++◌, length, append_assoc, Option, Some, None, refl, arith, ap, sym, subst, ◌∙◌}
use Rattle.std.proofs.lemmas.Bool.{ltb-true, ltb-false}
use Rattle.c_grammar.specs.declared.class.Class.{Class}
use Rattle.c_grammar.specs.declared.class.Class.TheVariants as c
use Rattle.c_grammar.specs.declared.syntax.Syntax.{Syntax}
use Rattle.c_grammar.specs.Events.{Outside}
use Rattle.c_grammar.specs.FileSyntax.{file_node}
use Rattle.c_grammar.specs.Counts.{file_events}
use Rattle.c_grammar.specs.Derives.{first_too_many, Derives, Viable, NotBefore, IsUnexpected, IsTooMany}
use Rattle.c_parse_step.specs.declared.frame.Frame.TheVariants as s
use Rattle.c_parse_step.specs.Machine.{start, Ran, Left, Unexpected, TooMany, run}
use Rattle.c_parser.proofs.Traces.{logged}
use Rattle.c_parser.proofs.CompleteFiles.{complete_file}
use Rattle.c_parser.proofs.Exact.{sound, first_fault, first_too_many_is, left_accepted, same_file}

-- what a run comes to, in the words of the grammar
abbrev pub Says : List Class → Ran → Type 0
Says tokens (Left z) = (x : Syntax) × (z ≡ s.Accepted x ∷ []) × Derives tokens x
Says tokens (Unexpected k) = IsUnexpected (tokens ++ c.End ∷ []) k
Says tokens (TooMany k) = IsTooMany (tokens ++ c.End ∷ []) k

-- the run over the tokens of a text, and the end behind them, says what is so
pub says : (tokens : List Class) → Says tokens (run start 0 0 (tokens ++ c.End ∷ []))
says tokens = by_outcome (run start 0 0 (tokens ++ c.End ∷ [])) refl
  where
    by_outcome : (o : Ran) → run start 0 0 (tokens ++ c.End ∷ []) ≡ o → Says tokens o
    by_outcome (Left z) h = let a = left_accepted tokens z h in (a.0, a.1, sound complete_file tokens a.0 (h ∙ ap Left a.1))
    by_outcome (Unexpected k) h = first_fault complete_file (tokens ++ c.End ∷ []) k h
    by_outcome (TooMany k) h = first_too_many_is complete_file (tokens ++ c.End ∷ []) k h

-- ---- fronts of lists

-- of two fronts of a list the longer one begins with the shorter one
cut : (a f : List Class) (t : Class) (b r : List Class) → a ++ t ∷ b ≡ f ++ r → length a < length f → (m : List Class) × (f ≡ a ++ t ∷ m)
cut a [] t b r e h = absurd (omega (arith, h))
cut [] (y ∷ f) t b r e h = (f, same_head y t f b r e)
  where
    same_head : (y t : Class) (f b r : List Class) → t ∷ b ≡ y ∷ f ++ r → y ∷ f ≡ t ∷ f
    same_head y t f b r e = cc
cut (x ∷ a) (y ∷ f) t b r e h =
    let k = cut a f t b r (same_tail x y (a ++ t ∷ b) (f ++ r) e) (omega (arith, h)) in
    (k.0, same_head x y (a ++ t ∷ b) (f ++ r) f (a ++ t ∷ k.0) e k.1)
  where
    same_tail : (x y : Class) (a f : List Class) → x ∷ a ≡ y ∷ f → a ≡ f
    same_tail x y a f e = cc

    same_head : (x y : Class) (a f g m : List Class) → x ∷ a ≡ y ∷ f → g ≡ m → y ∷ g ≡ x ∷ m
    same_head x y a f g m e k = cc

-- a front of what is viable is viable, by the same file
abbrev narrow : (f a : List Class) (t : Class) (m : List Class) → f ≡ a ++ t ∷ m → Viable f → Viable (a ++ t ∷ [])
narrow f a t m e v =
    record {
      file = v.file;
      more = m ++ v.more;
      formed = v.formed;
      begins = v.begins ∙ ap (λ (l : List Class). l ++ v.more) e ∙ append_assoc a (t ∷ m) v.more ∙ sym (append_assoc a (t ∷ []) (m ++ v.more));
    }

-- each front of what derives is viable, by the same file
abbrev front_of : (tokens : List Class) (x : Syntax) (a : List Class) (t : Class) (b : List Class) → tokens ++ c.End ∷ [] ≡ a ++ t ∷ b →
    Derives tokens x → Viable (a ++ t ∷ [])
front_of tokens x a t b e d = record { file = d.file; more = b; formed = d.formed; begins = d.spelled ∙ e ∙ sym (append_assoc a (t ∷ []) b) }

length_more : (f : List Class) (t : Class) → length (f ++ t ∷ []) ≡ length f + 1
length_more [] t = refl
length_more (x ∷ f) t = let e = length_more f t in omega (arith, e)

same_by : (j k : ℕ) → (j < k → ⊥) → (k < j → ⊥) → j ≡ k
same_by j k f g = by_tests (nat_lt j k) refl (nat_lt k j) refl
  where
    by_tests : (x : Bool) → nat_lt j k ≡ x → (y : Bool) → nat_lt k j ≡ y → j ≡ k
    by_tests true e y i = absurd (f (ltb-true j k e))
    by_tests false e true i = absurd (g (ltb-true k j i))
    by_tests false e false i = omega (arith, ltb-false j k e, ltb-false k j i)

-- ---- at most one of these holds

not_unexpected : (tokens : List Class) (x : Syntax) (k : ℕ) → Derives tokens x → IsUnexpected (tokens ++ c.End ∷ []) k → ⊥
not_unexpected tokens x k d u = u.none (front_of tokens x u.front u.token u.rest u.split d)

none_some : (o : Option ℕ) (k : ℕ) → o ≡ None → o ≡ Some k → ⊥
none_some None k e h = cc
none_some (Some j) k e h = cc

not_too_many : (tokens : List Class) (x : Syntax) (k : ℕ) → Derives tokens x → IsTooMany (tokens ++ c.End ∷ []) k → ⊥
not_too_many tokens x k d u = none_some (first_too_many d.file) k d.within (u.over (front_of tokens x u.front u.token u.rest u.split d))

earlier_unexpected : (l : List Class) (j k : ℕ) → IsUnexpected l j → IsUnexpected l k → j < k → ⊥
earlier_unexpected l j k u y h =
    let m = cut u.front y.front u.token u.rest (y.token ∷ y.rest) (sym u.split ∙ y.split) (omega (arith, u.place, y.place, h)) in
    u.none (narrow y.front u.front u.token m.0 m.1 y.viable)

-- a list has one first fault
pub one_unexpected : (l : List Class) (j k : ℕ) → IsUnexpected l j → IsUnexpected l k → j ≡ k
one_unexpected l j k u y = same_by j k (earlier_unexpected l j k u y) (earlier_unexpected l k j y u)

-- the token of the first of two faults over a limit stands in front of the second, or is it
reaches : (l a : List Class) (t : Class) (b f : List Class) (y : Class) (r : List Class) → l ≡ a ++ t ∷ b → l ≡ f ++ y ∷ r → length a ≤ length f →
    (m : List Class) × (f ++ y ∷ [] ≡ a ++ t ∷ m)
reaches l a t b f y r e g h = cut a (f ++ y ∷ []) t b r (sym e ∙ g ∙ sym (append_assoc f (y ∷ []) r)) (let n = length_more f y in omega (arith, n, h))

some_same : (o : Option ℕ) (j k : ℕ) → o ≡ Some j → o ≡ Some k → j ≡ k
some_same None j k e h = absurd cc
some_same (Some i) j k e h = cc

earlier_too_many : (l : List Class) (j k : ℕ) → IsTooMany l j → IsTooMany l k → j ≤ k → j ≡ k
earlier_too_many l j k u y h =
    let m = reaches l u.front u.token u.rest y.front y.token y.rest u.split y.split (omega (arith, u.place, y.place, h)) in
    some_same (first_too_many y.viable.file) j k (u.over (narrow (y.front ++ y.token ∷ []) u.front u.token m.0 m.1 y.viable)) (y.over y.viable)

-- and one first token over a limit
pub one_too_many : (l : List Class) (j k : ℕ) → IsTooMany l j → IsTooMany l k → j ≡ k
one_too_many l j k u y =
    same_by j k (λ h. let e = earlier_too_many l j k u y (omega (arith, h)) in omega (arith, e, h))
    (λ h. let e = earlier_too_many l k j y u (omega (arith, h)) in omega (arith, e, h))

before_some : (o : Option ℕ) (j k : ℕ) → NotBefore k o → o ≡ Some j → k ≤ j
before_some o j k h e = subst (λ (x : Option ℕ). NotBefore k x) e h

-- but not both
pub not_both : (l : List Class) (j k : ℕ) → IsTooMany l j → IsUnexpected l k → ⊥
not_both l j k u y = by_test (nat_lt j k) refl
  where
    by_test : (b : Bool) → nat_lt j k ≡ b → ⊥
    by_test true e =
        let h : j < k = ltb-true j k e in
        let m = cut u.front y.front u.token u.rest (y.token ∷ y.rest) (sym u.split ∙ y.split) (omega (arith, u.place, y.place, h)) in
        let i = before_some (first_too_many y.viable.file) j k (y.within y.viable) (u.over (narrow y.front u.front u.token m.0 m.1 y.viable)) in
        omega (arith, i, h)
    by_test false e =
        let h : k ≤ j = ltb-false j k e in
        let m = reaches l y.front y.token y.rest u.front u.token u.rest y.split u.split (omega (arith, u.place, y.place, h)) in
        y.none (narrow (u.front ++ u.token ∷ []) y.front y.token m.0 m.1 u.viable)

-- ---- the run answers so

-- tokens derive at most one syntax
pub unambiguous : (tokens : List Class) (x y : Syntax) → Derives tokens x → Derives tokens y → x ≡ y
unambiguous tokens x y d e =
    d.syntax_of
    ∙ same_file (file_node d.file) (file_node e.file) (Outside ∷ file_events d.file []) (Outside ∷ file_events e.file [])
    (sym (complete_file d.file d.formed) ∙ ap (λ (l : List Class). logged start 0 l []) (d.spelled ∙ sym e.spelled) ∙ complete_file e.file e.formed)
    ∙ sym e.syntax_of

-- what derives is accepted, with its syntax
pub accepts : (tokens : List Class) (x : Syntax) → Derives tokens x → run start 0 0 (tokens ++ c.End ∷ []) ≡ Left (s.Accepted x ∷ [])
accepts tokens x d = by_outcome (run start 0 0 (tokens ++ c.End ∷ [])) (says tokens)
  where
    by_outcome : (o : Ran) → Says tokens o → o ≡ Left (s.Accepted x ∷ [])
    by_outcome (Left z) i = ap Left i.1 ∙ ap (λ (y : Syntax). Left (s.Accepted y ∷ [])) (unambiguous tokens i.0 x i.2 d)
    by_outcome (Unexpected k) i = absurd (not_unexpected tokens x k d i)
    by_outcome (TooMany k) i = absurd (not_too_many tokens x k d i)

-- where the first fault is, the run refuses the token as one that fits nowhere
pub refuses : (tokens : List Class) (k : ℕ) → IsUnexpected (tokens ++ c.End ∷ []) k → run start 0 0 (tokens ++ c.End ∷ []) ≡ Unexpected k
refuses tokens k u = by_outcome (run start 0 0 (tokens ++ c.End ∷ [])) (says tokens)
  where
    by_outcome : (o : Ran) → Says tokens o → o ≡ Unexpected k
    by_outcome (Left z) i = absurd (not_unexpected tokens i.0 k i.2 u)
    by_outcome (Unexpected j) i = ap Unexpected (one_unexpected (tokens ++ c.End ∷ []) j k i u)
    by_outcome (TooMany j) i = absurd (not_both (tokens ++ c.End ∷ []) j k i u)

-- and where the first token over a limit is, as that
pub limits : (tokens : List Class) (k : ℕ) → IsTooMany (tokens ++ c.End ∷ []) k → run start 0 0 (tokens ++ c.End ∷ []) ≡ TooMany k
limits tokens k u = by_outcome (run start 0 0 (tokens ++ c.End ∷ [])) (says tokens)
  where
    by_outcome : (o : Ran) → Says tokens o → o ≡ TooMany k
    by_outcome (Left z) i = absurd (not_too_many tokens i.0 k i.2 u)
    by_outcome (Unexpected j) i = absurd (not_both (tokens ++ c.End ∷ []) k j u i)
    by_outcome (TooMany j) i = ap TooMany (one_too_many (tokens ++ c.End ∷ []) j k i u)
