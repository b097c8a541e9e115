-- The code finds byte by byte which lines leave a comment open.
use Rattle.std.proofs.Common.{◌≡◌, ◌≤◌, ℕ, zero, suc, Bool, true, false, cond, not, ◌&&◌, ◌||◌, ◌==◌, List, [], ◌∷◌, length, drop, Option, Some, None, refl, ap, sym, ◌∙◌, subst, arith}
use Rattle.std.specs.Prelude.{is_some, codes}
use Rattle.std.specs.Option.{option_map_or}
use Rattle.std.proofs.lemmas.Bool.{eqb-true, eqb-false, ne_eqb}
use Rattle.c_lexer.specs.declared.directive.Before.TheVariants.{Outside, Name, Comment, Line, Doubt}
use Rattle.c_lexer.specs.Includes.{begins_with, behind_comment, has_open, is_quote, behind_name, behind_header}
use Rattle.c_lexer.specs.IncludeSteps.{past, open_behind, leaves_open}
use Rattle.c_lexer.proofs.Truths.{and_false, or_true}

-- ---- the bytes that matter, and others

record IsOther (b : ℕ) : Type 0 where
  double : (b == 34) ≡ false
  single : (b == 39) ≡ false
  star : (b == 42) ≡ false
  slash : (b == 47) ≡ false
  less : (b == 60) ≡ false
  greater : (b == 62) ≡ false
  back : (b == 92) ≡ false
  no_star : (42 == b) ≡ false
  no_slash : (47 == b) ≡ false

data Sort : ℕ → Type 0 where
  Double : Sort 34
  Single : Sort 39
  Star : Sort 42
  Slash : Sort 47
  Less : Sort 60
  Greater : Sort 62
  Back : Sort 92
  Other : {b : ℕ} → IsOther b → Sort b

turned : (a b : ℕ) → (a == b) ≡ false → (b == a) ≡ false
turned a b h = ne_eqb b a (λ e. eqb-false a b h (sym e))

is_or : (k b : ℕ) → Sort k → ((b == k) ≡ false → Sort b) → Sort b
is_or k b s f = go (b == k) refl
  where
    go : (c : Bool) → (b == k) ≡ c → Sort b
    go true e = subst Sort (sym (eqb-true b k e)) s
    go false e = f e

sort : (b : ℕ) → Sort b
sort b =
    is_or 34 b Double (λ double. is_or 39 b Single (λ single. is_or 42 b Star (λ star. is_or 47 b Slash (λ slash. is_or 60 b Less (λ less.
    is_or 62 b Greater (λ greater. is_or 92 b Back (λ back. Other (record {
      double = double;
      single = single;
      star = star;
      slash = slash;
      less = less;
      greater = greater;
      back = back;
      no_star = turned b 42 star;
      no_slash = turned b 47 slash;
    }))))))))

-- ---- where compilers don't agree

pub or_none : (a : Bool) → (a || false) ≡ a
or_none true = refl
or_none false = refl

or_turned : (a b : Bool) → (a || b) ≡ (b || a)
or_turned true b = sym (or_true b)
or_turned false b = sym (or_none b)

abbrev shut : List ℕ → Bool
shut w = is_some (behind_comment w)

-- a comment may be open behind these bytes, if one may be open before them
abbrev doubtful : Bool → List ℕ → Bool
doubtful opened w = has_open w || (opened && not (shut w))

kept : (o : Bool) → o ≡ (o && true)
kept true = refl
kept false = refl

-- a comment that begins later covers what is open before
covered : (x : Bool) (u : List ℕ) (z : Option (List ℕ)) (h o : Bool)
    → (h || not (is_some z)) ≡ ((not (is_some z) || h) || (o && not (is_some (cond x (Some u) z))))
covered x u None h o = or_true h
covered true u (Some v) h o = or_none h ∙ sym (ap (λ c. h || c) (and_false o) ∙ or_none h)
covered false u (Some v) h o = or_none h ∙ sym (ap (λ c. h || c) (and_false o) ∙ or_none h)

-- what is behind a byte, given what is behind the bytes after it
in_doubt_on : (o : Bool) (b : ℕ) (w : List ℕ) → open_behind (Doubt o false false) w ≡ doubtful o w
    → open_behind (Doubt o true false) w ≡ doubtful o (47 ∷ w)
    → open_behind (Doubt o false true) w ≡ doubtful o (42 ∷ w) → Sort b → open_behind (past (Doubt o false false) b) w ≡ doubtful o (b ∷ w)
in_doubt_on o b w f g h Double = f
in_doubt_on o b w f g h Single = f
in_doubt_on o b w f g h Star = h
in_doubt_on o b w f g h Slash = g
in_doubt_on o b w f g h Less = f
in_doubt_on o b w f g h Greater = f
in_doubt_on o b w f g h Back = f
in_doubt_on o b w f g h (Other k) = rw (k.slash, k.star, k.no_slash, k.no_star) f

slash_on : (o : Bool) (b : ℕ) (w : List ℕ) → ((p : Bool) → open_behind (Doubt p false false) w ≡ doubtful p w)
    → open_behind (Doubt o true false) w ≡ doubtful o (47 ∷ w)
    → Sort b → open_behind (past (Doubt o true false) b) w ≡ doubtful o (47 ∷ b ∷ w)
slash_on o b w f g Double = f o
slash_on o b w f g Single = f o
slash_on o b w f g Star = f true ∙ covered _ _ (behind_comment w) (has_open w) o
slash_on o b w f g Slash = g
slash_on o b w f g Less = f o
slash_on o b w f g Greater = f o
slash_on o b w f g Back = f o
slash_on o b w f g (Other k) = rw (k.slash, k.star, k.no_slash, k.no_star) (f o)

star_on : (o : Bool) (b : ℕ) (w : List ℕ) → open_behind (Doubt o false false) w ≡ doubtful o w
    → open_behind (Doubt false true false) w ≡ doubtful false (47 ∷ w)
    → open_behind (Doubt o false true) w ≡ doubtful o (42 ∷ w) → Sort b → open_behind (past (Doubt o false true) b) w ≡ doubtful o (42 ∷ b ∷ w)
star_on o b w f g h Double = f
star_on o b w f g h Single = f
star_on o b w f g h Star = h
star_on o b w f g h Slash = g ∙ ap (λ c. has_open (47 ∷ w) || c) (sym (and_false o))
star_on o b w f g h Less = f
star_on o b w f g h Greater = f
star_on o b w f g h Back = f
star_on o b w f g h (Other k) = rw (k.slash, k.star, k.no_slash, k.no_star) f

mutual
  in_doubt : (o : Bool) (w : List ℕ) → open_behind (Doubt o false false) w ≡ doubtful o w
  in_doubt o [] = kept o
  in_doubt o (b ∷ w) = in_doubt_on o b w (in_doubt o w) (behind_slash o w) (behind_star o w) (sort b)

  behind_slash : (o : Bool) (w : List ℕ) → open_behind (Doubt o true false) w ≡ doubtful o (47 ∷ w)
  behind_slash o [] = kept o
  behind_slash o (b ∷ w) = slash_on o b w (λ p. in_doubt p w) (behind_slash o w) (sort b)

  behind_star : (o : Bool) (w : List ℕ) → open_behind (Doubt o false true) w ≡ doubtful o (42 ∷ w)
  behind_star o [] = kept o
  behind_star o (b ∷ w) = star_on o b w (in_doubt o w) (behind_slash false w) (behind_star o w) (sort b)

sure : (w : List ℕ) → open_behind (Doubt false false false) w ≡ has_open w
sure w = in_doubt false w ∙ or_none (has_open w)

-- ---- a comment ends with its first `*/`

abbrev ended : Bool → Option (List ℕ) → Bool
ended named o = option_map_or (open_behind (Outside named false)) o true

comment_on : (n : Bool) (b : ℕ) (w : List ℕ) → open_behind (Comment n false) w ≡ ended n (behind_comment w)
    → open_behind (Comment n true) w ≡ ended n (behind_comment (42 ∷ w))
    → Sort b → open_behind (past (Comment n false) b) w ≡ ended n (behind_comment (b ∷ w))
comment_on n b w f g Double = f
comment_on n b w f g Single = f
comment_on n b w f g Star = g
comment_on n b w f g Slash = f
comment_on n b w f g Less = f
comment_on n b w f g Greater = f
comment_on n b w f g Back = f
comment_on n b w f g (Other k) = rw (k.star, k.no_star) f

starred_on : (n : Bool) (b : ℕ) (w : List ℕ) → open_behind (Comment n false) w ≡ ended n (behind_comment w)
    → open_behind (Comment n true) w ≡ ended n (behind_comment (42 ∷ w))
    → Sort b → open_behind (past (Comment n true) b) w ≡ ended n (behind_comment (42 ∷ b ∷ w))
starred_on n b w f g Double = f
starred_on n b w f g Single = f
starred_on n b w f g Star = g
starred_on n b w f g Slash = refl
starred_on n b w f g Less = f
starred_on n b w f g Greater = f
starred_on n b w f g Back = f
starred_on n b w f g (Other k) = rw (k.star, k.slash, k.no_star, k.no_slash) f

mutual
  in_comment : (n : Bool) (w : List ℕ) → open_behind (Comment n false) w ≡ ended n (behind_comment w)
  in_comment n [] = refl
  in_comment n (b ∷ w) = comment_on n b w (in_comment n w) (in_starred n w) (sort b)

  in_starred : (n : Bool) (w : List ℕ) → open_behind (Comment n true) w ≡ ended n (behind_comment (42 ∷ w))
  in_starred n [] = refl
  in_starred n (b ∷ w) = starred_on n b w (in_comment n w) (in_starred n w) (sort b)

-- ---- a header name

data IsEnd : ℕ → Type 0 where
  Angle : IsEnd 62
  Quote : IsEnd 34

abbrev name_rest : ℕ → List ℕ → Bool
name_rest end w = option_map_or (open_behind (Outside true false)) (behind_name end w) (has_open w)

name_on : (e b : ℕ) (w : List ℕ) → open_behind (Name e false) w ≡ name_rest e w → open_behind (Name e true) w ≡ name_rest e (47 ∷ w)
    → IsEnd e → Sort b → open_behind (past (Name e false) b) w ≡ name_rest e (b ∷ w)
name_on e b w f g Angle Double = sure w
name_on e b w f g Angle Single = sure w
name_on e b w f g Angle Star = f
name_on e b w f g Angle Slash = g
name_on e b w f g Angle Less = f
name_on e b w f g Angle Greater = refl
name_on e b w f g Angle Back = sure w
name_on e b w f g Angle (Other k) = rw (k.greater, k.double, k.single, k.back, k.slash, k.no_slash) f
name_on e b w f g Quote Double = refl
name_on e b w f g Quote Single = sure w
name_on e b w f g Quote Star = f
name_on e b w f g Quote Slash = g
name_on e b w f g Quote Less = f
name_on e b w f g Quote Greater = f
name_on e b w f g Quote Back = sure w
name_on e b w f g Quote (Other k) = rw (k.double, k.single, k.back, k.slash, k.no_slash) f

-- `/*` stands in the name
opened_there : (w : List ℕ) → open_behind (Doubt true false false) w ≡ has_open (47 ∷ 42 ∷ w)
opened_there w = in_doubt true w ∙ or_turned (has_open w) (not (shut w))

name_slash_on : (e b : ℕ) (w : List ℕ) → open_behind (Name e false) w ≡ name_rest e w → open_behind (Name e true) w ≡ name_rest e (47 ∷ w)
    → IsEnd e → Sort b → open_behind (past (Name e true) b) w ≡ name_rest e (47 ∷ b ∷ w)
name_slash_on e b w f g Angle Double = sure w
name_slash_on e b w f g Angle Single = sure w
name_slash_on e b w f g Angle Star = opened_there w
name_slash_on e b w f g Angle Slash = g
name_slash_on e b w f g Angle Less = f
name_slash_on e b w f g Angle Greater = refl
name_slash_on e b w f g Angle Back = sure w
name_slash_on e b w f g Angle (Other k) = rw (k.greater, k.star, k.no_star, k.double, k.single, k.back, k.slash, k.no_slash) f
name_slash_on e b w f g Quote Double = refl
name_slash_on e b w f g Quote Single = sure w
name_slash_on e b w f g Quote Star = opened_there w
name_slash_on e b w f g Quote Slash = g
name_slash_on e b w f g Quote Less = f
name_slash_on e b w f g Quote Greater = f
name_slash_on e b w f g Quote Back = sure w
name_slash_on e b w f g Quote (Other k) = rw (k.star, k.no_star, k.double, k.single, k.back, k.slash, k.no_slash) f

nothing_named : (e : ℕ) → IsEnd e → name_rest e (47 ∷ []) ≡ false
nothing_named e Angle = refl
nothing_named e Quote = refl

mutual
  in_name : (e : ℕ) → IsEnd e → (w : List ℕ) → open_behind (Name e false) w ≡ name_rest e w
  in_name e i [] = refl
  in_name e i (b ∷ w) = name_on e b w (in_name e i w) (in_name_slash e i w) i (sort b)

  in_name_slash : (e : ℕ) → IsEnd e → (w : List ℕ) → open_behind (Name e true) w ≡ name_rest e (47 ∷ w)
  in_name_slash e i [] = sym (nothing_named e i)
  in_name_slash e i (b ∷ w) = name_slash_on e b w (in_name e i w) (in_name_slash e i w) i (sort b)

-- ---- lines

abbrev mutual
  -- what whole comments and other bytes leave: from the first quote on, or from a comment without end on; nothing, where
  -- a `//` stands before those, or none of them
  pub from_quote : List ℕ → List ℕ
  from_quote [] = []
  from_quote (b ∷ []) = cond (is_quote b) (b ∷ []) []
  from_quote (b ∷ c ∷ w) =
      cond (begins_with (codes "//") (b ∷ c ∷ w)) []
      (cond (begins_with (codes "/*") (b ∷ c ∷ w)) (cond (is_some (behind_comment w)) (past_comment w) (b ∷ c ∷ w))
      (cond (is_quote b) (b ∷ c ∷ w) (from_quote (c ∷ w))))

  -- the same of what stands behind the first `*/`
  pub past_comment : List ℕ → List ℕ
  past_comment [] = []
  past_comment (b ∷ []) = []
  past_comment (b ∷ c ∷ w) = cond (begins_with (codes "*/") (b ∷ c ∷ w)) (from_quote w) (past_comment (c ∷ w))

-- behind a comment there are fewer bytes
pub shorter : (w r : List ℕ) → behind_comment w ≡ Some r → length r ≤ length w
shorter [] r h = absurd cc
shorter (b ∷ w) r h = go (begins_with (codes "*/") (b ∷ w)) (λ e. shorter w r e) h
  where
    dropped : (v : List ℕ) → length (drop 1 v) ≤ length v
    dropped [] = omega arith
    dropped (c ∷ v) = omega arith

    some : (x y : List ℕ) → Some x ≡ Some y → x ≡ y
    some x y e = cc

    go : (c : Bool) → (behind_comment w ≡ Some r → length r ≤ length w)
        → cond c (Some (drop 1 w)) (behind_comment w) ≡ Some r → length r ≤ suc (length w)
    go true f e = let k = dropped w in subst (λ (v : List ℕ). length v ≤ suc (length w)) (some (drop 1 w) r e) (omega arith)
    go false f e = let k = f e in omega arith

-- what is open behind a line, by what is left of it behind comments; a name may stand before
abbrev pub rest : Bool → List ℕ → Bool
rest true v = has_open v
rest false v = has_open (option_map_or from_quote (behind_header v) v)

rest_none : (named : Bool) → rest named [] ≡ false
rest_none true = refl
rest_none false = refl

-- a quote stops it, and other bytes don't
pub quote_here : (b : ℕ) (w : List ℕ) → (47 == b) ≡ false → is_quote b ≡ true → from_quote (b ∷ w) ≡ b ∷ w
quote_here b [] s q = ap (λ c. cond c (b ∷ []) []) q
quote_here b (c ∷ w) s q =
    ap (λ x. cond (x && (47 == c && true)) [] (cond (x && (42 == c && true)) (cond (is_some (behind_comment w)) (past_comment w) (b ∷ c ∷ w))
    (cond (is_quote b) (b ∷ c ∷ w) (from_quote (c ∷ w))))) s
    ∙ ap (λ x. cond x (b ∷ c ∷ w) (from_quote (c ∷ w))) q

passed : (b : ℕ) (w : List ℕ) → (47 == b) ≡ false → is_quote b ≡ false → from_quote (b ∷ w) ≡ from_quote w
passed b [] s q = ap (λ c. cond c (b ∷ []) []) q
passed b (c ∷ w) s q =
    ap (λ x. cond (x && (47 == c && true)) [] (cond (x && (42 == c && true)) (cond (is_some (behind_comment w)) (past_comment w) (b ∷ c ∷ w))
    (cond (is_quote b) (b ∷ c ∷ w) (from_quote (c ∷ w))))) s
    ∙ ap (λ x. cond x (b ∷ c ∷ w) (from_quote (c ∷ w))) q

-- what is left behind a comment
pub past_it : (u r : List ℕ) → behind_comment u ≡ Some r → past_comment u ≡ from_quote r
past_it [] r h = absurd cc
past_it (b ∷ []) r h = absurd (let y : None ≡ Some r = sym (ap (λ x. cond x (Some []) None) (and_false (42 == b))) ∙ h in cc)
past_it (b ∷ c ∷ w) r h = go (begins_with (codes "*/") (b ∷ c ∷ w)) (λ e. past_it (c ∷ w) r e) h
  where
    some : (x y : List ℕ) → Some x ≡ Some y → x ≡ y
    some x y e = cc

    go : (x : Bool) → (behind_comment (c ∷ w) ≡ Some r → past_comment (c ∷ w) ≡ from_quote r)
        → cond x (Some w) (behind_comment (c ∷ w)) ≡ Some r → cond x (from_quote w) (past_comment (c ∷ w)) ≡ from_quote r
    go true f e = ap from_quote (some w r e)
    go false f e = f e

-- a comment without end
unended : (named : Bool) (u : List ℕ) → behind_comment u ≡ None → true ≡ rest named (47 ∷ 42 ∷ u)
unended true u h = rw h refl
unended false u h = rw h refl

open_line : (w : List ℕ) → open_behind Line w ≡ false
open_line [] = refl
open_line (b ∷ w) = open_line w

record AtQuotes (named : Bool) : Type 0 where
  double : (w : List ℕ) → open_behind (past (Outside named false) 34) w ≡ rest named (34 ∷ w)
  single : (w : List ℕ) → open_behind (past (Outside named false) 39) w ≡ rest named (39 ∷ w)
  less : (w : List ℕ) → open_behind (past (Outside named false) 60) w ≡ rest named (60 ∷ w)

abbrev Along : Bool → ℕ → Type 0
Along named m = (v : List ℕ) → length v ≤ m → open_behind (Outside named false) v ≡ rest named (from_quote v)

block_along : (named : Bool) (m : ℕ) (u : List ℕ) → Along named m → suc (suc (length u)) ≤ suc m
    → open_behind (Comment named false) u ≡ rest named (from_quote (47 ∷ 42 ∷ u))
block_along named m u f h = in_comment named u ∙ go (behind_comment u) refl
  where
    go : (o : Option (List ℕ)) → behind_comment u ≡ o → ended named o ≡ rest named (cond (is_some o) (past_comment u) (47 ∷ 42 ∷ u))
    go None e = unended named u e
    go (Some r) e = f r (let k = shorter u r e in omega arith) ∙ ap (rest named) (sym (past_it u r e))

slash_along : (named : Bool) (m c : ℕ) (u : List ℕ) → Along named m → suc (suc (length u)) ≤ suc m → Sort c
    → open_behind (past (Outside named true) c) u ≡ rest named (from_quote (47 ∷ c ∷ u))
slash_along named m c u f h Double = f (34 ∷ u) (omega arith)
slash_along named m c u f h Single = f (39 ∷ u) (omega arith)
slash_along named m c u f h Star = block_along named m u f h
slash_along named m c u f h Slash = open_line u ∙ sym (rest_none named)
slash_along named m c u f h Less = f (60 ∷ u) (omega arith)
slash_along named m c u f h Greater = f (62 ∷ u) (omega arith)
slash_along named m c u f h Back = f (92 ∷ u) (omega arith)
slash_along named m c u f h (Other k) =
    let e : past (Outside named true) c ≡ past (Outside named false) c = rw (k.star, k.slash) refl in
    ap (λ s. open_behind s u) e ∙ rw (k.no_star, k.no_slash) (f (c ∷ u) (omega arith))

along_on : (named : Bool) (m b : ℕ) (w : List ℕ) → AtQuotes named → Along named m → suc (length w) ≤ suc m → Sort b
    → open_behind (past (Outside named false) b) w ≡ rest named (from_quote (b ∷ w))
along_on named m b w q f h Double = q.double w ∙ ap (rest named) (sym (quote_here 34 w refl refl))
along_on named m b w q f h Single = q.single w ∙ ap (rest named) (sym (quote_here 39 w refl refl))
along_on named m b w q f h Star = rw (and_false named) (f w (omega arith) ∙ ap (rest named) (sym (passed 42 w refl refl)))
along_on named m b [] q f h Slash = rw (and_false named) (sym (rest_none named))
along_on named m b (c ∷ u) q f h Slash = rw (and_false named) (slash_along named m c u f h (sort c))
along_on named m b w q f h Less = q.less w ∙ ap (rest named) (sym (quote_here 60 w refl refl))
along_on named m b w q f h Greater = rw (and_false named) (f w (omega arith) ∙ ap (rest named) (sym (passed 62 w refl refl)))
along_on named m b w q f h Back = rw (and_false named) (f w (omega arith) ∙ ap (rest named) (sym (passed 92 w refl refl)))
along_on named m b w q f h (Other k) =
    let quote : is_quote b ≡ false = rw (k.single, k.double, k.less) refl in
    let e : past (Outside named false) b ≡ Outside named false = rw (k.double, k.single, k.slash, k.less, and_false named) refl in
    ap (λ s. open_behind s w) e ∙ (f w (omega arith) ∙ ap (rest named) (sym (passed b w k.no_slash quote)))

along : (named : Bool) → AtQuotes named → (n : ℕ) → Along named n
along named q n [] h = sym (rest_none named)
along named q zero (b ∷ w) h = absurd (omega arith)
along named q (suc m) (b ∷ w) h = along_on named m b w q (along named q m) h (sort b)

behind_names : (w : List ℕ) → open_behind (Outside true false) w ≡ has_open (from_quote w)
behind_names w = along true (record { double = sure; single = sure; less = sure }) (length w) w (omega arith)

header : (w v : List ℕ) (o : Option (List ℕ)) → has_open w ≡ has_open v
    → option_map_or (open_behind (Outside true false)) o (has_open w) ≡ has_open (option_map_or from_quote o v)
header w v None h = h
header w v (Some r) h = behind_names r

pub leaves_rest : (w : List ℕ) → leaves_open w ≡ rest false (from_quote w)
leaves_rest w = along false at_quotes (length w) w (omega arith)
  where
    at_quotes : AtQuotes false
    at_quotes = record {
      double = λ u. in_name 34 Quote u ∙ header u (34 ∷ u) (behind_name 34 u) refl;
      single = sure;
      less = λ u. in_name 62 Angle u ∙ header u (60 ∷ u) (behind_name 62 u) refl;
    }
