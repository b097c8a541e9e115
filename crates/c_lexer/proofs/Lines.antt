-- Where lines end.
use Rattle.std.proofs.Common.{◌≡◌, ◌<◌, ◌+◌, ℕ, Bool, true, false, not, ◌&&◌, ◌||◌, ◌==◌, cond, List, [], ◌∷◌, ◌++◌, length, Option, Some, None, refl, arith, ap, sym, ◌∙◌}
use Rattle.std.specs.List.{list_all}
use Rattle.std.specs.Option.{option_map}
use Rattle.c_lexer.specs.Bytes.{is_space, is_newline, is_return}
use Rattle.c_lexer.specs.Pieces.{comes_to_newline, returns_to_newline, breaks_off, ends_line, own_line, NewlineNext, runs_on}
use Rattle.c_lexer.specs.Machine.{breaks_line, broken_at}
use Rattle.c_lexer.proofs.Truths.{all_of_more, or_first, or_second, not_true, and_not}

abbrev pub has_no_newline : List ℕ → Bool
has_no_newline w = list_all (λ b. not (is_newline b)) w

-- a line that runs on has none
pub no_newline : (w r : List ℕ) → runs_on w r ≡ true → has_no_newline w ≡ true
no_newline [] r h = refl
no_newline (b ∷ w) r h =
    let q = and_not (ends_line (b ∷ w ++ r)) (runs_on w r) h in
    let x = or_first (b == 10) (breaks_off b (w ++ r)) q.0 in
    let y = no_newline w r q.1 in
    rw (x, y)

-- ---- what comes to a newline

comes_at_once : (r : List ℕ) → NewlineNext r → comes_to_newline r ≡ true
comes_at_once [] e = refl
comes_at_once (b ∷ r) e = rw e

returns_at_once : (r : List ℕ) → NewlineNext r → returns_to_newline r ≡ true
returns_at_once [] e = refl
returns_at_once (b ∷ r) e = rw e

space_newline : (w r : List ℕ) → NewlineNext r → has_no_newline w ≡ true → comes_to_newline (w ++ r) ≡ list_all is_space w
space_newline [] r e h = comes_at_once r e
space_newline (b ∷ w) r e h =
    let q = all_of_more (λ c. not (is_newline c)) b w h in
    let x = not_true (b == 10) q.0 in
    let y = space_newline w r e q.1 in
    rw (x, y)

returns_newline : (w r : List ℕ) → NewlineNext r → has_no_newline w ≡ true → returns_to_newline (w ++ r) ≡ list_all is_return w
returns_newline [] r e h = returns_at_once r e
returns_newline (b ∷ w) r e h =
    let q = all_of_more (λ c. not (is_newline c)) b w h in
    let x = not_true (b == 10) q.0 in
    let y = returns_newline w r e q.1 in
    rw (x, y)

-- the bytes up to the newline say where a line breaks off
pub breaks_same : (b : ℕ) (w r : List ℕ) → NewlineNext r → has_no_newline w ≡ true → breaks_off b (w ++ r) ≡ breaks_line b w
breaks_same b w r e h = let x = space_newline w r e h in let y = returns_newline w r e h in rw (x, y)

-- ---- lines that don't break off

no_more : (a c r : Bool) → a ≡ false → c ≡ false → r ≡ true → (not (a || c) && r) ≡ true
no_more a c r h k l = rw (h, k, l)

pub not_here : (c : Bool) (o : Option ℕ) → cond c (Some 0) (option_map (λ n. n + 1) o) ≡ None → (c ≡ false) × (o ≡ None)
not_here true o h = absurd cc
not_here false None h = (refl, refl)
not_here false (Some n) h = absurd cc

pub here_not : (c : Bool) (o : Option ℕ) → c ≡ false → o ≡ None → cond c (Some 0) (option_map (λ n. n + 1) o) ≡ None
here_not c o h g = rw (h, g)

pub runs_to_newline : (w r : List ℕ) → NewlineNext r → has_no_newline w ≡ true → broken_at w ≡ None → runs_on w r ≡ true
runs_to_newline [] r e h n = refl
runs_to_newline (b ∷ w) r e h n =
    let q = all_of_more (λ c. not (is_newline c)) b w h in
    let y = not_here (breaks_line b w) (broken_at w) n in
    no_more (b == 10) (breaks_off b (w ++ r)) (runs_on w r) (not_true (b == 10) q.0) (breaks_same b w r e q.1 ∙ y.0) (runs_to_newline w r e q.1 y.1)

pub not_broken : (w r : List ℕ) → NewlineNext r → runs_on w r ≡ true → broken_at w ≡ None
not_broken [] r e h = refl
not_broken (b ∷ w) r e h =
    let q = and_not (ends_line (b ∷ w ++ r)) (runs_on w r) h in
    let y = or_second (b == 10) (breaks_off b (w ++ r)) q.0 in
    here_not (breaks_line b w) (broken_at w) (sym (breaks_same b w r e (no_newline w r q.1)) ∙ y) (not_broken w r e q.1)

own_at_once : (r : List ℕ) → NewlineNext r → own_line r ≡ []
own_at_once [] e = refl
own_at_once (b ∷ r) e = rw e

own_on : (a c : Bool) (b : ℕ) (w v : List ℕ) → a ≡ false → c ≡ false → w ≡ v → cond (a || c) [] (b ∷ w) ≡ b ∷ v
own_on a c b w v h k e = rw (h, k, e)

own_stops : (a c : Bool) (w : List ℕ) → c ≡ true → cond (a || c) [] w ≡ []
own_stops true c w k = refl
own_stops false c w k = rw k

-- it is its own line
pub own_whole : (w r : List ℕ) → NewlineNext r → has_no_newline w ≡ true → broken_at w ≡ None → own_line (w ++ r) ≡ w
own_whole [] r e h n = own_at_once r e
own_whole (b ∷ w) r e h n =
    let q = all_of_more (λ c. not (is_newline c)) b w h in
    let y = not_here (breaks_line b w) (broken_at w) n in
    own_on (b == 10) (breaks_off b (w ++ r)) b _ _ (not_true (b == 10) q.0) (breaks_same b w r e q.1 ∙ y.0) (own_whole w r e q.1 y.1)

-- the line that goes on with these bytes doesn't break off
abbrev pub is_whole : List ℕ → Bool
is_whole [] = true
is_whole (b ∷ r) = is_newline b || (not (breaks_off b r) && is_whole r)

whole_on : (a c r : Bool) → c ≡ false → r ≡ true → (a || (not c && r)) ≡ true
whole_on true c r h k = refl
whole_on false c r h k = rw (h, k)

whole_at_once : (r : List ℕ) → NewlineNext r → is_whole r ≡ true
whole_at_once [] e = refl
whole_at_once (b ∷ r) e = rw e

pub whole_line : (w r : List ℕ) → runs_on w r ≡ true → NewlineNext r → is_whole (w ++ r) ≡ true
whole_line [] r h e = whole_at_once r e
whole_line (b ∷ w) r h e =
    let q = and_not (ends_line (b ∷ w ++ r)) (runs_on w r) h in
    whole_on (b == 10) (breaks_off b (w ++ r)) (is_whole (w ++ r)) (or_second (b == 10) (breaks_off b (w ++ r)) q.0) (whole_line w r q.1 e)

-- ---- where a line breaks off

pub record Broken (w : List ℕ) (n : ℕ) : Type 0 where
  pub own : List ℕ
  pub gap : List ℕ
  pub bytes : w ≡ own ++ gap
  pub count : length own ≡ n
  pub within : n < length w
  pub own_is : (r : List ℕ) → NewlineNext r → has_no_newline w ≡ true → own_line (w ++ r) ≡ own
  pub breaks : (r : List ℕ) → NewlineNext r → has_no_newline w ≡ true → is_whole (w ++ r) ≡ false

some_same : (n m : ℕ) → Some n ≡ Some m → n ≡ m
some_same n m h = cc

broken_here : (a c r : Bool) → a ≡ false → c ≡ true → (a || (not c && r)) ≡ false
broken_here a c r h k = rw (h, k)

broken_on : (a c r : Bool) → a ≡ false → r ≡ false → (a || (not c && r)) ≡ false
broken_on a true r h k = rw h
broken_on a false r h k = rw (h, k)

pub broken : (w : List ℕ) (n : ℕ) → broken_at w ≡ Some n → Broken w n
broken [] n h = absurd cc
broken (b ∷ w) n h = go (breaks_line b w) refl (broken_at w) refl h (λ m f. broken w m f)
  where
    go : (c : Bool) → breaks_line b w ≡ c → (o : Option ℕ) → broken_at w ≡ o → cond c (Some 0) (option_map (λ m. m + 1) o) ≡ Some n →
        ((m : ℕ) → broken_at w ≡ Some m → Broken w m) → Broken (b ∷ w) n
    go true e o f g i =
        let z = some_same 0 n g in
        record {
          own = [];
          gap = b ∷ w;
          bytes = refl;
          count = z;
          within = omega arith;
          own_is = λ r next line. (let q = all_of_more (λ c. not (is_newline c)) b w line in
              own_stops (b == 10) (breaks_off b (w ++ r)) _ (breaks_same b w r next q.1 ∙ e));
          breaks = λ r next line. (let q = all_of_more (λ c. not (is_newline c)) b w line in
              broken_here (b == 10) (breaks_off b (w ++ r)) _ (not_true (b == 10) q.0) (breaks_same b w r next q.1 ∙ e));
        }
    go false e None f g i = absurd cc
    go false e (Some m) f g i =
        let k = i m f in
        let x = k.count in
        let y = some_same (m + 1) n g in
        let z = k.within in
        record {
          own = b ∷ k.own;
          gap = k.gap;
          bytes = ap (λ (l : List ℕ). b ∷ l) k.bytes;
          count = omega arith;
          within = omega arith;
          own_is = λ r next line. (let q = all_of_more (λ c. not (is_newline c)) b w line in
              own_on (b == 10) (breaks_off b (w ++ r)) b _ _ (not_true (b == 10) q.0) (breaks_same b w r next q.1 ∙ e) (k.own_is r next q.1));
          breaks = λ r next line. (let q = all_of_more (λ c. not (is_newline c)) b w line in
              broken_on (b == 10) (breaks_off b (w ++ r)) _ (not_true (b == 10) q.0) (k.breaks r next q.1));
        }

pub broken_within : (w : List ℕ) (n : ℕ) → broken_at w ≡ Some n → n < length w
broken_within w n h = (broken w n h).within
