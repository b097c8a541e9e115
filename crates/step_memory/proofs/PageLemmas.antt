-- The rooms of a call, page by page.
use Rattle.std.proofs.Common.{ℕ, zero, suc, ◌+◌, ◌*◌, ◌/◌, ◌%◌, ◌-◌, ◌<◌, ◌≤◌, List, [], ◌∷◌, ◌++◌, map, take, drop, get_or, length, slice_get, slice_set, option_map, Some, None, ◌≡◌, ◌≢◌, refl, sym, ap, ◌∙◌, subst, arith}
use Rattle.std.proofs.lemmas.List.{length-take, length-drop, length-map, length-append, drop-drop, set-append_left, map-append, take-append-drop, take_rest, append_assoc}
use Rattle.std.proofs.lemmas.Option.{slice_get-map, slice_get_within}
use Rattle.c_tree.specs.declared.tree.Slot.{Slot}
use Rattle.jump_meaning.specs.Values.{Variable}
use Rattle.step_memory.specs.declared.room.Room.{Room}
use Rattle.step_memory.specs.Rooms.{BecomesAt}
use Rattle.step_memory.specs.Pages.{room_at_start, page_shown, shown, IsPage, ArePages}

-- ---- entries of lists put together

pub get_left : {A : Type 0} (xs ys : List A) (i : ℕ) → i < length xs → slice_get (xs ++ ys) i ≡ slice_get xs i
get_left [] ys i h = absurd (omega arith)
get_left (x ∷ xs) ys zero h = refl
get_left (x ∷ xs) ys (suc i) h = get_left xs ys i (omega arith)

pub get_right : {A : Type 0} (xs ys : List A) (i n : ℕ) → i ≡ length xs + n → slice_get (xs ++ ys) i ≡ slice_get ys n
get_right [] ys i n e = let h : i ≡ n = omega (arith, e) in ap (slice_get ys) h
get_right (x ∷ xs) ys zero n e = absurd (omega (arith, e))
get_right (x ∷ xs) ys (suc i) n e = get_right xs ys i n (omega (arith, e))

pub set_right : {A : Type 0} (xs ys : List A) (i n : ℕ) (y : A) → i ≡ length xs + n → slice_set (xs ++ ys) i y ≡ xs ++ slice_set ys n y
set_right [] ys i n y e = let h : i ≡ n = omega (arith, e) in ap (λ k. slice_set ys k y) h
set_right (x ∷ xs) ys zero n y e = absurd (omega (arith, e))
set_right (x ∷ xs) ys (suc i) n y e = ap (λ zs. x ∷ zs) (set_right xs ys i n y (omega (arith, e)))

pub get_drop : {A : Type 0} (xs : List A) (k i : ℕ) → slice_get (drop k xs) i ≡ slice_get xs (k + i)
get_drop xs zero i = let h : i ≡ 0 + i = omega arith in ap (slice_get xs) h
get_drop [] (suc k) i = refl
get_drop (x ∷ xs) (suc k) i = let h : suc (k + i) ≡ suc k + i = omega arith in get_drop xs k i ∙ ap (slice_get (x ∷ xs)) h

get_take : {A : Type 0} (xs : List A) (n i : ℕ) → i < n → slice_get (take n xs) i ≡ slice_get xs i
get_take xs zero i h = absurd (omega arith)
get_take [] (suc n) i h = refl
get_take (x ∷ xs) (suc n) zero h = refl
get_take (x ∷ xs) (suc n) (suc i) h = get_take xs n i (omega arith)

get_at : {A : Type 0} (xs : List A) (i : ℕ) (d : A) → i < length xs → slice_get xs i ≡ Some (get_or xs i d)
get_at [] i d h = absurd (omega arith)
get_at (x ∷ xs) zero d h = refl
get_at (x ∷ xs) (suc i) d h = get_at xs i d (omega arith)

-- ---- one page

length_page : (p : List Room) (ss : List Slot) → IsPage p ss → length (page_shown p ss) ≡ length ss
length_page [] ss h = length-map ss room_at_start
length_page (r ∷ rs) ss h = h

page_made : (p : List Room) (ss : List Slot) → p ≢ [] → page_shown p ss ≡ p
page_made [] ss h = absurd (h refl)
page_made (r ∷ rs) ss h = refl

page_at_start : (ss : List Slot) → page_shown (map room_at_start ss) ss ≡ map room_at_start ss
page_at_start [] = refl
page_at_start (s ∷ ss) = refl

is_page_at_start : (ss : List Slot) → IsPage (map room_at_start ss) ss
is_page_at_start [] = tt
is_page_at_start (s ∷ ss) = ap suc (length-map ss room_at_start)

split_map : (n : ℕ) (ss : List Slot) → map room_at_start (take n ss) ++ map room_at_start (drop n ss) ≡ map room_at_start ss
split_map n ss = sym (map-append room_at_start (take n ss) (drop n ss)) ∙ ap (map room_at_start) (take-append-drop n ss)

-- ---- the page of a room

-- the slots of a page
abbrev pub part : ℕ → List Slot → List Slot
part q ss = take 64 (drop (q * 64) ss)

next_part : (q : ℕ) (ss : List Slot) → part q (drop 64 ss) ≡ part (suc q) ss
next_part q ss = let h : 64 + q * 64 ≡ suc q * 64 = omega arith in ap (take 64) (drop-drop (q * 64) 64 ss ∙ ap (λ k. drop k ss) h)

first_length : (p : List Room) (ss : List Slot) → IsPage p (take 64 ss) → 64 ≤ length ss → length (page_shown p (take 64 ss)) ≡ 64
first_length p ss h l = omega (arith, length_page p (take 64 ss) h, length-take 64 ss, l)

first_within : (p : List Room) (ss : List Slot) (r : ℕ) → IsPage p (take 64 ss) → r < 64 → r < length ss → r < length (page_shown p (take 64 ss))
first_within p ss r h l m = omega (arith, length_page p (take 64 ss) h, length-take 64 ss)

at_first : (r : ℕ) → 0 * 64 + r ≡ r
at_first r = omega arith

pub get_shown : (ps : List (List Room)) (ss : List Slot) (q r : ℕ) → ArePages ps ss → r < 64 → q * 64 + r < length ss
    → slice_get (shown ps ss) (q * 64 + r) ≡ slice_get (page_shown (get_or ps q []) (part q ss)) r
get_shown [] ss q r a l m =
    slice_get-map room_at_start ss (q * 64 + r)
    ∙ ap (option_map room_at_start) (sym (get_take (drop (q * 64) ss) 64 r l ∙ get_drop ss (q * 64) r))
    ∙ sym (slice_get-map room_at_start (part q ss) r)
get_shown (p ∷ ps) ss zero r a l m =
    ap (slice_get (shown (p ∷ ps) ss)) (at_first r)
    ∙ get_left (page_shown p (take 64 ss)) (shown ps (drop 64 ss)) r (first_within p ss r a.0 l (omega (arith, m)))
get_shown (p ∷ ps) ss (suc q) r a l m =
    get_right (page_shown p (take 64 ss)) (shown ps (drop 64 ss)) (suc q * 64 + r) (q * 64 + r) (omega (arith, first_length p ss a.0 (omega (arith, m))))
    ∙ get_shown ps (drop 64 ss) q r a.1 l (omega (arith, m, length-drop 64 ss))
    ∙ ap (λ z. slice_get (page_shown (get_or ps q []) z) r) (next_part q ss)

-- the entry of a part
pub start_shown : (ss : List Slot) (q r : ℕ) (s : Slot) → r < 64 → slice_get ss (q * 64 + r) ≡ Some s →
    slice_get (map room_at_start (part q ss)) r ≡ Some (room_at_start s)
start_shown ss q r s l e =
    slice_get-map room_at_start (part q ss) r
    ∙ ap (option_map room_at_start) (get_take (drop (q * 64) ss) 64 r l ∙ get_drop ss (q * 64) r ∙ e)

-- ---- a page changes

set_some : (p : List Room) (r : ℕ) (x : Room) → p ≢ [] → slice_set p r x ≢ []
set_some [] r x n e = n refl
set_some (o ∷ p) zero x n e = cc
set_some (o ∷ p) (suc r) x n e = cc

as_long : (o p : List Room) (ss : List Slot) → o ≢ [] → IsPage o ss → length p ≡ length o → IsPage p ss
as_long [] p ss n h e = absurd (n refl)
as_long (o ∷ os) [] ss n h e = tt
as_long (o ∷ os) (r ∷ rs) ss n h e = e ∙ h

pub set_shown : (ps : List (List Room)) (ss : List Slot) (q r : ℕ) (x : Room) → ArePages ps ss → get_or ps q [] ≢ [] → r < length (get_or ps q []) →
    q * 64 + r < length ss
    → shown (slice_set ps q (slice_set (get_or ps q []) r x)) ss ≡ slice_set (shown ps ss) (q * 64 + r) x
set_shown [] ss q r x a n l m = absurd (n refl)
set_shown (p ∷ ps) ss zero r x a n l m =
    ap (λ z. z ++ shown ps (drop 64 ss)) (page_made (slice_set p r x) (take 64 ss) (set_some p r x n) ∙
    ap (λ z. slice_set z r x) (sym (page_made p (take 64 ss) n)))
    ∙ sym (ap (λ k. slice_set (shown (p ∷ ps) ss) k x) (at_first r) ∙ set-append_left (page_shown p (take 64 ss)) (shown ps (drop 64 ss)) r x
    (omega (arith, ap length (page_made p (take 64 ss) n))))
set_shown (p ∷ ps) ss (suc q) r x a n l m =
    ap (λ z. page_shown p (take 64 ss) ++ z) (set_shown ps (drop 64 ss) q r x a.1 n l (omega (arith, m, length-drop 64 ss)))
    ∙ sym (set_right (page_shown p (take 64 ss)) (shown ps (drop 64 ss)) (suc q * 64 + r) (q * 64 + r) x
    (omega (arith, first_length p ss a.0 (omega (arith, m)))))

pub set_pages : (ps : List (List Room)) (ss : List Slot) (q : ℕ) (p : List Room) → ArePages ps ss → (get_or ps q [] ≢ []) →
    length p ≡ length (get_or ps q []) → ArePages (slice_set ps q p) ss
set_pages [] ss q p a n e = tt
set_pages (o ∷ ps) ss zero p a n e = (as_long o p (take 64 ss) n a.0 e, a.1)
set_pages (o ∷ ps) ss (suc q) p a n e = (a.0, set_pages ps (drop 64 ss) q p a.1 n e)

-- ---- a page is made

pub page_at_start_shown : (ps : List (List Room)) (ss : List Slot) (q : ℕ) → get_or ps q [] ≡ [] → q < length ps →
    shown (slice_set ps q (map room_at_start (part q ss))) ss ≡ shown ps ss
page_at_start_shown [] ss q e l = refl
page_at_start_shown (p ∷ ps) ss zero e l = ap (λ z. z ++ shown ps (drop 64 ss)) (page_at_start (take 64 ss) ∙ ap (λ z. page_shown z (take 64 ss)) (sym e))
page_at_start_shown (p ∷ ps) ss (suc q) e l =
    ap (λ z. page_shown p (take 64 ss) ++ z) (ap (λ z. shown (slice_set ps q (map room_at_start z)) (drop 64 ss)) (sym (next_part q ss)) ∙
    page_at_start_shown ps (drop 64 ss) q e (omega arith))

pub page_at_start_pages : (ps : List (List Room)) (ss : List Slot) (q : ℕ) → ArePages ps ss → ArePages (slice_set ps q (map room_at_start (part q ss))) ss
page_at_start_pages [] ss q a = tt
page_at_start_pages (p ∷ ps) ss zero a = (is_page_at_start (take 64 ss), a.1)
page_at_start_pages (p ∷ ps) ss (suc q) a =
    (a.0, subst (λ z. ArePages (slice_set ps q (map room_at_start z)) (drop 64 ss)) (next_part q ss) (page_at_start_pages ps (drop 64 ss) q a.1))

-- ---- pages that aren't made, behind the others

pub one_more_shown : (ps : List (List Room)) (ss : List Slot) → shown (ps ++ [] ∷ []) ss ≡ shown ps ss
one_more_shown [] ss = split_map 64 ss
one_more_shown (p ∷ ps) ss = ap (λ z. page_shown p (take 64 ss) ++ z) (one_more_shown ps (drop 64 ss))

pub one_more_pages : (ps : List (List Room)) (ss : List Slot) → ArePages ps ss → ArePages (ps ++ [] ∷ []) ss
one_more_pages [] ss a = (tt, tt)
one_more_pages (p ∷ ps) ss a = (a.0, one_more_pages ps (drop 64 ss) a.1)

pub one_more_at : (ps : List (List Room)) (q : ℕ) → get_or (ps ++ [] ∷ []) q [] ≡ get_or ps q []
one_more_at [] zero = refl
one_more_at [] (suc q) = refl
one_more_at (p ∷ ps) zero = refl
one_more_at (p ∷ ps) (suc q) = one_more_at ps q

-- ---- what is seen of a room

pub length_shown : (ps : List (List Room)) (ss : List Slot) → ArePages ps ss → length (shown ps ss) ≡ length ss
length_shown [] ss a = length-map ss room_at_start
length_shown (p ∷ ps) ss a =
    omega (
      arith,
      length-append (page_shown p (take 64 ss)) (shown ps (drop 64 ss)),
      length_page p (take 64 ss) a.0,
      length_shown ps (drop 64 ss) a.1,
      length-take 64 ss,
      length-drop 64 ss,
    )

pub none_at : (ps : List (List Room)) (q : ℕ) → None ≡ slice_get ps q → get_or ps q [] ≡ []
none_at [] q e = refl
none_at (p ∷ ps) zero e = cc
none_at (p ∷ ps) (suc q) e = none_at ps q e

page_at : (ps : List (List Room)) (q : ℕ) (p : List Room) → Some p ≡ slice_get ps q → get_or ps q [] ≡ p
page_at [] q p e = cc
page_at (o ∷ ps) zero p e = cc
page_at (o ∷ ps) (suc q) p e = page_at ps q p e

made_page : (p : List Room) (r : ℕ) (x : Room) (ss : List Slot) → Some x ≡ slice_get p r → page_shown p ss ≡ p
made_page [] r x ss e = cc
made_page (o ∷ p) r x ss e = refl

parts_of : (at : ℕ) → at / 64 * 64 + at % 64 ≡ at
parts_of at = omega arith

left_of : (at : ℕ) → at % 64 < 64
left_of at = omega arith

pub made_seen : (ps : List (List Room)) (ss : List Slot) (at : ℕ) (p : List Room) (x : Room) → ArePages ps ss → at < length ss →
    Some p ≡ slice_get ps (at / 64) → Some x ≡ slice_get p (at % 64)
    → slice_get (shown ps ss) at ≡ Some x
made_seen ps ss at p x a l e h =
    ap (slice_get (shown ps ss)) (sym (parts_of at))
    ∙ get_shown ps ss (at / 64) (at % 64) a (left_of at) (omega (arith, parts_of at))
    ∙ ap (λ z. slice_get (page_shown z (part (at / 64) ss)) (at % 64)) (page_at ps (at / 64) p e)
    ∙ ap (λ z. slice_get z (at % 64)) (made_page p (at % 64) x (part (at / 64) ss) h)
    ∙ sym h

pub start_seen : (ps : List (List Room)) (ss : List Slot) (at : ℕ) (s : Slot) → ArePages ps ss → at < length ss → get_or ps (at / 64) [] ≡ [] →
    s ≡ get_or ss at s
    → slice_get (shown ps ss) at ≡ Some (room_at_start s)
start_seen ps ss at s a l e h =
    ap (slice_get (shown ps ss)) (sym (parts_of at))
    ∙ get_shown ps ss (at / 64) (at % 64) a (left_of at) (omega (arith, parts_of at))
    ∙ ap (λ z. slice_get (page_shown z (part (at / 64) ss)) (at % 64)) e
    ∙ start_shown ss (at / 64) (at % 64) s (left_of at) (ap (slice_get ss) (parts_of at) ∙ get_at ss at s l ∙ ap Some (sym h))

-- a page that lacks the room isn't made
is_unmade : (p : List Room) (ss : List Slot) (r : ℕ) → IsPage p ss → r < length ss → None ≡ slice_get p r → p ≡ []
is_unmade [] ss r h l e = refl
is_unmade (o ∷ p) ss r h l e = cc (get_at (o ∷ p) r o (omega (arith, h, l)))

page_of : (ps : List (List Room)) (ss : List Slot) (q : ℕ) → ArePages ps ss → IsPage (get_or ps q []) (part q ss)
page_of [] ss q a = tt
page_of (p ∷ ps) ss zero a = a.0
page_of (p ∷ ps) ss (suc q) a = subst (IsPage (get_or ps q [])) (next_part q ss) (page_of ps (drop 64 ss) q a.1)

pub lacks_room : (ps : List (List Room)) (ss : List Slot) (at : ℕ) (p : List Room) → ArePages ps ss → at < length ss →
    Some p ≡ slice_get ps (at / 64) → None ≡ slice_get p (at % 64) → get_or ps (at / 64) [] ≡ []
lacks_room ps ss at p a l e h =
    is_unmade (get_or ps (at / 64) []) (part (at / 64) ss) (at % 64) (page_of ps ss (at / 64) a)
    (omega (arith, left_of at, parts_of at, length-take 64 (drop (at / 64 * 64) ss), length-drop (at / 64 * 64) ss))
    (h ∙ ap (λ z. slice_get z (at % 64)) (sym (page_at ps (at / 64) p e)))

-- ---- a room changes

pub page_becomes : (F : Variable → Variable) (ps : List (List Room)) (ss : List Slot) (at : ℕ) (p p' : List Room) → ArePages ps ss → at < length ss →
    slice_get ps (at / 64) ≡ Some p
    → get_or ps (at / 64) [] ≢ [] → BecomesAt F (at % 64) p p' → BecomesAt F at (shown ps ss) (shown (slice_set ps (at / 64) p') ss)
page_becomes F ps ss at p p' a l e n (was, now, there, b, m) =
    let q = at / 64 in
    let r = at % 64 in
    let own : get_or ps q [] ≡ p = page_at ps q p (sym e) in
    let within : r < length (get_or ps q []) = subst (λ z. r < length z) (sym own) (slice_get_within p r was there) in (
      was,
      now,
      made_seen ps ss at p was a l (sym e) (sym there),
      b,
      ap (λ z. shown (slice_set ps q z) ss) (m ∙ ap (λ z. slice_set z r now) (sym own))
          ∙ set_shown ps ss q r now a n within (omega (arith, parts_of at))
          ∙ ap (λ k. slice_set (shown ps ss) k now) (parts_of at),
    )

pub page_changes : (ps : List (List Room)) (ss : List Slot) (q : ℕ) (p p' : List Room) → ArePages ps ss → slice_get ps q ≡ Some p →
    get_or ps q [] ≢ [] → length p' ≡ length p → ArePages (slice_set ps q p') ss
page_changes ps ss q p p' a e n h = set_pages ps ss q p' a n (h ∙ ap length (sym (page_at ps q p (sym e))))

-- a room of the front, and one behind it
pub becomes_left : (F : Variable → Variable) (xs xs' ys : List Room) (i : ℕ) → BecomesAt F i xs xs' → BecomesAt F i (xs ++ ys) (xs' ++ ys)
becomes_left F xs xs' ys i (was, now, there, b, m) =
    let l = slice_get_within xs i was there in
    (was, now, get_left xs ys i l ∙ there, b, ap (λ z. z ++ ys) m ∙ sym (set-append_left xs ys i now l))

pub becomes_right : (F : Variable → Variable) (xs ys ys' : List Room) (i n : ℕ) → i ≡ length xs + n → BecomesAt F n ys ys' →
    BecomesAt F i (xs ++ ys) (xs ++ ys')
becomes_right F xs ys ys' i n e (was, now, there, b, m) = (was, now, get_right xs ys i n e ∙ there, b, ap (λ z. xs ++ z) m ∙ sym (set_right xs ys i n now e))

-- ---- the start of a call

pub rooms_new : (parameters first : List Room) (pages : List (List Room)) (ss : List Slot) (n : ℕ) →
    first ≡ parameters ++ map room_at_start (take n ss) → pages ≡ []
    → first ++ shown pages (take (length ss - n) (drop n ss)) ≡ parameters ++ map room_at_start ss
rooms_new parameters first pages ss n e h =
    ap (λ qs. first ++ shown qs (take (length ss - n) (drop n ss))) h
    ∙ ap (λ xs. xs ++ map room_at_start (take (length ss - n) (drop n ss))) e
    ∙ ap (λ z. (parameters ++ map room_at_start (take n ss)) ++ map room_at_start z) (take_rest ss n)
    ∙ append_assoc parameters (map room_at_start (take n ss)) (map room_at_start (drop n ss))
    ∙ ap (λ z. parameters ++ z) (split_map n ss)
