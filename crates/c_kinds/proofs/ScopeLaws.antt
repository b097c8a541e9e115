-- What the numbers of a log say of its scopes.
use Rattle.std.proofs.Common.{◌≡◌, ◌<◌, ◌≤◌, ◌==◌, ℕ, zero, suc, Bool, true, false, cond, List, [], ◌∷◌, length, Option, Some, None, is_some, refl, ap, sym, ◌∙◌, arith, true≢false, bytes_eq, nat_lt, ◌++◌, reverse, drop, ◌-◌, slice_get, unwrap_or, subst}
use Rattle.std.specs.Prelude.{MatchOption}
use Rattle.std.specs.BTreeMap.{BTreeMap, get, is_at, Updates}
use Rattle.std.specs.Map.{count_at, lookup}
use Rattle.std.specs.Option.{IsSome}
use Rattle.std.proofs.lemmas.Map.Text.{is_eq-slice_cmp}
use Rattle.std.proofs.lemmas.List.{reverse-append, length-append, length-reverse}
use Rattle.std.proofs.lemmas.Bool.Decides.{nat_tests}
use Rattle.c_types.specs.Words.{name_cmp}
use Rattle.c_kinds.specs.declared.binding.Binding.{Binding}
use Rattle.c_kinds.specs.declared.scopes.Step.{Step}
use Rattle.c_kinds.specs.declared.scopes.Step.TheVariants.{Enter, Bind}
use Rattle.c_kinds.specs.Scopes.{Scope, found, look_up, or_else, with_entry, bind, bound}
use Rattle.c_kinds.specs.ScopeLogs.{scopes_after, last_entered, last_bound, bound_in, bound_by, IsLog, HasLast}
use Rattle.c_kinds.proofs.Entries.{same_names, names_same, by_bool, found_new}

-- ---- numbers are those of steps that are there

entered_within : (l : List Step) → last_entered l ≤ length l
entered_within [] = omega arith
entered_within (Enter outer ∷ l) = omega arith
entered_within (Bind name before b ∷ l) = omega (arith, entered_within l)

bound_within : (q : List ℕ) (l : List Step) → last_bound q l ≤ length l
bound_within q [] = omega arith
bound_within q (Enter outer ∷ l) = omega (arith, bound_within q l)
bound_within q (Bind name before b ∷ l) = at (bytes_eq q name) (bound_within q l)
  where
    at : (t : Bool) → last_bound q l ≤ length l → cond t (suc (length l)) (last_bound q l) ≤ suc (length l)
    at true h = omega arith
    at false h = omega (arith, h)

other : (n m : ℕ) → n ≤ m → (n == suc m) ≡ false
other n m h = grind (arith, nat_tests)

not_zero : (n : ℕ) → (suc n == 0) ≡ false
not_zero n = grind (arith, nat_tests)

here : (n : ℕ) → (n == n) ≡ true
here n = grind (arith, nat_tests)

-- a step more changes nothing of those before
bound_by_more : (n : ℕ) (s : Step) (l : List Step) → n ≤ length l → bound_by n (s ∷ l) ≡ bound_by n l
bound_by_more n s l h = ap (λ t. cond t (bound_in s) (bound_by n l)) (other n (length l) h)

bound_by_none : (l : List Step) → bound_by 0 l ≡ None
bound_by_none [] = refl
bound_by_none (s ∷ l) = bound_by_more 0 s l (omega arith) ∙ bound_by_none l

-- the first step of all
bound_by_first : (n : ℕ) (l : List Step) (x : Step) → bound_by (suc n) (l ++ x ∷ []) ≡ cond (n == 0) (bound_in x) (bound_by n l)
bound_by_first zero [] x = refl
bound_by_first (suc n) [] x = ap (λ t. cond t (bound_in x) None) (grind (arith, nat_tests))
bound_by_first n (s ∷ l) x = ap (λ m. cond (suc n == suc m) (bound_in s) (bound_by (suc n) (l ++ x ∷ []))) (length_more l) ∙
    ap (λ o. cond (suc n == suc (suc (length l))) (bound_in s) o) (bound_by_first n l x) ∙ by n
  where
    length_more : (l : List Step) → length (l ++ x ∷ []) ≡ suc (length l)
    length_more l = grind (arith, length-append)

    same : (n m : ℕ) → (suc n == suc m) ≡ (n == m)
    same n m = grind (arith, nat_tests)

    by : (n : ℕ) → cond (suc n == suc (suc (length l))) (bound_in s) (cond (n == 0) (bound_in x) (bound_by n l)) ≡ cond (n == 0) (bound_in x)
        (cond (n == suc (length l)) (bound_in s) (bound_by n l))
    by zero = ap (λ t. cond t (bound_in s) (bound_in x)) (other 1 (suc (length l)) (omega arith))
    by (suc n) =
        ap (λ t. cond (suc (suc n) == suc (suc (length l))) (bound_in s) (cond t (bound_in x) (bound_by (suc n) l))) (not_zero n)
        ∙ ap (λ t. cond t (bound_in s) (bound_by (suc n) l)) (same (suc n) (suc (length l)))
        ∙ sym (ap (λ t. cond t (bound_in x) (cond (suc n == suc (length l)) (bound_in s) (bound_by (suc n) l))) (not_zero n))

abbrev bound_in_some : Option Step → Option Binding
bound_in_some None = None
bound_in_some (Some s) = bound_in s

bound_by_next : (i : ℕ) (xs : List Step) → bound_by (suc i) (reverse xs) ≡ bound_in_some (slice_get xs i)
bound_by_next i [] = refl
bound_by_next zero (x ∷ xs) = ap (bound_by 1) (reverse-append (x ∷ []) xs) ∙ bound_by_first 0 (reverse xs) x
bound_by_next (suc i) (x ∷ xs) = ap (bound_by (suc (suc i))) (reverse-append (x ∷ []) xs) ∙ bound_by_first (suc i) (reverse xs) x ∙
    ap (λ t. cond t (bound_in x) (bound_by (suc i) (reverse xs))) (not_zero i) ∙ bound_by_next i xs

-- the step with a number, in text order
pub bound_by_place : (n : ℕ) (xs : List Step) → bound_by n (reverse xs) ≡ cond (n == 0) None (bound_in_some (slice_get xs (n - 1)))
bound_by_place zero xs = bound_by_none (reverse xs)
bound_by_place (suc n) xs =
    let before : n ≡ suc n - 1 = omega arith in
    bound_by_next n xs ∙ ap (λ j. bound_in_some (slice_get xs j)) before ∙ sym (ap (λ t. cond t None (bound_in_some (slice_get xs (suc n - 1)))) (not_zero n))

-- what the last step that bound the name bound
abbrev pub bound_last : List ℕ → List Step → Option Binding
bound_last q l = bound_by (last_bound q l) l

bound_last_more : (q name : List ℕ) (before : ℕ) (b : Binding) (l : List Step) →
    bound_last q (Bind name before b ∷ l) ≡ cond (bytes_eq q name) (Some b) (bound_last q l)
bound_last_more q name before b l = at (bytes_eq q name)
  where
    at : (t : Bool) → bound_by (cond t (suc (length l)) (last_bound q l)) (Bind name before b ∷ l) ≡ cond t (Some b) (bound_last q l)
    at true = ap (λ t. cond t (Some b) (bound_by (suc (length l)) l)) (here (suc (length l)))
    at false = bound_by_more (last_bound q l) (Bind name before b) l (bound_within q l)

-- ---- there is a scope once one was entered

has_scope : (l : List Step) → 0 < last_entered l → 0 < length (scopes_after l)
has_scope [] h = absurd (omega arith)
has_scope (Enter outer ∷ l) h = omega arith
has_scope (Bind name before b ∷ l) h = at (scopes_after l) (has_scope l h)
  where
    at : (ss : List Scope) → 0 < length ss → 0 < length (bind name b ss)
    at [] p = p
    at (s ∷ ss) p = omega arith

-- ---- the nearest scope

fresh_bound : (q m : List ℕ) (b : Binding) (ss : List Scope) → 0 < length ss → is_some (bound m ss) ≡ false →
    bound q (bind m b ss) ≡ cond (bytes_eq q m) (Some b) (bound q ss)
fresh_bound q m b [] p h = absurd (omega arith)
fresh_bound q m b (s ∷ ss) p h = found_new q m b s h

fresh_look_up : (q m : List ℕ) (b : Binding) (ss : List Scope) → 0 < length ss → is_some (bound m ss) ≡ false →
    look_up (bind m b ss) q ≡ cond (bytes_eq q m) (Some b) (look_up ss q)
fresh_look_up q m b [] p h = absurd (omega arith)
fresh_look_up q m b (s ∷ ss) p h = ap (λ o. or_else o (look_up ss q)) (found_new q m b s h) ∙ at (bytes_eq q m)
  where
    at : (t : Bool) → or_else (cond t (Some b) (found q s)) (look_up ss q) ≡ cond t (Some b) (or_else (found q s) (look_up ss q))
    at true = refl
    at false = refl

-- what the nearest scope has a name bound to
abbrev pub bound_near : List ℕ → List Step → Option Binding
bound_near q l = cond (nat_lt (last_entered l) (last_bound q l)) (bound_last q l) None

near_none : (q : List ℕ) (l : List Step) → last_bound q l ≤ last_entered l → bound_near q l ≡ None
near_none q l h = ap (λ t. cond t (bound_last q l) None) (past (last_entered l) (last_bound q l) h)
  where
    past : (n m : ℕ) → m ≤ n → nat_lt n m ≡ false
    past n m h = grind (arith, nat_tests)

near_some : (q : List ℕ) (l : List Step) → last_entered l < last_bound q l → bound_near q l ≡ bound_last q l
near_some q l h = ap (λ t. cond t (bound_last q l) None) (past (last_entered l) (last_bound q l) h)
  where
    past : (n m : ℕ) → n < m → nat_lt n m ≡ true
    past n m h = grind (arith, nat_tests)

near_more : (q m : List ℕ) (before : ℕ) (b : Binding) (l : List Step) → bound_near q (Bind m before b ∷ l) ≡ cond (bytes_eq q m) (Some b) (bound_near q l)
near_more q m before b l = ap (λ o. cond (nat_lt (last_entered l) (last_bound q (Bind m before b ∷ l))) o None) (bound_last_more q m before b l) ∙
    at (bytes_eq q m)
  where
    past : (n m : ℕ) → n ≤ m → nat_lt n (suc m) ≡ true
    past n m h = grind (arith, nat_tests)

    at : (t : Bool) → cond (nat_lt (last_entered l) (cond t (suc (length l)) (last_bound q l))) (cond t (Some b) (bound_last q l)) None ≡ cond t
        (Some b) (bound_near q l)
    at true = ap (λ u. cond u (Some b) None) (past (last_entered l) (length l) (entered_within l))
    at false = refl

pub bound_is : (q : List ℕ) (l : List Step) → IsLog l → bound q (scopes_after l) ≡ bound_near q l
bound_is q [] h = refl
bound_is q (Enter outer ∷ l) h = sym (near_none q (Enter outer ∷ l) (omega (arith, bound_within q l)))
bound_is q (Bind m before b ∷ l) h =
    let free : bound m (scopes_after l) ≡ None = bound_is m l h.3 ∙ near_none m l (omega (arith, h.0, h.1)) in
    fresh_bound q m b (scopes_after l) (has_scope l h.2) (ap is_some free)
    ∙ ap (cond (bytes_eq q m) (Some b)) (bound_is q l h.3)
    ∙ sym (near_more q m before b l)

-- a name that no step bound since the nearest scope was entered is new there
pub free_is : (m : List ℕ) (l : List Step) → IsLog l → last_bound m l ≤ last_entered l → bound m (scopes_after l) ≡ None
free_is m l h p = bound_is m l h ∙ near_none m l p

pub look_up_is : (q : List ℕ) (l : List Step) → IsLog l → look_up (scopes_after l) q ≡ bound_last q l
look_up_is q [] h = refl
look_up_is q (Enter outer ∷ l) h = look_up_is q l h.1 ∙ sym (bound_by_more (last_bound q l) (Enter outer) l (bound_within q l))
look_up_is q (Bind m before b ∷ l) h =
    fresh_look_up q m b (scopes_after l) (has_scope l h.2) (ap is_some (free_is m l h.3 (omega (arith, h.0, h.1))))
    ∙ ap (cond (bytes_eq q m) (Some b)) (look_up_is q l h.3)
    ∙ sym (bound_last_more q m before b l)

-- ---- names that are bound already

bound_some : (q : List ℕ) (l : List Step) → 0 < last_bound q l → is_some (bound_last q l) ≡ true
bound_some q [] h = absurd (omega arith)
bound_some q (Enter outer ∷ l) h = ap is_some (bound_by_more (last_bound q l) (Enter outer) l (bound_within q l)) ∙ bound_some q l h
bound_some q (Bind m before b ∷ l) h = ap is_some (bound_last_more q m before b l) ∙ at (bytes_eq q m) h (bound_some q l)
  where
    at : (t : Bool) → 0 < cond t (suc (length l)) (last_bound q l) → (0 < last_bound q l → is_some (bound_last q l) ≡ true) →
        is_some (cond t (Some b) (bound_last q l)) ≡ true
    at true p f = refl
    at false p f = f p

kept : (name : List ℕ) (b : Binding) (ss : List Scope) → is_some (bound name ss) ≡ true → bind name b ss ≡ ss
kept name b [] e = refl
kept name b (s ∷ ss) e = ap (λ t. cond t s (with_entry name b s) ∷ ss) e

-- a name that the nearest scope has
pub kept_is : (name : List ℕ) (b : Binding) (l : List Step) → IsLog l → last_entered l < last_bound name l → bind name b (scopes_after l) ≡ scopes_after l
kept_is name b l h p = kept name b (scopes_after l) (ap is_some (bound_is name l h ∙ near_some name l p) ∙ bound_some name l (omega arith))

-- where no scope was entered nothing is bound
pub none_entered : (l : List Step) → IsLog l → last_entered l ≡ 0 → scopes_after l ≡ []
none_entered [] h e = refl
none_entered (Enter outer ∷ l) h e = absurd (omega (arith, e))
none_entered (Bind name before b ∷ l) h e = absurd (omega (arith, h.2, e))

pub none_bound : (name : List ℕ) (b : Binding) (l : List Step) → IsLog l → last_entered l ≡ 0 → bind name b (scopes_after l) ≡ scopes_after l
none_bound name b l h e = ap (bind name b) (none_entered l h e) ∙ sym (none_entered l h e)

-- ---- one name among several

pub same_test : (k q : List ℕ) → is_at (name_cmp k) q ≡ bytes_eq q k
same_test k q = is_eq-slice_cmp k q ∙ by_bool (bytes_eq k q)
    (λ e. e ∙ sym (names_same q k (sym (same_names k q e))))
    (λ e. by_bool (bytes_eq q k) (λ f. absurd (true≢false (sym (names_same k q (sym (same_names q k f))) ∙ e))) (λ f. e ∙ sym f))

-- ---- the table

-- a step that binds a name
pub added : (name : List ℕ) (before n : ℕ) (b : Binding) (l : List Step) (old new : BTreeMap (List ℕ) ℕ) → n ≡ suc (length l) → HasLast old l →
    Updates name_cmp old new name (Some n) → HasLast new (Bind name before b ∷ l)
added name before n b l old new e h u = λ q.
    ap (λ o. unwrap_or o 0) (u.0 q ∙ ap (λ t. cond t (Some n) (get name_cmp old q)) (same_test name q)) ∙ at q (bytes_eq q name)
  where
    at : (q : List ℕ) (t : Bool) → unwrap_or (cond t (Some n) (get name_cmp old q)) 0 ≡ cond t (suc (length l)) (last_bound q l)
    at q true = e
    at q false = h q

-- a step that bound a name is taken back
pub taken : (name : List ℕ) (before : ℕ) (b : Binding) (l : List Step) (old new : BTreeMap (List ℕ) ℕ) → before ≡ last_bound name l →
    HasLast old (Bind name before b ∷ l) → Updates name_cmp old new name (Some before) → HasLast new l
taken name before b l old new e h u = λ q.
    ap (λ o. unwrap_or o 0) (u.0 q ∙ ap (λ t. cond t (Some before) (get name_cmp old q)) (same_test name q)) ∙ at q (bytes_eq q name) refl (h q)
  where
    at : (q : List ℕ) (t : Bool) → bytes_eq q name ≡ t → count_at (get name_cmp old) q ≡ cond t (suc (length l)) (last_bound q l) →
        unwrap_or (cond t (Some before) (get name_cmp old q)) 0 ≡ last_bound q l
    at q true s k = e ∙ ap (λ m. last_bound m l) (sym (same_names q name s))
    at q false s k = k

itself : (name : List ℕ) → bytes_eq name name ≡ true
itself name = names_same name name refl

some_number : (o : Option ℕ) (n : ℕ) → unwrap_or o 0 ≡ suc n → IsSome o
some_number None n e = absurd (omega (arith, e))
some_number (Some x) n e = refl

-- a name that a step bound has a number
pub has_number : (name : List ℕ) (before : ℕ) (b : Binding) (l : List Step) (table : BTreeMap (List ℕ) ℕ) → HasLast table (Bind name before b ∷ l) →
    IsSome (get name_cmp table name)
has_number name before b l table h = some_number (get name_cmp table name) (length l)
    (h name ∙ ap (λ t. cond t (suc (length l)) (last_bound name l)) (itself name))

pub drop_bind : (name : List ℕ) (b : Binding) (ss : List Scope) → drop 1 (bind name b ss) ≡ drop 1 ss
drop_bind name b [] = refl
drop_bind name b (s ∷ ss) = refl

-- ---- the log as the code has it, the oldest step first

abbrev pub IsScopes : List Step → ℕ → BTreeMap (List ℕ) ℕ → Type 0
IsScopes xs entered table = IsLog (reverse xs) × (entered ≡ last_entered (reverse xs)) × HasLast table (reverse xs)

turned : (xs ys : List Step) (s : Step) → ys ≡ xs ++ s ∷ [] → reverse ys ≡ s ∷ reverse xs
turned xs ys s e = ap reverse e ∙ reverse-append xs (s ∷ [])

pub kept_whole : (name : List ℕ) (b : Binding) (xs : List Step) (entered before : ℕ) (table : BTreeMap (List ℕ) ℕ) → IsScopes xs entered table →
    before ≡ count_at (get name_cmp table) name → entered < before → bind name b (scopes_after (reverse xs)) ≡ scopes_after (reverse xs)
kept_whole name b xs entered before table h e p =
    let at : count_at (get name_cmp table) name ≡ last_bound name (reverse xs) = h.2 name in
    let from : entered ≡ last_entered (reverse xs) = h.1 in
    kept_is name b (reverse xs) h.0 (omega (arith, at, from, e, p))

pub unchanged : (l : List Step) (old new : BTreeMap (List ℕ) ℕ) → new.entries ≡ old.entries → HasLast old l → HasLast new l
unchanged l old new e h = λ q. ap (λ es. unwrap_or (lookup (is_at (name_cmp q)) es) 0) e ∙ h q

pub popped : (r : Option Step) (xs ys zs : List Step) (s : Step) → ys ≡ xs ++ s ∷ [] →
    MatchOption r ((ys ≡ []) × (zs ≡ [])) (λ last. ys ≡ zs ++ last ∷ []) → reverse zs ≡ reverse xs
popped None xs ys zs s e h = ap reverse h.1 ∙ sym (ap (λ l. drop 1 (reverse l)) h.0) ∙ ap (drop 1) (turned xs ys s e)
popped (Some last) xs ys zs s e h = ap (drop 1) (sym (turned zs ys last h) ∙ turned xs ys s e)

pub bound_more : (name k m : List ℕ) (before n entered : ℕ) (b : Binding) (xs ys : List Step) (old new : BTreeMap (List ℕ) ℕ)
    → k ≡ name → m ≡ name → ys ≡ xs ++ Bind k before b ∷ [] → n ≡ length ys → before ≡ count_at (get name_cmp old) name → before ≤ entered → (entered ≡ 0 → ⊥)
    → IsScopes xs entered old → Updates name_cmp old new m (Some n) → IsScopes ys entered new
bound_more name k m before n entered b xs ys old new e f g len at near some h u =
    subst (λ l. IsLog l × (entered ≡ last_entered l) × HasLast new l) (sym (turned xs ys (Bind k before b) g)) (
      (last, omega (arith, near, from), omega (arith, some, from), h.0),
      from,
      added k before n b (reverse xs) old new count h.2 (subst (λ q. Updates name_cmp old new q (Some n)) (f ∙ sym e) u),
    )
  where
    from : entered ≡ last_entered (reverse xs)
    from = h.1

    last : before ≡ last_bound k (reverse xs)
    last = at ∙ ap (λ q. count_at (get name_cmp old) q) (sym e) ∙ h.2 k

    count : n ≡ suc (length (reverse xs))
    count = len ∙ sym (length-reverse ys) ∙ ap length (turned xs ys (Bind k before b) g)

stepped : (xs ys : List Step) (s : Step) (name : List ℕ) (before : ℕ) (b : Binding) → xs ≡ ys ++ s ∷ [] → s ≡ Bind name before b →
    reverse xs ≡ Bind name before b ∷ reverse ys
stepped xs ys s name before b e f = turned ys xs s e ∙ ap (λ t. t ∷ reverse ys) f

pub has_number_in : (xs ys : List Step) (s : Step) (name : List ℕ) (before : ℕ) (b : Binding) (table : BTreeMap (List ℕ) ℕ) → xs ≡ ys ++ s ∷ [] →
    s ≡ Bind name before b → HasLast table (reverse xs) → IsSome (get name_cmp table name)
has_number_in xs ys s name before b table e f h = has_number name before b (reverse ys) table (subst (HasLast table) (stepped xs ys s name before b e f) h)

pub taken_back : (xs ys zs : List Step) (s : Step) (name : List ℕ) (before : ℕ) (b : Binding) (old new : BTreeMap (List ℕ) ℕ) → xs ≡ ys ++ s ∷ [] →
    s ≡ Bind name before b
    → (drop 1 (scopes_after (reverse xs)) ≡ drop 1 (scopes_after (reverse zs))) × IsLog (reverse xs) × HasLast old (reverse xs)
    → Updates name_cmp old new name (Some before)
    → (drop 1 (scopes_after (reverse ys)) ≡ drop 1 (scopes_after (reverse zs))) × IsLog (reverse ys) × HasLast new (reverse ys)
taken_back xs ys zs s name before b old new e f h u = (
  sym (drop_bind name b (scopes_after (reverse ys))) ∙ ap (λ l. drop 1 (scopes_after l)) (sym at) ∙ h.0,
  log.3,
  taken name before b (reverse ys) old new log.0 (subst (HasLast old) at h.2) u,
)
  where
    at : reverse xs ≡ Bind name before b ∷ reverse ys
    at = stepped xs ys s name before b e f

    log : IsLog (Bind name before b ∷ reverse ys)
    log = subst IsLog (stepped xs ys s name before b e f) h.1
