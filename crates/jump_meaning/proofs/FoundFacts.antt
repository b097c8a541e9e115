-- A search comes to a label that stands there, and to one if there is one.
use Rattle.std.proofs.Common.{Bool, true, false, cond, List, [], ◌∷◌, ◌++◌, Option, Some, None, IsSome, ◌≡◌, refl, sym, subst, true≢false}
use Rattle.c_tree.specs.Trees.{Tree, Forest, Nil, Then, Sections, NoSection, Section, If, While, Do, For, Switch, Block}
use Rattle.jump_meaning.specs.Tasks.{Task, Runs, Loops, WhileLoop, DoLoop, ForLoop, items, end_of, tail_tasks}
use Rattle.jump_meaning.specs.Search.{Goal, is_goal, is_section_goal, enters_switches, or_else, seek, seek_in, seek_sections}
use Rattle.jump_meaning.specs.Found.{IsFound, here, inside, later, IsFoundIn, in_then, in_else, in_while, in_do, in_for, in_switch, in_block, IsFoundAmong, at_section, in_section, in_later}
use Rattle.jump_meaning.specs.Laws.{SearchLaws}
use Rattle.jump_meaning.proofs.Memory.{chosen}
use Rattle.jump_meaning.proofs.TaskFacts.{behind, seek_append, seek_in_append}

-- a fact of what is found, if anything is
abbrev OfFound : (List Task → Type 0) → Option (List Task) → Type 0
OfFound P None = Unit {0}
OfFound P (Some i) = P i

of_else : (P : List Task → Type 0) (o p : Option (List Task)) → OfFound P o → OfFound P p → OfFound P (or_else o p)
of_else P (Some i) p h k = h
of_else P None p h k = k

of_weaker : (P Q : List Task → Type 0) (f : (i : List Task) → P i → Q i) (o : Option (List Task)) → OfFound P o → OfFound Q o
of_weaker P Q f None h = tt
of_weaker P Q f (Some i) h = f i h

of_behind : (P Q : List Task → Type 0) (j : List Task) (f : (i : List Task) → P i → Q (i ++ j)) (o : Option (List Task)) → OfFound P o → OfFound Q (behind j o)
of_behind P Q j f None h = tt
of_behind P Q j f (Some i) h = f i h

mutual
  found : (l : Goal) (a : Forest) → OfFound (IsFound l a) (seek l a [])
  found l Nil = tt
  found l (Then x xs) =
      let P = IsFound l (Then x xs) in
      of_else P (cond (is_goal l x) (Some (Runs x ∷ items xs [])) (seek_in l x (items xs []))) (seek l xs [])
      (chosen (OfFound P) (is_goal l x) (Some (Runs x ∷ items xs [])) (seek_in l x (items xs [])) (λ e. here x xs e)
      (λ e. subst (OfFound P) (sym (seek_in_append l x [] (items xs [])))
      (of_behind (IsFoundIn l x) P (items xs []) (λ i h. inside x xs h) (seek_in l x []) (found_in l x))))
      (of_weaker (IsFound l xs) P (λ i h. later x xs h) (seek l xs []) (found l xs))

  found_in : (l : Goal) (x : Tree) → OfFound (IsFoundIn l x) (seek_in l x [])
  found_in l (If t a b) =
      let P = IsFoundIn l (If t a b) in
      of_else P (seek l a []) (seek l b []) (of_weaker (IsFound l a) P (λ i h. in_then t a b h) (seek l a []) (found l a))
      (of_weaker (IsFound l b) P (λ i h. in_else t a b h) (seek l b []) (found l b))
  found_in l (While t a) =
      let P = IsFoundIn l (While t a) in
      subst (OfFound P) (sym (seek_append l a [] (Loops (WhileLoop t a) ∷ [])))
      (of_behind (IsFound l a) P (Loops (WhileLoop t a) ∷ []) (λ i h. in_while t a h) (seek l a []) (found l a))
  found_in l (Do a t) =
      let P = IsFoundIn l (Do a t) in
      subst (OfFound P) (sym (seek_append l a [] (Loops (DoLoop a t) ∷ [])))
      (of_behind (IsFound l a) P (Loops (DoLoop a t) ∷ []) (λ i h. in_do a t h) (seek l a []) (found l a))
  found_in l (For first t u a) =
      let P = IsFoundIn l (For first t u a) in
      subst (OfFound P) (sym (seek_append l a [] (Loops (ForLoop t u a) ∷ [])))
      (of_behind (IsFound l a) P (Loops (ForLoop t u a) ∷ []) (λ i h. in_for first t u a h) (seek l a []) (found l a))
  found_in l (Switch s c) =
      let P = IsFoundIn l (Switch s c) in
      chosen (OfFound P) (enters_switches l) (seek_sections l c []) None
      (λ e. of_weaker (IsFoundAmong l c) P (λ i h. in_switch s c e h) (seek_sections l c []) (found_among l c)) (λ e. tt)
  found_in l (Block a) = of_weaker (IsFound l a) (IsFoundIn l (Block a)) (λ i h. in_block a h) (seek l a []) (found l a)
  found_in l _ = tt

  found_among : (l : Goal) (c : Sections) → OfFound (IsFoundAmong l c) (seek_sections l c [])
  found_among l NoSection = tt
  found_among l (Section cases default a ends c) =
      let P = IsFoundAmong l (Section cases default a ends c) in
      let after = end_of ends (tail_tasks c []) in
      of_else P (cond (is_section_goal l cases default) (Some (items a after)) (seek l a after)) (seek_sections l c [])
      (chosen (OfFound P) (is_section_goal l cases default) (Some (items a after)) (seek l a after) (λ e. at_section cases default a ends c e)
      (λ e. subst (OfFound P) (sym (seek_append l a [] after))
      (of_behind (IsFound l a) P after (λ i h. in_section cases default a ends c h) (seek l a []) (found l a))))
      (of_weaker (IsFoundAmong l c) P (λ i h. in_later cases default a ends c h) (seek_sections l c []) (found_among l c))

-- ---- a label that stands there is found

some_first : (o p : Option (List Task)) → IsSome o → IsSome (or_else o p)
some_first (Some i) p h = refl
some_first None p h = absurd (true≢false (sym h))

some_second : (o p : Option (List Task)) → IsSome p → IsSome (or_else o p)
some_second (Some i) p h = refl
some_second None p h = h

some_if : (b : Bool) (o p : Option (List Task)) → b ≡ true → IsSome o → IsSome (cond b o p)
some_if b o p e h = subst (λ z. IsSome (cond z o p)) (sym e) h

some_unless : (b : Bool) (i : List Task) (p : Option (List Task)) → IsSome p → IsSome (cond b (Some i) p)
some_unless true i p h = refl
some_unless false i p h = h

mutual
  sought : (l : Goal) (a : Forest) (i : List Task) (k : List Task) → IsFound l a i → IsSome (seek l a k)
  sought l a i k (here x xs e) =
      some_first (cond (is_goal l x) (Some (Runs x ∷ items xs k)) (seek_in l x (items xs k))) (seek l xs k)
      (some_if (is_goal l x) (Some (Runs x ∷ items xs k)) (seek_in l x (items xs k)) e refl)
  sought l a i k (inside x xs {i = j} h) =
      some_first (cond (is_goal l x) (Some (Runs x ∷ items xs k)) (seek_in l x (items xs k))) (seek l xs k)
      (some_unless (is_goal l x) (Runs x ∷ items xs k) (seek_in l x (items xs k)) (sought_in l x j (items xs k) h))
  sought l a i k (later x xs h) = some_second (cond (is_goal l x) (Some (Runs x ∷ items xs k)) (seek_in l x (items xs k))) (seek l xs k) (sought l xs i k h)

  sought_in : (l : Goal) (x : Tree) (i : List Task) (k : List Task) → IsFoundIn l x i → IsSome (seek_in l x k)
  sought_in l x i k (in_then t a b h) = some_first (seek l a k) (seek l b k) (sought l a i k h)
  sought_in l x i k (in_else t a b h) = some_second (seek l a k) (seek l b k) (sought l b i k h)
  sought_in l x i k (in_while t a {i = j} h) = sought l a j (Loops (WhileLoop t a) ∷ k) h
  sought_in l x i k (in_do a t {i = j} h) = sought l a j (Loops (DoLoop a t) ∷ k) h
  sought_in l x i k (in_for first t u a {i = j} h) = sought l a j (Loops (ForLoop t u a) ∷ k) h
  sought_in l x i k (in_switch s c e h) = some_if (enters_switches l) (seek_sections l c k) None e (sought_among l c i k h)
  sought_in l x i k (in_block a h) = sought l a i k h

  sought_among : (l : Goal) (c : Sections) (i : List Task) (k : List Task) → IsFoundAmong l c i → IsSome (seek_sections l c k)
  sought_among l d i k (at_section cases default a ends c e) =
      let after = end_of ends (tail_tasks c k) in
      some_first (cond (is_section_goal l cases default) (Some (items a after)) (seek l a after)) (seek_sections l c k)
      (some_if (is_section_goal l cases default) (Some (items a after)) (seek l a after) e refl)
  sought_among l d i k (in_section cases default a ends c {i = j} h) =
      let after = end_of ends (tail_tasks c k) in
      some_first (cond (is_section_goal l cases default) (Some (items a after)) (seek l a after)) (seek_sections l c k)
      (some_unless (is_section_goal l cases default) (items a after) (seek l a after) (sought l a j after h))
  sought_among l d i k (in_later cases default a ends c h) =
      let after = end_of ends (tail_tasks c k) in
      some_second (cond (is_section_goal l cases default) (Some (items a after)) (seek l a after)) (seek_sections l c k) (sought_among l c i k h)

pub search_laws : SearchLaws
search_laws = record {
  found = λ l a i e. subst (OfFound (IsFound l a)) e (found l a);
  entered = λ l c i e. subst (OfFound (IsFoundAmong l c)) e (found_among l c);
  sought = λ l a i h. sought l a i [] h;
  reached = λ l c i h. sought_among l c i [] h;
  behind = λ l a k. seek_append l a [] k;
}
