-- The sections of a switch, one item at a time.
use Rattle.std.proofs.Common.{◌≡◌, ◌∙◌, ◌<◌, ◌+◌, ◌||◌, ◌&&◌, not, ℕ, Bool, true, false, cond, List, [], ◌∷◌, ◌++◌, Option, Some, None, append_assoc, length, get_or, drop, refl, ap, sym, true≢false}
use Rattle.std.proofs.lemmas.List.{append-nil}
use Rattle.c_bodies.specs.declared.reading.Reading as declared
use Rattle.c_bodies.specs.Steps.{begins, reading_of, closed_now, closed_before, reading_behind, outside_of, outside_behind, sections_behind, section_item_faults, section_faults, is_outside, is_element, with_node}
use Rattle.c_kinds.specs.Scopes.{Faults, fault_if}
use Rattle.c_grammar.specs.Terms.{Term}
use Rattle.c_grammar.specs.Items.{Body, IfElse, Label, Plain, Item, Declares, States, Items, NoItem, Then, item_first, stated_first}
use Rattle.c_grammar.proofs.Layers.{weight-at}
use Rattle.c_statements.specs.Context.{Context, Walk, Around, env_at}
use Rattle.c_statements.specs.Declarations.{value_at}
use Rattle.c_statements.specs.Labels.{has_case, labels_faults}
use Rattle.c_statements.specs.Sections.{Reading, extended, closed, front}
use Rattle.c_statements.specs.Statements.{body_items, behind_body, statement_items, begun, plain_items, item_items, behind_item, behind_plain, sections_from, sections_at, sections_of, outside_item, outside_items}
use Rattle.c_statements.specs.Violations.{is_null, plain_faults, item_faults, list_faults, outside_faults, outside_fault}
use Rattle.c_grammar.specs.declared.syntax.Syntax.{Syntax, out-Syntax}
use Rattle.c_grammar.specs.ItemViews.{item_of}
use Rattle.c_grammar.specs.Parts.{is_token}
use Rattle.c_statements.specs.Nodes.{items_of}
use Rattle.std.specs.declared.result.Result.{Result}
use Rattle.std.specs.Prelude.{Ok, Err, OnOk}
use Rattle.std.proofs.lemmas.Bool.{or_parts}
use Rattle.c_statements.proofs.Lists.{items-token, items-item}
use Rattle.c_bodies.proofs.Scopes.{left_item}
use Rattle.c_tree.specs.declared.tree.Expression.{Expression}
use Rattle.c_tree.specs.declared.tree.Item as tree
use Rattle.c_tree.specs.declared.tree.Test as test
use Rattle.c_tree.specs.declared.tree.Section.{Section}

-- ---- more items of what is being read

extended-by : (b : Bool) (r : Reading) (ys : List tree.Item) → cond b (Some (record { cases = r.cases; default = r.default; list = r.list ++ ys }))
    None ≡ extended (cond b (Some r) None) ys
extended-by true r ys = refl
extended-by false r ys = refl

pub extended_of : (r s : declared.Reading) (ys : List tree.Item) → s.begun ≡ r.begun → s.cases ≡ r.cases → s.default ≡ r.default →
    s.list ≡ r.list ++ ys → reading_of s ≡ extended (reading_of r) ys
extended_of r s ys b c d l =
    (λ i. cond (b i) (Some (record { cases = c i; default = d i; list = l i })) None)
    ∙ extended-by r.begun (record { cases = r.cases; default = r.default; list = r.list }) ys

-- ---- an item that begins no section

pub none_closed : (r : declared.Reading) (x : Item) → begins x ≡ false → closed_before r x ≡ []
none_closed r x h = ap (λ b. cond b (closed_now r) []) h

pub read_on : (ctx : Context) (r : Option Reading) (x : Item) (w : Walk) → begins x ≡ false → reading_behind ctx r x w ≡ extended r (item_items ctx x w)
read_on ctx r (Declares first after d) w h = refl
read_on ctx r (States ls p) w h = ap (λ b. cond b (begun ctx (env_at ctx w) ls (plain_items ctx p w)) (extended r (item_items ctx (States ls p) w))) h

-- in front of the first section an element stands, and a null statement doesn't
stands-by : (c n : Bool) (ys : List tree.Item) → c ≡ false → not n ≡ true → cond (c || n) [] ys ≡ ys
stands-by true n ys q h = absurd (true≢false q)
stands-by false true ys q h = absurd (true≢false (sym h))
stands-by false false ys q h = refl

pub stands : (ctx : Context) (x : Item) (w : Walk) → begins x ≡ false → is_element x ≡ true → outside_item ctx x w ≡ item_items ctx x w
stands ctx (Declares first after d) w q h = refl
stands ctx (States ls p) w q h = stands-by (has_case ls) (is_null ls p) (item_items ctx (States ls p) w) q h

absent-by : (c n : Bool) (ys : List tree.Item) → not n ≡ false → cond (c || n) [] ys ≡ []
absent-by true n ys h = refl
absent-by false true ys h = refl
absent-by false false ys h = absurd (true≢false h)

absent : (ctx : Context) (x : Item) (w : Walk) → is_element x ≡ false → outside_item ctx x w ≡ []
absent ctx (Declares first after d) w h = absurd (true≢false h)
absent ctx (States ls p) w h = absent-by (has_case ls) (is_null ls p) (item_items ctx (States ls p) w) h

pub outside_extended : (ctx : Context) (r s : declared.Reading) (x : Item) (w : Walk) → s.begun ≡ r.begun → s.list ≡ r.list ++ item_items ctx x w →
    begins x ≡ false → (r.begun || is_element x) ≡ true
    → outside_of s ≡ outside_behind ctx r x w
outside_extended ctx r s x w b l q h = (λ i. cond (b i) [] (l i)) ∙ go r.begun h
  where
    go : (c : Bool) → (c || is_element x) ≡ true → cond c [] (r.list ++ item_items ctx x w) ≡ cond (c || begins x) [] (r.list ++ outside_item ctx x w)
    go true h = refl
    go false h = ap (λ l. r.list ++ l) (sym (stands ctx x w q h)) ∙ ap (λ c. cond c [] (r.list ++ outside_item ctx x w)) (sym q)

-- ---- a null statement in front of the first section

pub outside_passed : (ctx : Context) (r : declared.Reading) (x : Item) (w : Walk) → begins x ≡ false → (r.begun || is_element x) ≡ false →
    outside_of r ≡ outside_behind ctx r x w
outside_passed ctx r x w q h =
    let k = or_parts r.begun (is_element x) h in
    ap (λ c. cond c [] r.list) k.0 ∙ sym (append-nil r.list) ∙ ap (λ l. r.list ++ l) (sym (absent ctx x w k.1)) ∙
    (λ i. cond (sym k.0 i || sym q i) [] (r.list ++ outside_item ctx x w))

pub reading_passed : (ctx : Context) (r : declared.Reading) (x : Item) (w : Walk) → begins x ≡ false → (r.begun || is_element x) ≡ false →
    reading_of r ≡ reading_behind ctx (reading_of r) x w
reading_passed ctx r x w q h =
    let k = or_parts r.begun (is_element x) h in
    let none : reading_of r ≡ None = ap (λ c. cond c (Some (record { cases = r.cases; default = r.default; list = r.list })) None) k.0 in
    none ∙ sym (read_on ctx None x w q) ∙ ap (λ o. reading_behind ctx o x w) (sym none)

pub begun_passed : (r : declared.Reading) (x : Item) → begins x ≡ false → r.begun ≡ (r.begun || begins x)
begun_passed r x q = go r.begun
  where
    go : (c : Bool) → c ≡ (c || begins x)
    go true = refl
    go false = sym q

pub done_passed : (r : declared.Reading) (x : Item) (done : List Section) → begins x ≡ false → done ≡ done ++ closed_before r x
done_passed r x done q = sym (append-nil done) ∙ ap (λ l. done ++ l) (sym (none_closed r x q))

pub faults_passed : (ctx : Context) (around : Around) (r : declared.Reading) (x : Item) (w : Walk) (vs : Faults) → (r.begun || is_element x) ≡ false →
    item_faults ctx around x w vs ≡ section_item_faults ctx around r.begun x w vs
faults_passed ctx around r x w vs h =
    let k = or_parts r.begun (is_element x) h in
    let out : is_outside r.begun x ≡ false = ap (λ e. not r.begun && not (begins x) && e) k.1 ∙ none (not r.begun) (not (begins x)) in
    sym (ap (λ c. fault_if c (item_first x) 29 (item_faults ctx around x w vs)) out)
  where
    none : (a b : Bool) → (a && b && false) ≡ false
    none true true = refl
    none true false = refl
    none false b = refl

-- ---- sections

section-by : (b : Bool) (cs ds es : List Section) → (elim b [ true ↦ cs ++ ds | false ↦ es ]) ≡ cond b cs [] ++ cond b ds es
section-by true cs ds es = refl
section-by false cs ds es = refl

choose : (ctx : Context) (b : Bool) (r s : Option Reading) (xs : Items) (notes : List tree.Item) (w : Walk) →
    cond b (sections_from ctx r xs notes w) (sections_from ctx s xs notes w) ≡ sections_from ctx (cond b r s) xs notes w
choose ctx true r s xs notes w = refl
choose ctx false r s xs notes w = refl

pub sections_step : (ctx : Context) (r : Option Reading) (x : Item) (xs : Items) (notes : List tree.Item) (w : Walk)
    → sections_from ctx r (Then x xs) notes w ≡ cond (begins x) (closed r) [] ++ sections_from ctx (reading_behind ctx r x w) xs notes (behind_item ctx x w)
sections_step ctx r (Declares first after d) xs notes w = refl
sections_step ctx r (States ls p) xs notes w =
    section-by (has_case ls) (closed r) (sections_from ctx (begun ctx (env_at ctx w) ls (plain_items ctx p w)) xs notes (behind_plain ctx p w))
    (sections_from ctx (extended r (item_items ctx (States ls p) w)) xs notes (behind_plain ctx p w))
    ∙ ap (λ l. cond (has_case ls) (closed r) [] ++ l) (choose ctx (has_case ls) (begun ctx (env_at ctx w) ls (plain_items ctx p w))
    (extended r (item_items ctx (States ls p) w)) xs notes (behind_plain ctx p w))

lone-by : (b : Bool) (r s : Option Reading) (notes : List tree.Item) →
    (elim b [ true ↦ sections_of r notes | false ↦ sections_of s notes ]) ≡ cond b (closed None) [] ++ sections_of (cond b r s) notes
lone-by true r s notes = refl
lone-by false r s notes = refl

pub lone_section : (ctx : Context) (x : Item) (notes : List tree.Item) (w : Walk) →
    sections_at ctx None x notes w ≡ cond (begins x) (closed None) [] ++ sections_of (reading_behind ctx None x w) notes
lone_section ctx (Declares first after d) notes w = refl
lone_section ctx (States ls p) notes w = lone-by (has_case ls) (begun ctx (env_at ctx w) ls (plain_items ctx p w))
    (extended None (item_items ctx (States ls p) w)) notes

-- ---- with what stands in front of the first section

front-step : (b c : Bool) (ls is os : List tree.Item) (cs ss : List Section)
    → cond c (front (cond b [] ls) ++ cs) [] ++ (front (cond (b || c) [] (ls ++ is) ++ cond (b || c) [] os) ++ ss) ≡ front
    (cond b [] ls ++ cond b [] (cond c [] (is ++ os))) ++ (cond c cs [] ++ ss)
front-step true true ls is os cs ss = refl
front-step true false ls is os cs ss = refl
front-step false true ls is os cs ss = append_assoc (front ls) cs ss ∙ ap (λ l. front l ++ (cs ++ ss)) (sym (append-nil ls))
front-step false false ls is os cs ss = ap (λ l. front l ++ ss) (append_assoc ls is os)

pub behind_step : (ctx : Context) (r s : declared.Reading) (x : Item) (xs : Items) (notes : List tree.Item) (v w : Walk) (done new : List Section) →
    new ≡ done ++ closed_before r x → reading_of s ≡ reading_behind ctx (reading_of r) x w
    → s.begun ≡ (r.begun || begins x) → outside_of s ≡ outside_behind ctx r x w → v ≡ behind_item ctx x w →
    new ++ sections_behind ctx s xs notes v ≡ done ++ sections_behind ctx r (Then x xs) notes w
behind_step ctx r s x xs notes v w done new d k b o g =
    let rest = sections_from ctx (reading_behind ctx (reading_of r) x w) xs notes (behind_item ctx x w) in
    let more = outside_items ctx xs (behind_item ctx x w) in
    (λ i. d i ++ (front (o i ++ cond (b i) [] (outside_items ctx xs (g i))) ++ sections_from ctx (k i) xs notes (g i)))
    ∙ append_assoc done (closed_before r x) (front (outside_behind ctx r x w ++ cond (r.begun || begins x) [] more) ++ rest)
    ∙ ap (λ l. done ++ l) (front-step r.begun (begins x) r.list (outside_item ctx x w) more (closed (reading_of r)) rest)
    ∙ sym (ap (λ l. done ++ (front (outside_of r ++ cond r.begun [] (outside_items ctx (Then x xs) w)) ++ l)) (sections_step ctx (reading_of r) x xs notes w))

end-by : (b : Bool) (ls : List tree.Item) → front (cond b [] ls ++ cond b [] []) ≡ front (cond b [] ls)
end-by true ls = refl
end-by false ls = ap front (append-nil ls)

pub behind_end : (ctx : Context) (r : declared.Reading) (notes : List tree.Item) (w : Walk) →
    sections_behind ctx r NoItem notes w ≡ front (outside_of r) ++ sections_of (reading_of r) notes
behind_end ctx r notes w = ap (λ l. l ++ sections_of (reading_of r) notes) (end-by r.begun r.list)

abbrev nothing_read : declared.Reading
nothing_read = record { begun = false; cases = []; default = false; list = [] }

lone-step : (ctx : Context) (x : Item) (notes : List tree.Item) (w : Walk)
    → closed_before nothing_read x ++ (front (outside_behind ctx nothing_read x w) ++ sections_of (reading_behind ctx None x w) notes) ≡ front
    (outside_item ctx x w) ++ (cond (begins x) (closed None) [] ++ sections_of (reading_behind ctx None x w) notes)
lone-step ctx (Declares first after d) notes w = refl
lone-step ctx (States ls p) notes w = go (has_case ls) (is_null ls p) (item_items ctx (States ls p) w)
    (sections_of (reading_behind ctx None (States ls p) w) notes)
  where
    go : (c n : Bool) (is : List tree.Item) (ss : List Section) → cond c [] [] ++ (front (cond c [] (cond (c || n) [] is)) ++ ss) ≡ front
        (cond (c || n) [] is) ++ (cond c [] [] ++ ss)
    go true n is ss = refl
    go false n is ss = refl

-- one item alone
pub lone_step : (ctx : Context) (x : Item) (notes : List tree.Item) (v w : Walk) (r s : declared.Reading) (done new all : List Section) → v ≡ w →
    done ≡ [] → r ≡ record { begun = false; cases = []; default = false; list = [] }
    → new ≡ done ++ closed_before r x → reading_of s ≡ reading_behind ctx (reading_of r) x v → outside_of s ≡ outside_behind ctx r x v →
    all ≡ new ++ (front (outside_of s) ++ sections_of (reading_of s) notes)
    → all ≡ front (outside_item ctx x w) ++ sections_at ctx None x notes w
lone_step ctx x notes v w r s done new all g e f d k o h =
    h
    ∙ (λ i. (d ∙ (λ j. e j ++ closed_before (f j) x)) i ++ (front ((o ∙ (λ j. outside_behind ctx (f j) x (g j))) i) ++
    sections_of ((k ∙ (λ j. reading_behind ctx (reading_of (f j)) x (g j))) i) notes))
    ∙ lone-step ctx x notes w
    ∙ sym (ap (λ l. front (outside_item ctx x w) ++ l) (lone_section ctx x notes w))

-- ---- violations

pub faults_step : (ctx : Context) (around : Around) (b : Bool) (x : Item) (xs : Items) (w : Walk) (vs : Faults)
    → section_faults ctx around b (Then x xs) w vs ≡ section_faults ctx around (b || begins x) xs (behind_item ctx x w)
    (section_item_faults ctx around b x w vs)
faults_step ctx around true x xs w vs = refl
faults_step ctx around false (Declares first after d) xs w vs = refl
faults_step ctx around false (States ls p) xs w vs = go (has_case ls)
  where
    go : (c : Bool)
        → (elim c [
          | true ↦ list_faults ctx around xs (behind_plain ctx p w) (item_faults ctx around (States ls p) w vs)
          | false ↦ outside_faults ctx around xs (behind_plain ctx p w)
              (fault_if (not (is_null ls p)) (stated_first ls p) 29 (item_faults ctx around (States ls p) w vs))
        ])
        ≡ cond c (list_faults ctx around xs (behind_plain ctx p w)
        (fault_if (not c && not (is_null ls p)) (stated_first ls p) 29 (item_faults ctx around (States ls p) w vs)))
        (outside_faults ctx around xs (behind_plain ctx p w)
        (fault_if (not c && not (is_null ls p)) (stated_first ls p) 29 (item_faults ctx around (States ls p) w vs)))
    go true = refl
    go false = refl

pub lone_faults : (ctx : Context) (around : Around) (x : Item) (w : Walk) (vs : Faults) →
    outside_fault ctx around x w vs ≡ section_item_faults ctx around false x w vs
lone_faults ctx around (Declares first after d) w vs = refl
lone_faults ctx around (States ls p) w vs = go (has_case ls)
  where
    go : (c : Bool) → fault_if (not (c || is_null ls p)) (stated_first ls p) 29 (item_faults ctx around (States ls p) w vs) ≡ fault_if
        (not c && not (is_null ls p)) (stated_first ls p) 29 (item_faults ctx around (States ls p) w vs)
    go true = refl
    go false = refl

pub no_fault : (b : Bool) (x : Item) → begins x ≡ true → is_outside b x ≡ false
no_fault true x h = refl
no_fault false x h = ap (λ c. not c && is_element x) h

-- ---- nodes

pub nodes_at : (word : ℕ → List ℕ) (ns : List Syntax) (i : ℕ) (x : Syntax) → i < length ns → x ≡ get_or ns i x →
    items_of word (drop i ns) ≡ with_node word x (items_of word (drop (i + 1) ns))
nodes_at word ns i x h e = go (is_token (out-Syntax (get_or ns i x)).rule) refl ∙ ap (λ y. with_node word y (items_of word (drop (i + 1) ns))) (sym e)
  where
    go : (b : Bool) → is_token (out-Syntax (get_or ns i x)).rule ≡ b →
        items_of word (drop i ns) ≡ with_node word (get_or ns i x) (items_of word (drop (i + 1) ns))
    go true t = items-token word ns i x h t ∙ ap (λ b. cond b (items_of word (drop (i + 1) ns))
        (Then (item_of word (get_or ns i x)) (items_of word (drop (i + 1) ns)))) (sym t)
    go false t = items-item word ns i x h t ∙ ap (λ b. cond b (items_of word (drop (i + 1) ns))
        (Then (item_of word (get_or ns i x)) (items_of word (drop (i + 1) ns)))) (sym t)

pub token_node : (word : ℕ → List ℕ) (x : Syntax) (xs : Items) → is_token (out-Syntax x).rule ≡ true → with_node word x xs ≡ xs
token_node word x xs h = ap (λ b. cond b xs (Then (item_of word x) xs)) h

pub item_node : (word : ℕ → List ℕ) (x : Syntax) (xs : Items) → is_token (out-Syntax x).rule ≡ false → with_node word x xs ≡ Then (item_of word x) xs
item_node word x xs h = ap (λ b. cond b xs (Then (item_of word x) xs)) h

-- whatever a call answered
pub whatever : {T E P : Type 0} (r : Result T E) → P → OnOk r P
whatever (Ok x) p = p
whatever (Err e) p = tt

pub both : {T E P Q R : Type 0} (r : Result T E) → (P → Q → R) → OnOk r P → OnOk r Q → OnOk r R
both (Ok x) f p q = f p q
both (Err e) f p q = tt

pub all_three : {T E P Q R S : Type 0} (r : Result T E) → (P → Q → R → S) → OnOk r P → OnOk r Q → OnOk r R → OnOk r S
all_three (Ok x) f p q s = f p q s
all_three (Err e) f p q s = tt

pub all_five : {T E P Q R S U V : Type 0} (r : Result T E) → (P → Q → R → S → U → V) → OnOk r P → OnOk r Q → OnOk r R → OnOk r S → OnOk r U → OnOk r V
all_five (Ok x) f p q s u v = f p q s u v
all_five (Err e) f p q s u v = tt

pub after : {T E P Q : Type 0} (r : Result T E) → OnOk r P → (P → Q) → OnOk r Q
after (Ok x) p f = f p
after (Err e) p f = tt

-- ---- statements, from what was read of their parts

pub states_faults : (ctx : Context) (around : Around) (x : Item) (ls : List Label) (p : Plain) (v w : Walk) (us vs ws : Faults) → x ≡ States ls p →
    ws ≡ plain_faults ctx around p w vs → w ≡ v
    → vs ≡ labels_faults (env_at ctx v) around.switch ls us → ws ≡ item_faults ctx around x v us
states_faults ctx around x ls p v w us vs ws e h same f = h ∙ (λ i. plain_faults ctx around p (same i) (f i)) ∙ sym (ap (λ y. item_faults ctx around y v us) e)

pub section_states : (ctx : Context) (around : Around) (b : Bool) (ls : List Label) (p : Plain) (v w : Walk) (us vs ws : Faults) →
    has_case ls ≡ true → ws ≡ plain_faults ctx around p w vs → w ≡ v
    → vs ≡ labels_faults (env_at ctx v) around.switch ls us → ws ≡ section_item_faults ctx around b (States ls p) v us
section_states ctx around b ls p v w us vs ws q h same f =
    states_faults ctx around (States ls p) ls p v w us vs ws refl h same f
    ∙ sym (ap (λ c. fault_if c (item_first (States ls p)) 29 (item_faults ctx around (States ls p) v us)) (no_fault b (States ls p) q))

pub choice_items : (ctx : Context) (t : Term) (b c : Body) (v w : Walk) (out new xs ys : List tree.Item) (e : Expression) →
    new ≡ out ++ tree.If (test.Source e) xs ys ∷ [] → e ≡ value_at (env_at ctx v) t
    → xs ≡ body_items ctx b w → ys ≡ body_items ctx c (behind_body ctx b w) → w ≡ v → new ≡ out ++ statement_items ctx (IfElse t b c) v
choice_items ctx t b c v w out new xs ys e h ev ex ey same =
    h ∙ (λ i. out ++ tree.If (test.Source (ev i)) ((ex ∙ ap (body_items ctx b) same) i) ((ey ∙ ap (λ x. body_items ctx c (behind_body ctx b x)) same) i) ∷ [])

pub ruleset extending = (extended_of, outside_extended, none_closed, read_on)

pub ruleset passing = (outside_passed, reading_passed, begun_passed, done_passed, faults_passed)

pub ruleset all_sections = (items-token, items-item, weight-at, behind_end, faults_step, append_assoc)

pub ruleset lone_sections = (lone_faults, left_item)
