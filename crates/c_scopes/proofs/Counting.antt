-- How many tokens count in a node and in a list of nodes.
use Rattle.std.proofs.Common.{◌≡◌, ◌<◌, ◌+◌, ◌*◌, ℕ, suc, zero, Bool, true, false, cond, List, [], ◌∷◌, length, get_or, map, drop, max, refl, ap, sym, ◌∙◌, add-one, drop-cons, arith}
use Rattle.std.proofs.lemmas.List.{length-map}
use Rattle.c_grammar.specs.declared.syntax.Syntax.{Syntax, out-Syntax}
use Rattle.c_grammar.specs.declared.syntax.Syntax.TheOpen.{Syntax-F}
use Rattle.c_grammar.specs.declared.syntax.Production.{Production}
use Rattle.c_grammar.specs.declared.syntax.Production.TheVariants as p
use Rattle.c_grammar.specs.Nodes.{node, leaf}
use Rattle.c_grammar.specs.Opened.{out_node}
use Rattle.c_grammar.specs.Shown.{in_postfix, in_unary, in_binary, in_conditional, in_assignment, in_expression, in_argument, raised, innermost, shown}
use Rattle.c_scopes.specs.FullAbove.{is_full_above}
use Rattle.c_grammar.specs.Kept.{is_variable}
use Rattle.c_grammar.specs.Counted.{own_count, is_full, token_count}
use Rattle.c_grammar.specs.Parts.{Part, part_of, part_layer, greatest, sum_counted}
use Rattle.c_grammar.specs.Weighed.{open_weight}
use Rattle.c_grammar.proofs.Kept.{shown_weighs}
use Rattle.c_grammar.proofs.Layers.{open_part, weight-at}
use Rattle.c_statements.specs.Measures.{bounded}

pub part-counted : (word : ℕ → List ℕ) (x : Syntax) → (part_of word x).counted ≡ own_count word (out-Syntax x).rule (out-Syntax x).first
    (length (out-Syntax x).parts) (sum_counted (map (part_of word) (out-Syntax x).parts))
part-counted word x =
    ap (λ (q : Part). q.counted) (open_part word x)
    ∙ ap (λ n. own_count word (out-Syntax x).rule (out-Syntax x).first n (sum_counted (map (part_of word) (out-Syntax x).parts)))
    (length-map (out-Syntax x).parts (part_of word))

pub part-most : (word : ℕ → List ℕ) (x : Syntax) → (part_of word x).most ≡ cond (is_full (out-Syntax x).rule) (part_of word x).counted
    (greatest (map (part_of word) (out-Syntax x).parts))
part-most word x =
    ap (λ (q : Part). q.most) (open_part word x)
    ∙ ap (λ n. cond (is_full (out-Syntax x).rule) n (greatest (map (part_of word) (out-Syntax x).parts)))
    (sym (ap (λ (q : Part). q.counted) (open_part word x)))

pub sum-next : (word : ℕ → List ℕ) (xs : List Syntax) (i : ℕ) (d : Syntax) → i < length xs
    → sum_counted (map (part_of word) (drop i xs)) ≡ (part_of word (get_or xs i d)).counted + sum_counted (map (part_of word) (drop (i + 1) xs))
sum-next word xs i d h = rw (add-one, drop-cons xs i d) refl

pub greatest-next : (word : ℕ → List ℕ) (xs : List Syntax) (i : ℕ) (d : Syntax) → i < length xs
    → greatest (map (part_of word) (drop i xs)) ≡ max (part_of word (get_or xs i d)).most (greatest (map (part_of word) (drop (i + 1) xs)))
greatest-next word xs i d h = rw (add-one, drop-cons xs i d) refl

pub ruleset opened = (part-counted, part-most, open_weight)

pub ruleset next = (sum-next, greatest-next, weight-at)

-- ---- nodes that are kept as one

counted_around : (word : ℕ → List ℕ) (rule : Production) (first after : ℕ) (y : Syntax) (n : ℕ) →
    own_count word rule first 1 (sum_counted (part_of word y ∷ [])) ≡ sum_counted (part_of word y ∷ [])
    → (part_of word y).counted ≡ n → (part_of word (node rule first after (y ∷ []))).counted ≡ n
counted_around word rule first after y n h e =
    part-counted word (node rule first after (y ∷ []))
    ∙ ap (λ (s : Syntax-F Syntax). own_count word s.rule s.first (length s.parts) (sum_counted (map (part_of word) s.parts)))
    (out_node rule first after (y ∷ []))
    ∙ h ∙ omega (arith, e)

most_around : (word : ℕ → List ℕ) (rule : Production) (first after : ℕ) (y : Syntax)
    → (part_of word (node rule first after (y ∷ []))).most ≡ cond (is_full rule) (part_of word (node rule first after (y ∷ []))).counted
    (max (part_of word y).most 0)
most_around word rule first after y =
    part-most word (node rule first after (y ∷ []))
    ∙ ap (λ (s : Syntax-F Syntax). cond (is_full s.rule) (part_of word (node rule first after (y ∷ []))).counted
    (greatest (map (part_of word) s.parts))) (out_node rule first after (y ∷ []))

counted_in_postfix : (word : ℕ → List ℕ) (base : Production) (first after : ℕ) (x : Syntax) →
    (part_of word (in_postfix base first after x)).counted ≡ (part_of word x).counted
counted_in_postfix word p.Postfix first after x = refl
counted_in_postfix word base first after x = counted_around word p.Postfix first after x (part_of word x).counted (refl) (refl)

counted_in_unary : (word : ℕ → List ℕ) (base : Production) (first after : ℕ) (x : Syntax) →
    (part_of word (in_unary base first after x)).counted ≡ (part_of word x).counted
counted_in_unary word p.Unary first after x = refl
counted_in_unary word base first after x = counted_around word p.Unary first after (in_postfix base first after x) (part_of word x).counted (refl)
    (counted_in_postfix word base first after x)

counted_in_binary : (word : ℕ → List ℕ) (base : Production) (first after : ℕ) (x : Syntax) →
    (part_of word (in_binary base first after x)).counted ≡ (part_of word x).counted
counted_in_binary word p.Binary first after x = refl
counted_in_binary word base first after x = counted_around word p.Binary first after (in_unary base first after x) (part_of word x).counted (refl)
    (counted_in_unary word base first after x)

counted_in_conditional : (word : ℕ → List ℕ) (base : Production) (first after : ℕ) (x : Syntax) →
    (part_of word (in_conditional base first after x)).counted ≡ (part_of word x).counted
counted_in_conditional word p.Conditional first after x = refl
counted_in_conditional word base first after x = counted_around word p.Conditional first after (in_binary base first after x) (part_of word x).counted
    (refl) (counted_in_binary word base first after x)

counted_in_assignment : (word : ℕ → List ℕ) (base : Production) (first after : ℕ) (x : Syntax) →
    (part_of word (in_assignment base first after x)).counted ≡ (part_of word x).counted
counted_in_assignment word p.Assignment first after x = refl
counted_in_assignment word base first after x = counted_around word p.Assignment first after (in_conditional base first after x)
    (part_of word x).counted (refl) (counted_in_conditional word base first after x)

counted_in_expression : (word : ℕ → List ℕ) (base : Production) (first after : ℕ) (x : Syntax) →
    (part_of word (in_expression base first after x)).counted ≡ (part_of word x).counted
counted_in_expression word p.Expression first after x = refl
counted_in_expression word base first after x = counted_around word p.Expression first after (in_assignment base first after x)
    (part_of word x).counted (omega arith) (counted_in_assignment word base first after x)

counted_in_argument : (word : ℕ → List ℕ) (base : Production) (first after : ℕ) (x : Syntax) →
    (part_of word (in_argument base first after x)).counted ≡ (part_of word x).counted
counted_in_argument word p.Argument first after x = refl
counted_in_argument word base first after x = counted_around word p.Argument first after (in_assignment base first after x) (part_of word x).counted
    (refl) (counted_in_assignment word base first after x)

raised_counted : (word : ℕ → List ℕ) (top base : Production) (first after : ℕ) (x : Syntax) →
    (part_of word (raised top base first after x)).counted ≡ (part_of word x).counted
raised_counted word p.Postfix base first after x = counted_in_postfix word base first after x
raised_counted word p.Unary base first after x = counted_in_unary word base first after x
raised_counted word p.Binary base first after x = counted_in_binary word base first after x
raised_counted word p.Conditional base first after x = counted_in_conditional word base first after x
raised_counted word p.Assignment base first after x = counted_in_assignment word base first after x
raised_counted word p.Expression base first after x = counted_in_expression word base first after x
raised_counted word p.Argument base first after x = counted_in_argument word base first after x
raised_counted word _ base first after x = refl

most_in_postfix : (word : ℕ → List ℕ) (base : Production) (first after : ℕ) (x : Syntax) →
    (part_of word (in_postfix base first after x)).most ≡ (part_of word x).most
most_in_postfix word p.Postfix first after x = refl
most_in_postfix word base first after x = most_around word p.Postfix first after x ∙ omega (arith)

most_in_unary : (word : ℕ → List ℕ) (base : Production) (first after : ℕ) (x : Syntax) →
    (part_of word (in_unary base first after x)).most ≡ (part_of word x).most
most_in_unary word p.Unary first after x = refl
most_in_unary word base first after x = most_around word p.Unary first after (in_postfix base first after x) ∙
    omega (arith, most_in_postfix word base first after x)

most_in_binary : (word : ℕ → List ℕ) (base : Production) (first after : ℕ) (x : Syntax) →
    (part_of word (in_binary base first after x)).most ≡ (part_of word x).most
most_in_binary word p.Binary first after x = refl
most_in_binary word base first after x = most_around word p.Binary first after (in_unary base first after x) ∙ omega
    (arith, most_in_unary word base first after x)

assignment_most : (word : ℕ → List ℕ) (base : Production) (first after : ℕ) (x : Syntax) →
    (part_of word (in_assignment base first after x)).most ≡ cond (is_full_above p.Assignment base) (part_of word x).counted (part_of word x).most
assignment_most word p.Assignment first after x = refl
assignment_most word base first after x = most_around word p.Assignment first after (in_conditional base first after x) ∙ counted_in_assignment word
    base first after x

pub raised_most : (word : ℕ → List ℕ) (top base : Production) (first after : ℕ) (x : Syntax) →
    (part_of word (raised top base first after x)).most ≡ cond (is_full_above top base) (part_of word x).counted (part_of word x).most
raised_most word p.Conditional p.Conditional first after x = refl
raised_most word p.Conditional base first after x = most_around word p.Conditional first after (in_binary base first after x) ∙ counted_in_conditional
    word base first after x
raised_most word p.Assignment base first after x = assignment_most word base first after x
raised_most word p.Expression p.Expression first after x = refl
raised_most word p.Expression base first after x = most_around word p.Expression first after (in_assignment base first after x) ∙
    counted_in_expression word base first after x
raised_most word p.Argument p.Argument first after x = refl
raised_most word p.Argument p.Assignment first after x = most_around word p.Argument first after x ∙ omega arith
raised_most word p.Argument base first after x = most_around word p.Argument first after (in_assignment base first after x) ∙ omega
    (arith, assignment_most word base first after x)
raised_most word p.Postfix base first after x = most_in_postfix word base first after x
raised_most word p.Unary base first after x = most_in_unary word base first after x
raised_most word p.Binary base first after x = most_in_binary word base first after x
raised_most word _ base first after x = refl

pub shown_counted : (word : ℕ → List ℕ) (top base : Production) (is_name : Bool) (first after : ℕ) (parts : List Syntax)
    → (part_of word (shown top base is_name first after parts)).counted ≡ (part_of word (innermost base is_name first after parts)).counted
shown_counted word top base is_name first after parts = raised_counted word top base first after (innermost base is_name first after parts)

pub shown_most : (word : ℕ → List ℕ) (top base : Production) (is_name : Bool) (first after : ℕ) (parts : List Syntax)
    → (part_of word (shown top base is_name first after parts)).most
    ≡ cond (is_full_above top base) (part_of word (innermost base is_name first after parts)).counted
    (part_of word (innermost base is_name first after parts)).most
shown_most word top base is_name first after parts = raised_most word top base first after (innermost base is_name first after parts)

-- a target that is a name has its token
leaf_counted : (word : ℕ → List ℕ) (at : ℕ) → (part_of word (leaf at)).counted ≡ token_count word at
leaf_counted word at =
    part-counted word (leaf at)
    ∙ ap (λ (s : Syntax-F Syntax). own_count word s.rule s.first (length s.parts) (sum_counted (map (part_of word) s.parts))) (out_node p.Token at (at + 1) [])

leaf_most : (word : ℕ → List ℕ) (at : ℕ) → (part_of word (leaf at)).most ≡ 0
leaf_most word at =
    part-most word (leaf at)
    ∙ ap (λ (s : Syntax-F Syntax). cond (is_full s.rule) (part_of word (leaf at)).counted (greatest (map (part_of word) s.parts)))
    (out_node p.Token at (at + 1) [])

pub name_counted : (word : ℕ → List ℕ) (first after : ℕ) → (part_of word (innermost p.Target true first after [])).counted ≡ token_count word first
name_counted word first after = counted_around word p.Target first after (leaf first) (token_count word first) refl (leaf_counted word first)

pub name_most : (word : ℕ → List ℕ) (first after : ℕ) → (part_of word (innermost p.Target true first after [])).most ≡ 0
name_most word first after = most_around word p.Target first after (leaf first) ∙ omega (arith, leaf_most word first)

plain_node : (base : Production) (is_name : Bool) (first after : ℕ) (parts : List Syntax) → is_variable base is_name parts ≡ false →
    innermost base is_name first after parts ≡ node base first after parts
plain_node p.Target true first after [] v = let y : false ≡ true = sym v in absurd cc
plain_node p.Target true first after (x ∷ xs) v = refl
plain_node base is_name first after parts v = refl

-- another innermost node has the parts that are kept
pub inner_counted : (word : ℕ → List ℕ) (base : Production) (is_name : Bool) (first after : ℕ) (parts : List Syntax) → is_variable base is_name parts ≡ false
    → (part_of word (innermost base is_name first after parts)).counted ≡ own_count word base first (length parts) (sum_counted (map (part_of word) parts))
inner_counted word base is_name first after parts v =
    ap (λ x. (part_of word x).counted) (plain_node base is_name first after parts v)
    ∙ part-counted word (node base first after parts)
    ∙ ap (λ (s : Syntax-F Syntax). own_count word s.rule s.first (length s.parts) (sum_counted (map (part_of word) s.parts))) (out_node base first after parts)

pub inner_most : (word : ℕ → List ℕ) (base : Production) (is_name : Bool) (first after : ℕ) (parts : List Syntax) (full : Bool) →
    is_variable base is_name parts ≡ false → is_full base ≡ full
    → (part_of word (innermost base is_name first after parts)).most ≡ cond full (part_of word (innermost base is_name first after parts)).counted
    (greatest (map (part_of word) parts))
inner_most word base is_name first after parts full v f =
    ap (λ x. (part_of word x).most) (plain_node base is_name first after parts v)
    ∙ part-most word (node base first after parts)
    ∙ ap (λ (s : Syntax-F Syntax). cond (is_full s.rule) (part_of word (node base first after parts)).counted (greatest (map (part_of word) s.parts)))
    (out_node base first after parts)
    ∙ ap (λ b. cond b (part_of word (node base first after parts)).counted (greatest (map (part_of word) parts))) f
    ∙ ap (λ x. cond full (part_of word x).counted (greatest (map (part_of word) parts))) (sym (plain_node base is_name first after parts v))

pub ruleset names = (name_counted, name_most)

pub ruleset kept_as_one = (shown_counted, shown_most, shown_weighs)
