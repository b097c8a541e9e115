-- The counted tokens of full expressions are at most those of what is written.
use Rattle.std.proofs.Common.{ℕ, Bool, true, false, cond, Option, Some, None, option_map, ◌≡◌, refl, sym, ap, subst, ◌∙◌, arith}
use Rattle.c_tree.specs.ExpressionTrees.{ExpressionTree, expression_tree}
use Rattle.c_tree.specs.Trees.{Tree, Forest, SectionTree, Nil, join, expression_trees, tree_of, trees_of, section_tree, sections, sections_of}
use Rattle.c_tree.specs.Trees as tree
use Rattle.c_statements.specs.Declarations.{value_at, constant_at}
use Rattle.c_statements.specs.Statements.{dropped_at}
use Rattle.c_resolving_laws.proofs.SectionTrees.{without_end}
use Rattle.std.specs.Prelude.{ℤ, pos, ◌+◌, ◌≤◌, max, nat_lt}
use Rattle.std.proofs.lemmas.Bool.Decides.{nat_tests}
use Rattle.c_types.specs.declared.kinds.IntKind.TheVariants.{Int}
use Rattle.c_tree.specs.declared.tree.Node as node
use Rattle.c_tree.specs.ExpressionTrees.{Typed}
use Rattle.c_tree.specs.Constants.{constant_value}
use Rattle.c_tree.proofs.ExpressionLaws.{node-Number}
use Rattle.c_grammar.specs.Terms.{Term}
use Rattle.c_kinds.specs.declared.typed.Typed as kinds
use Rattle.c_kinds.specs.declared.typed.Typed.TheVariants as T
use Rattle.c_kinds.specs.Constants.{is_constant, constant_of}
use Rattle.c_kinds.specs.Scopes.{Env}
use Rattle.c_kinds.specs.Typing.{typed}
use Rattle.c_kinds.specs.Values.{expression, expression_of, value_of, dropped}
use Rattle.c_statements.specs.Declarations.{placeholder, or_placeholder, constant_or_placeholder}
use Rattle.c_resolved_defs.specs.PrintableExpressions.{bracket_count, counted_at}
use Rattle.c_resolved_defs.specs.PrintableStatements.{depth, depth_of}
use Rattle.c_resolved_defs.specs.Limits.{most_counted, most_counted_of}
use Rattle.c_resolving_laws.specs.Counts.{term_counted, term_level}
use Rattle.c_resolving_laws.proofs.Counted.{Sized, Measured, measured}
use Rattle.c_resolving_laws.proofs.Values.{expression_rolls, value_rolls, void_rolls}

-- ---- bounds of lists

pub up_to : (a b c : ℕ) → a ≤ c → b ≤ c → max a b ≤ c
up_to a b c h k = omega arith

pub max_left : (a b c : ℕ) → max a b ≤ c → a ≤ c
max_left a b c h = omega arith

pub max_right : (a b c : ℕ) → max a b ≤ c → b ≤ c
max_right a b c h = omega arith

pub depth_join : (a b : Forest) (d : ℕ) → depth a ≤ d → depth b ≤ d → depth (join a b) ≤ d
depth_join Nil b d h k = k
depth_join (tree.Then x a) b d h k = up_to (depth_of x) (depth (join a b)) d (max_left (depth_of x) (depth a) d h)
    (depth_join a b d (max_right (depth_of x) (depth a) d h) k)

pub most_join : (a b : Forest) (d : ℕ) → most_counted a ≤ d → most_counted b ≤ d → most_counted (join a b) ≤ d
most_join Nil b d h k = k
most_join (tree.Then x a) b d h k = up_to (most_counted_of x) (most_counted (join a b)) d (max_left (most_counted_of x) (most_counted a) d h)
    (most_join a b d (max_right (most_counted_of x) (most_counted a) d h) k)

pub depth_cut : (a : Forest) (d : ℕ) → depth a ≤ d → depth (without_end a) ≤ d
depth_cut Nil d h = h
depth_cut (tree.Then x Nil) d h = omega arith
depth_cut (tree.Then x (tree.Then y a)) d h =
    up_to (depth_of x) (depth (without_end (tree.Then y a))) d (max_left (depth_of x) (depth (tree.Then y a)) d h)
    (depth_cut (tree.Then y a) d (max_right (depth_of x) (depth (tree.Then y a)) d h))

pub most_cut : (a : Forest) (d : ℕ) → most_counted a ≤ d → most_counted (without_end a) ≤ d
most_cut Nil d h = h
most_cut (tree.Then x Nil) d h = omega arith
most_cut (tree.Then x (tree.Then y a)) d h =
    up_to (most_counted_of x) (most_counted (without_end (tree.Then y a))) d (max_left (most_counted_of x) (most_counted (tree.Then y a)) d h)
    (most_cut (tree.Then y a) d (max_right (most_counted_of x) (most_counted (tree.Then y a)) d h))

-- ---- expressions

pub no_bracket : (need : ℕ) → need ≤ 14 → bracket_count 14 need ≡ 0
no_bracket need h = by (nat_lt 14 need) refl
  where
    by : (b : Bool) → nat_lt 14 need ≡ b → ◌≡◌ {A = ℕ} (cond b 1 0) 0
    by false e = refl
    by true e = absurd (grind (arith, nat_tests))

pub placeholder_few : (need n : ℕ) → need ≤ 14 → counted_at need (expression_tree placeholder) ≤ n
placeholder_few need n h =
    let e = expression_rolls (record { kind = Some Int; node = node.Number (pos 0) }) ∙ ap (Typed (Some Int)) (node-Number (pos 0)) in
    let k : counted_at need (expression_tree placeholder) ≡ 0 = ap (counted_at need) e ∙ (let z = no_bracket need h in omega arith) in
    omega arith

pub measured_few : (need n l : ℕ) (x : ExpressionTree) → Sized n l x → counted_at need x ≤ n + bracket_count l need
measured_few need n l x h = let e : counted_at need x ≡ n + bracket_count l need = (λ i. h.counts i + bracket_count (h.level i) need) in omega arith

pub value_few : (env : Env) (need : ℕ) (t : Term) → need ≤ 14 → counted_at need (expression_tree (value_at env t)) ≤ term_counted env.word
    t + bracket_count (term_level env.word t) need
value_few env need t q = by (typed env t) (measured env t)
  where
    by : (x : kinds.Typed) → Measured (term_counted env.word t) (term_level env.word t) x →
        counted_at need (expression_tree (or_placeholder (value_of x))) ≤ term_counted env.word t + bracket_count (term_level env.word t) need
    by (T.Value v) h = measured_few need (term_counted env.word t) (term_level env.word t) (expression_tree (expression v))
        (subst (Sized (term_counted env.word t) (term_level env.word t)) (sym (value_rolls v)) h)
    by (T.Void a) h = placeholder_few need _ q
    by (T.Text bytes) h = placeholder_few need _ q
    by (T.Array a) h = placeholder_few need _ q
    by T.Wrong h = placeholder_few need _ q

pub dropped_few : (env : Env) (need : ℕ) (t : Term) → need ≤ 14 → counted_at need (expression_tree (dropped_at env t)) ≤ term_counted env.word
    t + bracket_count (term_level env.word t) need
dropped_few env need t q = by (typed env t) (measured env t)
  where
    by : (x : kinds.Typed) → Measured (term_counted env.word t) (term_level env.word t) x →
        counted_at need (expression_tree (elim (dropped x) [ Some e ↦ e | None ↦ placeholder ])) ≤ term_counted env.word t + bracket_count
        (term_level env.word t) need
    by (T.Value v) h = measured_few need (term_counted env.word t) (term_level env.word t) (expression_tree (expression v))
        (subst (Sized (term_counted env.word t) (term_level env.word t)) (sym (value_rolls v)) h)
    by (T.Void a) h = measured_few need (term_counted env.word t) (term_level env.word t) (expression_tree (expression_of None a))
        (subst (Sized (term_counted env.word t) (term_level env.word t)) (sym (void_rolls a)) h)
    by (T.Text bytes) h = placeholder_few need _ q
    by (T.Array a) h = placeholder_few need _ q
    by T.Wrong h = placeholder_few need _ q

pub constant_few : (env : Env) (need : ℕ) (t : Term) → need ≤ 14 → counted_at need (expression_tree (constant_at env t)) ≤ term_counted env.word
    t + bracket_count (term_level env.word t) need
constant_few env need t q = by (typed env t) (measured env t)
  where
    by : (x : kinds.Typed) → Measured (term_counted env.word t) (term_level env.word t) x →
        counted_at need (expression_tree (constant_or_placeholder (constant_of x))) ≤ term_counted env.word t + bracket_count (term_level env.word t) need
    by (T.Value v) h =
        either (is_constant (expression_tree (expression v))) (constant_value (expression_tree (expression v)))
        (measured_few need (term_counted env.word t) (term_level env.word t) (expression_tree (expression v))
        (subst (Sized (term_counted env.word t) (term_level env.word t)) (sym (value_rolls v)) h))
      where
        either : (b : Bool) (o : Option ℤ) → counted_at need (expression_tree (expression v)) ≤ term_counted env.word t + bracket_count
            (term_level env.word t) need
            → counted_at need (expression_tree (constant_or_placeholder (cond b (option_map (λ n. (expression v, n)) o) None))) ≤ term_counted
            env.word t + bracket_count (term_level env.word t) need
        either true (Some z) k = k
        either true None k = placeholder_few need _ q
        either false o k = placeholder_few need _ q
    by (T.Void a) h = placeholder_few need _ q
    by (T.Text bytes) h = placeholder_few need _ q
    by (T.Array a) h = placeholder_few need _ q
    by T.Wrong h = placeholder_few need _ q
