use Rattle.std.proofs.Common.{sym, ap, refl, ◌∙◌, pos, subst}
use Rattle.std.proofs.lemmas.Option.{IfSome_then}
use Rattle.c_types.specs.declared.kinds.IntKind.TheVariants.{Char}
use Rattle.c_types.specs.Numbers.{converted}
use Rattle.c_tree.specs.declared.tree.Expression.{out-Expression}
use Rattle.c_tree.specs.declared.tree.Node as N
use Rattle.c_tree.specs.ExpressionTrees.{Number, Character, EnumName, Cell, expression_tree}
use Rattle.c_tree.proofs.ExpressionLaws.{node-Number, node-Character, node-EnumName}
use Rattle.step_ahead.specs.Taken.{IsComputed}
use Rattle.step_ahead.proofs.FormLemmas.{is_constant, is_unary, is_cast, is_decided, is_of_both}
use Rattle.step_ahead.proofs.ReadLemmas.{read_variable, read_cell}
use Rattle.step_ahead.proofs.computing.+computed.Goals as goal

pub returns-in-Number-clause-ok : goal.returns-in-Number-clause-ok
returns-in-Number-clause-ok t c =
    IfSome_then c.constant.result c.constant.ensures.ok
    (λ r i. is_constant c.args.store.now c.args.e.now (N.Number c.in-Number.number) (Number c.in-Number.number) c.in-Number.number r c.in-Number.is
    (node-Number c.in-Number.number) (λ k v w. refl) i)

pub returns-in-Character-clause-ok : goal.returns-in-Character-clause-ok
returns-in-Character-clause-ok t c =
    IfSome_then c.character.result c.character.ensures.ok
    (λ r i. is_constant c.args.store.now c.args.e.now (N.Character c.in-Character.byte) (Character c.in-Character.byte)
    (converted Char (pos c.in-Character.byte)) r c.in-Character.is (node-Character c.in-Character.byte) (λ k v w. refl) i)

pub returns-in-EnumName-clause-ok : goal.returns-in-EnumName-clause-ok
returns-in-EnumName-clause-ok t c =
    IfSome_then c.constant-in-EnumName.result c.constant-in-EnumName.ensures.ok
    (λ r i. is_constant c.args.store.now c.args.e.now (N.EnumName c.in-EnumName.field-0 c.in-EnumName.number)
    (EnumName c.in-EnumName.field-0 c.in-EnumName.number) c.in-EnumName.number r c.in-EnumName.is
    (node-EnumName c.in-EnumName.field-0 c.in-EnumName.number) (λ k v w. refl) i)

pub returns-in-Var-clause-ok : goal.returns-in-Var-clause-ok
returns-in-Var-clause-ok t c =
    IfSome_then c.value.result (c.value.ensures.ok (out-Expression c.args.e.now).kind)
    (λ r i. read_variable c.args.store.now c.args.e.now c.in-Read.place c.in-Var.home r c.in-Read.is c.in-Var.is i)

pub returns-in-Some-cell-clause-ok : goal.returns-in-Some-cell-clause-ok
returns-in-Some-cell-clause-ok t c =
    let s = c.args.store.now in
    let a = c.in-Cell.index in
    let at = subst (λ y. IsComputed s (expression_tree y) c.in-Some.at) c.get.ensures c.in-Some.ensures.ok in
    let found = c.in-Some-cell.ensures c.in-Some.ensures.fits (expression_tree a) at in
    IfSome_then c.number_in.result (c.number_in.ensures.ok (Cell c.in-Cell.home (expression_tree a)) (out-Expression c.args.e.now).kind found)
    (λ r i. read_cell s c.args.e.now c.in-Read.place c.in-Cell.home a r c.in-Read.is c.in-Cell.is i)

pub returns-in-Some-computed-clause-ok : goal.returns-in-Some-computed-clause-ok
returns-in-Some-computed-clause-ok t c =
    let s = c.args.store.now in
    IfSome_then c.unary.result c.unary.ensures.ok
    (λ r i. is_unary s c.args.e.now c.get-a.result.now c.in-Unary.op c.in-Some-computed.x r
    (c.in-Unary.is ∙ ap (N.Unary c.in-Unary.op) (sym c.get-a.ensures)) c.in-Some-computed.ensures.ok i)

pub returns-in-Some-computed-2-clause-ok : goal.returns-in-Some-computed-2-clause-ok
returns-in-Some-computed-2-clause-ok t c =
    let s = c.args.store.now in
    let x = subst (λ y. IsComputed s (expression_tree y) c.in-Some-computed-2.x) c.get-in-Cast.ensures c.in-Some-computed-2.ensures.ok in
    IfSome_then c.cast.result c.cast.ensures.ok (λ r i. is_cast s c.args.e.now c.in-Cast.a (out-Expression c.args.e.now).kind c.in-Some-computed-2.x r
    refl c.in-Cast.is x i)

pub returns-then-decides-clause-ok : goal.returns-then-decides-clause-ok
returns-then-decides-clause-ok t c =
    let s = c.args.store.now in
    let x = subst (λ y. IsComputed s (expression_tree y) c.in-Some-computed-3.x) c.get-a-in-Binary.ensures c.in-Some-computed-3.ensures.ok in
    IfSome_then c.decided.result c.decided.ensures.ok
    (λ r i. is_decided s c.args.e.now c.in-Binary.a c.in-Binary.b c.in-Binary.op c.in-Some-computed-3.x r c.in-Binary.is x
    (sym c.decides.ensures ∙ c.if-decides.true) i)

pub returns-in-Some-computed-4-clause-ok : goal.returns-in-Some-computed-4-clause-ok
returns-in-Some-computed-4-clause-ok t c =
    let op = c.in-Binary.op in
    let a = c.get-a-in-Binary.result.now in
    let is = c.in-Binary.is ∙ ap (λ x. N.Binary op x c.in-Binary.b) (sym c.get-a-in-Binary.ensures) ∙ ap (N.Binary op a) (sym c.get-b.ensures) in
    IfSome_then c.of_both.result c.of_both.ensures.ok
    (λ r i. is_of_both c.args.store.now c.args.e.now a c.get-b.result.now op c.in-Some-computed-3.x c.in-Some-computed-4.y r is
    c.in-Some-computed-3.ensures.ok c.in-Some-computed-4.ensures.ok
    (sym c.decides.ensures ∙ c.if-decides.false) i)
