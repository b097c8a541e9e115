use Rattle.std.proofs.Common.{◌≡◌, ◌<◌, get_or, length, sym, ap, ◌∙◌, arith}
use Rattle.c_tree.specs.Trees.{trees_of}
use Rattle.c_tree.specs.Views.{tree_at}
use Rattle.tidy_laws.specs.Changes.{is_declaration}
use Rattle.break_recovery.specs.Places.{removed}
use Rattle.break_recovery.proofs.Outermost.{removed_is}
use Rattle.break_recovery.proofs.Undeclared.{none_passed, one_passed, declaration_gone, none_declared}
use Rattle.break_recovery.proofs.boxes.undeclare.Goals as goal

pub loop-i-init : goal.loop-i-init
loop-i-init c = none_passed c.args.slot c.args.list.now

pub loop-i-preserved : goal.loop-i-preserved
loop-i-preserved c =
    let x = c.index-as_slice-i.result in
    let e : x ≡ get_or c.loop-i.list c.loop-i.i x = c.index-as_slice-i.is ∙ ap (λ z. get_or z c.loop-i.i x) c.as_slice.ensures.value in
    let h : c.loop-i.i < length c.loop-i.list = omega (arith, c.loop-i-test.true, c.len.ensures.value) in
    one_passed c.args.slot c.loop-i.i c.args.list.now c.loop-i.list x h e
    (ap (λ z. is_declaration c.args.slot (tree_at z)) (sym c.get.ensures) ∙ sym c.is_declaration.ensures ∙ c.if-is_declaration.false) c.loop-i.invariant

pub returns-then-is_declaration : goal.returns-then-is_declaration
returns-then-is_declaration c =
    let x = c.index-as_slice-i.result in
    let e : x ≡ get_or c.loop-i.list c.loop-i.i x = c.index-as_slice-i.is ∙ ap (λ z. get_or z c.loop-i.i x) c.as_slice.ensures.value in
    let h : c.loop-i.i < length c.loop-i.list = omega (arith, c.loop-i-test.true, c.len.ensures.value) in
    record {
      gone = declaration_gone c.args.slot c.loop-i.i c.args.list.now c.loop-i.list c.remove.new.self x h e
          (ap (λ z. is_declaration c.args.slot (tree_at z)) (sym c.get.ensures) ∙ sym c.is_declaration.ensures ∙ c.if-is_declaration.true)
          c.remove.ensures.rest c.loop-i.invariant;
      place = ap trees_of c.remove.ensures.rest ∙ removed_is c.loop-i.list c.loop-i.i h ∙ ap (λ xs. removed c.loop-i.i (trees_of xs)) c.loop-i.invariant.same;
    }

pub returns : goal.returns
returns c =
    record {
      gone = none_declared c.args.slot c.loop-i.i c.args.list.now c.loop-i.list (omega (arith, c.loop-i-test.false, c.len.ensures.value)) c.loop-i.invariant;
      place = ap trees_of c.loop-i.invariant.same;
    }
