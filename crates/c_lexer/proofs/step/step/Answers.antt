use Rattle.std.proofs.Common.{◌≡◌, ◌≤◌, ℕ, List, sym, subst}
use Rattle.c_lexer.specs.declared.state.State.{State}
use Rattle.c_lexer.specs.declared.state.State.TheVariants.{Between, InWord, InNumber, InMark, Dots, InDirective, InLine}
use Rattle.c_lexer.specs.declared.state.Taken.{Taken}
use Rattle.c_lexer.specs.Machine.{least, step, KeepsOrder}
use Rattle.c_lexer.proofs.Order.{step_keeps}
use Rattle.c_lexer.proofs.step.step.Goals as goal

kept : (t : List ℕ) (s state : State) (b at : ℕ) (taken : Taken) → state ≡ s → least state ≤ at → taken ≡ step t s b at → KeepsOrder at taken
kept t s state b at taken is order e = subst (KeepsOrder at) (sym e) (step_keeps t s b at (subst (λ (x : State). least x ≤ at) is order))

pub returns-in-Between-clause-order : goal.returns-in-Between-clause-order
returns-in-Between-clause-order c = kept c.args.text.now (Between c.in-Between.first) _ c.args.byte _ _ c.in-Between.is c.requires.order c.begin.ensures

pub returns-in-InWord-clause-order : goal.returns-in-InWord-clause-order
returns-in-InWord-clause-order c = kept c.args.text.now (InWord c.in-InWord.start) _ c.args.byte _ _ c.in-InWord.is c.requires.order c.in_word.ensures

pub returns-in-InNumber-clause-order : goal.returns-in-InNumber-clause-order
returns-in-InNumber-clause-order c = kept c.args.text.now (InNumber c.in-InNumber.start c.in-InNumber.power) _ c.args.byte _ _ c.in-InNumber.is
    c.requires.order c.in_number.ensures

pub returns-in-InMark-clause-order : goal.returns-in-InMark-clause-order
returns-in-InMark-clause-order c = kept c.args.text.now (InMark c.in-InMark.start c.in-InMark.mark) _ c.args.byte _ _ c.in-InMark.is c.requires.order
    c.in_mark.ensures

pub returns-in-Dots-clause-order : goal.returns-in-Dots-clause-order
returns-in-Dots-clause-order c = kept c.args.text.now (Dots c.in-Dots.start) _ c.args.byte _ _ c.in-Dots.is c.requires.order c.in_dots.ensures

pub returns-in-InDirective-clause-order : goal.returns-in-InDirective-clause-order
returns-in-InDirective-clause-order c =
    kept c.args.text.now (InDirective c.in-InDirective.start c.in-InDirective.end) _ c.args.byte _ _ c.in-InDirective.is c.requires.order c.in_directive.ensures

pub returns-in-InLine-clause-order : goal.returns-in-InLine-clause-order
returns-in-InLine-clause-order c = kept c.args.text.now (InLine c.in-InLine.start c.in-InLine.end) _ c.args.byte _ _ c.in-InLine.is c.requires.order
    c.in_line.ensures
