use Rattle.std.proofs.Common.{◌∙◌, ap, sym, Ok, arith}
use Rattle.c_lexer.proofs.QuickLemmas.{word_kept, mark_kept, stays_read, later, next}
use Rattle.c_lexer.proofs.ScanLemmas.{read_all}
use Rattle.c_lexer.proofs.read.scan_pieces.Goals as goal

pub loop-i-preserved-in-Continue-1 : goal.loop-i-preserved-in-Continue-1
loop-i-preserved-in-Continue-1 c =
    record {
      same =
          c.loop-i.invariant.same
          ∙ word_kept c.args.text.now c.loop-i.state c.loop-i.i c.loop-i.out c.word_at-token.result c.push.new.self c.loop-i-test.true
          (sym c.begins_word.ensures ∙ c.if-begins_word.true) c.word_at-token.ensures.value c.in_ok-push.ensures.ok;
      order = omega arith;
      within = c.word_at-token.ensures.within;
    }

pub loop-i-preserved-then-stays : goal.loop-i-preserved-then-stays
loop-i-preserved-then-stays c =
    record {
      same =
          c.loop-i.invariant.same
          ∙ stays_read c.args.text.now c.loop-i.state c.loop-i.i _ c.loop-i.out c.loop-i-test.true (sym c.stays.ensures ∙ c.if-stays.true)
          c.behind_staying-i.ensures.value;
      order = later _ c.loop-i.i c.behind_staying-i.result c.loop-i.invariant.order c.behind_staying-i.ensures.order;
      within = c.behind_staying-i.ensures.within;
    }

pub returns-in_ok-add_ended-in-Go-finish : goal.returns-in_ok-add_ended-in-Go-finish
returns-in_ok-add_ended-in-Go-finish c =
    read_all c.args.text.now c.loop-i.state c.in-Go-finish.field-0 c.loop-i.i c.loop-i.out c.in-Go-finish.ended c.loop-i.invariant.same
    c.loop-i.invariant.within c.loop-i-test.false c.in-Go-finish.ensures.taken
    ∙ ap Ok (sym c.in_ok-add_ended-in-Go-finish.ensures)

pub loop-i-preserved-in-Continue-branch-2 : goal.loop-i-preserved-in-Continue-branch-2
loop-i-preserved-in-Continue-branch-2 c =
    record {
      same =
          c.loop-i.invariant.same
          ∙ mark_kept c.args.text.now c.loop-i.state c.loop-i.i c.loop-i.out c.mark-token.result c.push-then-begins_mark.new.self c.loop-i-test.true
          (sym c.begins_mark.ensures ∙ c.if-begins_mark.true) c.mark-token.ensures c.in_ok-push-2.ensures.ok;
      order = omega arith;
      within = next c.loop-i.i _ c.loop-i-test.true;
    }
