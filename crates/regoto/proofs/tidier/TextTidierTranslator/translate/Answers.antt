use Rattle.regoto.proofs.tidier.TextTidierTranslator.translate.Goals as goal

pub returns-in-Err-clause-refuses : goal.returns-in-Err-clause-refuses
returns-in-Err-clause-refuses c = λ refusal is. c.in-Err.ensures.refused refusal (cc)
