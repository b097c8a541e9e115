use Rattle.std.proofs.Common.{◌≡◌, ◌++◌, OnOk, ℕ, List, ap, subst}
use Rattle.c_grammar.specs.declared.decoding.Decoding.TheVariants.{Plain}
use Rattle.c_grammar.specs.DecodingSteps.{decoded_from}
use Rattle.c_grammar.proofs.DecodedSteps.{decoded_writes}
use Rattle.c_grammar.proofs.decode.add_decoded.Goals as goal

pub returns : goal.returns
returns c =
    record {
      out =
          subst (λ (v : List ℕ). OnOk c.add_elements.result (c.add_elements.new.out ≡ c.args.out.now ++ v))
          (ap (decoded_from Plain) c.within_quotes.ensures) c.add_elements.ensures;
      written = decoded_writes c.args.word.now;
    }
