use Rattle.std.proofs.Common.{◌≡◌, arith, ap, sym, ◌∙◌, subst, Some, refl}
use Rattle.std.specs.Prelude.{slice_get}
use Rattle.std.specs.Str.{bytes_eq}
use Rattle.std.proofs.lemmas.Option.{slice_get_read}
use Rattle.rg_ports.specs.FirstAt.{File}
use Rattle.rg_ports.proofs.FilesLemmas.{before_more, same_names}
use Rattle.rg_ports.proofs.files.place_of.Goals as goal

pub returns-then-eq : goal.returns-then-eq
returns-then-eq c =
    let file : File = c.index-files-place.result in
    let named : file.0 ≡ c.args.name.now = sym c.as_str.ensures ∙ same_names _ _ (sym c.eq.ensures ∙ c.if-eq.true) in
    record {
      bytes = file.1;
      there = subst (λ name. slice_get c.args.files.now c.loop-place.place ≡ Some (name, file.1)) named
          (slice_get_read c.args.files.now _ c.loop-place.place file refl (omega arith) c.index-files-place.is);
      before = c.loop-place.invariant;
    }

pub loop-place-preserved : goal.loop-place-preserved
loop-place-preserved c =
    before_more c.args.files.now c.args.name.now c.loop-place.place c.index-files-place.result (omega arith) c.index-files-place.is
    (ap (λ name. bytes_eq name c.args.name.now) (sym c.as_str.ensures) ∙ sym c.eq.ensures ∙ c.if-eq.false) c.loop-place.invariant
