use Rattle.std.proofs.Common.{◌≡◌, Some, ap, ◌∙◌, sym, get_or}
use Rattle.std.proofs.lemmas.Option.{get_or_from_slice_get}
use Rattle.rg_ports.specs.FirstAt.{File}
use Rattle.rg_ports.proofs.FilesLemmas.{bytes_of_first}
use Rattle.rg_ports.proofs.files.held_bytes.Goals as goal

pub returns : goal.returns
returns c =
    let at = c.in_ok-place.ensures in
    let same : get_or c.args.files.now c.in_ok-place.place c.index-files-place.result ≡ (c.args.name.now, at.bytes) =
    get_or_from_slice_get c.args.files.now c.in_ok-place.place _ _ at.there in
    ap Some (c.as_slice.ensures.value ∙ ap (λ (e : File). e.1) same) ∙ sym (bytes_of_first c.args.files.now c.args.name.now c.in_ok-place.place at)
