use Rattle.std.proofs.Common.{ap, ◌∙◌, sym}
use Rattle.std.specs.FinMap as map
use Rattle.rg_ports.specs.FirstAt.{bytes_of}
use Rattle.rg_ports.specs.MemoryPorts.{MemoryShelf}
use Rattle.rg_ports.proofs.FilesLemmas.{get-files}
use Rattle.rg_ports.proofs.mem_shelf.MemShelf.held.Goals as goal

pub returns : goal.returns
returns c =
    c.held_bytes.ensures
    ∙ ap (bytes_of c.args.name.now) c.as_slice.ensures.value
    ∙ sym (get-files c.self.inside.files c.args.name.now)
    ∙ ap (λ (s : MemoryShelf). map.get s.files c.args.name.now) c.self.view_is
