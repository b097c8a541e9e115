use Rattle.std.proofs.Common.{◌≡◌, None, take}
use Rattle.rg_ports.specs.FirstAt.{bytes_of}
use Rattle.rg_ports.proofs.files.place_of.Given as goal

-- no file before this place has the name
abbrev pub invariant-loop-place : goal.invariant-loop-place
invariant-loop-place l = bytes_of l.name (take l.place l.files) ≡ None
