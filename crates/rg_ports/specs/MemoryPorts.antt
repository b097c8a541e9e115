-- What the memory ports hold.
use Rattle.std.specs.Prelude.{ℕ, List, refl}
use Rattle.std.specs.FinMap as map
use Rattle.std.specs.Coded.{Coded, code_by, coded×, coded_list, coded_ℕ}
use Rattle.rg_ports.specs.Calls.{Calls, calls_code}
use Rattle.rg_ports.specs.declared.reads.ReadCounts.{ReadCounts}
use Rattle.rg_ports.specs.Files.{Files}

pub record MemorySource : Type 0 where
  -- the bytes left
  pub rest : List ℕ
  pub calls : Calls
  -- the number of failed calls
  pub faults : ℕ

pub record MemorySink : Type 0 where
  -- the bytes written
  pub written : List ℕ
  -- how many further bytes there is room for
  pub room : ℕ
  pub calls : Calls
  -- the number of failed calls
  pub faults : ℕ

pub record MemoryShelf : Type 0 where
  pub files : Files
  -- of reads and writes together
  pub calls : Calls
  pub reads : ReadCounts
  -- the number of failed writes
  pub write_faults : ℕ
  -- the number of writes that were refused memory
  pub wants : ℕ

abbrev pub source_code : Coded MemorySource
source_code = code_by (List ℕ × (Calls × ℕ))
    (coded× (coded_list coded_ℕ) (coded× calls_code coded_ℕ))
    (λ s. (s.rest, (s.calls, s.faults)))
    (λ p. record { rest = p.0; calls = p.1.0; faults = p.1.1 }) (λ _. refl)

abbrev pub sink_code : Coded MemorySink
sink_code = code_by (List ℕ × (ℕ × (Calls × ℕ)))
    (coded× (coded_list coded_ℕ) (coded× coded_ℕ (coded× calls_code coded_ℕ)))
    (λ s. (s.written, (s.room, (s.calls, s.faults))))
    (λ p. record { written = p.0; room = p.1.0; calls = p.1.1.0; faults = p.1.1.1 }) (λ _. refl)

abbrev pub reads_code : Coded ReadCounts
reads_code = code_by (ℕ × (ℕ × ℕ)) (coded× coded_ℕ (coded× coded_ℕ coded_ℕ))
    (λ r. (r.made, (r.faults, r.absences)))
    (λ p. record { made = p.0; faults = p.1.0; absences = p.1.1 }) (λ _. refl)

abbrev pub shelf_code : Coded MemoryShelf
shelf_code = code_by (Files × (Calls × (ReadCounts × (ℕ × ℕ))))
    (coded× (map.code (coded_list coded_ℕ) (coded_list coded_ℕ)) (coded× calls_code (coded× reads_code (coded× coded_ℕ coded_ℕ))))
    (λ s. (s.files, (s.calls, (s.reads, (s.write_faults, s.wants)))))
    (λ p. record { files = p.0; calls = p.1.0; reads = p.1.1.0; write_faults = p.1.1.1.0; wants = p.1.1.1.1 }) (λ _. refl)
