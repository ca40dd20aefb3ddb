-- What helpers do with ranges of a program's memory (this project's own).
use Rattle.std.specs.Prelude.{ℕ, Bool, List, is_some, unwrap_or}
use Rattle.bpf_mem.specs.Memory.{Memory, writable_at, with_octets}

-- a range may be written
abbrev pub is_writable : Memory → ℕ → ℕ → Bool
is_writable m addr n = is_some (writable_at m addr n)

-- memory with octets written from an address on, for a range that may be written
abbrev pub written : Memory → ℕ → List ℕ → Memory
written m addr bytes = unwrap_or (with_octets m addr bytes) m
