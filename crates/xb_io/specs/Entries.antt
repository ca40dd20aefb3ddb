-- The entries of a shelf in memory as names with octets.
use Rattle.std.specs.Prelude.{ℕ, List, map, string_bytes, String, Vec}
use Rattle.std.specs.declared.alloc.Global.{Global}
use Rattle.xb_io.specs.Causes.{Files}

abbrev pub files_of : List (String Global × Vec ℕ Global) → Files
files_of entries = map (λ e. (string_bytes e.0, e.1.items)) entries
