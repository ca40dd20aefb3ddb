-- The words in which faults are printed (this project's own).
use Rattle.std.specs.Prelude.{ℕ, List, codes}
use Rattle.xb_domain.specs.declared.bad.BadKind.{BadKind}
use Rattle.xb_domain.specs.declared.bad.BadKind.TheVariants as kinds
use Rattle.xb_domain.specs.declared.bad.Part.{Part}
use Rattle.xb_domain.specs.declared.bad.Part.TheVariants as parts
use Rattle.bpf_insn.specs.declared.fault.LoadKind.{LoadKind}
use Rattle.xbgp_manifest.specs.Manifests.{load_kind}
use Rattle.xbgp_top.specs.declared.status.File.{File}
use Rattle.xbgp_top.specs.declared.status.File.TheVariants as files

-- what is wrong with a configuration or a manifest
abbrev pub kind_word : BadKind → List ℕ
kind_word kinds.Text = codes "text"
kind_word kinds.Shape = codes "type"
kind_word kinds.Key = codes "key"
kind_word kinds.Missing = codes "missing"
kind_word kinds.Range = codes "range"
kind_word kinds.Count = codes "count"
kind_word kinds.Double = codes "double"
kind_word kinds.Room = codes "room"
kind_word kinds.Length = codes "length"
kind_word kinds.TooLong = codes "toolong"
kind_word kinds.Opcode = codes "opcode"
kind_word kinds.Register = codes "register"
kind_word kinds.Reserved = codes "reserved"
kind_word kinds.WidePair = codes "widepair"
kind_word kinds.Jump = codes "jump"
kind_word kinds.WriteR10 = codes "writer10"
kind_word kinds.Helper = codes "helper"
kind_word kinds.OpenEnd = codes "openend"

-- the part in which it is
abbrev pub part_word : Part → List ℕ
part_word parts.Top = codes "top"
part_word parts.Speaker = codes "speaker"
part_word parts.Network = codes "network"
part_word parts.Peer = codes "peer"
part_word parts.Cost = codes "cost"
part_word parts.Map = codes "map"
part_word parts.Program = codes "program"

-- why bytecode is refused
abbrev pub load_word : LoadKind → List ℕ
load_word kind = kind_word (load_kind kind)

-- an input
abbrev pub file_word : File → List ℕ
file_word files.Input = codes "input"
file_word files.Config = codes "config"
file_word files.Manifest = codes "manifest"
file_word files.Log = codes "log"
