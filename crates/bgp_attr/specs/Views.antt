-- What a walk returns, without its location in memory.
use Rattle.std.specs.Prelude.{Result, Ok, Err}
use Rattle.bgp_attr.specs.declared.attrs.Attr.{Attr}
use Rattle.bgp_attr.specs.declared.attrs.Overrun.{Overrun}
use Rattle.bgp_attr.specs.Walks.{FoundAttr}

-- an attribute
abbrev pub attr_view : Attr → FoundAttr
attr_view a = record { at = a.at; flags = a.flags; code = a.code; value = a.value.now; raw = a.raw.now }

-- a step of the walk
abbrev pub attr_step_view : Result Attr Overrun → Result FoundAttr Overrun
attr_step_view (Ok a) = Ok (attr_view a)
attr_step_view (Err o) = Err o
