use Rattle.std.proofs.Common.{◌∙◌, ap, map}
use Rattle.std.specs.Prelude.{string_bytes}
use Rattle.spk_model.proofs.PrintLemmas.{made_next}
use Rattle.spk_model.proofs.names.map_names.Goals as goal

pub maps-preserved : goal.maps-preserved
maps-preserved c =
    ap (map string_bytes) c.in_ok-push.ensures.items
    ∙ made_next string_bytes (λ m. m.name) c.maps.names.items c.args.maps.now c.maps.i c.in_ok-from_str.field-0
    c.get.result.now c.maps.invariant c.get.ensures (c.in_ok-from_str.ensures.ok ∙ c.as_str.ensures)
