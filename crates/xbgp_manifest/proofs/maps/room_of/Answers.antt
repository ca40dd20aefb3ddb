use Rattle.std.proofs.Common.{◌*◌, sym, arith}
use Rattle.xbgp_maps.specs.Mappings.{entry_size}
use Rattle.xbgp_manifest.proofs.SumLemmas.{sum_by-more}
use Rattle.xbgp_manifest.proofs.maps.room_of.Goals as goal

pub loop-entry-preserved : goal.loop-entry-preserved
loop-entry-preserved c = record {
  room =
      rw (c.loop-entry.invariant.room, c.room_of_map-room.ensures.value)
      (sym (sum_by-more (λ s. s.entries * entry_size s) (λ m. m.shape) c.args.maps.now c.loop-entry.entry-index c.entry-item.result (omega arith) c.entry-item.is));
  small = omega (arith, c.loop-entry.invariant.small, c.room_of_map-room.ensures.small);
}
