use Rattle.std.proofs.Common.{◌≡◌, ◌≤◌, ◌*◌, ◌^◌, take}
use Rattle.xbgp_manifest.specs.Manifests.{room_of}
use Rattle.xbgp_manifest.proofs.maps.room_of.Given as goal

abbrev pub invariant-loop-entry : goal.invariant-loop-entry
invariant-loop-entry l = record {
  room : l.room ≡ room_of (take l.entry-index l.maps);
  small : l.room ≤ l.entry-index * 2 ^ 49;
}
