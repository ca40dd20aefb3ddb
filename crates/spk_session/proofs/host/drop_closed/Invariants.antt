use Rattle.std.proofs.Common.{◌≡◌, length, take}
use Rattle.spk_session.specs.Meaning.{kept}
use Rattle.spk_session.specs.Hosting.{waits_of}
use Rattle.spk_session.proofs.host.drop_closed.Given as goal

-- the octets of the first peers were dropped
abbrev pub invariant-peers : goal.invariant-peers
invariant-peers l = record {
  waits : waits_of l.frames.items ≡ kept (take l.i l.fn.links.dropped.items) (waits_of l.fn.frames.items);
  count : length l.frames.items ≡ length l.fn.frames.items;
}
