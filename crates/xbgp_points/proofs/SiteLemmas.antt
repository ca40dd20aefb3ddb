-- What a run leaves of a point's world.
use Rattle.std.proofs.Common.{◌≡◌, ap, ℕ, ◌≤◌, List, length}
use Rattle.xb_domain.specs.declared.point.Point.TheVariants.{Receive, Inbound, Decision, Outbound, Encode}
use Rattle.bpf_mem.specs.Memory.{Memory}
use Rattle.bpf_machine.specs.Running.{bpf}
use Rattle.xbgp_helpers.specs.Helping.{help}
use Rattle.xbgp_helpers.specs.Worlds.{World}
use Rattle.xbgp_helpers.specs.declared.numbers.TheConstants.{MAX_BUFFER}
use Rattle.xbgp_helpers.proofs.ChangesLemmas.{bpf-changed}
use Rattle.xbgp_helpers.proofs.RunsLemmas.{bpf-short}

module _ (code : List ℕ) (memory : Memory) (fuel : ℕ) (w : World) where
  pub left_at_receive : let left = (bpf (help Receive) code memory fuel w).world in
      record left { mark = 0 } ≡ record w { route = left.route; maps = left.maps; writes = left.writes; mark = 0 }
  left_at_receive = ap (λ (v : World). record v { mark = 0 }) (bpf-changed Receive code memory fuel w)

  pub left_at_inbound : let left = (bpf (help Inbound) code memory fuel w).world in
      record left { mark = 0 } ≡ record w { route = left.route; maps = left.maps; writes = left.writes; mark = 0 }
  left_at_inbound = ap (λ (v : World). record v { mark = 0 }) (bpf-changed Inbound code memory fuel w)

  pub left_at_decision : record ((bpf (help Decision) code memory fuel w).world) { mark = 0 } ≡ record w { mark = 0 }
  left_at_decision = ap (λ (v : World). record v { mark = 0 }) (bpf-changed Decision code memory fuel w)

  pub left_at_outbound : let left = (bpf (help Outbound) code memory fuel w).world in
      record left { mark = 0 } ≡ record w { route = left.route; mark = 0 }
  left_at_outbound = ap (λ (v : World). record v { mark = 0 }) (bpf-changed Outbound code memory fuel w)

  pub left_at_encode : let left = (bpf (help Encode) code memory fuel w).world in
      record left { mark = 0 } ≡ record w { buffer = left.buffer; mark = 0 }
  left_at_encode = ap (λ (v : World). record v { mark = 0 }) (bpf-changed Encode code memory fuel w)

  -- the write buffer stays short
  pub short_after : length w.buffer ≤ MAX_BUFFER
      → length ((bpf (help Encode) code memory fuel w).world).buffer ≤ MAX_BUFFER
  short_after short = bpf-short Encode code memory fuel w short
