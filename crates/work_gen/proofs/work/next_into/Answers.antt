use Rattle.std.proofs.Common.{◌≡◌, ◌∙◌, refl}
use Rattle.std.specs.Option.{option_map}
use Rattle.xb_domain.specs.Views.{event_view}
use Rattle.replay_log.specs.Lines.{IsFor}
use Rattle.xbgp_config.specs.declared.for_work.TheConstants.{WORK_PEERS}
use Rattle.work_gen.specs.Views.{told_view}
use Rattle.work_gen.proofs.WorkLemmas.{told-shown}
use Rattle.work_gen.proofs.work.next_into.Goals as goal

pub returns : goal.returns
returns c =
    let told = c.advance-told.result in
    let bytes = c.advance-told.new.octets.octets in
    let shown : option_map event_view c.with_octets.result ≡ option_map (told_view bytes) told =
    rw c.as_slice.ensures.value at c.with_octets.ensures in (
      (refl, (λ b. tt), c.advance-told.ensures.capacity),
      record {
        keeps = tt;
        event = shown ∙ c.advance-told.ensures.event;
        rest = c.advance-told.ensures.rest;
        peers = λ now. told-shown (IsFor WORK_PEERS now) c.with_octets.result told bytes shown (c.advance-told.ensures.peers now);
      },
    )
