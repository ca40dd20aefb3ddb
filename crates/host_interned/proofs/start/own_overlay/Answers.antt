use Rattle.std.proofs.Common.{◌≡◌, ◌∙◌, sym, ap, subst}
use Rattle.xb_domain.specs.declared.side.Side.{Side}
use Rattle.xb_words.specs.Octets.{four_octets}
use Rattle.spk_model.specs.Sources.{local_route}
use Rattle.spk_routes.specs.Sound.{IsSound}
use Rattle.spk_routes.proofs.LocalLemmas.{local_sound}
use Rattle.host_interned.proofs.StartLemmas.{local_route-from}
use Rattle.host_interned.proofs.start.own_overlay.Goals as goal

pub returns : goal.returns
returns c =
    let is : c.set-3.new.self.route ≡ local_route c.args.config.now =
    local_route-from c.args.config.now c.in_ok-route.route c.set.new.self c.set-2.new.self c.set-3.new.self
    c.to_be_bytes.result c.in_ok-route.ensures
    (c.to_be_bytes.ensures ∙ ap (λ (s : Side). four_octets s.address) c.local_of-local.ensures.value)
    c.set.ensures.after c.set-2.ensures.after c.set-3.ensures.after in
    record {
      route = is;
      sound = subst IsSound (sym is) (local_sound c.args.config.now c.local_of-local.ensures.kept);
    }
