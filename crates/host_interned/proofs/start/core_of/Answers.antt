use Rattle.std.proofs.Common.{◌∙◌, refl, ap}
use Rattle.xbgp_points.specs.Engines.{started}
use Rattle.host_interned.proofs.StartLemmas.{is_started}
use Rattle.host_interned.proofs.start.core_of.Goals as goal

pub returns : goal.returns
returns c =
    is_started c.args.setup c.args.rib _ c.local_of.ensures.kept c.requires refl
    (c.in_ok-engine.ensures ∙ ap (started c.args.setup.manifest) c.local_of.ensures.value) refl
