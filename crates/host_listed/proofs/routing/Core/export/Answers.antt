use Rattle.std.proofs.Common.{◌≡◌, ◌≤◌, length, subst, sym}
use Rattle.spk_model.specs.Routing.{export}
use Rattle.host_listed.specs.declared.routing.Core.{Core}
use Rattle.host_listed.proofs.ExportLemmas.{does_after_load, ready_loaded}
use Rattle.host_listed.proofs.FollowingLemmas.{goes_weaker}
use Rattle.host_listed.proofs.routing.Core.export.Goals as goal

pub export_loaded-requires : goal.export_loaded-requires
export_loaded-requires c =
    let same = sym c.load_best-source.ensures.unchanged in
    record {
      ready = ready_loaded c.args.self.now c.load_best-source.new.self _ c.load_best-source.ensures.unchanged
          c.requires.ready;
      all = subst (λ (x : Core). length c.args.sessions.now ≡ length x.config.peers) same c.requires.all;
      least = c.requires.least;
      most = subst (λ (x : Core). c.args.peer ≤ length x.config.peers) same c.requires.most;
      loaded = c.load_best-source.ensures.loaded;
    }

pub returns : goal.returns
returns c =
    goes_weaker c.export_loaded.result _ _ c.args.self.now c.load_best-source.new.self c.export_loaded.new.self
    (does_after_load (λ setup t. export setup c.args.sessions.now c.args.prefix t c.args.peer) c.args.self.now
    c.load_best-source.new.self c.export_loaded.new.self _ c.load_best-source.ensures.unchanged)
    c.export_loaded.ensures.goes
