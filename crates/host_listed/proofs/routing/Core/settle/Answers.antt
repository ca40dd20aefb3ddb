use Rattle.std.proofs.Common.{◌≡◌, subst, refl, arith, ℕ, length, fold}
use Rattle.std.specs.List.{range_with_len}
use Rattle.spk_model.specs.Routing.{decide, export, settle}
use Rattle.host_listed.specs.Meaning.{Does}
use Rattle.host_listed.proofs.FollowingLemmas.{does_more}
use Rattle.host_listed.proofs.routing.Core.settle.Goals as goal

pub peers-preserved : goal.peers-preserved
peers-preserved c = record {
  done = does_more (λ setup t. decide setup c.args.sessions.now t c.args.prefix)
      (λ setup. export setup c.args.sessions.now c.args.prefix) c.peers.i _ c.args.self.now c.peers.self
      c.export_loaded.new.self refl c.peers.invariant.done c.in_ok-export_loaded.ensures.goes;
  loaded = c.in_ok-export_loaded.ensures.loaded;
}

pub returns : goal.returns
unfolding settle
returns c =
    let e : c.peers.i ≡ length c.args.sessions.now = omega arith in
    subst (λ (n : ℕ). Does
    (λ setup t. fold (export setup c.args.sessions.now c.args.prefix)
    (decide setup c.args.sessions.now t c.args.prefix) (range_with_len 1 n)) c.args.self.now c.peers.self)
    e c.peers.invariant.done
