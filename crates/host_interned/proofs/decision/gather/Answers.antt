use Rattle.std.proofs.Common.{◌≡◌, ◌<◌, ◌∙◌, ap, subst, ◌++◌, [], ◌∷◌, arith, ℕ, true, false, List, length, Some}
use Rattle.std.proofs.Common.{None}
use Rattle.xb_domain.specs.declared.side.Side.{Side}
use Rattle.bgp_attr.specs.Routes.{Route}
use Rattle.spk_model.specs.Choosing.{Candidate}
use Rattle.spk_routes.specs.Candidates.{candidate_of, shown}
use Rattle.spk_routes.specs.declared.contenders.Contenders.{Contenders}
use Rattle.spk_routes.proofs.LocalLemmas.{local_sound}
use Rattle.host_interned.specs.Deciding.{AreFound}
use Rattle.host_interned.proofs.DecideLemmas.{found_first, found_then}
use Rattle.host_interned.proofs.decision.gather.Goals as goal
use Rattle.host_interned.proofs.decision.gather.Goals.{in-Some+in_ok-add-2, in_default, then-is_network+in_ok-add}
use Rattle.host_interned.proofs.decision.gather.Goals.{else-is_network}

pub peers-init : goal.peers-init
peers-init c =
    let a = c.args in
    let kept = c.local_of-local.ensures.kept in
    let all : Contenders Route → List Candidate = shown (λ r. r) in
    elim c.if-is_network.branch [
      | then-is_network+in_ok-add w ↦ record {
        found = found_first a.config.now a.sessions.now a.rib.now.tables a.prefix true (all c.if-is_network.found) kept
            (local_sound a.config.now kept) w.if-is_network.ensures
            (ap all w.found-is
            ∙ w.in_ok-add.ensures.ok
            ∙ ap (λ (l : List Candidate). l ++ candidate_of a.config.now c.local_of-local.result w.own.result.now ∷ [])
            c.make-found.ensures
            ∙ ap (λ (s : Side). candidate_of a.config.now s w.own.result.now ∷ []) c.local_of-local.ensures.value
            ∙ ap (λ (r : Route). candidate_of a.config.now a.config.now.local r ∷ [])
            (w.own.ensures.value ∙ c.requires.own));
      }
      | else-is_network w ↦ record {
        found = found_first a.config.now a.sessions.now a.rib.now.tables a.prefix false (all c.if-is_network.found) kept
            (local_sound a.config.now kept) w.if-is_network.ensures (ap all w.found-is ∙ c.make-found.ensures);
      }
    ]

pub peers-preserved : goal.peers-preserved
peers-preserved c =
    let a = c.args in
    let kept = c.local_of-local.ensures.kept in
    let all : Contenders Route → List Candidate = shown (λ r. r) in
    let inside : c.peers.i < length a.rib.now.tables = omega arith in
    elim c.match-sent.branch [
      | in-Some+in_ok-add-2 w ↦ record {
        found = found_then a.config.now a.sessions.now a.rib.now.tables a.prefix c.peers.i
            (all c.peers.found) (all c.match-sent.found) (Some w.in-Some.route.now) kept c.requires.count
            inside w.in-Some.ensures.value w.in-Some.ensures.sound
            c.peers.invariant.found
            (ap all w.found-is
            ∙ w.in_ok-add-2.ensures.ok
            ∙ ap (λ (s : Side). all c.peers.found ++ candidate_of a.config.now s w.in-Some.route.now ∷ [])
            w.side_of.ensures);
      }
      | in_default w ↦ record {
        found = found_then a.config.now a.sessions.now a.rib.now.tables a.prefix c.peers.i
            (all c.peers.found) (all c.match-sent.found) None kept c.requires.count
            inside w.in_default.ensures.value tt c.peers.invariant.found
            (ap all w.found-is);
      }
    ]

pub returns : goal.returns
returns c =
    let e : c.peers.i ≡ length c.args.rib.now.tables = omega arith in
    subst (λ (n : ℕ). AreFound c.args.config.now c.args.sessions.now c.args.rib.now.tables c.args.prefix n
    (shown (λ r. r) c.peers.found)) e c.peers.invariant.found
