use Rattle.std.proofs.Common.{◌∙◌, ap, arith}
use Rattle.bgp_attr.specs.Routes.{Route}
use Rattle.xb_words.specs.Table.{with_value}
use Rattle.xb_values.specs.Prefixes.{prefix_cmp}
use Rattle.host_interned.proofs.StartLemmas.{own_chosen, with_networks-next, with_networks-end}
use Rattle.host_interned.proofs.start.set_networks.Goals as goal

pub networks-preserved : goal.networks-preserved
networks-preserved c =
    let set = c.in_ok-set_best.ensures.ok in
    let so_far = c.networks.invariant in
    record {
      own = set.own_is ∙ so_far.own;
      tables = set.tables_are ∙ so_far.tables;
      left = with_networks-next c.args.rib.now.own c.args.networks.now c.networks.i c.get.result c.networks.rib.best
          c.set_best.new.self.best _ c.get.ensures
          (set.best_is
          ∙ ap (λ (r : Route). with_value prefix_cmp c.networks.rib.best c.get.result (own_chosen r)) so_far.own)
          so_far.left;
    }

pub returns : goal.returns
returns c =
    let so_far = c.networks.invariant in
    record {
      own_is = so_far.own;
      best_is = with_networks-end c.args.rib.now.own c.args.networks.now c.networks.i c.networks.rib.best _
          (omega (arith, c.networks-test.false, c.len-i-end.ensures)) so_far.left;
      tables_are = so_far.tables;
    }
