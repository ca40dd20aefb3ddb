use Rattle.spk_session.proofs.TellLemmas.{front_left, if_ok_three}
use Rattle.spk_session.proofs.tell.put_rest.Goals as goal

pub returns : goal.returns
returns g c =
    if_ok_three c.put_front.result
    (λ left cut gone less. front_left g.R.Routes.RULE c.args.peer c.args.limit left
    (g.R.Routes.built_from c.args.routes.now) c.args.links.now (g.R.Routes.routing c.args.routes.now)
    c.index_mut-rest.result.now c.put_front.new.rest c.put_front.new.outputs c.requires.ready c.requires.peer
    c.requires.unspent c.index_mut-rest.ensures.value cut gone less)
    c.put_front.ensures.rest c.put_front.ensures.outputs c.put_front.ensures.left
