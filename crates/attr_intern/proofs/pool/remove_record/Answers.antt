use Rattle.std.proofs.Common.{sym, ap, ◌∙◌, ◌≡◌, Some, None, subst}
use Rattle.bgp_attr.specs.Routes.{canon}
use Rattle.section_map.specs.Sections.{ChangesAt}
use Rattle.attr_intern.proofs.pool.remove_record.Goals as goal

pub returns-clause-id : goal.returns-clause-id
returns-clause-id c = λ o was.
    let one : Some c.remove-removed.result ≡ Some o = sym c.remove-removed.ensures.value ∙ was in
    let same : c.remove-removed.result ≡ o = cc one in
    subst (λ section. ChangesAt c.args.ids.now c.remove.new.self section None)
    (c.section.ensures.value ∙ ap (λ w. canon w.route) (c.removed.view_is ∙ same)) c.remove.ensures
