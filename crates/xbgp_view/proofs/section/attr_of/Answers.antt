use Rattle.std.proofs.Common.{None, ap, sym, ◌∙◌, get_or}
use Rattle.std.specs.Option.{option_map}
use Rattle.xbgp_view.specs.Sections.{kept_attr}
use Rattle.xbgp_view.proofs.IndexesLemmas.{attribute_at-index_route}
use Rattle.xbgp_view.proofs.section.attr_of.Goals as goal

pub returns : goal.returns
returns c = ap (λ i. option_map kept_attr (get_or c.args.index.now i None)) c.from.ensures ∙ sym (attribute_at-index_route c.args.index.now c.args.code)
