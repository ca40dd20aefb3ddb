use Rattle.std.proofs.Common.{◌++◌, ◌-◌, take, drop, ap, ◌∙◌, length}
use Rattle.std.proofs.lemmas.List.{take_rest}
use Rattle.xb_values.specs.Buffers.{Buffer}
use Rattle.bgp_attr.specs.Routes.{route_of, without_attribute}
use Rattle.xbgp_view.proofs.EditsLemmas.{canon-without_attribute, IsRoute-without_attribute, IsCanonical-spelled}
use Rattle.xbgp_view.proofs.overlay.close_gap.Goals as goal

pub returns-clause-written : goal.returns-clause-written
returns-clause-written c =
    let s = c.args.section.now in
    let g = c.args.gap in
    c.append.ensures
    ∙ ap (λ (b : Buffer). record b { octets = b.octets ++ take (length s - g.end) (drop g.end s) }) c.replace.ensures
    ∙ ap (λ t. record { octets = take g.start s ++ t; capacity = c.args.out.now.capacity }) (take_rest s g.end)
    ∙ ap (λ t. record { octets = t; capacity = c.args.out.now.capacity })
    (canon-without_attribute s c.args.code (g.start, g.end) c.requires.section c.requires.gap)

pub returns-clause-canonical : goal.returns-clause-canonical
returns-clause-canonical c =
    let s = c.args.section.now in
    let g = c.args.gap in
    (IsCanonical-spelled c.append.new.self.octets (without_attribute (route_of s) c.args.code)
    (IsRoute-without_attribute s c.args.code (g.start, g.end) c.requires.section c.requires.gap)
    (ap (λ (b : Buffer). b.octets) (returns-clause-written c))).0

pub returns-clause-route : goal.returns-clause-route
returns-clause-route c =
    let s = c.args.section.now in
    let g = c.args.gap in
    (IsCanonical-spelled c.append.new.self.octets (without_attribute (route_of s) c.args.code)
    (IsRoute-without_attribute s c.args.code (g.start, g.end) c.requires.section c.requires.gap)
    (ap (λ (b : Buffer). b.octets) (returns-clause-written c))).1
