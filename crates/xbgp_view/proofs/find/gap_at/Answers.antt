use Rattle.std.proofs.Common.{◌+◌, ◌≤◌, length, IfSome, sym, ap, ◌∙◌, subst}
use Rattle.bgp_attr.specs.Walks.{attributes_from}
use Rattle.xbgp_view.specs.Sections.{found_from, gap_of, IsGap}
use Rattle.xbgp_view.proofs.FoundLemmas.{found_inside, IsGap-gap_of}
use Rattle.xbgp_view.proofs.find.gap_at.Goals as goal

pub gap_of-requires : goal.gap_of-requires
gap_of-requires c = subst (λ o. IfSome o (λ f. f.at + length f.raw ≤ length c.args.section.now)) (sym (c.first_from.ensures ∙ ap (λ n. found_from n (attributes_from 0 c.args.section.now)) c.from.ensures)) (found_inside c.args.code c.args.section.now c.requires)

pub returns : goal.returns
returns c =
    subst (λ g. IsGap c.args.code c.args.section.now g) (sym c.gap_of.ensures)
    (subst (λ o. IsGap c.args.code c.args.section.now (gap_of c.args.code (length c.args.section.now) o)) (sym (c.first_from.ensures ∙ ap (λ n. found_from n (attributes_from 0 c.args.section.now)) c.from.ensures)) (IsGap-gap_of c.args.code c.args.section.now c.requires))
