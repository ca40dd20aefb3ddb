use Rattle.std.proofs.Common.{◌≡◌, ap, ◌∙◌, subst, ℕ, false, ◌-◌, ◌<◌, ◌≤◌, List, ◌++◌, arith}
use Rattle.std.proofs.Math.Facts.{Fits-lt-pow}
use Rattle.bgp_attr.specs.Paths.{path, hops}
use Rattle.bgp_path.specs.Fronts.{WritesFront}
use Rattle.bgp_path.specs.Units.{units_octets}
use Rattle.bgp_path.proofs.NumbersLemmas.{AreOctets-from_get_or}
use Rattle.bgp_path.proofs.WidthsLemmas.{merge-fewer, merge-more, path_ok-merge}
use Rattle.bgp_path.proofs.widths.merge_into.Goals as goal

pub returns-then-hops-hops4-clause-written : goal.returns-then-hops-hops4-clause-written
returns-then-hops-hops4-clause-written c =
    let P : List ℕ → Type 0 = λ t. WritesFront c.widen_into.result c.args.out.now c.widen_into.new.out t in
    let fewer : hops (path 2 c.args.path.now) < hops (path 4 c.args.path4.now) =
    omega (arith, c.hops_in-hops.ensures.hops, c.hops_in-hops4.ensures.hops, c.if-hops-hops4.true) in
    subst P (merge-fewer c.args.path.now c.args.path4.now fewer) c.widen_into.ensures.written

pub returns-clause-written : goal.returns-clause-written
returns-clause-written c =
    let P : List ℕ → Type 0 = λ t. WritesFront c.units_into.result c.args.out.now c.units_into.new.out t in
    let own = hops (path 2 c.args.path.now) in
    let other = hops (path 4 c.args.path4.now) in
    let more : other ≤ own = omega (arith, c.hops_in-hops.ensures.hops, c.hops_in-hops4.ensures.hops, c.if-hops-hops4.false) in
    let units : c.hops_in-hops.result - c.hops_in-hops4.result ≡ own - other =
    ap (λ n. n - c.hops_in-hops4.result) c.hops_in-hops.ensures.hops ∙ ap (λ n. own - n) c.hops_in-hops4.ensures.hops in
    let octets = AreOctets-from_get_or c.args.path4.now (λ i. Fits-lt-pow (c.type_inv.path4 i)) in
    subst P (ap (λ n. units_octets false n c.args.path.now ++ c.args.path4.now) units ∙ merge-more c.args.path.now c.args.path4.now octets c.requires.path4 more) c.units_into.ensures

pub returns-then-hops-hops4-clause-path : goal.returns-then-hops-hops4-clause-path
returns-then-hops-hops4-clause-path c =
    path_ok-merge c.args.path.now c.args.path4.now (AreOctets-from_get_or c.args.path4.now (λ i. Fits-lt-pow (c.type_inv.path4 i))) c.requires.path c.requires.path4

pub returns-clause-path : goal.returns-clause-path
returns-clause-path c =
    path_ok-merge c.args.path.now c.args.path4.now (AreOctets-from_get_or c.args.path4.now (λ i. Fits-lt-pow (c.type_inv.path4 i))) c.requires.path c.requires.path4
