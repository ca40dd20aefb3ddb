use Rattle.std.proofs.Common.{subst, ℕ, List}
use Rattle.bgp_path.specs.Fronts.{WritesFront}
use Rattle.bgp_path.proofs.WidthsLemmas.{path_ok-narrow_path, units_octets-narrow}
use Rattle.bgp_path.proofs.widths.narrow_into.Goals as goal

pub returns-clause-written : goal.returns-clause-written
returns-clause-written c =
    let P : List ℕ → Type 0 = λ t. WritesFront c.units_into.result c.args.out.now c.units_into.new.out t in
    subst P (units_octets-narrow c.args.value.now c.requires) c.units_into.ensures

pub returns-clause-path : goal.returns-clause-path
returns-clause-path c = path_ok-narrow_path c.args.value.now c.requires
