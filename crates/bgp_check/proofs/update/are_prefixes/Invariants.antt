use Rattle.std.proofs.Common.{◌≡◌, length}
use Rattle.xb_values.specs.Prefixes.{are_prefixes}
use Rattle.bgp_check.proofs.JudgementLemmas.{all_whole}
use Rattle.bgp_check.proofs.update.are_prefixes.Given as goal

abbrev pub invariant-prefixes : goal.invariant-prefixes
invariant-prefixes l = all_whole l.prefixes ≡ are_prefixes l.octets

abbrev pub decreases-prefixes : goal.decreases-prefixes
decreases-prefixes l = length l.prefixes
