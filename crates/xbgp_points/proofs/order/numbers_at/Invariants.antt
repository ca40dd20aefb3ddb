-- The numbers so far, with those of the programs that are left.
use Rattle.std.proofs.Common.{◌≡◌, ◌++◌, drop}
use Rattle.xbgp_points.specs.Orders.{numbers_from}
use Rattle.xbgp_points.proofs.order.numbers_at.Given as goal

abbrev pub invariant-programs : goal.invariant-programs
invariant-programs l =
    l.numbers.items ++ numbers_from l.point l.i (drop l.i l.programs) ≡ numbers_from l.point 0 l.programs
