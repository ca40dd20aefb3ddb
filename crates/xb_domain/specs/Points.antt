-- Which helper may be called at which point (this project's own).
use Rattle.std.specs.Prelude.{ℕ, Bool, not, ◌==◌, ◌||◌, nat_le, ◌&&◌}
use Rattle.xb_domain.specs.declared.point.Point.{Point}
use Rattle.xb_domain.specs.declared.point.Point.TheVariants.{Receive, Inbound, Decision, Outbound, Encode}

-- whether a program at a point may call the helper of a number
abbrev pub helper_allowed : Point → ℕ → Bool
helper_allowed Receive n = nat_le 1 n && nat_le n 14 && not (n == 7 || n == 8 || n == 12)
helper_allowed Inbound n = nat_le 1 n && nat_le n 14 && not (n == 7 || n == 12)
helper_allowed Decision n = n == 1 || n == 2 || n == 5 || n == 7 || n == 8 || n == 9 || n == 13
helper_allowed Outbound n = nat_le 1 n && nat_le n 9 || n == 13
helper_allowed Encode n = n == 1 || n == 2 || n == 5 || n == 6 || n == 7 || n == 9 || n == 12 || n == 13
