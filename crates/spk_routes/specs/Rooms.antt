-- The room that an `Exporter` keeps for sections (for its private fields).
use Rattle.std.specs.Prelude.{◌≡◌}
use Rattle.bgp_attr.specs.declared.TheConstants.{MAX_CANONICAL}
use Rattle.spk_routes.specs.declared.section.Sections.{Sections}

-- each buffer has room for any canonical section
pub record HaveRoom (s : Sections) : Type 0 where
  pub native : s.native.capacity ≡ MAX_CANONICAL
  pub given : s.given.capacity ≡ MAX_CANONICAL
  pub sent : s.sent.capacity ≡ MAX_CANONICAL
