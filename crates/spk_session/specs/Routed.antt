-- What the routes' half of a host does to routes (this project's own).
use Rattle.std.specs.Prelude.{◌≡◌, ℕ, Bool, true, false, List, Option, Some, None}
use Rattle.xb_values.specs.Buffers.{Buffer}
use Rattle.xb_values.specs.Prefixes.{Prefix}
use Rattle.bgp_fsm.specs.Sessions.{Owned}
use Rattle.bgp_write.specs.Pending.{Formed, pending}
use Rattle.spk_model.specs.declared.host.Setup.{Setup}
use Rattle.spk_model.specs.Choosing.{Trace}
use Rattle.spk_model.specs.Routing.{Routing, Routed, tables_of, with_tables, settle_all}
use Rattle.spk_model.specs.Turning.{known_prefixes}

-- routes went on as a definition says, whatever chains ran before
abbrev pub Reroutes : (Routed → Routed) → Routing → Routing → Type 0
Reroutes step old new = (trace : Trace) → (step (record { routing = old; trace = trace })).routing ≡ new

-- every known prefix is decided and exported again
abbrev pub rescanned : Setup → List Owned → Routed → Routed
rescanned setup sessions t = settle_all setup sessions t (known_prefixes setup t.routing)

-- the prefixes that wait to be told to a peer
abbrev pub waiting : Routing → ℕ → List Prefix
waiting r p = pending (tables_of r p).adv (tables_of r p).told

-- the next message is written, and what it says is told; or there is none, and nothing changes
abbrev pub Tells : Option Formed → ℕ → Routing → Routing → Buffer → Buffer → Bool → Type 0
Tells None p old new out written result = (result ≡ false) × (new ≡ old) × (written ≡ out)
Tells (Some f) p old new out written result =
    (result ≡ true) × (new ≡ with_tables old p (record (tables_of old p) { told = f.told }))
    × (written ≡ record out { octets = f.message })
