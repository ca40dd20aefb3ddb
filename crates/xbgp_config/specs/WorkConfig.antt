-- The configuration on which generated events are played (this project's own).
use Rattle.std.specs.Prelude.{ℕ, ◌+◌, ◌*◌, ◌^◌, Bool, List, [], ◌∷◌, map, ◌==◌, if◌then◌else◌}
use Rattle.xbgp_config.specs.Configs.{Config}
use Rattle.xbgp_config.specs.declared.lists.PeerEntry.{PeerEntry}

-- the address 10.0.0.n
abbrev pub work_address : ℕ → ℕ
work_address n = 10 * 2 ^ 24 + n

-- the numbers of the peers
abbrev pub work_peers : List ℕ
work_peers = 1 ∷ 2 ∷ 3 ∷ 4 ∷ []

-- whether the peer of a number has the speaker's AS number: the last has, and the others do not
abbrev pub is_work_internal : ℕ → Bool
is_work_internal n = n == 4

-- the peer of a number from 1 to 4: AS number 65001, 65002, 65003 or 65000, address 10.0.0.1 to 10.0.0.4
abbrev pub work_peer : ℕ → PeerEntry
work_peer n = record { asn = if is_work_internal n then 65000 else 65000 + n; address = work_address n }

-- a speaker of AS number 65000 with the address and identifier 10.0.0.254, without hold time, networks and costs, and
-- its four peers
abbrev pub work_config : Config
work_config = record {
  local = record { number = 0; asn = 65000; address = work_address 254; id = work_address 254; kind = 0 };
  hold = 0;
  local_pref = 100;
  networks = [];
  peers = map work_peer work_peers;
  costs = [];
}
