-- The configuration that a text gives, or its first fault (this project's own).
use Rattle.std.specs.Prelude.{◌≡◌, ◌≢◌, ℕ, ◌-◌, ◌/◌, ◌^◌, ◌≤◌, Bool, List, [], ◌∷◌, length, Option, Some, None, Result}
use Rattle.std.specs.Prelude.{Ok, codes, nat_le, ◌==◌, ◌&&◌, ◌||◌, not, if◌then◌else◌, IsTrue}
use Rattle.std.specs.List.{list_any, All, AllPairs}
use Rattle.bgp_attr.specs.Rules.{is_host}
use Rattle.toml.specs.Data.{Data, Members}
use Rattle.xb_domain.specs.declared.bad.BadKind.TheVariants.{Key, Range, Double}
use Rattle.xb_domain.specs.declared.bad.Part.TheVariants.{Top, Speaker, Network, Peer, Cost}
use Rattle.xb_domain.specs.declared.side.Side.{Side}
use Rattle.xb_values.specs.Prefixes.{Prefix, IsPrefix}
use Rattle.xb_values.specs.Readers.{read_dotted, read_prefix}
use Rattle.xb_fields.specs.declared.fault.FieldFault.{FieldFault}
use Rattle.xb_fields.specs.Fields.{Judged, ◌>>=◌, location, must, document, keys_listed, table_with, number, text}
use Rattle.xb_fields.specs.Fields.{required, optional, list_of, judged_entries, is_between}
use Rattle.xbgp_config.specs.declared.speaker.SpeakerFields.{SpeakerFields}
use Rattle.xbgp_config.specs.declared.speaker.SpeakerPart.{SpeakerPart}
use Rattle.xbgp_config.specs.declared.limits.TheConstants.{MAX_AS, MAX_PEERS, MAX_NETWORKS, MAX_COSTS, MIN_HOLD}
use Rattle.xbgp_config.specs.declared.limits.TheConstants.{MAX_HOLD, DEFAULT_HOLD, DEFAULT_LOCAL_PREF}
use Rattle.xbgp_config.specs.declared.lists.PeerEntry.{PeerEntry}
use Rattle.xbgp_config.specs.declared.lists.CostEntry.{CostEntry}

-- a configuration: the speaker, its hold time, its default degree of preference, and its lists in order
pub record Config : Type 0 where
  pub local : Side
  pub hold : ℕ
  pub local_pref : ℕ
  pub networks : List Prefix
  pub peers : List PeerEntry
  pub costs : List CostEntry

-- an AS number of four octets, which is not 0
abbrev pub is_as : ℕ → Bool
is_as n = is_between 1 MAX_AS n

-- a hold time in seconds: 0, for no timer, or at least MIN_HOLD (RFC 4271, section 4.2)
abbrev pub is_hold : ℕ → Bool
is_hold n = n == 0 || nat_le MIN_HOLD n && nat_le n MAX_HOLD

-- an address that may be a host's, by its first octet, as for the next hops of routes
abbrev pub is_host_address : ℕ → Bool
is_host_address a = is_host (a / 2 ^ 24)

-- prefixes with the same address and the same length
abbrev pub same_prefix : Prefix → Prefix → Bool
same_prefix p q = p.addr == q.addr && p.len == q.len

-- what every accepted configuration keeps: ranges, limits, and that networks, addresses of parties and next hops differ
pub record IsConfig (c : Config) : Type 0 where
  pub speaker : ((c.local).number ≡ 0) × ((c.local).kind ≡ 0)
  pub asn : IsTrue (is_as (c.local).asn)
  pub address : IsTrue (is_host_address (c.local).address)
  pub id : (c.local).id ≢ 0
  pub hold : IsTrue (is_hold c.hold)
  pub local_pref : c.local_pref ≤ (2 ^ 32 - 1)
  pub few_networks : length c.networks ≤ MAX_NETWORKS
  pub networks : All IsPrefix c.networks
  pub networks_differ : AllPairs (λ p q. p ≢ q) c.networks
  pub few_peers : length c.peers ≤ MAX_PEERS
  pub peers :
      All (λ p. IsTrue (is_as p.asn) × IsTrue (is_host_address p.address) × (p.address ≢ (c.local).address)) c.peers
  pub peers_differ : AllPairs (λ p q. p.address ≢ q.address) c.peers
  pub few_costs : length c.costs ≤ MAX_COSTS
  pub costs : All (λ c. c.cost ≤ (2 ^ 32 - 1)) c.costs
  pub costs_differ : AllPairs (λ a b. a.next_hop ≢ b.next_hop) c.costs

-- an address that passes a test
abbrev pub passing : (ℕ → Bool) → Option ℕ → Option ℕ
passing test None = None
passing test (Some a) = if test a then Some a else None

-- the address of a host, and a BGP identifier, which isn't 0.0.0.0
abbrev pub host_text : List ℕ → Option ℕ
host_text s = passing is_host_address (read_dotted s)

abbrev pub id_text : List ℕ → Option ℕ
id_text s = passing (λ a. not (a == 0)) (read_dotted s)

-- a network, which no earlier one equals
abbrev pub network_entry : ℕ → List Prefix → Data → Judged Prefix
network_entry i earlier d = do
  p ← text (location Network i) read_prefix d
  _ ← must (location Network i) Double (not (list_any (same_prefix p) earlier))
  Ok p

-- a hold time in seconds
unfoldable pub hold_time : Data → Judged ℕ
hold_time d = do
  n ← number (location Speaker 0) 0 MAX_HOLD d
  _ ← must (location Speaker 0) Range (is_hold n)
  Ok n

-- the speaker itself, its hold time and its default degree of preference
unfoldable pub speaker_fields : Members → Judged SpeakerFields
speaker_fields ms = do
  asn ← required (location Speaker 0) (codes "as") (number (location Speaker 0) 1 MAX_AS) ms
  id ← required (location Speaker 0) (codes "id") (text (location Speaker 0) id_text) ms
  address ← required (location Speaker 0) (codes "address") (text (location Speaker 0) host_text) ms
  hold ← optional (codes "hold") DEFAULT_HOLD hold_time ms
  pref ← optional (codes "local_pref") DEFAULT_LOCAL_PREF (number (location Speaker 0) 0 (2 ^ 32 - 1)) ms
  Ok (record {
    local = record { number = 0; asn = asn; address = address; id = id; kind = 0 };
    hold = hold;
    local_pref = pref;
  })

-- the keys of the speaker's table
abbrev pub speaker_keys : List (List ℕ)
speaker_keys = codes "as" ∷ codes "id" ∷ codes "address" ∷ codes "hold" ∷ codes "local_pref" ∷ codes "networks" ∷ []

-- the speaker with its networks
unfoldable pub speaker_part : Data → Judged SpeakerPart
speaker_part d = do
  ms ← table_with (location Speaker 0) speaker_keys d
  fields ← speaker_fields ms
  listed ← optional (codes "networks") [] (list_of (location Speaker 0) MAX_NETWORKS) ms
  networks ← judged_entries network_entry listed
  Ok (record { fields = fields; networks = networks })

-- a peer
unfoldable pub peer_fields : ℕ → Data → Judged PeerEntry
peer_fields i d = do
  ms ← table_with (location Peer i) (codes "as" ∷ codes "address" ∷ []) d
  asn ← required (location Peer i) (codes "as") (number (location Peer i) 1 MAX_AS) ms
  address ← required (location Peer i) (codes "address") (text (location Peer i) host_text) ms
  Ok (record { asn = asn; address = address })

-- a peer whose address is neither the speaker's nor an earlier peer's
abbrev pub peer_entry : ℕ → ℕ → List PeerEntry → Data → Judged PeerEntry
peer_entry own i earlier d = do
  peer ← peer_fields i d
  _ ← must (location Peer i) Double (not (peer.address == own || list_any (λ p. peer.address == p.address) earlier))
  Ok peer

-- the interior cost of a next hop
unfoldable pub cost_fields : ℕ → Data → Judged CostEntry
cost_fields i d = do
  ms ← table_with (location Cost i) (codes "next_hop" ∷ codes "cost" ∷ []) d
  hop ← required (location Cost i) (codes "next_hop") (text (location Cost i) read_dotted) ms
  cost ← required (location Cost i) (codes "cost") (number (location Cost i) 0 (2 ^ 32 - 1)) ms
  Ok (record { next_hop = hop; cost = cost })

-- a cost whose next hop no earlier one has
abbrev pub cost_entry : ℕ → List CostEntry → Data → Judged CostEntry
cost_entry i earlier d = do
  entry ← cost_fields i d
  _ ← must (location Cost i) Double (not (list_any (λ c. entry.next_hop == c.next_hop) earlier))
  Ok entry

-- the keys of a configuration
abbrev pub config_keys : List (List ℕ)
config_keys = codes "speaker" ∷ codes "peer" ∷ codes "cost" ∷ []

-- the configuration that a table gives
unfoldable pub config_of : Members → Judged Config
config_of ms = do
  _ ← must (location Top 0) Key (keys_listed config_keys ms)
  speaker ← required (location Top 0) (codes "speaker") speaker_part ms
  listed ← optional (codes "peer") [] (list_of (location Top 0) MAX_PEERS) ms
  peers ← judged_entries (peer_entry ((speaker.fields).local).address) listed
  priced ← optional (codes "cost") [] (list_of (location Top 0) MAX_COSTS) ms
  costs ← judged_entries cost_entry priced
  Ok (record {
    local = (speaker.fields).local;
    hold = (speaker.fields).hold;
    local_pref = (speaker.fields).local_pref;
    networks = speaker.networks;
    peers = peers;
    costs = costs;
  })

-- the configuration that a text gives, or its first fault
unfoldable pub config : List ℕ → Result Config FieldFault
config octets = document octets >>= config_of
