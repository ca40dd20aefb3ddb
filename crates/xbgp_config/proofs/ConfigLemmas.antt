-- Every accepted configuration keeps its ranges, limits and differences.
use Rattle.std.proofs.Common.{◌≡◌, ◌≢◌, ℕ, ◌-◌, ◌^◌, ◌<◌, ◌≤◌, true, false, not, ◌||◌, List, [], ◌∷◌, ◌++◌, length}
use Rattle.std.proofs.Common.{get_or, Ok, Err, refl, ap, sym, ◌∙◌, arith, inl, inr}
use Rattle.std.specs.Prelude.{◌==◌, IsTrue, codes, nat_le}
use Rattle.std.specs.List.{list_any, All, AllPairs}
use Rattle.std.proofs.lemmas.Bool.{and_parts, or_parts, leb-true, eq-eqb, eqb-false, false≢true}
use Rattle.std.proofs.lemmas.List.Elements.{All-push}
use Rattle.std.proofs.lemmas.List.Quantifiers.{all_pairs_push}
use Rattle.toml.specs.Data.{Data, Members}
use Rattle.xb_domain.specs.declared.bad.BadKind.TheVariants.{Range, Double, Key}
use Rattle.xb_domain.specs.declared.bad.Part.TheVariants.{Top, Speaker, Network, Peer, Cost}
use Rattle.xb_values.specs.Prefixes.{Prefix, IsPrefix}
use Rattle.xb_values.specs.Readers.{read_dotted, read_prefix}
use Rattle.xb_fields.specs.declared.fault.Location.{Location}
use Rattle.xb_fields.specs.Fields.{Judged, ◌>>=◌, document, location, required, optional, number, text, judged_entries}
use Rattle.xb_fields.specs.Fields.{is_between, keys_listed, table_with, list_of}
use Rattle.xb_fields.proofs.StepLemmas.{bind-ok, ok-injective, judged_from-keeps, length-judged_from}
use Rattle.xb_fields.proofs.FieldLemmas.{bind-must, number-ok, required_number-ok, text-ok, required-ok, optional-ok}
use Rattle.xb_fields.proofs.FieldLemmas.{length-optional_list, not-true, list_any-false}
use Rattle.xbgp_config.specs.declared.speaker.SpeakerFields.{SpeakerFields}
use Rattle.xbgp_config.specs.declared.speaker.SpeakerPart.{SpeakerPart}
use Rattle.xbgp_config.specs.declared.lists.PeerEntry.{PeerEntry}
use Rattle.xbgp_config.specs.declared.lists.CostEntry.{CostEntry}
use Rattle.xbgp_config.specs.declared.limits.TheConstants.{MAX_AS, MAX_PEERS, MAX_NETWORKS, MAX_COSTS, MAX_HOLD}
use Rattle.xbgp_config.specs.declared.limits.TheConstants.{DEFAULT_HOLD, DEFAULT_LOCAL_PREF}
use Rattle.xbgp_config.specs.Configs.{Config, IsConfig, is_as, is_hold, is_host_address, same_prefix, host_text}
use Rattle.xbgp_config.specs.Configs.{id_text, hold_time, speaker_fields, speaker_part, network_entry, peer_fields}
use Rattle.xbgp_config.specs.Configs.{peer_entry, cost_fields, cost_entry, speaker_keys, config_keys, config_of, config}
use Rattle.xbgp_config.proofs.AddressLemmas.{read_prefix-IsPrefix, passing-some}

-- the ranges of the speaker's fields
record FieldsKept (f : SpeakerFields) : Type 0 where
  pub speaker : ((f.local).number ≡ 0) × ((f.local).kind ≡ 0)
  pub asn : IsTrue (is_as (f.local).asn)
  pub address : IsTrue (is_host_address (f.local).address)
  pub id : (f.local).id ≢ 0
  pub hold : IsTrue (is_hold f.hold)
  pub local_pref : f.local_pref ≤ (2 ^ 32 - 1)

is_between-most : (least most n : ℕ) → is_between least most n ≡ true → n ≤ most
is_between-most least most n e = leb-true _ _ (and_parts (nat_le least n) (nat_le n most) e).1

hold_time-is_hold : (d : Data) (n : ℕ) → hold_time d ≡ Ok n → is_hold n ≡ true
unfolding hold_time
hold_time-is_hold d n e =
    let b = bind-ok (number (location Speaker 0) 0 MAX_HOLD d) _ n e in
    let m = bind-must (location Speaker 0) Range (is_hold b.0) _ n b.2 in
    rw (← ok-injective b.0 n m.1) m.0

host_text-is_host_address : (at : Location) (key : List ℕ) (ms : Members) (a : ℕ) → required at key (text at host_text) ms ≡ Ok a → is_host_address a ≡ true
host_text-is_host_address at key ms a e =
    let r = required-ok at key (text at host_text) ms a e in
    let s = text-ok at host_text r.0 a r.1 in
    passing-some is_host_address (read_dotted s.0) a s.1

id_text-differs : (at : Location) (key : List ℕ) (ms : Members) (a : ℕ) → required at key (text at id_text) ms ≡ Ok a → a ≢ 0
id_text-differs at key ms a e =
    let r = required-ok at key (text at id_text) ms a e in
    let s = text-ok at id_text r.0 a r.1 in
    eqb-false a 0 (not-true (a == 0) (passing-some (λ x. not (x == 0)) (read_dotted s.0) a s.1))

optional_hold-is_hold : (ms : Members) (n : ℕ) → optional (codes "hold") DEFAULT_HOLD hold_time ms ≡ Ok n → is_hold n ≡ true
optional_hold-is_hold ms n e =
    elim (optional-ok (codes "hold") DEFAULT_HOLD hold_time ms n e) [
      | inl default ↦ rw default
      | inr (d, read) ↦ hold_time-is_hold d n read
    ]

local_pref-bound : (ms : Members) (n : ℕ) → optional (codes "local_pref") DEFAULT_LOCAL_PREF (number (location Speaker 0) 0 (2 ^ 32 - 1)) ms ≡ Ok n → n ≤ (2 ^ 32 - 1)
local_pref-bound ms n e =
    elim (optional-ok (codes "local_pref") DEFAULT_LOCAL_PREF (number (location Speaker 0) 0 (2 ^ 32 - 1)) ms n e) [
      | inl default ↦ rw default (omega arith)
      | inr (d, read) ↦ is_between-most 0 (2 ^ 32 - 1) n (number-ok (location Speaker 0) 0 (2 ^ 32 - 1) d n read)
    ]

speaker_fields-kept : (ms : Members) (f : SpeakerFields) → speaker_fields ms ≡ Ok f → FieldsKept f
unfolding speaker_fields
speaker_fields-kept ms f e =
    let at = location Speaker 0 in
    let a = bind-ok (required at (codes "as") (number at 1 MAX_AS) ms) _ f e in
    let i = bind-ok (required at (codes "id") (text at id_text) ms) _ f a.2 in
    let h = bind-ok (required at (codes "address") (text at host_text) ms) _ f i.2 in
    let t = bind-ok (optional (codes "hold") DEFAULT_HOLD hold_time ms) _ f h.2 in
    let p = bind-ok (optional (codes "local_pref") DEFAULT_LOCAL_PREF (number at 0 (2 ^ 32 - 1)) ms) _ f t.2 in
    let kept : SpeakerFields = record { local = record { number = 0; asn = a.0; address = h.0; id = i.0; kind = 0 }; hold = t.0; local_pref = p.0 } in
    rw (← ok-injective kept f p.2) (record {
      speaker = (refl, refl);
      asn = required_number-ok at (codes "as") 1 MAX_AS ms a.0 a.1;
      address = host_text-is_host_address at (codes "address") ms h.0 h.1;
      id = id_text-differs at (codes "id") ms i.0 i.1;
      hold = optional_hold-is_hold ms t.0 t.1;
      local_pref = local_pref-bound ms p.0 p.1;
    })

-- the networks of a speaker
abbrev NetworksKept : List Prefix → Type 0
NetworksKept ps = All IsPrefix ps × AllPairs (λ p q. p ≢ q) ps

same_prefix-itself : (p : Prefix) → same_prefix p p ≡ true
same_prefix-itself p = rw (eq-eqb p.addr p.addr refl, eq-eqb p.len p.len refl)

network_entry-keeps : (i : ℕ) (earlier : List Prefix) (d : Data) (x : Prefix) → NetworksKept earlier → network_entry i earlier d ≡ Ok x → NetworksKept (earlier ++ x ∷ [])
network_entry-keeps i earlier d x kept e =
    let at = location Network i in
    let b = bind-ok (text at read_prefix d) _ x e in
    let m = bind-must at Double (not (list_any (same_prefix b.0) earlier)) _ x b.2 in
    let same : b.0 ≡ x = ok-injective b.0 x m.1 in
    let read = text-ok at read_prefix d b.0 b.1 in
    let none : list_any (same_prefix x) earlier ≡ false = rw same at (not-true _ m.0) in
    let differs = λ (k : ℕ) (y : Prefix) (h : k < length earlier) (is : get_or earlier k y ≡ x).
    false≢true (sym (list_any-false (same_prefix x) earlier none k y h) ∙ ap (same_prefix x) is ∙ same_prefix-itself x) in
    (All-push IsPrefix earlier x kept.0 (rw same at (read_prefix-IsPrefix read.0 b.0 read.1)), all_pairs_push (λ p q. p ≢ q) earlier x kept.1 differs)

networks-kept : (ds : List Data) (ps : List Prefix) → judged_entries network_entry ds ≡ Ok ps → (length ps ≡ length ds) × NetworksKept ps
unfolding judged_entries
networks-kept ds ps e = (
  omega (arith, length-judged_from network_entry 1 [] ds ps e),
  judged_from-keeps network_entry NetworksKept network_entry-keeps 1 [] ds ps (λ k d h. absurd (omega arith), λ i j d h g. absurd (omega arith)) e,
)

-- the table of a speaker
record SpeakerKept (s : SpeakerPart) : Type 0 where
  pub fields : FieldsKept s.fields
  pub few : length s.networks ≤ MAX_NETWORKS
  pub networks : NetworksKept s.networks

speaker_part-kept : (d : Data) (s : SpeakerPart) → speaker_part d ≡ Ok s → SpeakerKept s
unfolding speaker_part
speaker_part-kept d s e =
    let at = location Speaker 0 in
    let t = bind-ok (table_with at speaker_keys d) _ s e in
    let f = bind-ok (speaker_fields t.0) _ s t.2 in
    let l = bind-ok (optional (codes "networks") [] (list_of at MAX_COSTS) t.0) _ s f.2 in
    let n = bind-ok (judged_entries network_entry l.0) _ s l.2 in
    let kept = networks-kept l.0 n.0 n.1 in
    rw (← ok-injective _ s n.2) (record {
      fields = speaker_fields-kept t.0 f.0 f.1;
      few = omega (arith, kept.0, length-optional_list at (codes "networks") MAX_NETWORKS t.0 l.0 l.1);
      networks = kept.1;
    })

-- the peers of a speaker at an address
abbrev PeerKept : ℕ → PeerEntry → Type 0
PeerKept own p = IsTrue (is_as p.asn) × IsTrue (is_host_address p.address) × (p.address ≢ own)

abbrev PeersKept : ℕ → List PeerEntry → Type 0
PeersKept own ps = All (PeerKept own) ps × AllPairs (λ p q. p.address ≢ q.address) ps

peer_fields-ranges : (i : ℕ) (d : Data) (p : PeerEntry) → peer_fields i d ≡ Ok p → IsTrue (is_as p.asn) × IsTrue (is_host_address p.address)
unfolding peer_fields
peer_fields-ranges i d p e =
    let at = location Peer i in
    let t = bind-ok (table_with at (codes "as" ∷ codes "address" ∷ []) d) _ p e in
    let a = bind-ok (required at (codes "as") (number at 1 MAX_AS) t.0) _ p t.2 in
    let h = bind-ok (required at (codes "address") (text at host_text) t.0) _ p a.2 in
    rw (← ok-injective _ p h.2) (required_number-ok at (codes "as") 1 MAX_AS t.0 a.0 a.1, host_text-is_host_address at (codes "address") t.0 h.0 h.1)

peer_entry-keeps : (own i : ℕ) (earlier : List PeerEntry) (d : Data) (x : PeerEntry) → PeersKept own earlier → peer_entry own i earlier d ≡ Ok x → PeersKept own (earlier ++ x ∷ [])
peer_entry-keeps own i earlier d x kept e =
    let at = location Peer i in
    let b = bind-ok (peer_fields i d) _ x e in
    let m = bind-must at Double (not (b.0.address == own || list_any (λ p. b.0.address == p.address) earlier)) _ x b.2 in
    let same : b.0 ≡ x = ok-injective b.0 x m.1 in
    let both = or_parts (b.0.address == own) (list_any (λ p. b.0.address == p.address) earlier) (not-true _ m.0) in
    let not_own : (x.address == own) ≡ false = rw same at both.0 in
    let none : list_any (λ p. x.address == p.address) earlier ≡ false = rw same at both.1 in
    let ranges = peer_fields-ranges i d x (b.1 ∙ ap Ok same) in
    let differs = λ (k : ℕ) (y : PeerEntry) (h : k < length earlier) (is : (get_or earlier k y).address ≡ x.address).
    eqb-false _ _ (list_any-false (λ p. x.address == p.address) earlier none k y h) (sym is) in
    (All-push (PeerKept own) earlier x kept.0 (ranges.0, ranges.1, eqb-false _ _ not_own), all_pairs_push (λ p q. p.address ≢ q.address) earlier x kept.1 differs)

peers-kept : (own : ℕ) (ds : List Data) (ps : List PeerEntry) → judged_entries (peer_entry own) ds ≡ Ok ps → (length ps ≡ length ds) × PeersKept own ps
unfolding judged_entries
peers-kept own ds ps e = (
  omega (arith, length-judged_from (peer_entry own) 1 [] ds ps e),
  judged_from-keeps (peer_entry own) (PeersKept own) (peer_entry-keeps own) 1 [] ds ps (λ k d h. absurd (omega arith), λ i j d h g. absurd (omega arith)) e,
)

-- the costs of next hops
abbrev CostsKept : List CostEntry → Type 0
CostsKept cs = All (λ c. c.cost ≤ (2 ^ 32 - 1)) cs × AllPairs (λ a b. a.next_hop ≢ b.next_hop) cs

cost_fields-range : (i : ℕ) (d : Data) (x : CostEntry) → cost_fields i d ≡ Ok x → x.cost ≤ (2 ^ 32 - 1)
unfolding cost_fields
cost_fields-range i d x e =
    let at = location Cost i in
    let t = bind-ok (table_with at (codes "next_hop" ∷ codes "cost" ∷ []) d) _ x e in
    let h = bind-ok (required at (codes "next_hop") (text at read_dotted) t.0) _ x t.2 in
    let n = bind-ok (required at (codes "cost") (number at 0 (2 ^ 32 - 1)) t.0) _ x h.2 in
    rw (← ok-injective _ x n.2) (is_between-most 0 (2 ^ 32 - 1) n.0 (required_number-ok at (codes "cost") 0 (2 ^ 32 - 1) t.0 n.0 n.1))

cost_entry-keeps : (i : ℕ) (earlier : List CostEntry) (d : Data) (x : CostEntry) → CostsKept earlier → cost_entry i earlier d ≡ Ok x → CostsKept (earlier ++ x ∷ [])
cost_entry-keeps i earlier d x kept e =
    let at = location Cost i in
    let b = bind-ok (cost_fields i d) _ x e in
    let m = bind-must at Double (not (list_any (λ c. b.0.next_hop == c.next_hop) earlier)) _ x b.2 in
    let same : b.0 ≡ x = ok-injective b.0 x m.1 in
    let none : list_any (λ c. x.next_hop == c.next_hop) earlier ≡ false = rw same at (not-true _ m.0) in
    let differs = λ (k : ℕ) (y : CostEntry) (h : k < length earlier) (is : (get_or earlier k y).next_hop ≡ x.next_hop).
    eqb-false _ _ (list_any-false (λ c. x.next_hop == c.next_hop) earlier none k y h) (sym is) in
    (All-push (λ c. c.cost ≤ (2 ^ 32 - 1)) earlier x kept.0 (cost_fields-range i d x (b.1 ∙ ap Ok same)), all_pairs_push (λ a b. a.next_hop ≢ b.next_hop) earlier x kept.1 differs)

costs-kept : (ds : List Data) (cs : List CostEntry) → judged_entries cost_entry ds ≡ Ok cs → (length cs ≡ length ds) × CostsKept cs
unfolding judged_entries
costs-kept ds cs e = (
  omega (arith, length-judged_from cost_entry 1 [] ds cs e),
  judged_from-keeps cost_entry CostsKept cost_entry-keeps 1 [] ds cs (λ k d h. absurd (omega arith), λ i j d h g. absurd (omega arith)) e,
)

pub config_of-IsConfig : (ms : Members) (c : Config) → config_of ms ≡ Ok c → IsConfig c
unfolding config_of
config_of-IsConfig ms c e =
    let at = location Top 0 in
    let k = bind-must at Key (keys_listed config_keys ms) _ c e in
    let s = bind-ok (required at (codes "speaker") speaker_part ms) _ c k.1 in
    let l = bind-ok (optional (codes "peer") [] (list_of at MAX_PEERS) ms) _ c s.2 in
    let p = bind-ok (judged_entries (peer_entry ((s.0.fields).local).address) l.0) _ c l.2 in
    let m = bind-ok (optional (codes "cost") [] (list_of at MAX_COSTS) ms) _ c p.2 in
    let n = bind-ok (judged_entries cost_entry m.0) _ c m.2 in
    let table = required-ok at (codes "speaker") speaker_part ms s.0 s.1 in
    let speaker = speaker_part-kept table.0 s.0 table.1 in
    let peers = peers-kept ((s.0.fields).local).address l.0 p.0 p.1 in
    let costs = costs-kept m.0 n.0 n.1 in
    let kept : Config = record { local = (s.0.fields).local; hold = (s.0.fields).hold; local_pref = (s.0.fields).local_pref; networks = s.0.networks; peers = p.0; costs = n.0 } in
    rw (← ok-injective kept c n.2) (record {
      speaker = speaker.fields.speaker;
      asn = speaker.fields.asn;
      address = speaker.fields.address;
      id = speaker.fields.id;
      hold = speaker.fields.hold;
      local_pref = speaker.fields.local_pref;
      few_networks = speaker.few;
      networks = speaker.networks.0;
      networks_differ = speaker.networks.1;
      few_peers = omega (arith, peers.0, length-optional_list at (codes "peer") MAX_PEERS ms l.0 l.1);
      peers = peers.1.0;
      peers_differ = peers.1.1;
      few_costs = omega (arith, costs.0, length-optional_list at (codes "cost") MAX_COSTS ms m.0 m.1);
      costs = costs.1.0;
      costs_differ = costs.1.1;
    })

-- every configuration that a text gives
pub config-IsConfig : (octets : List ℕ) (c : Config) → config octets ≡ Ok c → IsConfig c
unfolding config
config-IsConfig octets c e =
    let b = bind-ok (document octets) config_of c e in
    config_of-IsConfig b.0 c b.2
