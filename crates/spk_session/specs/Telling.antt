-- What it is to tell a peer what waits for it, message by message (this project's own).
use Rattle.std.specs.Prelude.{◌≡◌, ℕ, ◌+◌, ◌*◌, ◌≤◌, ◌<◌, Bool, true, false, List, [], ◌∷◌, length, Option, Some, None}
use Rattle.xb_domain.specs.declared.output.Packing.{Packing}
use Rattle.bgp_write.specs.Pending.{Formed}
use Rattle.spk_model.specs.Choosing.{Trace}
use Rattle.spk_model.specs.Routing.{Routing, tables_of, with_tables}
use Rattle.spk_model.specs.Turning.{emit_turns, is_spent}
use Rattle.spk_session.specs.Acting.{rest_in}
use Rattle.spk_session.specs.Meaning.{Core, IsReady, speaker_of, turn_of}
use Rattle.spk_session.specs.Routed.{waiting}

-- the next message is the rest, and what it says is told; or there is none, and nothing changes
abbrev pub IsFormed : Option Formed → ℕ → Routing → Routing → List ℕ → List ℕ → Bool → Type 0
IsFormed None p old new rest rest' result = (result ≡ false) × (new ≡ old) × (rest' ≡ rest)
IsFormed (Some f) p old new rest rest' result =
    (result ≡ true) × (new ≡ with_tables old p (record (tables_of old p) { told = f.told })) × (rest' ≡ f.message)

-- a step for a rest
abbrev pub rest_steps : List ℕ → ℕ
rest_steps [] = 0
rest_steps (x ∷ rest) = 1

-- how many steps are enough for a peer: one for the rest, and two for each prefix that waits
abbrev pub enough : ℕ → Core → ℕ
enough p c = 2 * length (waiting c.routing p) + rest_steps (rest_in c.links p)

-- telling a peer up to a limit ends with another core; how many steps are allowed does not matter if they are enough
pub record Ends (rule : Packing) (p : ℕ) (limit : Option ℕ) (c c' : Core) : Type 0 where
  pub ready : IsReady c'
  pub setup : c'.setup ≡ c.setup
  pub speaker : (waits : List (List ℕ)) (trace : Trace) (n : ℕ) → enough p c ≤ n
      → (emit_turns rule n (turn_of waits trace c) p limit).speaker ≡ speaker_of waits c'
  pub outputs : (waits : List (List ℕ)) (trace : Trace) (n : ℕ) → enough p c ≤ n
      → (emit_turns rule n (turn_of waits trace c) p limit).outputs ≡ (c'.links).outputs

-- what is still to come is the same from here and from there
abbrev pub Comes : Packing → ℕ → Option ℕ → Core → Option ℕ → Core → Type 0
Comes rule p limit c limit' c' = (last : Core) → Ends rule p limit' c' last → Ends rule p limit c last

-- a step if there is no rest
abbrev pub no_rest_steps : List ℕ → ℕ
no_rest_steps [] = 1
no_rest_steps (x ∷ rest) = 0

-- a rest is there to leave, or a message without octets was formed
pub record HasRest (rule : Packing) (p : ℕ) (limit : Option ℕ) (c c' : Core) : Type 0 where
  pub ready : IsReady c'
  pub setup : c'.setup ≡ c.setup
  pub sessions : c'.links.sessions ≡ c.links.sessions
  pub unspent : is_spent limit ≡ false
  pub less : enough p c' + no_rest_steps (rest_in c'.links p) ≤ enough p c
  pub comes : Comes rule p limit c limit c'

-- a rest is there to leave, or telling ends
abbrev pub RestBy : Bool → Packing → ℕ → Option ℕ → Core → Core → Type 0
RestBy true rule p limit c c' = HasRest rule p limit c c'
RestBy false rule p limit c c' = Ends rule p limit c c'

-- a part of the rest left, all of it unless the limit is spent
pub record HasLeft (rule : Packing) (p : ℕ) (limit : Option ℕ) (c : Core) (limit' : Option ℕ) (c' : Core)
    : Type 0 where
  pub ready : IsReady c'
  pub setup : c'.setup ≡ c.setup
  pub sessions : c'.links.sessions ≡ c.links.sessions
  pub less : is_spent limit' ≡ false → enough p c' < enough p c + no_rest_steps (rest_in c.links p)
  pub comes : Comes rule p limit c limit' c'

-- no work is left if the limit is spent
abbrev pub work_if : Bool → ℕ → ℕ
work_if true n = 0
work_if false n = n + 1

-- the work that is left
abbrev pub work : ℕ → Option ℕ → Core → ℕ
work p limit c = work_if (is_spent limit) (enough p c)
