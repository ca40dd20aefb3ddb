use Rattle.std.proofs.Common.{◌≡◌, length, fold}
use Rattle.xb_values.specs.Prefixes.{prefixes}
use Rattle.spk_model.specs.Routing.{announce_one}
use Rattle.host_interned.specs.Meaning.{Does, IsReady}
use Rattle.host_interned.specs.declared.routing.Core.{Core}
use Rattle.host_interned.proofs.routing.Core.announce_each.Given as goal

-- what the prefixes that are left do after this does all
abbrev pub invariant-prefixes : goal.invariant-prefixes
invariant-prefixes l = record {
  ready : IsReady l.self;
  config : l.self.config ≡ l.fn.self.config;
  received : l.self.received ≡ l.fn.self.received;
  comes : (end : Core)
      → Does (λ setup t. fold (announce_one setup l.sessions l.now l.fn.self.received.route l.peer) t l.rest) l.self end
      → Does (λ setup t. fold (announce_one setup l.sessions l.now l.fn.self.received.route l.peer) t (prefixes l.nlri))
      l.fn.self end;
}

abbrev pub decreases-prefixes : goal.decreases-prefixes
decreases-prefixes l = length l.rest
