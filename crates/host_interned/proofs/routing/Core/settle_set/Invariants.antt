use Rattle.std.proofs.Common.{◌≡◌, length, fold}
use Rattle.spk_model.specs.Routing.{settle}
use Rattle.host_interned.specs.Meaning.{Does, IsReady}
use Rattle.host_interned.specs.declared.routing.Core.{Core}
use Rattle.host_interned.proofs.routing.Core.settle_set.Given as goal

-- what the prefixes that are left do after this does all
abbrev pub invariant-prefixes : goal.invariant-prefixes
invariant-prefixes l = record {
  ready : IsReady l.self;
  all : length l.sessions ≡ length l.self.config.peers;
  comes : (end : Core) → Does (λ setup t. fold (settle setup l.sessions) t l.prefixes) l.self end
      → Does (λ setup t. fold (settle setup l.sessions) t l.fn.prefixes) l.fn.self end;
}

abbrev pub decreases-prefixes : goal.decreases-prefixes
decreases-prefixes l = length l.prefixes
