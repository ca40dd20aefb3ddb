use Rattle.std.proofs.Common.{◌≡◌, length, fold, drop}
use Rattle.spk_model.specs.Routing.{export}
use Rattle.host_interned.specs.Meaning.{Does, IsReady}
use Rattle.host_interned.specs.declared.routing.Core.{Core}
use Rattle.host_interned.proofs.routing.Core.export_all.Given as goal

-- what the prefixes that are left do after this does all
abbrev pub invariant-prefixes : goal.invariant-prefixes
invariant-prefixes l = record {
  ready : IsReady l.self;
  peers : length l.self.config.peers ≡ length l.fn.self.config.peers;
  comes : (end : Core)
      → Does (λ setup t. fold (λ u q. export setup l.sessions q u l.peer) t (drop l.prefix-index l.prefix-items))
      l.self end
      → Does (λ setup t. fold (λ u q. export setup l.sessions q u l.peer) t l.prefix-items) l.fn.self end;
}
