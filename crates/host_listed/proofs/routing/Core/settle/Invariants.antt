use Rattle.std.proofs.Common.{fold}
use Rattle.std.specs.List.{range_with_len}
use Rattle.spk_model.specs.Routing.{decide, export}
use Rattle.host_listed.specs.Meaning.{Does, IsLoaded}
use Rattle.host_listed.proofs.routing.Core.settle.Given as goal

-- the prefix was decided, its best route loaded, and the peers so far have had their export
abbrev pub invariant-peers : goal.invariant-peers
invariant-peers l = record {
  done : Does
      (λ setup t. fold (export setup l.sessions l.prefix) (decide setup l.sessions t l.prefix) (range_with_len 1 l.i))
      l.fn.self l.self;
  loaded : IsLoaded l.self l.prefix l.source;
}
