use Rattle.std.proofs.Common.{◌≡◌, fold, take}
use Rattle.spk_model.specs.Turning.{act}
use Rattle.spk_session.specs.Meaning.{core_of, Does}
use Rattle.spk_session.specs.Acting.{closes, flags_after}
use Rattle.spk_session.proofs.react.act_all.Given as goal

-- the first acts were done
abbrev pub invariant-acts : goal.invariant-acts
invariant-acts g l = record {
  does : Does (λ setup t. fold (act setup l.peer l.extra) t (take l.i l.acts))
      (core_of (g.R.Routes.built_from l.fn.routes) (g.R.Routes.routing l.fn.routes) l.fn.links)
      (core_of (g.R.Routes.built_from l.routes) (g.R.Routes.routing l.routes) l.links);
  sessions : l.links.sessions ≡ l.fn.links.sessions;
  flags : l.links.dropped.items ≡ flags_after l.peer (closes (take l.i l.acts)) l.fn.links.dropped.items;
}
