use Rattle.std.proofs.Common.{◌≡◌, ◌≤◌, ◌<◌, ◌-◌, sym, ◌∙◌, ap, List, ℕ, ◌+◌, ◌++◌, length, take, arith}
use Rattle.std.proofs.Common.{min}
use Rattle.std.proofs.lemmas.List.{length-drop}
use Rattle.bgp_frame.specs.declared.frames.TheConstants.{MAX_WAITING}
use Rattle.bgp_frame.specs.Waiting.{Waiting}
use Rattle.spk_session.specs.Meaning.{core_of}
use Rattle.spk_session.proofs.TakeLemmas.{ignored}
use Rattle.spk_session.proofs.LoopLemmas.{by_closed, by_all, piece_on, piece_closed, piece_done, open_then}
use Rattle.spk_session.proofs.LoopLemmas.{fed_some, fed_most, to_end}
use Rattle.spk_session.proofs.wire.octets_in.Goals as goal

pub returns-then-not-lives : goal.returns-then-not-lives
returns-then-not-lives g c =
    let p = c.args.peer in
    let piece = c.args.piece.now in
    let a = core_of (g.R.Routes.built_from c.args.routes.now) (g.R.Routes.routing c.args.routes.now) c.args.links.now in
    ignored a p c.args.frames.now.waits piece c.requires.ready c.requires.calm (sym c.if-not-lives.ensures)
    c.requires.drained

pub returns-then-not-branch : goal.returns-then-not-branch
returns-then-not-branch g c =
    let p = c.args.peer in
    let piece = c.args.piece.now in
    let a = core_of (g.R.Routes.built_from c.args.routes.now) (g.R.Routes.routing c.args.routes.now) c.args.links.now in
    let b = core_of (g.R.Routes.built_from c.pieces.routes) (g.R.Routes.routing c.pieces.routes) c.pieces.links in
    let d = core_of (g.R.Routes.built_from c.take_all.new.routes) (g.R.Routes.routing c.take_all.new.routes)
    c.take_all.new.links in
    let fed = ap (λ (f : Waiting). f.waits) c.feed.ensures.after
    ∙ ap (λ (l : List ℕ). c.pieces.frames.waits ++ take c.feed.result l) (to_end c.pieces.at piece) in
    let k = by_closed c.in_ok-take_all.field-0 p c.feed.new.self.waits b c.take_all.new.frames.waits d
    c.if-not-branch.true c.in_ok-take_all.ensures in
    piece_closed p c.pieces.at c.feed.result c.args.frames.now.waits c.pieces.frames.waits c.feed.new.self.waits
    c.take_all.new.frames.waits piece a b d c.requires.calm (sym c.if-not-lives.ensures) c.pieces.invariant.comes fed k

pub returns-then-at-piece : goal.returns-then-at-piece
returns-then-at-piece g c =
    let p = c.args.peer in
    let piece = c.args.piece.now in
    let a = core_of (g.R.Routes.built_from c.args.routes.now) (g.R.Routes.routing c.args.routes.now) c.args.links.now in
    let b = core_of (g.R.Routes.built_from c.pieces.routes) (g.R.Routes.routing c.pieces.routes) c.pieces.links in
    let d = core_of (g.R.Routes.built_from c.take_all.new.routes) (g.R.Routes.routing c.take_all.new.routes)
    c.take_all.new.links in
    let fed = ap (λ (f : Waiting). f.waits) c.feed.ensures.after
    ∙ ap (λ (l : List ℕ). c.pieces.frames.waits ++ take c.feed.result l) (to_end c.pieces.at piece) in
    let i = c.pieces.invariant in
    let k = by_all c.in_ok-take_all.field-0 p c.feed.new.self.waits b c.take_all.new.frames.waits d
    c.if-not-branch.false c.in_ok-take_all.ensures in
    let comes = piece_on p c.pieces.at c.feed.result c.args.frames.now.waits c.pieces.frames.waits
    c.feed.new.self.waits c.take_all.new.frames.waits piece a b d i.comes fed k in
    piece_done p (c.pieces.at + c.feed.result) c.args.frames.now.waits c.take_all.new.frames.waits piece a d
    c.requires.calm (sym c.if-not-lives.ensures) comes (omega (arith, c.if-at-piece.true))
    (open_then p a b d i.open' k.open') k.drained

pub pieces-preserved : goal.pieces-preserved
pieces-preserved g c =
    let p = c.args.peer in
    let piece = c.args.piece.now in
    let a = core_of (g.R.Routes.built_from c.args.routes.now) (g.R.Routes.routing c.args.routes.now) c.args.links.now in
    let b = core_of (g.R.Routes.built_from c.pieces.routes) (g.R.Routes.routing c.pieces.routes) c.pieces.links in
    let d = core_of (g.R.Routes.built_from c.take_all.new.routes) (g.R.Routes.routing c.take_all.new.routes)
    c.take_all.new.links in
    let fed = ap (λ (f : Waiting). f.waits) c.feed.ensures.after
    ∙ ap (λ (l : List ℕ). c.pieces.frames.waits ++ take c.feed.result l) (to_end c.pieces.at piece) in
    let i = c.pieces.invariant in
    let k = by_all c.in_ok-take_all.field-0 p c.feed.new.self.waits b c.take_all.new.frames.waits d
    c.if-not-branch.false c.in_ok-take_all.ensures in
    let size = length piece in
    let left : c.pieces.i < size = omega (arith, c.pieces-test.true) in
    let room : 1 ≤ MAX_WAITING - length c.pieces.frames.waits = omega (arith, i.drained.short) in
    let count : c.feed.result ≡ min (size - c.pieces.at) (MAX_WAITING - length c.pieces.frames.waits) =
    c.feed.ensures.taken
    ∙ ap (λ (l : List ℕ). min (length l) (MAX_WAITING - length c.pieces.frames.waits)) (to_end c.pieces.at piece)
    ∙ ap (λ (n : ℕ). min n (MAX_WAITING - length c.pieces.frames.waits)) (length-drop c.pieces.at piece) in
    record {
      far = fed_some c.pieces.at c.pieces.i size (MAX_WAITING - length c.pieces.frames.waits) c.feed.result i.far
          i.inside left room count;
      inside = fed_most c.pieces.at size (MAX_WAITING - length c.pieces.frames.waits) c.feed.result i.inside count;
      open' = open_then p a b d i.open' k.open';
      drained = k.drained;
      comes = piece_on p c.pieces.at c.feed.result c.args.frames.now.waits c.pieces.frames.waits c.feed.new.self.waits
          c.take_all.new.frames.waits piece a b d i.comes fed k;
    }

pub returns : goal.returns
returns g c =
    let p = c.args.peer in
    let piece = c.args.piece.now in
    let a = core_of (g.R.Routes.built_from c.args.routes.now) (g.R.Routes.routing c.args.routes.now) c.args.links.now in
    let b = core_of (g.R.Routes.built_from c.pieces.routes) (g.R.Routes.routing c.pieces.routes) c.pieces.links in
    let i = c.pieces.invariant in
    let done : length piece ≤ c.pieces.at = omega (arith, c.pieces-test.false, i.far) in
    piece_done p c.pieces.at c.args.frames.now.waits c.pieces.frames.waits piece a b c.requires.calm
    (sym c.if-not-lives.ensures) i.comes done i.open' i.drained
