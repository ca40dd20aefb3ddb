-- What sending leaves of the links.
use Rattle.std.proofs.Common.{◌≡◌, ◌<◌, ◌-◌, ◌∙◌, ap, ℕ, List, [], ◌++◌, length, arith}
use Rattle.std.specs.Prelude.{slice_index_or}
use Rattle.std.specs.Vec.{with_item}
use Rattle.std.proofs.lemmas.List.{get_or_default}
use Rattle.xb_domain.specs.Outputs.{Output}
use Rattle.spk_model.specs.Turning.{put}
use Rattle.spk_session.specs.declared.links.Links.{Links}
use Rattle.spk_session.specs.Meaning.{HasPeer, IsEven}
use Rattle.spk_session.specs.Acting.{sent_to, rest_in}

-- the peers are numbered from 1
pub rest_inside : (l : Links) (p : ℕ) → IsEven l → HasPeer l p → p - 1 < length (l.rests).items
rest_inside l p even peer = omega (arith, even.rests, peer.0, peer.1)

-- a rest that was read, and then cleared, and a message left
pub sent_after_rest : (l : Links) (p : ℕ) (rest left piece : List ℕ) (first second : List Output) → IsEven l
    → HasPeer l p
    → rest ≡ slice_index_or (l.rests).items (p - 1) rest → left ≡ [] → first ≡ l.outputs ++ put p rest
    → second ≡ first ++ put p piece
    → record l { rests = with_item l.rests (p - 1) left; outputs = second } ≡ sent_to p piece l
sent_after_rest l p rest left piece first second even peer is cleared one two =
    let same : rest ≡ rest_in l p = is ∙ get_or_default (l.rests).items (p - 1) rest [] (rest_inside l p even peer) in
    ap (λ (x : List ℕ). record l { rests = with_item l.rests (p - 1) x; outputs = second }) cleared
    ∙ ap (λ (os : List Output). record l { rests = with_item l.rests (p - 1) []; outputs = os })
    (two ∙ ap (λ (os : List Output). os ++ put p piece) (one ∙ ap (λ (x : List ℕ). l.outputs ++ put p x) same))
