-- The peers one after another, and the octets of a path.
use Rattle.std.proofs.Common.{◌≡◌, ℕ, zero, suc, ◌+◌, ◌-◌, ◌*◌, ◌<◌, ◌≤◌, Bool, true, false, List, [], ◌∷◌, ◌++◌}
use Rattle.std.proofs.Common.{length, drop, flat_map, refl, ap, sym, subst, arith, add-one, append_assoc}
use Rattle.std.proofs.Common.{length-append}
use Rattle.std.proofs.Common.{Ok, Err, Some, None}
use Rattle.std.specs.Prelude.{◌==◌, if◌then◌else◌, nat_lt, Option, Result, IfSome, IsOk, OnOk}
use Rattle.std.specs.Option.{option_map}
use Rattle.std.proofs.Math.Dec.{eqb-suc-zero}
use Rattle.std.proofs.lemmas.Bool.{le-ltb, false≢true}
use Rattle.std.proofs.lemmas.List.{length-take}
use Rattle.xb_domain.specs.Events.{Event, drain}
use Rattle.xb_domain.specs.Views.{event_view}
use Rattle.xb_domain.specs.declared.event.Event as lent
use Rattle.bgp_attr.specs.Routes.{canonical}
use Rattle.xb_words.specs.Octets.{two_octets, four_octets}
use Rattle.xb_values.specs.Prefixes.{Prefix, prefix_octets, octets_for}
use Rattle.xbgp_config.specs.WorkConfig.{work_peer, work_peers, is_work_internal}
use Rattle.work_gen.specs.Draws.{draw}
use Rattle.work_gen.specs.declared.work.Told.{Told}
use Rattle.work_gen.specs.Work.{as_numbers, path_numbers, path_value, update, updates, well_known}
use Rattle.work_gen.specs.declared.step.Step.TheVariants as steps
use Rattle.work_gen.specs.Views.{path_front, told_view, drains_at, drains_after, after_session, to_come}

-- the peers after one
pub drop-work_peers : (p : ℕ) → p < 4 → drop p work_peers ≡ (p + 1) ∷ drop (p + 1) work_peers
drop-work_peers zero h = refl
drop-work_peers (suc zero) h = refl
drop-work_peers (suc (suc zero)) h = refl
drop-work_peers (suc (suc (suc zero))) h = refl
drop-work_peers (suc (suc (suc (suc k)))) h = absurd (omega (arith, h))

-- there is none after the last
pub drop-last_peer : (p : ℕ) → 4 ≤ p → p ≤ 4 → drop p work_peers ≡ []
drop-last_peer p least most = let last : p ≡ 4 = omega arith in rw last

-- the events after the session of a peer begin with the next one's session
pub after_session-more : (p x done left : ℕ) → p < 4
    → to_come (steps.Start (p + 1)) x done left ≡ after_session p x done left
after_session-more p x done left h = rw (drop-work_peers p h)

-- and with the updates after the last one's
pub after_session-last : (p x done left : ℕ) → 4 ≤ p → p ≤ 4
    → to_come steps.Update x done left ≡ after_session p x done left
after_session-last p x done left least most = rw (drop-last_peer p least most)

-- the drains after that of a peer begin with the next one's
pub drains_after-more : (p : ℕ) → p < 4 → drain (p + 1) ∷ drains_after (p + 1) ≡ drains_after p
drains_after-more p h = rw (drop-work_peers p h)

-- and there are none after the last one's
pub drains_after-last : (p : ℕ) → 4 ≤ p → p ≤ 4 → drains_after p ≡ []
drains_after-last p least most = rw (drop-last_peer p least most)

-- the updates from one on
pub updates-first : (x done left : ℕ) → 0 < left
    → updates x done left ≡ (update x).value ∷ drains_at (done + 1) ++ updates (update x).x (done + 1) (left - 1)
updates-first x done zero h = absurd (omega (arith, h))
updates-first x done (suc left) h = let less : suc left - 1 ≡ left = omega arith in rw less

-- a told event is of a peer, and so is the event that shows it
pub told-shown : (P : Event → Type 0) (e : Option lent.Event) (t : Option Told) (bytes : List ℕ)
    → option_map event_view e ≡ option_map (told_view bytes) t → IfSome t (λ t. P (told_view bytes t))
    → IfSome e (λ e. P (event_view e))
told-shown P None t bytes same h = tt
told-shown P (Some e) None bytes same h = absurd (cc same)
told-shown P (Some e) (Some t) bytes same h =
    let equal : event_view e ≡ told_view bytes t = cc same in subst P (sym equal) h

-- an attribute whose value has at most 255 octets
pub canonical-short : (code : ℕ) (value : List ℕ) → length value ≤ 255
    → canonical (well_known code value) ≡ 64 ∷ code ∷ length value ∷ value
canonical-short code value h = let short : nat_lt 255 (length value) ≡ false = le-ltb 255 (length value) h in rw short

-- a call that returns Ok leaves what it says of Ok
pub left_by_ok : {A E P : Type 0} (r : Result A E) → IsOk r → OnOk r P → P
left_by_ok (Ok x) ok left = left
left_by_ok (Err e) ok left = absurd (false≢true ok)

-- as many AS numbers are drawn as are asked for
pub length-as_numbers : (n x : ℕ) → length (as_numbers n x).value ≡ n
length-as_numbers zero x = refl
length-as_numbers (suc n) x = ap suc (length-as_numbers n (draw 64000 x).x)

-- each takes two octets
pub length-flat_map-two_octets : (ns : List ℕ) → length (flat_map two_octets ns) ≡ 2 * length ns
length-flat_map-two_octets [] = refl
length-flat_map-two_octets (n ∷ ns) =
    let ih = length-flat_map-two_octets ns in omega (arith, length-append (two_octets n) (flat_map two_octets ns), ih)

-- one more AS number is drawn, and appended
pub as_numbers-appended : (before : List ℕ) (n i x d y : ℕ) → i < n → d ≡ (draw 64000 x).value → y ≡ (draw 64000 x).x
    → (before ++ two_octets (1 + d)) ++ flat_map two_octets (as_numbers (n - (i + 1)) y).value
    ≡ before ++ flat_map two_octets (as_numbers (n - i) x).value
as_numbers-appended before n i x d y h value next =
    let more : n - i ≡ suc (n - (i + 1)) = omega arith in rw (more, value, next, append_assoc)

pub as_numbers-next : (n i x y : ℕ) → i < n → y ≡ (draw 64000 x).x
    → (as_numbers (n - (i + 1)) y).x ≡ (as_numbers (n - i) x).x
as_numbers-next n i x y h next = let more : n - i ≡ suc (n - (i + 1)) = omega arith in rw (more, next)

-- the octets of a path, by whether its peer is internal
path_by : (internal : Bool) (asn : ℕ) (ns : List ℕ)
    → (if internal then (if length ns == 0 then [] else 2 ∷ length ns ∷ []) else 2 ∷ (length ns + 1) ∷ two_octets asn)
    ++ flat_map two_octets ns
    ≡ path_value (if internal then ns else asn ∷ ns)
path_by true asn [] = refl
path_by true asn (n ∷ ns) = rw (eqb-suc-zero (length ns))
path_by false asn ns = rw add-one

-- a path is its front and the octets of the drawn numbers
pub path_front-path_value : (p n : ℕ) (ns : List ℕ) → length ns ≡ n
    → path_front p n ++ flat_map two_octets ns ≡ path_value (path_numbers p ns)
path_front-path_value p n ns e = subst
    (λ (m : ℕ). path_front p m ++ flat_map two_octets ns ≡ path_value (path_numbers p ns)) e
    (path_by (is_work_internal p) (work_peer p).asn ns)

-- the front has at most four octets
front_by : (internal none : Bool) (asn n : ℕ)
    → length (if internal then (if none then [] else 2 ∷ n ∷ []) else 2 ∷ (n + 1) ∷ two_octets asn) ≤ 4
front_by true true asn n = omega arith
front_by true false asn n = omega arith
front_by false none asn n = omega arith

pub length-path_front : (p n : ℕ) → length (path_front p n) ≤ 4
length-path_front p n = front_by (is_work_internal p) (n == 0) (work_peer p).asn n

-- a prefix has at most five octets
pub length-prefix_octets : (p : Prefix) → length (prefix_octets p) ≤ 5
length-prefix_octets p = omega (arith, length-take (octets_for p.len) (four_octets p.addr))
