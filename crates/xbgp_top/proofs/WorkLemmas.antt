-- Generated events that are played one after another, and the octets that are counted.
use Rattle.std.proofs.Common.{◌≡◌, ℕ, suc, ◌+◌, ◌-◌, ◌*◌, ◌^◌, ◌<◌, ◌≤◌, min, inl, inr, List, [], ◌∷◌, ◌++◌, length}
use Rattle.std.proofs.Common.{drop, map, flat_map, Option, Some, None, refl, sym, ◌∙◌, ap, subst, arith, append_assoc}
use Rattle.std.proofs.Common.{length-append, slice_set}
use Rattle.std.specs.Prelude.{Bool, codes, fold, if◌then◌else◌}
use Rattle.std.specs.Cmp.{IsTotalOrder}
use Rattle.std.specs.List.{slice_index_or}
use Rattle.std.specs.declared.cmp.Ordering.{Ordering}
use Rattle.std.proofs.lemmas.Bool.Decides.{eqb_tells}
use Rattle.std.proofs.lemmas.Grind.{get_or-set_at}
use Rattle.std.proofs.lemmas.List.{get_or-set_other, length-set}
use Rattle.xb_words.specs.Table.{entry_after, entries_after, first_of, IsRising}
use Rattle.xb_words.proofs.TableLemmas.{entries_after-none, entries_after-some}
use Rattle.xb_values.specs.Buffers.{Buffer}
use Rattle.xb_domain.specs.declared.output.Packing.{Packing}
use Rattle.xb_domain.specs.Events.{Event}
use Rattle.xb_domain.specs.Outputs.{Output, came_up, went_down, sent}
use Rattle.xbgp_config.specs.WorkConfig.{work_peers}
use Rattle.work_gen.specs.Work.{work_events}
use Rattle.work_gen.proofs.WorkLemmas.{drop-work_peers}
use Rattle.spk_model.specs.declared.host.Setup.{Setup}
use Rattle.spk_model.specs.Reports.{end_line}
use Rattle.spk_model.specs.Routing.{tables_of}
use Rattle.spk_model.specs.Turning.{Speaker, Happened, event, history, start_of}
use Rattle.xbgp_top.specs.Summaries.{capped, count_line, counted, counted_all, octets_to, peer_line, sent_to}
use Rattle.xbgp_top.specs.Summaries.{shown_peer_line, shown_summary, summary, work_setup, work_text}

-- what happens at the first event, and then at those after it
abbrev pub first_then : Happened → Happened → Happened
first_then first others = record { speaker = others.speaker; outputs = first.outputs ++ others.outputs }

-- a history begins with its first event
pub history-first : (rule : Packing) (setup : Setup) (s : Speaker) (es : List Event) (e : Event) → first_of es ≡ Some e
    → history rule setup s es
    ≡ first_then (event rule setup s e) (history rule setup (event rule setup s e).speaker (drop 1 es))
unfolding history
history-first rule setup s [] e is = absurd (cc is)
history-first rule setup s (x ∷ es) e is =
    let same : x ≡ e = cc is in
    ap (λ (y : Event). first_then (event rule setup s y) (history rule setup (event rule setup s y).speaker es)) same

-- outputs are counted one list after another
pub counted_all-append : (counts : List ℕ) (first others : List Output)
    → counted_all counts (first ++ others) ≡ counted_all (counted_all counts first) others
counted_all-append counts first others = by first others counts
  where
    by : (first others : List Output) (counts : List ℕ)
        → counted_all counts (first ++ others) ≡ counted_all (counted_all counts first) others
    by [] others counts = refl
    by (o ∷ first) others counts = by first others (counted counts o)

-- a history of no events
pub history-none : (rule : Packing) (setup : Setup) (s : Speaker) (es : List Event) → None ≡ first_of es
    → history rule setup s es ≡ record { speaker = s; outputs = [] }
unfolding history
history-none rule setup s [] is = refl
history-none rule setup s (x ∷ es) is = absurd (cc is)

-- a history goes on after its first event, which a host of the same setup took
pub history_then : (rule : Packing) (built setup : Setup) (s next : Speaker) (es rest : List Event) (e : Event)
    → built ≡ setup → Some e ≡ first_of es → rest ≡ drop 1 es → next ≡ (event rule built s e).speaker
    → history rule setup s es ≡ first_then (event rule built s e) (history rule setup next rest)
history_then rule built setup s next es rest e same first left after =
    history-first rule setup s es e (sym first)
    ∙ ap (λ (x : Setup). first_then (event rule x s e) (history rule setup (event rule x s e).speaker (drop 1 es)))
    (sym same)
    ∙ ap (λ (x : Speaker). first_then (event rule built s e) (history rule setup x (drop 1 es))) (sym after)
    ∙ ap (λ (l : List Event). first_then (event rule built s e) (history rule setup next l)) (sym left)

-- ---- counts that stay at the end of their type

one_more : (most count left more next : ℕ) → next ≡ min (count + 1) most → more ≡ suc left
    → min (next + left) most ≡ min (count + more) most
one_more most count left more next is one = omega (arith, is, one)

no_more : (most count left all : ℕ) → count ≤ most → left ≡ 0 → min (count + left) most ≡ min all most
    → count ≡ min all most
no_more most count left all within none is = omega (arith, within, none, is)

at_most : (most n count : ℕ) → count ≡ min n most → count ≤ most
at_most most n count is = omega (arith, is)

added : (most n k : ℕ) → min (min n most + k) most ≡ min (n + k) most
added most n k = omega arith

-- a count is within its type
pub within_type : (n count : ℕ) → count ≡ capped n → count ≤ 2 ^ 64 - 1
within_type n count is = at_most (2 ^ 64 - 1) n count is

module _ {K X : Type 0} (c : K → K → Ordering) (o : IsTotalOrder c) where
  -- the next entry was counted
  pub counted_next : (es : List (K × X)) (after : Option K) (e : K × X) (count next : ℕ) → IsRising c es
      → entry_after c es after ≡ Some e → next ≡ capped (count + 1)
      → capped (count + length (entries_after c es after)) ≡ capped (length es)
      → capped (next + length (entries_after c es (Some e.0))) ≡ capped (length es)
  counted_next es after e count next rising is more so_far =
      one_more (2 ^ 64 - 1) count (length (entries_after c es (Some e.0))) (length (entries_after c es after)) next more
      (ap length (entries_after-some c o es after e rising is))
      ∙ so_far

  -- all entries were counted
  pub counted_last : (es : List (K × X)) (after : Option K) (count : ℕ) → count ≤ 2 ^ 64 - 1
      → entry_after c es after ≡ None
      → capped (count + length (entries_after c es after)) ≡ capped (length es)
      → count ≡ capped (length es)
  counted_last es after count within is so_far =
      no_more (2 ^ 64 - 1) count (length (entries_after c es after)) (length es) within
      (ap length (entries_after-none c o es after is))
      so_far

-- ---- the octets that each peer is sent

length-counted : (counts : List ℕ) (o : Output) → length (counted counts o) ≡ length counts
length-counted counts (came_up q) = refl
length-counted counts (went_down q) = refl
length-counted counts (sent q octets) =
    length-set counts q (capped (slice_index_or counts q 0 + length octets))

none_more : (n : ℕ) → n ≡ n + 0
none_more n = omega arith

-- a peer's count after an output
counted_at : (counts : List ℕ) (o : Output) (p n : ℕ) → p < length counts → slice_index_or counts p 0 ≡ capped n
    → slice_index_or (counted counts o) p 0 ≡ capped (n + octets_to p o)
counted_at counts (came_up q) p n within is = is ∙ ap capped (none_more n)
counted_at counts (went_down q) p n within is = is ∙ ap capped (none_more n)
counted_at counts (sent q octets) p n within is =
    let new = capped (slice_index_or counts q 0 + length octets) in
    elim (eqb_tells p q)
    as (λ _. slice_index_or (slice_set counts q new) p 0 ≡ capped (n + octets_to p (sent q octets))) [
      | inl same ↦
          let its : octets_to p (sent q octets) ≡ length octets =
          ap (λ (b : Bool). if b then length octets else 0) same.0 in
          get_or-set_at counts q p new 0 same.1 (subst (λ (k : ℕ). k < length counts) same.1 within)
          ∙ ap (λ (k : ℕ). capped (slice_index_or counts k 0 + length octets)) (sym same.1)
          ∙ ap (λ (k : ℕ). capped (k + length octets)) is
          ∙ added (2 ^ 64 - 1) n (length octets)
          ∙ ap (λ (k : ℕ). capped (n + k)) (sym its)
      | inr other ↦
          let its : octets_to p (sent q octets) ≡ 0 =
          ap (λ (b : Bool). if b then length octets else 0) other.0 in
          get_or-set_other counts q p new 0 other.1
          ∙ is ∙ ap capped (none_more n) ∙ ap (λ (k : ℕ). capped (n + k)) (sym its)
    ]

-- a peer's count after outputs
counted_all_at : (outputs : List Output) (counts : List ℕ) (p n : ℕ) → p < length counts
    → slice_index_or counts p 0 ≡ capped n
    → slice_index_or (counted_all counts outputs) p 0 ≡ capped (fold (λ a x. a + x) n (map (octets_to p) outputs))
counted_all_at [] counts p n within is = is
counted_all_at (o ∷ outputs) counts p n within is =
    counted_all_at outputs (counted counts o) p (n + octets_to p o)
    (subst (λ (k : ℕ). p < k) (sym (length-counted counts o)) within)
    (counted_at counts o p n within is)

-- no octets are counted at first
abbrev pub no_counts : List ℕ
no_counts = 0 ∷ 0 ∷ 0 ∷ 0 ∷ 0 ∷ []

-- the lines of the four peers
abbrev four_lines : Speaker → ℕ → ℕ → ℕ → ℕ → List ℕ
four_lines s a b c d =
    let shown : ℕ → ℕ → List ℕ = λ p n. shown_peer_line p (capped (length (tables_of s.routing p).adv)) n in
    shown 1 a ++ (shown 2 b ++ (shown 3 c ++ (shown 4 d ++ [])))

-- they depend on the peers' counts alone
same_lines : (s : Speaker) (f g : ℕ → ℕ) → f 1 ≡ g 1 → f 2 ≡ g 2 → f 3 ≡ g 3 → f 4 ≡ g 4
    → flat_map (peer_line s f) work_peers ≡ flat_map (peer_line s g) work_peers
same_lines s f g first second third fourth =
    ap (λ (n : ℕ). four_lines s n (f 2) (f 3) (f 4)) first
    ∙ ap (λ (n : ℕ). four_lines s (g 1) n (f 3) (f 4)) second
    ∙ ap (λ (n : ℕ). four_lines s (g 1) (g 2) n (f 4)) third
    ∙ ap (λ (n : ℕ). four_lines s (g 1) (g 2) (g 3) n) fourth

-- what was counted is what was sent
pub summary_counted : (count : ℕ) (h : Happened)
    → shown_summary count h.speaker (counted_all no_counts h.outputs) ≡ summary count h
summary_counted count h =
    ap (λ (lines : List ℕ). count_line (codes "updates") count
    ++ (count_line (codes "routes") (capped (length ((h.speaker).routing).best)) ++ (lines ++ end_line)))
    (same_lines h.speaker (λ p. slice_index_or (counted_all no_counts h.outputs) p 0)
    (λ p. capped (sent_to p h.outputs))
    (counted_all_at h.outputs no_counts 1 0 (omega arith) refl)
    (counted_all_at h.outputs no_counts 2 0 (omega arith) refl)
    (counted_all_at h.outputs no_counts 3 0 (omega arith) refl)
    (counted_all_at h.outputs no_counts 4 0 (omega arith) refl))

-- the lines of what was played
lines_of_played : (count : ℕ) (h : Happened) (last : Speaker) (counts text : List ℕ)
    → last ≡ h.speaker → counts ≡ counted_all no_counts h.outputs → text ≡ shown_summary count last counts
    → summary count h ≡ text
lines_of_played count h last counts text speaker outputs is =
    sym (is ∙ ap (λ (s : Speaker). shown_summary count s counts) speaker
    ∙ ap (shown_summary count h.speaker) outputs ∙ summary_counted count h)

-- the events that were played are those that a number gives
pub work_shown : (rule : Packing) (number count : ℕ) (setup : Setup) (first last : Speaker) (work : List Event)
    (counts text : List ℕ)
    → setup ≡ work_setup → first ≡ start_of setup → work ≡ work_events number count
    → last ≡ (history rule work_setup first work).speaker
    → counts ≡ counted_all no_counts (history rule work_setup first work).outputs
    → text ≡ shown_summary count last counts
    → work_text rule number count ≡ text
unfolding work_text
work_shown rule number count setup first last work counts text same begins events speaker outputs is =
    let played : history rule work_setup first work
    ≡ history rule work_setup (start_of work_setup) (work_events number count) =
    ap (λ (s : Speaker). history rule work_setup s work) (begins ∙ ap start_of same)
    ∙ ap (history rule work_setup (start_of work_setup)) events in
    lines_of_played count (history rule work_setup (start_of work_setup) (work_events number count)) last counts text
    (speaker ∙ ap (λ (h : Happened). h.speaker) played)
    (outputs ∙ ap (λ (h : Happened). counted_all no_counts h.outputs) played) is

-- ---- lines that are appended

-- a buffer has at most so many octets more than another, and the same room
abbrev pub IsLonger : Buffer → ℕ → Buffer → Type 0
IsLonger old n new = (length new.octets ≤ length old.octets + n) × (new.capacity ≡ old.capacity)

longer_by : (whole old n more k new : ℕ) → new ≡ old + more → more ≤ k → old ≤ whole + n → new ≤ whole + (n + k)
longer_by whole old n more k new is short so_far = omega (arith, is, short, so_far)

-- octets were appended
pub longer : (first old new : Buffer) (octets : List ℕ) (n k : ℕ)
    → new ≡ record old { octets = old.octets ++ octets } → length octets ≤ k → IsLonger first n old
    → IsLonger first (n + k) new
longer first old new octets n k is short so_far = (
  longer_by (length first.octets) (length old.octets) n (length octets) k (length new.octets)
      (ap (λ (b : Buffer). length b.octets) is ∙ length-append old.octets octets) short so_far.0,
  ap (λ (b : Buffer). b.capacity) is ∙ so_far.1,
)

-- there is room for what follows
pub room_for : (first new : Buffer) (n k all : ℕ) → IsLonger first n new → n + k ≤ all
    → length first.octets + all ≤ first.capacity → length new.octets + k ≤ new.capacity
room_for first new n k all grown less room = omega (arith, grown.0, grown.1, less, room)

-- the line of the next peer was appended
pub peer_appended : (s : Speaker) (f : ℕ → ℕ) (i : ℕ) (old new : Buffer) (advertised octets : ℕ) (whole : List ℕ)
    → i < 4 → new ≡ record old { octets = old.octets ++ shown_peer_line (i + 1) advertised octets }
    → advertised ≡ capped (length (tables_of s.routing (i + 1)).adv) → octets ≡ f (i + 1)
    → old.octets ++ (flat_map (peer_line s f) (drop i work_peers) ++ end_line) ≡ whole
    → new.octets ++ (flat_map (peer_line s f) (drop (i + 1) work_peers) ++ end_line) ≡ whole
peer_appended s f i old new advertised octets whole less is known counts so_far =
    let rest = flat_map (peer_line s f) (drop (i + 1) work_peers) in
    let same : shown_peer_line (i + 1) advertised octets ≡ peer_line s f (i + 1) =
    ap (λ (n : ℕ). shown_peer_line (i + 1) n octets) known
    ∙ ap (λ (n : ℕ). shown_peer_line (i + 1) (capped (length (tables_of s.routing (i + 1)).adv)) n) counts in
    ap (λ (b : Buffer). b.octets ++ (rest ++ end_line)) is
    ∙ append_assoc old.octets (shown_peer_line (i + 1) advertised octets) (rest ++ end_line)
    ∙ ap (λ (l : List ℕ). old.octets ++ (l ++ (rest ++ end_line))) same
    ∙ ap (λ (l : List ℕ). old.octets ++ l) (sym (append_assoc (peer_line s f (i + 1)) rest end_line))
    ∙ ap (λ (l : List ℕ). old.octets ++ (flat_map (peer_line s f) l ++ end_line)) (sym (drop-work_peers i less))
    ∙ so_far

-- there is room for the lines of the other peers
pub room_after : (i old new room left : ℕ) → i < 4 → new ≤ old + 68 → left ≡ room → old + 68 * (4 - i) + 4 ≤ room
    → new + 68 * (4 - (i + 1)) + 4 ≤ left
room_after i old new room left less grown same fits = omega (arith, less, grown, same, fits)
