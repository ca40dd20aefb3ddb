-- The codes of a section, and the section that a chain at encode gives.
use Rattle.std.proofs.Common.{◌≡◌, ◌∙◌, refl, ap, ℕ, ◌+◌, Bool, true, false, List, [], ◌∷◌, cond}
use Rattle.std.proofs.Common.{length, map, Result, Ok, Err, ◌==◌, ◌||◌}
use Rattle.std.specs.Prelude.{IfSome, IsTrue}
use Rattle.xb_words.specs.Cut.{cut, walk, walk_from}
use Rattle.xb_domain.specs.declared.point.Point.TheVariants.{Encode}
use Rattle.bgp_attr.specs.declared.attrs.Overrun.{Overrun}
use Rattle.bgp_attr.specs.Attributes.{attribute_size, attr_code, codes_of}
use Rattle.bgp_attr.specs.Walks.{FoundAttr, found_attr, overrun, attributes_from}
use Rattle.bgp_check.specs.Judgement.{has_code}
use Rattle.bpf_machine.specs.declared.world.End.{End}
use Rattle.bpf_machine.specs.declared.world.End.TheVariants as ends
use Rattle.xbgp_helpers.specs.Worlds.{World}
use Rattle.xbgp_manifest.specs.declared.entries.ProgramEntry.{ProgramEntry}
use Rattle.xbgp_points.specs.declared.outcome.Outcome.{Outcome}
use Rattle.xbgp_points.specs.declared.outcome.Outcome.TheVariants.{Verdict, Native, Failed}
use Rattle.xbgp_points.specs.Chains.{Faults, Chained, after_program, chain_from, is_listed, is_sendable}
use Rattle.xbgp_points.specs.Chains.{output_fits, run_program}
use Rattle.xbgp_points.specs.Orders.{Leaves, Parts}
use Rattle.xbgp_points.specs.Points.{section_by}

-- whether an attribute of a code is still to come in a walk
abbrev pub to_come : ℕ → List (Result FoundAttr Overrun) → Bool
to_come code [] = false
to_come code (Err o ∷ steps) = false
to_come code (Ok a ∷ steps) = (a.code == code) || to_come code steps

to_come-walk : (code at : ℕ) (items : List (List ℕ)) (rest : List ℕ)
    → to_come code (walk found_attr overrun at items rest) ≡ has_code (map attr_code items) code
to_come-walk code at [] [] = refl
to_come-walk code at [] (b ∷ rest) = refl
to_come-walk code at (x ∷ items) rest =
    ap (λ (b : Bool). (attr_code x == code) || b) (to_come-walk code (at + length x) items rest)

-- all of them are to come at the start
pub to_come_section : (code : ℕ) (section : List ℕ)
    → to_come code (attributes_from 0 section) ≡ has_code (codes_of section) code
unfolding walk_from
to_come_section code section =
    to_come-walk code 0 (cut attribute_size section).items (cut attribute_size section).rest

-- a chain gives no section but one that may be sent
abbrev Sends : Chained → Type 0
Sends c = IfSome (section_by c.outcome (c.world).route (c.world).buffer) (λ s. IsTrue (is_sendable s))

sends-exit : (a b : Bool) (x y z : Chained) → (b ≡ true → Sends x) → Sends y → Sends z → Sends (cond a (cond b x y) z)
sends-exit true true x y z px py pz = px refl
sends-exit true false x y z px py pz = py
sends-exit false b x y z px py pz = pz

module _ (window : List ℕ) (before : World) (noted : Faults) where
  sends-after : (rest : World → Chained) (program : ℕ) (e : End) (w : World) → ((v : World) → Sends (rest v))
      → Sends (after_program rest Encode before noted program e w)
  sends-after rest program (ends.Exit r) w later =
      sends-exit (is_listed r) (output_fits Encode r w) _ _ _ (λ fits. fits) tt tt
  sends-after rest program ends.Next w later = later w
  sends-after rest program (ends.Failed cause) w later = tt

  pub chain-sends : (ps : List (ℕ × ProgramEntry)) (w : World) → Sends (chain_from Encode window before noted ps w)
  chain-sends [] w = tt
  chain-sends (p ∷ ps) w =
      let ended = run_program Encode window p.1 w in
      sends-after (chain_from Encode window before noted ps) p.0 ended.end ended.world (chain-sends ps)

-- what a chain gives is what it gives of the parts that it leaves
pub section-left : (c : Chained) (given : Outcome) (noted : Faults) (left : Parts) → Leaves c given noted left
    → section_by given left.route left.buffer ≡ section_by c.outcome (c.world).route (c.world).buffer
section-left c (Verdict v) noted left leaves =
    ap (λ (p : Parts). section_by (Verdict v) p.route p.buffer) (leaves.parts refl)
    ∙ ap (λ (o : Outcome). section_by o (c.world).route (c.world).buffer) leaves.outcome
section-left c Native noted left leaves =
    ap (λ (o : Outcome). section_by o (c.world).route (c.world).buffer) leaves.outcome
section-left c (Failed program cause) noted left leaves =
    ap (λ (o : Outcome). section_by o (c.world).route (c.world).buffer) leaves.outcome
