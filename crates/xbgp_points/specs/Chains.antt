-- A chain: the programs of a point in the manifest's order, each on the edits of those before it (this project's own).
use Rattle.std.specs.Prelude.{ℕ, ◌+◌, Bool, true, false, List, [], ◌∷◌, ◌++◌, length, filter, nat_le, ◌==◌}
use Rattle.std.specs.Prelude.{◌&&◌, ◌||◌, if◌then◌else◌}
use Rattle.std.specs.declared.cmp.Ordering.{Ordering}
use Rattle.std.specs.Ordering.{nat_cmp, ordering_then}
use Rattle.xb_words.specs.Table.{with_key}
use Rattle.xb_domain.specs.declared.point.Point.{Point}
use Rattle.xb_domain.specs.declared.point.Point.TheVariants.{Receive, Inbound, Decision, Outbound, Encode}
use Rattle.xb_wire.specs.declared.numbers.TheConstants.{MAX_SECTION}
use Rattle.bgp_attr.specs.Routes.{Route}
use Rattle.bgp_check.specs.Judgement.{is_clean}
use Rattle.spk_native.specs.Export.{native_section}
use Rattle.bpf_mem.specs.Memory.{fresh}
use Rattle.bpf_machine.specs.declared.world.Cause.{Cause}
use Rattle.bpf_machine.specs.declared.world.Cause.TheVariants as causes
use Rattle.bpf_machine.specs.declared.world.End.{End}
use Rattle.bpf_machine.specs.declared.world.End.TheVariants as ends
use Rattle.bpf_machine.specs.Running.{Ended, bpf}
use Rattle.xbgp_helpers.specs.Worlds.{World}
use Rattle.xbgp_helpers.specs.Helping.{help}
use Rattle.xbgp_manifest.specs.Manifests.{Manifest}
use Rattle.xbgp_manifest.specs.declared.entries.ProgramEntry.{ProgramEntry}
use Rattle.xbgp_points.specs.declared.outcome.Outcome.{Outcome}
use Rattle.xbgp_points.specs.declared.outcome.Outcome.TheVariants.{Verdict, Native, Failed}

-- every program said next, or there is none
abbrev pub is_native : Outcome → Bool
is_native Native = true
is_native (Verdict v) = false
is_native (Failed program cause) = false

-- a program failed
abbrev pub is_failed : Outcome → Bool
is_failed (Failed program cause) = true
is_failed (Verdict v) = false
is_failed Native = false

-- the faults that were noted: a set, by the program's number and then by cause
abbrev pub Faults : Type 0
Faults = List (ℕ × Cause)

-- the order of causes
abbrev pub cause_number : Cause → ℕ
cause_number causes.Memory = 0
cause_number causes.Fuel = 1
cause_number causes.Misuse = 2
cause_number causes.BadReturn = 3
cause_number causes.BadOutput = 4

-- the order of faults
abbrev pub fault_cmp : ℕ × Cause → ℕ × Cause → Ordering
fault_cmp a b = ordering_then (nat_cmp a.0 b.0) (nat_cmp (cause_number a.1) (cause_number b.1))

-- the set with one fault more
abbrev pub with_fault : Faults → ℕ → Cause → Faults
with_fault faults program cause = with_key fault_cmp faults (program, cause)

-- a chain's outcome, and what it leaves
pub record Chained : Type 0 where
  pub outcome : Outcome
  pub world : World
  pub faults : Faults

-- the order of points
abbrev pub point_number : Point → ℕ
point_number Receive = 0
point_number Inbound = 1
point_number Decision = 2
point_number Outbound = 3
point_number Encode = 4

-- whether two points are one
abbrev pub same_point : Point → Point → Bool
same_point p q = point_number p == point_number q

-- programs with their numbers, from one number on
abbrev pub numbered : ℕ → List ProgramEntry → List (ℕ × ProgramEntry)
numbered n [] = []
numbered n (p ∷ ps) = (n, p) ∷ numbered (n + 1) ps

-- the programs of a point, with their numbers
abbrev pub programs_at : Manifest → Point → List (ℕ × ProgramEntry)
programs_at manifest point = filter (λ p. same_point (p.1).point point) (numbered 0 manifest.programs)

-- the results that every point lists: 1 is keep, accept, the old route or replace; 2 is drop, reject, the new route or
-- append
abbrev pub is_listed : ℕ → Bool
is_listed r = r == 1 || r == 2

-- the section that a verdict at encode gives: the write buffer, or the native section followed by it
abbrev pub encoded : ℕ → Route → List ℕ → List ℕ
encoded v route buffer = if v == 1 then buffer else native_section route ++ buffer

-- a section that programs may give, before it takes its session's form
abbrev pub is_sendable : List ℕ → Bool
is_sendable section = nat_le (length section) MAX_SECTION && is_clean section

-- a verdict at encode gives a section that may be sent
abbrev pub output_fits : Point → ℕ → World → Bool
output_fits Encode v world = is_sendable (encoded v world.route world.buffer)
output_fits Receive v world = true
output_fits Inbound v world = true
output_fits Decision v world = true
output_fits Outbound v world = true

-- a program fails: all is as before the chain, and the fault is noted
abbrev pub failed : World → Faults → ℕ → Cause → Chained
failed before faults program cause =
    record { outcome = Failed program cause; world = before; faults = with_fault faults program cause }

-- a program exits with a number
abbrev pub exited : Point → World → Faults → ℕ → ℕ → World → Chained
exited point before faults program r world =
    if is_listed r then
    (if output_fits point r world then record { outcome = Verdict r; world = world; faults = faults }
    else failed before faults program causes.BadOutput)
    else failed before faults program causes.BadReturn

-- a run of one program: it has fresh registers, stack, heap and fuel, and what it took of the heap is free afterwards
abbrev pub run_program : Point → List ℕ → ProgramEntry → World → Ended World
run_program point window p world =
    let ended = bpf (help point) p.code (fresh window) p.fuel world in
    record ended { world = record (ended.world) { mark = 0 } }

-- how a chain goes on after a program; the rest is what the programs after it do
abbrev pub after_program : (World → Chained) → Point → World → Faults → ℕ → End → World → Chained
after_program rest point before faults program (ends.Exit r) world = exited point before faults program r world
after_program rest point before faults program ends.Next world = rest world
after_program rest point before faults program (ends.Failed cause) world = failed before faults program cause

-- the chain of some programs, on the world that those before them left
abbrev pub chain_from : Point → List ℕ → World → Faults → List (ℕ × ProgramEntry) → World → Chained
chain_from point window before faults [] world = record { outcome = Native; world = world; faults = faults }
chain_from point window before faults (p ∷ ps) world =
    let ended = run_program point window p.1 world in
    after_program (chain_from point window before faults ps) point before faults p.0 ended.end ended.world

-- the chain of a point, on a world of which no heap is taken
unfoldable pub chain : Manifest → Point → List ℕ → World → Faults → Chained
chain manifest point window world faults = chain_from point window world faults (programs_at manifest point) world
