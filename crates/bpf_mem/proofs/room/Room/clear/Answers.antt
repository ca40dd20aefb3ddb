use Rattle.std.proofs.Common.{rules, arith, ◌≡◌, ◌∙◌, ap, length, replicate, ℕ}
use Rattle.std.proofs.lemmas.List.{length-replicate}
use Rattle.bpf_mem.proofs.PartLemmas.{zeros-cleared}
use Rattle.bpf_mem.proofs.room.Room.clear.Goals as goal

pub returns : goal.returns
returns c =
    let os = c.self.inside.octets in
    let len : os.len ≡ length os.items = omega (arith, os.ok, c.self.invariant.0) in
    let part : length c.slice_mut.result.now ≡ c.self.inside.written = omega (arith, c.slice_mut.ensures.len) in
    let zeros = c.fill.ensures.after (λ y e. search rules) ∙ ap (λ n. replicate n 0) part in
    rw (len, zeros) (zeros-cleared os.items c.self.inside.written 8704 c.self.invariant.0 c.self.invariant.1.0 c.self.invariant.1.1)

pub invariant_of-self : goal.invariant_of-self
invariant_of-self c = (ap (λ l. length l) (returns c) ∙ length-replicate {A = ℕ} 8704 0, (omega arith, returns c))
