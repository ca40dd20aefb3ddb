use Rattle.std.proofs.Common.{sym, ◌∙◌}
use Rattle.bpf_insn.specs.Helpers.{allows}
use Rattle.bpf_insn.specs.Sound.{IsAccepted}
use Rattle.bpf_insn.proofs.LoadLemmas.{IsAccepted-load_fault, CallsOnly-load_fault}
use Rattle.bpf_insn.proofs.code.load.Goals as goal

pub decode_all-requires : goal.decode_all-requires
decode_all-requires c =
    let none = sym c.in_ok-fault.ensures ∙ c.in_default.is in
    let accepted : IsAccepted c.args.bytes.now = IsAccepted-load_fault (allows c.args.allowed.now) _ none in
    accepted.whole

pub invariant_of-result : goal.invariant_of-result
invariant_of-result c =
    let none = sym c.in_ok-fault.ensures ∙ c.in_default.is in
    rw c.in_ok-octets.ensures.items (
      IsAccepted-load_fault (allows c.args.allowed.now) c.args.bytes.now none,
      c.in_ok-insns.ensures,
    )

pub returns-clause-calls : goal.returns-clause-calls
returns-clause-calls c =
    let none = sym c.in_ok-fault.ensures ∙ c.in_default.is in
    rw c.in_ok-octets.ensures.items (CallsOnly-load_fault (allows c.args.allowed.now) c.args.bytes.now none)
