-- `range_mut` passes on what `octets_mut` lends if the range may be written, and otherwise lends nothing. This is a proof by hand, statement by statement.
use Rattle.std.proofs.Common.{◌≡◌, ℕ, ◌<◌, ◌^◌, List, [], ◌∷◌, refl, sym, ap, ◌∙◌, lit<, MutBor, true, false, length}
use Rattle.std.proofs.Common.{Some, None, is_some, IsSome}
use Rattle.std.proofs.raw_atomic.Walks.{proved}
use seplogic.Ra.Ura.{Ura}
use mathlib.Core.Bool.{Bool, not, true≢false}
use lib.Dec.{T}
use base.Logic.{ent, emp, id⊢}
use base.Fml.{ftrue, fres}
use mir.Syntax.{w64, named}
use mir.Val.{Val, vint, of_list}
use contract.Lifetimes.{Lfts}
use contract.Monad.{fact, fact_i}
use contract.Running.{tables}
use types.Logic.{Logic, sem}
use types.Kit.{‵, raw, ◌⊛◌, some, later, at_ret, ◌$◌, ◌∵◌, !, qed, done, move, keep, drop, use0, use1, use2, split}
use types.Kit.{join, fsplit3, fjoin, feq_i, feq_l, fpack, pick, await, rewrite, suffices, frame}
use types.Match.{live}
use types.Part.{agg}
use types.Run.{enter, lit, addr, stop, no_more, and_then, first, branches, skips, exec, returns, returns_within}
use types.ByLocal.{alloc_all, pass_all, free_all, look_at, get, through, sets, lands_as, env}
use denote.Builtin.{u64, bool, u8}
use denote.Exit.{yes, no}
use denote.Follow.{follows_by}
use denote.Laws.{shows}
use denote.Plain.{uint_Makes, uint_vals, uint_Tells}
use denote.Enum.Declared.{shape}
use denote.Enum.Enum.{form_of, in_a_row}
use denote.Enum.Row.{tagged_with}
use denote.RattleType.{RattleType, Valss, owns}
use denote.Ref.{MutRef, mut_vals, mut_Tells}
use denote.Signature.{plain, mut_ref_to, named_lft}
use denote.Slice.{MutSlice, slice_val}
use denote.Steps.{nothing, owned, peeks, heard, only}
use denote.Triple.Call.{calls_at}
use denote.Triple.Clauses.{lasts}
use denote.Triple.Entry.{on_entry, alive}
use denote.Triple.Spec.{triple_of}
use denote.Triple.Table.{framed}
use denote.Triple.Walked.{Stays, walk_of, says, stay_dropped, Goes-dropped, Goes-spent_ref, ends_at}
use Rattle.std.specs.contracts.option.Option as OP
use Rattle.bpf_mem.specs.Memory.{Memory, writable_at}
use Rattle.bpf_mem.specs.Offsets.{writable_offset}
use Rattle.bpf_mem.specs.Lending.{LendsRange}
use Rattle.bpf_mem.specs.contracts.memory.Memory.{the_row}
use Rattle.bpf_mem.specs.contracts.memory.Memory.range_mut as f
use Rattle.bpf_mem.specs.contracts.memory.Memory.octets_mut as g
use Rattle.bpf_mem.specs.contracts.offsets.has_offset as h
use Rattle.bpf_mem.proofs.OffsetLemmas.{is_some-writable_at}
use Rattle.bpf_mem.proofs.memory.Memory.octets_mut.Met as octets_mut
use Rattle.bpf_mem.proofs.offsets.has_offset.Met as has_offset
use Rattle.bpf_mem.proofs.memory.Memory.range_mut.Statement.{statement}
use Rattle.bpf_mem.proofs.memory.Memory.range_mut.Code as code

-- the two arms of a test
is-true : (b : Bool) → T b → b ≡ true
is-true true t = refl
is-true false t = absurd t

is-false : (b : Bool) → T (not b) → b ≡ false
is-false false t = refl
is-false true t = absurd t

-- a `Some` owns what its value owns, and a `None` nothing
module _ {M : Type 1} {𝓤 : Ura M} (𝓛 : Logic 𝓤) (X : RattleType) where
  Some-of : (x : X.Denot) (v : Val) → ent 𝓤 (sem 𝓛 (X.own_val x (v ∷ []))) (sem 𝓛 ((OP.the_row X).own_val (Some x) (live 1 (of_list (v ∷ [])) ∷ [])))
  Some-of x v =
      qed 𝓛 (‵ (X.own_val x (v ∷ [])) ∷ []) ∵ nothing ! $ move ! (1 ∷ 0 ∷ []) $ fjoin ! $ feq_i ! (List Val) (v ∷ []) (v ∷ []) refl $ fjoin ! $
      fpack ! (Valss (X ∷ [])) (in_a_row (X ∷ []) (owns (X ∷ []) (x, tt)) (v ∷ [])) (v ∷ [], tt) $
      feq_i ! (List Val) (live 1 (of_list (v ∷ [])) ∷ []) (live 1 (of_list (v ∷ [])) ∷ []) refl $ fjoin ! $
      fpack ! (List Val) (tagged_with (form_of (shape (OP.the_type X))) (form_of (shape (OP.the_type X))).payload ((OP.the_type X).to (Some x)) (live 1 (of_list (v ∷ [])) ∷ [])) (v ∷ []) $ done !

  None-of : ent 𝓤 (emp 𝓤) (sem 𝓛 ((OP.the_row X).own_val None (live 0 (of_list []) ∷ [])))
  None-of =
      qed 𝓛 [] ∵ nothing ! $ feq_i ! (List Val) [] [] refl $ fjoin ! $ fpack ! (Valss []) (in_a_row [] (owns [] tt) []) tt $
      feq_i ! (List Val) (live 0 (of_list []) ∷ []) (live 0 (of_list []) ∷ []) refl $ fjoin ! $
      fpack ! (List Val) (tagged_with (form_of (shape (OP.the_type X))) (form_of (shape (OP.the_type X))).payload ((OP.the_type X).to None) (live 0 (of_list []) ∷ [])) [] $ done !

-- if a range has no offset, memory has no octets of it to be written
absent : (m : Memory) (addr len : ℕ) → is_some (writable_offset addr len) ≡ false → None ≡ writable_at m addr len
absent m addr len e =
    elim (writable_at m addr len) as (λ o. is_some o ≡ false → None ≡ o) [
      | None ↦ λ _. refl
      | Some w ↦ λ t. absurd (true≢false t)
    ] (is_some-writable_at m addr len ∙ e)

-- the types of what the argument refers to and of what is lent
abbrev Row : Lfts 2 → RattleType
Row κs = the_row (named_lft 2 1 tt κs)

abbrev Slice : Lfts 2 → RattleType
Slice κs = MutSlice (named 0) κs.0 u8

abbrev stayed : Stays f.ended.signature.params f.ended.kept
stayed = (stay_dropped (mut_ref_to (0 ∷ []) tt (plain Row)) no, (stay_dropped _ yes, (stay_dropped _ yes, tt)))

pub range_mut_spec : {M : Type 1} → statement M
unfolding follows_by
range_mut_spec 𝓤 𝓛 𝓜 𝓡 wired =
    let c = f.clauses 𝓛 𝓜.mem 𝓡.returns in let W = walk_of 𝓛 f.ended stayed c in let 𝓣 = tables 𝓤 𝓛.H 𝓜 𝓡 𝓡.env in
    let goes = Goes-dropped 𝓛 2 (plain (λ _. u64)) yes (λ κs x w. refl) in
    proved 𝓛 f.ended stayed c 𝓜 𝓡 (Goes-spent_ref 𝓛 2 (0 ∷ []) tt (plain Row), (goes, (goes, tt)))
    f.Key.name code.function (code.unfolded 𝓤 𝓛.H 𝓜 𝓡 wired)
    (λ κs. (mut_vals, (uint_vals w64, (uint_vals w64, tt)))) (λ κs. (mut_Tells (named 0) κs.0 (Row κs), (uint_Tells w64, (uint_Tells w64, tt)))) (λ κs qs bounds a _ are.
    let m = a.0.now in let start = a.1.0 in let len = a.1.1.0 in
    let fa : start < 2 ^ 64 = are.1.0.1 in let fl : len < 2 ^ 64 = are.1.1.0.1 in
    let y : W.Ghost = ((κs, qs, bounds, a, (mut_vals a.0, (vint w64 start ∷ [], (vint w64 len ∷ [], tt)))), tt) in
    qed 𝓛 (raw (on_entry 𝓛 f.signature κs qs a y.0.4) ∷ ‵ ftrue ∷ []) ∵ move ! (1 ∷ []) $ drop ! $
    enter ! _ _ _ _ _ $ alloc_all ! (λ l. pass_all ! refl ((tt, tt), ((tt, record { fits = fa }), ((tt, record { fits = fl }), tt))) $
    -- [the tokens and the parameters]
    let H = triple_of 𝓛 h.signature (h.spec 𝓛 𝓜.mem 𝓡.returns) in
    let z : H.Ghost = ((tt, tt, tt, (start, (len, tt)), (vint w64 start ∷ [], (vint w64 len ∷ [], tt))), tt) in
    nothing ! $ owned ! u64 _ (uint_Makes 𝓛 w64) len _ (refl, fl) $ join ! $ owned ! u64 _ (uint_Makes 𝓛 w64) start _ (refl, fa) $ join ! $ nothing ! $ join ! $
    nothing ! $ move ! (1 ∷ 0 ∷ []) $ use2 𝓛 (raw (H.pre z)) (id⊢ 𝓤 _) $
    calls_at ! (framed 𝓤 𝓛.H 𝓜 𝓣) H (has_offset.met 𝓤 𝓛 𝓜 𝓡 (code.calls-bpf_mem::offsets::has_offset 𝓡.env wired)) z
    (and_then ! (get ! refl) (and_then ! (get ! refl) (no_more !))) (λ v.
    use1 𝓛 (later (some (λ (r : Bool). (‵ ftrue ⊛ ‵ (bool.own_val r (v ∷ []))) ⊛
    some (λ (ws : Unit {0} × (Unit {0} × Unit {0})). ‵ (lasts h.ended tt (start, (len, tt)) ws) ⊛ raw (fact 𝓤 (r ≡ is_some (writable_offset start len))))))) (id⊢ 𝓤 _) $
    await ! tt $ pick ! (λ r. split ! $ split ! $ drop ! $ feq_l ! (λ is_bool. pick ! (λ ws. split ! $ drop ! $ heard ! _ (λ there.
    lands_as ! (ap only is_bool) refl (tt, tt) $
    first ! $ branches ! (get ! refl)
    (λ t.
    let G = triple_of 𝓛 g.signature (g.spec 𝓛 𝓜.mem 𝓡.returns) in
    let z' : G.Ghost = ((κs, qs, bounds, a, y.0.4), tt) in
    sets ! (addr ! (through ! refl (stop !))) refl (tt, tt) $
    use0 𝓛 (raw (fact 𝓤 (IsSome (writable_at m start len)))) (fact_i 𝓤 _ (emp 𝓤) (is_some-writable_at m start len ∙ (sym there ∙ is-true r t))) $
    move ! (1 ∷ 0 ∷ []) $ use2 𝓛 (raw (G.pre z')) (id⊢ 𝓤 _) $
    calls_at ! (framed 𝓤 𝓛.H 𝓜 𝓣) G (octets_mut.met 𝓤 𝓛 𝓜 𝓡 (code.calls-bpf_mem::memory::Memory::octets_mut 𝓡.env wired)) z'
    (and_then ! (get ! refl) (and_then ! (get ! refl) (and_then ! (get ! refl) (no_more !)))) (λ v'.
    use1 𝓛 (later (some (λ (s : MutBor (List ℕ)). (raw (alive 𝓛 f.signature κs qs) ⊛ ‵ ((Slice κs).own_val s (v' ∷ []))) ⊛
    some (λ (us : Unit {0} × (Unit {0} × (Unit {0} × Unit {0}))). ‵ (lasts g.ended κs a us) ⊛ (‵ (LendsRange a.0 start len s) ⊛
    (raw (fact 𝓤 (writable_at m start len ≡ Some s.now)) ⊛ raw (fact 𝓤 (length s.now ≡ len)))))))) (id⊢ 𝓤 _) $
    await ! tt $ pick ! (λ s. split ! $ split ! $ move ! (2 ∷ []) $ pick ! (λ us. split ! $ drop ! $ split ! $ move ! (1 ∷ []) $ split ! $ heard ! _ (λ value. drop ! $
    move ! (2 ∷ []) $ peeks ! (Slice κs) _ (shows 𝓛 (Slice κs)) s (v' ∷ []) (λ is.
    -- [the range; what memory ends as; the tokens]
    let w : Val = slice_val s.ref_ptr (length s.now) in
    let few : length s.now < 2 ^ 64 = is.0.1.0 in
    lands_as ! (ap only is.0.0) refl (tt, (tt, (record { fits = few }, tt))) $
    rewrite ! 0 (λ (ws : List Val). ‵ ((Slice κs).own_val s ws)) is.0.0 refl $
    sets ! (agg ! (and_then ! (lit ! tt) (and_then ! (get ! refl) (no_more !)))) refl (tt, (record { fits = lit< tt }, ((tt, (record { fits = few }, tt)), tt))) $
    returns_within ! (W.post y) refl (look_at ! 0 refl) $ free_all ! refl $
    use1 𝓛 (‵ ((OP.the_row (Slice κs)).own_val (Some s) (live 1 (of_list (w ∷ [])) ∷ []))) (Some-of 𝓛 (Slice κs) s w) $
    suffices ! _ (ends_at 𝓛 f.ended stayed c y (live 1 (of_list (w ∷ []))) (Some s) (tt, (tt, (tt, tt))) (tt, (tt, (tt, tt)))) $
    nothing ! $ nothing ! $ fjoin ! $ nothing ! $ fjoin ! $ nothing ! $ fjoin ! $ join ! $ move ! (2 ∷ 0 ∷ []) $ join ! $ frame ! $ says ! (sym value) $ done !))))))
    (λ t. skips ! $ exec ! 𝓣.C 𝓣.Λ (env code.Mir.locals l) code.Mir.t-3 (at_ret _ (W.post y)) $
    sets ! (agg ! (and_then ! (lit ! tt) (no_more !))) refl (tt, (record { fits = lit< tt }, tt)) $
    returns ! (look_at ! 0 refl) $ free_all ! refl $
    use1 𝓛 (raw (alive 𝓛 f.signature κs qs) ⊛ (‵ ((MutRef (named 0) κs.0 (Row κs)).own_val a.0 (mut_vals a.0)) ⊛ ‵ (owns (u64 ∷ u64 ∷ []) (start, (len, tt)) (vint w64 start ∷ [], (vint w64 len ∷ [], tt))))) (id⊢ 𝓤 _) $
    split ! $ move ! (1 ∷ []) $ split ! $ fsplit3 ! $ keep ! (1 ∷ 4 ∷ []) $
    use1 𝓛 (‵ (fres a.0.ghost_name ((Row κs).coded.code m))) (𝓛.names.obs-res a.0.ghost_name ((Row κs).coded.code m)) $
    use0 𝓛 (‵ ((OP.the_row (Slice κs)).own_val None (live 0 (of_list []) ∷ []))) (None-of 𝓛 (Slice κs)) $
    suffices ! _ (ends_at 𝓛 f.ended stayed c y (live 0 (of_list [])) None (tt, (tt, (tt, tt))) (tt, (tt, (tt, tt)))) $
    nothing ! $ nothing ! $ fjoin ! $ nothing ! $ fjoin ! $ nothing ! $ fjoin ! $ join ! $ move ! (2 ∷ 0 ∷ []) $ join ! $ frame ! $
    says ! (absent m start len (sym there ∙ is-false r t)) $ done !))))))))
