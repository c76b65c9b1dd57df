-- The request is counted, and then refused or passed on to the allocator inside. Assumes `Logic`.
use Rattle.std.proofs.Common.{◌≡◌, ℕ, ◌^◌, ◌<◌, Bool, true, false, List, [], ◌∷◌, Ok, Err, refl, w64, Bor}
use seplogic.Ra.Ura.{Ura}
use mir.Syntax.{Ty, Fn}
use mir.Val.{Val, vbool, vint, vptr}
use mir.MapTy.{inst_fn}
use base.Logic.{ent, id⊢}
use base.Fml.{Lft, Share, ftrue, fsep, flft, froom}
use prog.Memory.{size, align, capped}
use prog.Model.{Model}
use prog.Wp.{WpFn}
use types.Logic.{Logic}
use types.Kit.{Sq, ‵, raw, ◌⊛◌, some, later, given, prop, at_ret, ◌$◌, ◌∵◌, !, qed, by, move, keep, use0, use1, use2, split, join, pick, learn, fsplit, fjoin, await}
use types.Part.{agg}
use types.Run.{enter, first, branches, skips, exec, addr, lit, stop, fld, no_more, and_then, returns, returns_within}
use types.ByLocal.{alloc_all, pass_all, free_all, look_at, get, through, sets, lands_as, env}
use contract.BorrowLft.{◌⊑◌, ⊑_trans}
use contract.Monad.{fact}
use contract.Running.{Running, MachineTables, tables}
use denote.Builtin.{usize}
use denote.Exit.{yes}
use denote.Opens.{unhide}
use denote.Plain.{uint_vals, uint_Tells}
use denote.RattleType.{owns}
use denote.RawPtr.{block_ptr}
use denote.Ref.{shr_vals}
use denote.Signature.{Slot, plain, types_at}
use denote.Steps.{heard, nothing}
use denote.Triple.Call.{calls_at}
use denote.Triple.Clauses.{Ended, Clauses}
use denote.Triple.Statement.{Contract, Triple}
use denote.Triple.Table.{framed}
use denote.Triple.Walked.{Stays, stay_dropped, walk_of, Goes-dropped}
use Rattle.std.proofs.alloc.Calls.{Al, seen, token, Answer, answer_val, Answer-typed, Answer-Ok, Answer-err, takes_key, Takes, at_takes, Answered, Takes-goes, Takes-gives, answers}
use Rattle.std.proofs.raw_atomic.Walks.{proved, leaves}
use Rattle.std.proofs.VecSteps.Shapes.{after}
use Rattle.uug_test_alloc.proofs.Counting.{Counts, at_count, count_takes, count_gives}
use Rattle.uug_test_alloc.proofs.Handle.{args, self, inner_at, counter_at}
use Rattle.uug_test_alloc.proofs.requests.Requests.refuses_next.Met.{met as counts}
use Rattle.uug_test_alloc.specs.contracts.requests.Requests.refuses_next.Key.{name as counts_key}
use Rattle.uug_test_alloc.specs.contracts.refusing.Refusing.{the_row as refusing}
use Rattle.uug_test_alloc.specs.contracts.refusing.RefusingAllocator.allocate as f
use Rattle.uug_test_alloc.proofs.refusing.RefusingAllocator.allocate.Statement.{statement}
use Rattle.uug_test_alloc.proofs.refusing.RefusingAllocator.allocate.Code as code

module _ (Z : Al) where
  abbrev here : Fn
  here = inst_fn (args Z) code.function

  abbrev ended : Ended
  ended = f.ended Z.row Z.g Z.d Z.drops

  abbrev stayed : Stays ended.signature.params ended.kept
  stayed = (stay_dropped (self Z) yes, (stay_dropped (plain (λ _. usize)) yes, (stay_dropped (plain (λ _. usize)) yes, tt)))

module _ (Z : Al) {M : Type 1} {𝓤 : Ura M} (𝓛 : Logic 𝓤) (𝓜 : Model 𝓤 𝓛.H) (𝓡 : Running 𝓤 𝓛.H 𝓜) where
  abbrev 𝓣 : MachineTables 𝓤 𝓛.H 𝓜
  𝓣 = tables 𝓤 𝓛.H 𝓜 𝓡 𝓡.env

  abbrev held : Clauses 𝓤 (ended Z)
  held = f.clauses Z.row Z.g Z.d Z.drops 𝓛 𝓜.mem 𝓡.returns

  abbrev W : Contract 𝓤
  W = walk_of 𝓛 (ended Z) (stayed Z) held

  abbrev Counter : Contract 𝓤
  Counter = Counts 𝓛 𝓜.mem 𝓡.returns

  abbrev Inner : Contract 𝓤
  Inner = Takes Z 𝓛 𝓜.mem 𝓡.returns

  module _ (κ κ' : Lft) (q q' : Share) (within : κ ⊑ κ') (r : Bor (refusing Z.row).Denot) (n al : ℕ) (τ : Ty) where
    abbrev words : List Val
    words = vptr r.ref_ptr.0 r.ref_ptr.1 ∷ vint w64 n ∷ vint w64 al ∷ []

    abbrev y : W.Ghost
    y = (((κ, (κ', tt)), (q, (q', tt)), (within, tt), (r, (n, (al, tt))), (shr_vals r, (vint w64 n ∷ [], (vint w64 al ∷ [], tt)))), τ)

    abbrev h : Z.row.Denot
    h = r.now.inner

    abbrev at : ℕ × ℕ
    at = inner_at Z r.ref_ptr

    abbrev counter : Counter.Ghost
    counter = at_count 𝓛 𝓜.mem 𝓡.returns κ q r.now.requests (counter_at Z r.ref_ptr)

    abbrev request : Inner.Ghost
    request = at_takes Z 𝓛 𝓜.mem 𝓡.returns κ q at h n al τ

    abbrev Layout : Type 0
    Layout = (capped (size τ) ≡ n) × (capped (align τ) ≡ al)

    -- `Err` needs no more than the two tokens, and `Ok` also the block.
    refused : Sq 𝓛 (‵ (flft κ q) ∷ (‵ (flft κ' q') ⊛ ‵ ftrue) ∷ []) (prop (W.post y (answer_val false 0 0)))
    refused = join ! $ nothing ! $ use0 𝓛 (‵ (Answer.own_val (Err (record {})) (answer_val false 0 0 ∷ []))) (Answer-err 𝓛) $
        nothing ! $ nothing ! $ fjoin ! $ nothing ! $ fjoin ! $ nothing ! $ fjoin ! $ move ! (3 ∷ 0 ∷ 1 ∷ 2 ∷ []) $
        by ! (leaves 𝓛 (ended Z) (stayed Z) held y (answer_val false 0 0) (Err (record {})) (tt, (tt, (tt, tt))) (tt, (tt, (tt, tt))))

    handed_out : (b o : ℕ) → Sq 𝓛 (‵ (fsep (froom τ b o) (token Z h τ (block_ptr b o))) ∷ ‵ (flft κ q) ∷ (‵ (flft κ' q') ⊛ ‵ ftrue) ∷ []) (prop (W.post y (answer_val true b o)))
    handed_out b o = move ! (1 ∷ 2 ∷ []) $ join ! $ use0 𝓛 (‵ (Answer.own_val (Ok (block_ptr b o)) (answer_val true b o ∷ []))) (Answer-Ok 𝓛 b o) $
        nothing ! $ nothing ! $ fjoin ! $ nothing ! $ fjoin ! $ nothing ! $ fjoin ! $ move ! (2 ∷ 0 ∷ 1 ∷ []) $
        by ! (leaves 𝓛 (ended Z) (stayed Z) held y (answer_val true b o) (Ok (block_ptr b o)) (tt, (tt, (tt, tt))) (tt, (tt, (tt, tt))))

    walk : Triple 𝓤 (𝓣.C counts_key) Counter → Triple 𝓤 (𝓣.C (takes_key Z)) Inner → n < 2 ^ 64 → al < 2 ^ 64 → ent 𝓤 (W.pre y) (WpFn 𝓤 𝓛.H 𝓣.C 𝓣.Λ (here Z) words (W.post y))
    walk counted allocates n_fits al_fits =
        qed 𝓛 (((‵ (flft κ q) ⊛ ‵ (flft κ' q') ⊛ ‵ ftrue) ⊛ ‵ (owns (types_at (ended Z).signature.params y.0.0) y.0.3 y.0.4)) ∷ (raw (fact 𝓤 (κ' ⊑ Z.row.lives)) ⊛ raw (fact 𝓤 Layout)) ∷ []) ∵
        move ! (1 ∷ []) $ split ! $ heard ! _ (λ lives. heard ! _ (λ asked.
        -- [the `&` to the counter; a token; the `&` to the allocator inside; the other token]
        split ! $ split ! $ move ! (2 ∷ []) $ fsplit ! $ fsplit ! $ move ! (1 ∷ []) $ unhide ! $ fsplit ! $ fsplit ! $
        use1 𝓛 (‵ (seen Z κ at h)) (id⊢ 𝓤 _) $ move ! (1 ∷ []) $ fsplit ! $ keep ! (0 ∷ 6 ∷ 2 ∷ 7 ∷ []) $
        enter ! 𝓣.C 𝓣.Λ (here Z) words (W.post y) $ alloc_all ! (λ l. pass_all ! refl ((tt, tt), ((tt, record { fits = n_fits }), ((tt, record { fits = al_fits }), tt))) $
        sets ! (addr ! (through ! refl (fld ! refl (stop !)))) refl (tt, tt) $
        use2 𝓛 (raw (Counter.pre counter)) (count_takes 𝓛 𝓜.mem 𝓡.returns κ q r.now.requests (counter_at Z r.ref_ptr)) $
        calls_at ! (framed 𝓤 𝓛.H 𝓜 𝓣) Counter counted counter (and_then ! (get ! refl) (no_more !)) (λ u.
        use1 𝓛 (later (some (λ (t : Bool). given (u ≡ vbool t) (‵ (flft κ q))))) (count_gives 𝓛 𝓜.mem 𝓡.returns κ q r.now.requests (counter_at Z r.ref_ptr) u) $ await ! tt $ pick ! (λ t. learn ! (λ is.
        lands_as ! is refl (tt, tt) $
        -- [a token; the `&` to the allocator inside; the other token]
        first ! $ branches ! (get ! refl)
        (λ _. sets ! (agg ! (no_more !)) refl (tt, tt) $
        sets ! (agg ! (and_then ! (lit ! tt) (and_then ! (get ! refl) (no_more !)))) refl (Answer-typed false 0 0) $
        returns_within ! (W.post y) refl (look_at ! 0 refl) $ free_all ! refl $ keep ! (0 ∷ 2 ∷ []) $ refused)
        (λ _. skips ! $ exec ! 𝓣.C 𝓣.Λ (env (here Z).locals l) (after 3 (here Z).body) (at_ret (env (here Z).locals l) (W.post y)) $
        sets ! (addr ! (through ! refl (fld ! refl (stop !)))) refl (tt, tt) $ move ! (1 ∷ 0 ∷ []) $
        use2 𝓛 (raw (Inner.pre request)) (Takes-goes Z 𝓛 𝓜.mem 𝓡.returns κ q at h (⊑_trans κ κ' Z.row.lives within lives) n al τ asked.0 asked.1 n_fits al_fits) $
        calls_at ! (framed 𝓤 𝓛.H 𝓜 𝓣) Inner allocates request (and_then ! (get ! refl) (and_then ! (get ! refl) (and_then ! (get ! refl) (no_more !)))) (λ v.
        use1 𝓛 (later (raw (Answered Z 𝓛 𝓜.mem 𝓡.returns h τ v) ⊛ ‵ (flft κ q))) (Takes-gives Z 𝓛 𝓜.mem 𝓡.returns κ q at h n al τ v) $ await ! tt $ split ! $
        answers Z ! 𝓜.mem 𝓡.returns h τ v
        (λ b o is_block. fjoin ! $ lands_as ! is_block refl (Answer-typed true b o) $ returns ! (look_at ! 0 refl) $ free_all ! refl $ handed_out b o)
        (λ is_none. lands_as ! is_none refl (Answer-typed false 0 0) $ returns ! (look_at ! 0 refl) $ free_all ! refl $ refused)))))))))

pub allocate_spec : {M : Type 1} → statement M
allocate_spec 𝓤 𝓛 𝓜 𝓡 wired B laws g d dd met _ =
    let Z : Al = record { row = B; laws = laws; g = g; d = d; drops = dd } in
    let gone = λ (s : Slot 2). Goes-dropped 𝓛 2 s yes in
    proved 𝓛 (ended Z) (stayed Z) (held Z 𝓛 𝓜 𝓡) 𝓜 𝓡 (gone (self Z) (λ κs x w. refl), (gone (plain (λ _. usize)) (λ κs x w. refl), (gone (plain (λ _. usize)) (λ κs x w. refl), tt)))
    (f.Key.name (args Z)) (here Z) (code.unfolded 𝓤 𝓛.H 𝓜 𝓡 wired (B, tt) d dd)
    (λ κs. (shr_vals, (uint_vals w64, (uint_vals w64, tt)))) (λ κs. ((λ r vs s. s.0), (uint_Tells w64, (uint_Tells w64, tt))))
    (λ κs qs bounds a τ are. walk Z 𝓛 𝓜 𝓡 κs.0 κs.1.0 qs.0 qs.1.0 bounds.0 a.0 a.1.0 a.1.1.0 τ
    (counts 𝓤 𝓛 𝓜 𝓡 (code.calls-uug_test_alloc::requests::Requests::refuses_next 𝓡.env wired)) (met.allocate dd) are.1.0.1 are.1.1.0.1)
