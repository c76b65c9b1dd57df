-- The block goes back to the allocator inside. Assumes `Logic`.
use Rattle.std.proofs.Common.{◌≡◌, ℕ, ◌^◌, ◌<◌, List, [], ◌∷◌, refl, w64, Bor}
use seplogic.Ra.Ura.{Ura}
use mir.Syntax.{Ty, Fn}
use mir.Val.{Val, vunit, vint, vptr}
use mir.MapTy.{inst_fn}
use base.Logic.{ent, id⊢, fst∗, never}
use base.Fml.{Lft, Share, Fml, ftrue, fsep, flft}
use prog.Memory.{size, align, capped}
use prog.Model.{Model}
use prog.Wp.{WpFn}
use types.Logic.{Logic, sem}
use types.Kit.{Sq, ‵, raw, ◌⊛◌, prop, regoal, later, given, ◌$◌, ◌∵◌, !, qed, by, move, keep, use1, split, split3, join, learn, fsplit, fjoin, feq_i, group, await}
use types.Run.{enter, addr, of_opd, unit_lit, stop, fld, no_more, and_then, returns}
use types.ByLocal.{alloc_all, pass_all, free_all, look_at, get, through, sets, lands_as}
use contract.BorrowLft.{◌⊑◌, ⊑_trans}
use contract.Monad.{fact}
use contract.Running.{Running, MachineTables, tables}
use denote.Builtin.{usize, RawPtr}
use denote.Exit.{yes}
use denote.Opens.{unhide}
use denote.Plain.{uint_vals, uint_Tells}
use denote.RattleType.{owns}
use denote.RawPtr.{Ptr, in_a_block, room_for, block_ptr, null_ptr, ptr_val, rawptr_vals, rawptr_Tells}
use denote.Ref.{shr_vals}
use denote.Signature.{Slot, plain, types_at}
use denote.Steps.{heard, nothing}
use denote.Triple.Call.{calls_at}
use denote.Triple.Clauses.{Ended, Clauses}
use denote.Triple.Statement.{Contract, Triple}
use denote.Triple.Table.{framed}
use denote.Triple.Walked.{Stays, stay_dropped, walk_of, Goes-dropped}
use Rattle.std.proofs.alloc.Calls.{Al, seen, token, gives_key, Gives, at_gives, Gives-goes, Gives-Gives}
use Rattle.std.proofs.raw_atomic.Walks.{proved, leaves}
use Rattle.uug_test_alloc.proofs.Handle.{args, self, inner_at}
use Rattle.uug_test_alloc.specs.contracts.refusing.Refusing.{the_row as refusing}
use Rattle.uug_test_alloc.specs.contracts.refusing.RefusingAllocator.deallocate as f
use Rattle.uug_test_alloc.proofs.refusing.RefusingAllocator.deallocate.Statement.{statement}
use Rattle.uug_test_alloc.proofs.refusing.RefusingAllocator.deallocate.Code as code

module _ (Z : Al) where
  abbrev here : Fn
  here = inst_fn (args Z) code.function

  abbrev ended : Ended
  ended = f.ended Z.row Z.g Z.d Z.drops

  abbrev stayed : Stays ended.signature.params ended.kept
  stayed = (stay_dropped (self Z) yes, (stay_dropped (plain (λ _. RawPtr)) yes, (stay_dropped (plain (λ _. usize)) yes, (stay_dropped (plain (λ _. usize)) yes, tt))))

module _ (Z : Al) {M : Type 1} {𝓤 : Ura M} (𝓛 : Logic 𝓤) (𝓜 : Model 𝓤 𝓛.H) (𝓡 : Running 𝓤 𝓛.H 𝓜) where
  abbrev 𝓣 : MachineTables 𝓤 𝓛.H 𝓜
  𝓣 = tables 𝓤 𝓛.H 𝓜 𝓡 𝓡.env

  abbrev held : Clauses 𝓤 (ended Z)
  held = f.clauses Z.row Z.g Z.d Z.drops 𝓛 𝓜.mem 𝓡.returns

  abbrev W : Contract 𝓤
  W = walk_of 𝓛 (ended Z) (stayed Z) held

  abbrev Inner : Contract 𝓤
  Inner = Gives Z 𝓛 𝓜.mem 𝓡.returns

  module _ (κ κ' : Lft) (q q' : Share) (within : κ ⊑ κ') (r : Bor (refusing Z.row).Denot) (n al : ℕ) (τ : Ty) where
    abbrev words : Ptr → List Val
    words p = vptr r.ref_ptr.0 r.ref_ptr.1 ∷ ptr_val p ∷ vint w64 n ∷ vint w64 al ∷ []

    abbrev y : Ptr → W.Ghost
    y p = (((κ, (κ', tt)), (q, (q', tt)), (within, tt), (r, (p, (n, (al, tt)))), (shr_vals r, (rawptr_vals p, (vint w64 n ∷ [], (vint w64 al ∷ [], tt))))), τ)

    abbrev h : Z.row.Denot
    h = r.now.inner

    abbrev at : ℕ × ℕ
    at = inner_at Z r.ref_ptr

    abbrev z : ℕ → ℕ → Inner.Ghost
    z b o = at_gives Z 𝓛 𝓜.mem 𝓡.returns κ q at h b o n al τ

    abbrev Block : Ptr → Fml
    Block p = fsep (room_for τ p) (token Z h τ p)

    abbrev Layout : Type 0
    Layout = (capped (size τ) ≡ n) × (capped (align τ) ≡ al)

    given_back : (p : Ptr) → Sq 𝓛 (‵ (flft κ q) ∷ (‵ (flft κ' q') ⊛ ‵ ftrue) ∷ []) (prop (W.post (y p) vunit))
    given_back p = join ! $ nothing ! $ feq_i ! _ (vunit ∷ []) _ refl $
        nothing ! $ nothing ! $ fjoin ! $ nothing ! $ fjoin ! $ nothing ! $ fjoin ! $ nothing ! $ fjoin ! $ move ! (3 ∷ 0 ∷ 1 ∷ 2 ∷ []) $
        by ! (leaves 𝓛 (ended Z) (stayed Z) held (y p) vunit tt (tt, (tt, (tt, (tt, tt)))) (tt, (tt, (tt, (tt, tt)))))

    walk : Triple 𝓤 (𝓣.C (gives_key Z)) Inner → n < 2 ^ 64 → al < 2 ^ 64 → (p : Ptr) → ent 𝓤 (W.pre (y p)) (WpFn 𝓤 𝓛.H 𝓣.C 𝓣.Λ (here Z) (words p) (W.post (y p)))
    walk frees n_fits al_fits p =
        qed 𝓛 (((‵ (flft κ q) ⊛ ‵ (flft κ' q') ⊛ ‵ ftrue) ⊛ ‵ (owns (types_at (ended Z).signature.params (y p).0.0) (y p).0.3 (y p).0.4)) ∷ (raw (fact 𝓤 (κ' ⊑ Z.row.lives)) ⊛ raw (fact 𝓤 Layout) ⊛ ‵ (Block p)) ∷ []) ∵
        move ! (1 ∷ []) $ split3 ! $ heard ! _ (λ lives. heard ! _ (λ asked.
        -- Nothing lies at null.
        in_a_block ! p Block (fst∗ 𝓤 (never 𝓤) (sem 𝓛 (token Z h τ null_ptr))) (λ b o is.
        regoal ! (λ z. prop (WpFn 𝓤 𝓛.H 𝓣.C 𝓣.Λ (here Z) (words z) (W.post (y z)))) is refl $
        -- [the room; the right to give it back; the `&` to the allocator inside; the two tokens]
        fsplit ! $ move ! (2 ∷ []) $ split ! $ split ! $ move ! (2 ∷ []) $ fsplit ! $ fsplit ! $ move ! (1 ∷ []) $ unhide ! $ fsplit ! $ fsplit ! $
        use1 𝓛 (‵ (seen Z κ at h)) (id⊢ 𝓤 _) $ keep ! (7 ∷ 8 ∷ 0 ∷ 5 ∷ 6 ∷ []) $
        enter ! 𝓣.C 𝓣.Λ (here Z) (words (block_ptr b o)) (W.post (y (block_ptr b o))) $
        alloc_all ! (λ l. pass_all ! refl ((tt, tt), ((tt, tt), ((tt, record { fits = n_fits }), ((tt, record { fits = al_fits }), tt)))) $
        sets ! (addr ! (through ! refl (fld ! refl (stop !)))) refl (tt, tt) $ group ! 4 $
        use1 𝓛 (raw (Inner.pre (z b o))) (Gives-goes Z 𝓛 𝓜.mem 𝓡.returns κ q at h (⊑_trans κ κ' Z.row.lives within lives) b o n al τ asked.0 asked.1 n_fits al_fits) $
        calls_at ! (framed 𝓤 𝓛.H 𝓜 𝓣) Inner frees (z b o) (and_then ! (get ! refl) (and_then ! (get ! refl) (and_then ! (get ! refl) (and_then ! (get ! refl) (no_more !))))) (λ v.
        use1 𝓛 (later (given (v ≡ vunit) (‵ (flft κ q)))) (Gives-Gives Z 𝓛 𝓜.mem 𝓡.returns κ q at h b o n al τ v) $ await ! tt $ learn ! (λ is_unit.
        lands_as ! is_unit refl (tt, tt) $ sets ! (of_opd ! (unit_lit !)) refl (tt, tt) $ returns ! (look_at ! 0 refl) $ free_all ! refl $ given_back (block_ptr b o)))))))

pub deallocate_spec : {M : Type 1} → statement M
deallocate_spec 𝓤 𝓛 𝓜 𝓡 wired B laws g d dd met _ =
    let Z : Al = record { row = B; laws = laws; g = g; d = d; drops = dd } in
    let gone = λ (s : Slot 2). Goes-dropped 𝓛 2 s yes in
    proved 𝓛 (ended Z) (stayed Z) (held Z 𝓛 𝓜 𝓡) 𝓜 𝓡
    (gone (self Z) (λ κs x w. refl), (gone (plain (λ _. RawPtr)) (λ κs x w. refl), (gone (plain (λ _. usize)) (λ κs x w. refl), (gone (plain (λ _. usize)) (λ κs x w. refl), tt))))
    (f.Key.name (args Z)) (here Z) (code.unfolded 𝓤 𝓛.H 𝓜 𝓡 wired (B, tt) d dd)
    (λ κs. (shr_vals, (rawptr_vals, (uint_vals w64, (uint_vals w64, tt))))) (λ κs. ((λ r vs s. s.0), (rawptr_Tells, (uint_Tells w64, (uint_Tells w64, tt)))))
    (λ κs qs bounds a τ are. walk Z 𝓛 𝓜 𝓡 κs.0 κs.1.0 qs.0 qs.1.0 bounds.0 a.0 a.1.1.0 a.1.1.1.0 τ (met.deallocate dd) are.1.1.0.1 are.1.1.1.0.1 a.1.0)
