-- What lemmas of the crates below take as an argument, and what follows from them at once.
use Rattle.std.proofs.Common.{◌≡◌, ◌↔◌, ℕ, zero, suc, ◌≤◌, Bool, true, false, ◌&&◌, nat_le, List, [], ◌∷◌, ◌++◌, length, take, drop, refl, ap, ◌∙◌, append_assoc, arith}
use Rattle.std.proofs.lemmas.Bool.Decides.{nat_tests}
use Rattle.std.proofs.Math.Seq.{take-length}
use Rattle.uug_link.proofs.TwoLinksRuns.{machine_runs}
use Rattle.uug_link.proofs.WindowMachineRuns.{always_acks, always_counts, always_numbers}
use Rattle.uug_link.specs.TwoLinks.{AlwaysOfTwo}
use Rattle.uug_link.specs.WindowBounds.{IsWithinBounds}
use Rattle.uug_link.specs.WindowMachine.{Always}
use Rattle.uug_conversation.proofs.EarlierJobLemmas.{opening_behind, reply_to_behind}
use Rattle.uug_conversation.proofs.FirstLaw.{first_law}
use Rattle.uug_conversation.specs.EarlierJobs.{behind}
use Rattle.uug_conversation.specs.Holdings.{Kept}
use Rattle.uug_conversation.specs.Jobs.{at_start}
use Rattle.uug_conversation.specs.Machine.{reply_to}
use Rattle.uug_conversation.specs.Party.{IsSound, Party, Suit}
use Rattle.uug_conversation.specs.Runs.{has_said_all, is_over}
use Rattle.uug_conversation.specs.DialogueState.{behind_first, is_empty, opened_with, replied, taking, unopened, with_first_sent}
use Rattle.uug_conversation.specs.View.{conversation_view, others_messages, own_messages}
use Rattle.uug_conversation.specs.declared.awaits.Awaits.{Awaits}
use Rattle.uug_conversation.specs.declared.awaits.Awaits.TheVariants as awaits
use Rattle.uug_conversation.specs.declared.job.Job.{Job}
use Rattle.uug_conversation.specs.declared.side.Side.{Side}
use Rattle.uug_conversation.specs.declared.side.Side.TheVariants.{Caller, Called}
use Rattle.uug_session.proofs.TwoEndsLemmas.{two_ends}
use Rattle.uug_session.specs.Told.{talk_behind}
use Rattle.uug_session.specs.TwoEnds.{IsTold, Reached, Talker, Two, after_act, first_talker, sends, takes}

-- ---- the window machine keeps within its bounds

pub always_within : Always (λ d opposite. IsWithinBounds d opposite)
always_within window other m is_window other_is reached =
    let counts = always_counts window other m is_window other_is reached in
    let numbers = always_numbers window other m is_window other_is reached in
    let acks = always_acks window other m is_window other_is reached in (
      record { counts = counts.0; numbers = numbers.0; acks = acks.0 },
      record { counts = counts.1; numbers = numbers.1; acks = acks.1 },
    )

pub always_passed : AlwaysOfTwo (λ e other announced. e.passed ≤ length other.emitted)
always_passed near far ends is_window other_is run =
    let reads = machine_runs near far ends is_window other_is run in
    (reads.3.passed, reads.2.passed)

-- ---- what an end keeps of a conversation moves as the end does

pub talk_opens : (me : Side) (p : Party) (struck failed : List Job) (kept : List Kept) →
    opened_with me p.holdings p.measure (unopened (behind struck failed (at_start p.jobs [] [])) kept)
    ≡ talk_behind struck failed kept p.measure (first_talker me p)
talk_opens me p struck failed kept = ap (replied p.measure [] kept) (opening_behind me p.holdings (at_start p.jobs [] []) struck failed)

pub talk_takes : (p : Party) (t : Talker) (message : List ℕ) (struck failed : List Job) (kept : List Kept) →
    taking p.holdings message (talk_behind struck failed kept p.measure t)
    ≡ talk_behind struck failed kept p.measure (after_act (takes message) p t)
talk_takes p t message struck failed kept =
    ap (replied p.measure t.waiting (kept ++ t.kept)) (reply_to_behind p.holdings (is_empty t.waiting) t.state message struck failed)
    ∙ ap (λ (files : List Kept). record (talk_behind struck failed kept p.measure (after_act (takes message) p t)) { kept = files })
    (append_assoc kept t.kept (reply_to p.holdings (is_empty t.waiting) t.state message).keeps)

behind_is_rest : (ms : List (List ℕ)) → behind_first ms ≡ drop 1 ms
behind_is_rest [] = refl
behind_is_rest (m ∷ ms) = refl

pub talk_sends : (p : Party) (t : Talker) (struck failed : List Job) (kept : List Kept) →
    with_first_sent (talk_behind struck failed kept p.measure t)
    ≡ talk_behind struck failed kept p.measure (after_act sends p t)
talk_sends p t struck failed kept =
    ap (λ (waiting : List (List ℕ)). record (talk_behind struck failed kept p.measure t) { waiting = waiting }) (behind_is_rest t.waiting)

-- ---- two ends that hear each other stand where the conversation says

pub both_told : (a b : Party) → Suit a b → IsSound a → IsSound b → (two : Two) → Reached a b two →
    IsTold Caller a b two.caller_end two.called_end × IsTold Called a b two.called_end two.caller_end
both_told a b fronts s t = two_ends a b (first_law a b fronts s t)

-- ---- whether all is over

none_waits : (n : ℕ) (ms : List (List ℕ)) → is_empty (drop n ms) ≡ nat_le (length ms) n
none_waits zero [] = grind arith
none_waits (suc n) [] = grind arith
none_waits zero (m ∷ ms) = grind arith
none_waits (suc n) (m ∷ ms) = grind (arith, none_waits n ms)

over_has_said : (awaited : Awaits) → is_over awaited ≡ true → has_said_all awaited ≡ true
over_has_said awaits.NothingMore over = refl
over_has_said _ over = absurd cc

over_by : (over empty sent taken : Bool) → (over ≡ true) ↔ (taken ≡ true) → (over ≡ true → empty ≡ sent) →
    over && empty ≡ sent && taken
over_by true empty sent taken is same = grind (arith, is.0 refl, same refl)
over_by false empty sent true is same = absurd (let e : false ≡ true = is.1 refl in cc)
over_by false empty true false is same = refl
over_by false empty false false is same = refl

pub over_is : (me : Side) (a b : Party) (own others : Talker) → IsTold me a b own others →
    is_over own.state.awaits && is_empty own.waiting
    ≡ nat_le (length (own_messages (conversation_view me a b))) (length own.sent)
    && nat_le (length (others_messages (conversation_view me a b))) (length own.taken)
over_is me a b own others t =
    let all : List (List ℕ) = own_messages (conversation_view me a b) in
    over_by (is_over own.state.awaits) (is_empty own.waiting) (nat_le (length all) (length own.sent))
    (nat_le (length (others_messages (conversation_view me a b))) (length own.taken))
    (λ over. grind (arith, nat_tests, t.stands.over.0 over), λ taken. t.stands.over.1 (grind (arith, nat_tests, taken)))
    (λ over.
    ap is_empty t.waiting_next
    ∙ ap (λ (n : ℕ). is_empty (drop (length own.sent) (take n all))) (t.stands.parted.0 (over_has_said own.state.awaits over))
    ∙ ap (λ (ms : List (List ℕ)). is_empty (drop (length own.sent) ms)) (take-length all)
    ∙ none_waits (length own.sent) all)
